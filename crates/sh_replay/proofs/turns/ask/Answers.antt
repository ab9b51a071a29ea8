use Rattle.std.proofs.Common.{rules, ◌≡◌, true, List, length, sym, ap, subst, ◌∙◌, refl}
use Rattle.std.specs.Io.KnownBytes.{Appends}
use Rattle.sh_sheet.specs.declared.item.Item.{Item}
use Rattle.sh_world.{specs.Turning.{turn_of}, specs.States.{State}, proofs.LawLemmas.{turn_idle}}
use Rattle.sh_replay.specs.{Course.{can_turn, found_in, goes_on}, Output.{event_lines}, Standing.{left_after, IsAt, Keeps}}
use Rattle.sh_replay.specs.declared.turns.Outcome.TheVariants.{Turned}
use Rattle.sh_replay.proofs.{HeldLemmas.{held_choice, keeps_turn, turned_choice}, StageLemmas.{asked_rest, asked_stops, asked_turn, no_lines}, TurnLemmas.{idle_rests, turn_seats}}
use Rattle.sh_replay.proofs.turns.ask.Goals as goal

pub returns-then-holds : goal.returns-then-holds
returns-then-holds g c = search (rules, held_choice, asked_rest)

pub returns-in-Ok : goal.returns-in-Ok
returns-in-Ok g c =
    let s = c.args.world.now in
    let can : (items : List Item) → Keeps items s c.args.marks.now → can_turn items s c.args.seat ≡ true = λ items h. turned_choice items s c.args.seat c.turn.result _ (c.keeps_the_laws.ensures.idle c.args.seat c.requires.seat) c.turn.ensures.answer (λ e. let is = sym c.in-Event.is ∙ e in absurd (cc)) (c.holds.ensures.held items h) c.if-holds.false in
    record {
      moved = c.turn.ensures.world;
      choice = can;
      ok = λ items x left held a h is. subst (λ (t : State). IsAt items g.T.Tells.TOLD (goes_on items x a) t c.holds.new.self (left_after Turned a left) held (g.K.Sink.held c.tell.new.sink)) (sym c.turn.ensures.world)
          (asked_turn items g.T.Tells.TOLD x s c.args.marks.now left c.args.seat a held (g.K.Sink.held c.args.sink.now) h is c.holds.new.self _ (can items h.keeps) (keeps_turn items s (turn_of s c.args.seat) c.args.seat c.holds.new.self (c.holds.ensures.keeps items h.keeps) refl)
          (subst (λ t. Appends (g.K.Sink.held c.args.sink.now) (g.K.Sink.held c.tell.new.sink) (event_lines g.T.Tells.TOLD (found_in c.args.seat t))) (sym c.in-Event.is ∙ c.turn.ensures.answer) c.in-Ok.ensures.ok));
      err = λ items x left held a h is. tt;
      told = tt;
      seats = ap (λ w. length w.seats) c.turn.ensures.world ∙ turn_seats s c.args.seat;
      cause = c.in-Ok.ensures.cause;
    }

pub returns-in-Err : goal.returns-in-Err
returns-in-Err g c = search (rules, turned_choice, asked_stops, turn_seats)

pub returns-in-Local : goal.returns-in-Local
returns-in-Local g c =
    let s = c.args.world.now in
    let can : (items : List Item) → Keeps items s c.args.marks.now → can_turn items s c.args.seat ≡ true = λ items h. turned_choice items s c.args.seat c.turn.result _ (c.keeps_the_laws.ensures.idle c.args.seat c.requires.seat) c.turn.ensures.answer (λ e. let is = sym c.in-Local.is ∙ e in absurd (cc)) (c.holds.ensures.held items h) c.if-holds.false in
    record {
      moved = c.turn.ensures.world;
      choice = can;
      ok = λ items x left held a h is. subst (λ (t : State). IsAt items g.T.Tells.TOLD (goes_on items x a) t c.holds.new.self (left_after Turned a left) held (g.K.Sink.held c.args.sink.now)) (sym c.turn.ensures.world)
          (asked_turn items g.T.Tells.TOLD x s c.args.marks.now left c.args.seat a held (g.K.Sink.held c.args.sink.now) h is c.holds.new.self _ (can items h.keeps) (keeps_turn items s (turn_of s c.args.seat) c.args.seat c.holds.new.self (c.holds.ensures.keeps items h.keeps) refl)
          (subst (λ t. Appends (g.K.Sink.held c.args.sink.now) (g.K.Sink.held c.args.sink.now) (event_lines g.T.Tells.TOLD (found_in c.args.seat t))) (sym c.in-Local.is ∙ c.turn.ensures.answer) (no_lines g.T.Tells.TOLD (g.K.Sink.held c.args.sink.now))));
      err = λ items x left held a h is. tt;
      told = tt;
      seats = ap (λ w. length w.seats) c.turn.ensures.world ∙ turn_seats s c.args.seat;
      cause = refl;
    }

pub returns-in-Idle : goal.returns-in-Idle
returns-in-Idle g c = search (rules, turn_idle, idle_rests, asked_rest)
