use Rattle.std.{proofs.Common.{◌≡◌, length, map, sym, ap, ◌∙◌, arith}, specs.{Prelude.{filter}}}
use Rattle.sh_world.specs.States.{State}
use Rattle.sh_replay.{specs.{Course.{have_ended, rounds_asks, Stage}, Served.{item_of}}, proofs.{CallLemmas.{turn_same}, HeldLemmas.{none_left}, TurnLemmas.{all_keep}}}
use Rattle.sh_sheet.specs.Sheet.{is_call}
use Rattle.sh_replay.proofs.turns.finish_rounds.Goals as goal

pub keeps_the_laws-requires : goal.keeps_the_laws-requires
keeps_the_laws-requires g c = omega (arith, c.in-Ok.ensures.size, c.requires.laid)

pub returns-then-have_ended-clause-ok : goal.returns-then-have_ended-clause-ok
returns-then-have_ended-clause-ok g c items x held h are =
    let at = (c.in-Ok.ensures.ok items x held h).0 in
    record {
      last = ap (λ (r : Stage). r.world) at.stage;
      ends = (sym (ap (λ (r : Stage). have_ended r.world.calls) at.stage) ∙ sym (ap have_ended c.calls.ensures) ∙ sym c.have_ended.ensures ∙ c.if-have_ended.true, omega (arith, ap (λ (r : Stage). r.left) at.stage, c.in-Ok.ensures.left));
      lines = at.lines;
    }

pub returns-else-have_ended-clause-ok : goal.returns-else-have_ended-clause-ok
returns-else-have_ended-clause-ok g c items x held h are =
    let both = c.in-Ok.ensures.ok items x held h in
    let open_calls = sym (ap have_ended c.calls.ensures) ∙ sym c.have_ended.ensures ∙ c.if-have_ended.false in
    let calls : map item_of c.rounds.new.world.calls ≡ filter is_call items = ap (λ (r : Stage). map item_of r.world.calls) both.0.stage ∙ all_keep items (λ (s : State). map item_of s.calls) turn_same (rounds_asks c.args.budget (length c.args.world.now.seats)) x ∙ sym (ap (λ (r : Stage). map item_of r.world.calls) h.stage) ∙ are in
    let none = none_left items c.rounds.new.world c.keeps_the_laws.ensures.running calls c.in-Ok.left both.1 open_calls in
    record {
      last = ap (λ (r : Stage). r.world) both.0.stage;
      ends = (sym (ap (λ (r : Stage). have_ended r.world.calls) both.0.stage) ∙ open_calls, omega (arith, none), sym (ap (λ (r : Stage). r.left) both.0.stage) ∙ none);
      lines = both.0.lines;
    }
