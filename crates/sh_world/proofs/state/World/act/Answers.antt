use Rattle.std.proofs.{Common.{◌∙◌, ℕ, ap, arith, length, refl, sym}, lemmas.Option.{slice_get_read}}
use Rattle.sh_world.{proofs.RunLemmas.{log_few}, specs.{contracts.state.World.{the_view}, declared.turn.Turn.TheVariants.{Event}}}
use Rattle.sh_world.proofs.WorldLemmas.{can_ask, call_can, called_world, done_world, event_can, event_world, if_some, is_asked, kept_is, left_bound, line_read, local_told, lock_within, nothing_left}
use Rattle.sh_world.proofs.WorldLemmas.{running, turned}
use Rattle.sh_world.proofs.state.World.act.Goals as goal

pub ask-want-requires : goal.ask-want-requires
ask-want-requires c =
    let g = running (the_view c.self.inside) c.args.self.now _ _ c.args.seat c.self.view_is c.self.invariant c.requires in
    can_ask (the_view c.self.inside) g.0 c.args.seat c.index_mut-place.result.now (slice_get_read _ _ c.args.seat c.index_mut-place.result.now refl g.2 c.index_mut-place.ensures.value)

pub line_at-requires-clause-lock : goal.line_at-requires-clause-lock
line_at-requires-clause-lock c =
    let a = is_asked (the_view c.self.inside) c.args.self.now _ _ c.args.seat c.index_mut-place.result.now c.ask-want.new.self _ _ _ _ c.self.view_is c.self.invariant c.requires c.index_mut-place.ensures.value refl (c.len.ensures ∙ c.self.inside.log.ok.0) c.ask-want.ensures.seat c.ask-want.ensures.want c.ask-want.ensures.within refl in
    lock_within _ _ c.in-Some.lock (sym c.wanted_lock.ensures ∙ c.in-Some.is) a.within

pub call-requires-clause-bound : goal.call-requires-clause-bound
call-requires-clause-bound c =
    let a = is_asked (the_view c.self.inside) c.args.self.now _ _ c.args.seat c.index_mut-place.result.now c.ask-want.new.self _ _ _ _ c.self.view_is c.self.invariant c.requires c.index_mut-place.ensures.value refl (c.len.ensures ∙ c.self.inside.log.ok.0) c.ask-want.ensures.seat c.ask-want.ensures.want c.ask-want.ensures.within refl in
    let line = c.index_mut-line.result.now in
    if_some line.left _ (left_bound _ _ _ _ _ _ c.in-Some.lock line a (sym c.wanted_lock.ensures ∙ c.in-Some.is) (line_read (the_view c.self.inside) c.args.seat c.in-Some.lock c.line_at.result line c.line_at.ensures.at (omega (arith, c.line_at.ensures.within, a.run.lines.count)) c.index_mut-line.ensures.value))

pub call-requires-clause-settles : goal.call-requires-clause-settles
call-requires-clause-settles c =
    let a = is_asked (the_view c.self.inside) c.args.self.now _ _ c.args.seat c.index_mut-place.result.now c.ask-want.new.self _ _ _ _ c.self.view_is c.self.invariant c.requires c.index_mut-place.ensures.value refl (c.len.ensures ∙ c.self.inside.log.ok.0) c.ask-want.ensures.seat c.ask-want.ensures.want c.ask-want.ensures.within refl in
    call_can _ _ _ _ _ _ c.in-Some.lock c.index_mut-line.result.now _ _ a (sym c.wanted_lock.ensures ∙ c.in-Some.is) refl c.deref.ensures.value

pub invariant_of-self : goal.invariant_of-self
invariant_of-self c =
    let a = is_asked (the_view c.self.inside) c.args.self.now _ _ c.args.seat c.index_mut-place.result.now c.ask-want.new.self _ _ _ _ c.self.view_is c.self.invariant c.requires c.index_mut-place.ensures.value refl (c.len.ensures ∙ c.self.inside.log.ok.0) c.ask-want.ensures.seat c.ask-want.ensures.want c.ask-want.ensures.within refl in
    kept_is _ _ _ _ _ _ a _ _ _ (called_world _ c.args.seat _ _ a.asked_is c.in-Some.lock c.line_at.result _ c.index_mut-line.result.now _ _ _ _ _ c.deref.ensures.value refl c.line_at.ensures.at (omega (arith, c.line_at.ensures.within, a.run.lines.count)) c.index_mut-line.ensures.value (sym c.wanted_lock.ensures ∙ c.in-Some.is) c.call.ensures.line c.call.ensures.seat c.call.ensures.calls) refl c.call.ensures.setting

pub returns-in-Some : goal.returns-in-Some
returns-in-Some c =
    let a = is_asked (the_view c.self.inside) c.args.self.now _ _ c.args.seat c.index_mut-place.result.now c.ask-want.new.self _ _ _ _ c.self.view_is c.self.invariant c.requires c.index_mut-place.ensures.value refl (c.len.ensures ∙ c.self.inside.log.ok.0) c.ask-want.ensures.seat c.ask-want.ensures.want c.ask-want.ensures.within refl in
    turned _ _ _ _ _ _ a _ _ _ _ c.self.view_is refl (called_world _ c.args.seat _ _ a.asked_is c.in-Some.lock c.line_at.result _ c.index_mut-line.result.now _ _ _ _ _ c.deref.ensures.value refl c.line_at.ensures.at (omega (arith, c.line_at.ensures.within, a.run.lines.count)) c.index_mut-line.ensures.value (sym c.wanted_lock.ensures ∙ c.in-Some.is) c.call.ensures.line c.call.ensures.seat c.call.ensures.calls) (local_told _ _ c.in-Some.lock (sym c.wanted_lock.ensures ∙ c.in-Some.is))

pub make-found-requires-clause-at : goal.make-found-requires-clause-at
make-found-requires-clause-at c =
    let a = is_asked (the_view c.self.inside) c.args.self.now _ _ c.args.seat c.index_mut-place.result.now c.ask-want.new.self _ _ _ _ c.self.view_is c.self.invariant c.requires c.index_mut-place.ensures.value refl (c.len.ensures ∙ c.self.inside.log.ok.0) c.ask-want.ensures.seat c.ask-want.ensures.want c.ask-want.ensures.within c.in-Event.is in
    let long = ap length c.deref_mut.ensures.value in
    omega (arith, a.within, a.run.inv.ground.shows.size, long)

pub make-found-requires-clause-room : goal.make-found-requires-clause-room
make-found-requires-clause-room c =
    let a = is_asked (the_view c.self.inside) c.args.self.now _ _ c.args.seat c.index_mut-place.result.now c.ask-want.new.self _ _ _ _ c.self.view_is c.self.invariant c.requires c.index_mut-place.ensures.value refl (c.len.ensures ∙ c.self.inside.log.ok.0) c.ask-want.ensures.seat c.ask-want.ensures.want c.ask-want.ensures.within c.in-Event.is in
    omega (arith, log_few _ a.run, a.room_is, c.self.inside.log.ok.0)

pub make-found-requires-clause-settles : goal.make-found-requires-clause-settles
make-found-requires-clause-settles c =
    let a = is_asked (the_view c.self.inside) c.args.self.now _ _ c.args.seat c.index_mut-place.result.now c.ask-want.new.self _ _ _ _ c.self.view_is c.self.invariant c.requires c.index_mut-place.ensures.value refl (c.len.ensures ∙ c.self.inside.log.ok.0) c.ask-want.ensures.seat c.ask-want.ensures.want c.ask-want.ensures.within c.in-Event.is in
    event_can _ _ _ _ _ c.in-Event.event _ _ a refl c.deref_mut.ensures.value

pub invariant_of-self-in-Event : goal.invariant_of-self-in-Event
invariant_of-self-in-Event c =
    let a = is_asked (the_view c.self.inside) c.args.self.now _ _ c.args.seat c.index_mut-place.result.now c.ask-want.new.self _ _ _ _ c.self.view_is c.self.invariant c.requires c.index_mut-place.ensures.value refl (c.len.ensures ∙ c.self.inside.log.ok.0) c.ask-want.ensures.seat c.ask-want.ensures.want c.ask-want.ensures.within c.in-Event.is in
    kept_is _ _ _ _ _ _ a _ _ _ (event_world _ c.args.seat _ _ a.asked_is c.in-Event.event _ _ _ _ _ _ _ _ c.deref_mut.ensures.value refl c.make-found.ensures.words c.make-found.ensures.log c.make-found.ensures.seat c.make-found.ensures.calls (sym c.self.inside.words.ok.0)) c.make-found.ensures.room c.make-found.ensures.setting

pub returns-in-Event : goal.returns-in-Event
returns-in-Event c =
    let a = is_asked (the_view c.self.inside) c.args.self.now _ _ c.args.seat c.index_mut-place.result.now c.ask-want.new.self _ _ _ _ c.self.view_is c.self.invariant c.requires c.index_mut-place.ensures.value refl (c.len.ensures ∙ c.self.inside.log.ok.0) c.ask-want.ensures.seat c.ask-want.ensures.want c.ask-want.ensures.within c.in-Event.is in
    turned _ _ _ _ _ _ a _ _ _ _ c.self.view_is c.deref_mut.ensures.value (event_world _ c.args.seat _ _ a.asked_is c.in-Event.event _ _ _ _ _ _ _ _ c.deref_mut.ensures.value refl c.make-found.ensures.words c.make-found.ensures.log c.make-found.ensures.seat c.make-found.ensures.calls (sym c.self.inside.words.ok.0)) (ap (λ (x : ℕ). Event c.in-Event.event x) c.make-found.ensures.found)

pub invariant_of-self-in_default-want : goal.invariant_of-self-in_default-want
invariant_of-self-in_default-want c =
    let a = is_asked (the_view c.self.inside) c.args.self.now _ _ c.args.seat c.index_mut-place.result.now c.ask-want.new.self _ _ _ _ c.self.view_is c.self.invariant c.requires c.index_mut-place.ensures.value refl (c.len.ensures ∙ c.self.inside.log.ok.0) c.ask-want.ensures.seat c.ask-want.ensures.want c.ask-want.ensures.within (nothing_left _ (sym c.wanted_lock.ensures ∙ c.in_default.is) c.in_default-want.not-Event) in
    kept_is _ _ _ _ _ _ a _ _ _ (done_world _ c.args.seat _ _ a.asked_is) refl refl

pub returns-in_default-want : goal.returns-in_default-want
returns-in_default-want c =
    let a = is_asked (the_view c.self.inside) c.args.self.now _ _ c.args.seat c.index_mut-place.result.now c.ask-want.new.self _ _ _ _ c.self.view_is c.self.invariant c.requires c.index_mut-place.ensures.value refl (c.len.ensures ∙ c.self.inside.log.ok.0) c.ask-want.ensures.seat c.ask-want.ensures.want c.ask-want.ensures.within (nothing_left _ (sym c.wanted_lock.ensures ∙ c.in_default.is) c.in_default-want.not-Event) in
    turned _ _ _ _ _ _ a _ _ _ _ c.self.view_is refl (done_world _ c.args.seat _ _ a.asked_is) refl
