use Rattle.std.{specs.Vec.{vec_len, vec_capacity}, proofs.{Common.{rules, ◌+◌, ◌-◌, ◌≤◌, ◌∙◌, ◌∷◌, ◌++◌, [], ℕ, List, ap, arith, refl}, lemmas.Option.{slice_get_read}}}
use Rattle.sh_world.{specs.{Columns.{Listed}, States.{Place}, Turning.{queued}, contracts.state.World.{the_view}}, proofs.{GiveLemmas.{give_is, given_long, given_world}, RunLemmas.{log_few}}}
use Rattle.sh_world.proofs.WorldLemmas.{running}
use Rattle.sh_world.proofs.state.World.give.Goals as goal

pub overflow_sub-number : goal.overflow_sub-number
overflow_sub-number c =
    let g = running (the_view c.self.inside) c.args.self.now _ _ c.args.seat c.self.view_is c.self.invariant c.requires.seat in
    omega (arith, log_few (the_view c.self.inside) g.0, c.len.ensures, c.len-number.ensures, c.self.inside.log.ok.0)

pub invariant_of-self-2 : goal.invariant_of-self-2
invariant_of-self-2 c =
    let g = running (the_view c.self.inside) c.args.self.now _ _ c.args.seat c.self.view_is c.self.invariant c.requires.seat in
    let at = slice_get_read _ _ c.args.seat c.index_mut-given.result.now refl g.2 c.index_mut-given.ensures.value in
    let calls = ap (λ (l : Listed). l.calls) c.in_ok-push.ensures.ok in
    let is = give_is (the_view c.self.inside) c.args.self.now c.args.seat (c.len-number.result + 1) c.index_mut-given.result.now _ c.args.call _ _ c.self.view_is at
    (ap (λ (k : ℕ). k + 1) c.len-number.ensures)
    (ap (λ (ns : List ℕ). record { client = c.given.inside.client; numbers = ns; ended = c.given.inside.ended; number = c.given.inside.number; ticket = c.given.inside.ticket; seen = c.given.inside.seen; first = c.given.inside.first; point = c.given.inside.point }) (c.push_reserved.ensures.items ∙ ap (λ (ns : List ℕ). ns ++ (c.len-number.result + 1) ∷ []) c.reserve-2.ensures.items) ∙ ap (λ (y : Place). queued y (c.len-number.result + 1)) c.given.view_is)
    calls c.reserve.ensures.items in
    given_world (the_view c.self.inside) c.args.self.now c.args.seat _ _ c.index_mut-given.result.now c.args.call _ c.self.view_is g.0 at c.requires.in_range c.requires.few is
    (let room : vec_len c.reserve.new.self + (c.len-number.result + 1 + 1 - c.len.result) ≤ vec_capacity c.reserve.new.self = c.in_ok-reserve.ensures.ok in omega (arith, room, c.reserve.ensures.len, c.len.ensures, c.len-number.ensures, given_long _ _ _ calls, log_few (the_view c.self.inside) g.0, c.self.inside.log.ok.0))
    (ap (λ (l : Listed). l.setting) c.in_ok-push.ensures.ok ∙ g.3)

pub returns-clause-ok : goal.returns-clause-ok
returns-clause-ok c = search (rules, running, slice_get_read, give_is)
