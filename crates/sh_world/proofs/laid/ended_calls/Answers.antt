use Rattle.std.proofs.{Common.{◌≡◌, ◌+◌, ◌<◌, ◌∙◌, ◌∷◌, [], Vec, Global, ap, arith, get_or, length, sym}, lemmas.Option.{get_or_from_slice_get}}
use Rattle.sh_map.specs.declared.book.Done.{Done}
use Rattle.sh_world.{specs.States.{rows_at, with_rows}, proofs.{GiveLemmas.{told_more, untold_more}, laid.ended_calls.Goals.{in-Some+in_ok-rows_of+in_ok-push, in_default}}}
use Rattle.sh_world.proofs.laid.ended_calls.Goals as goal

pub loop-i-preserved : goal.loop-i-preserved
loop-i-preserved c =
    let calls = c.args.calls.now.calls in
    let g = with_rows c.get-seat.result (rows_at calls c.loop-i.i) in
    let lt : c.loop-i.i < length calls = omega (arith, c.loop-i-test.true, c.len-i-end.ensures) in
    let read : g ≡ get_or calls c.loop-i.i g = sym (get_or_from_slice_get calls c.loop-i.i g g c.get-seat.ensures) in
    elim c.match-reply.branch [
      | in-Some+in_ok-rows_of+in_ok-push w ↦ ap (λ (v : Vec Done Global). v.items) w.dones-is ∙ told_more calls c.loop-i.i g w.in-Some.reply c.loop-i.dones.items _ _ lt read c.loop-i.invariant w.in-Some.is w.in_ok-push.ensures.items
          (λ z. record { n = c.loop-i.i + 1; seat = g.seat; call = g.call; reply = w.in-Some.reply; first = w.from.ensures z; point = w.from-in-Some.ensures z; rows = w.in_ok-rows_of.ensures z } ∷ [])
      | in_default w ↦ ap (λ (v : Vec Done Global). v.items) w.dones-is ∙ untold_more calls c.loop-i.i g c.loop-i.dones.items lt read c.loop-i.invariant w.in_default.is
    ]
