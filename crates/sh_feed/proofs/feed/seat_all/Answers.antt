use Rattle.std.proofs.Common.{ap, arith, length}
use Rattle.crossbeam_queue.specs.Passes.{view}
use Rattle.sh_feed.{specs.{declared.view.View.{View}, Lines.{line_id}}, proofs.{Steps.{seats}, Tokens.{fresh_long}}}
use Rattle.sh_feed.proofs.feed.seat_all.Goals as goal

pub another-pass-requires-clause-rule : goal.another-pass-requires-clause-rule
another-pass-requires-clause-rule c =
    let parts = ap (λ (v : View). v.parts) c.loop-made.invariant.3 in
    seats _ _ (omega (arith, parts, c.loop-made-test.true))

pub push_reserved-requires : goal.push_reserved-requires
push_reserved-requires c =
    let i = c.loop-made.invariant in
    let long = ap length i.4 in
    let fresh = fresh_long (line_id c.args.line.now) (view c.args.maker).setup c.loop-made.made in
    omega (arith, c.loop-made.seats.ok.0, long, fresh, i.1, c.loop-made-test.true)
