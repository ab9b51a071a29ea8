use Rattle.std.proofs.Common.{◌∙◌, ap, arith, subst}
use Rattle.crossbeam_queue.specs.Passes.{view}
use Rattle.sh_feed.{specs.{declared.view.View.{View}, Lines.{line_id}, Feeds.{Taking, AllAt}}, proofs.{Steps.{joins}, Tokens.{all_at_snoc, taken_step}}}
use Rattle.sh_feed.proofs.feed.take_in.Goals as goal

pub absorb-requires-clause-queue : goal.absorb-requires-clause-queue
absorb-requires-clause-queue c =
    let i = c.loop-taker.invariant in
    let z = line_id c.args.line.now in
    let free = all_at_snoc z c.pop.new.self.items c.in-Some.taker (subst (AllAt z) c.in-Some.ensures.items i.1) in
    (i.0, (ap (λ (t : Taking). t.feed) c.taker.view_is ∙ free.1, c.taker.invariant.0))

pub absorb-requires-clause-rule : goal.absorb-requires-clause-rule
absorb-requires-clause-rule c =
    let parts = ap (λ (v : View). v.parts) c.loop-taker.invariant.2.view in
    let is = c.taker.invariant.1 in
    joins _ _ _ _ (omega (arith, parts)) (ap (λ (v : View). v.gives) is) (ap (λ (v : View). v.others) is)

pub loop-taker-preserved : goal.loop-taker-preserved
loop-taker-preserved c =
    let i = c.loop-taker.invariant in
    let z = line_id c.args.line.now in
    let q = c.absorb.ensures.queue in
    let free = all_at_snoc z c.pop.new.self.items c.in-Some.taker (subst (AllAt z) c.in-Some.ensures.items i.1) in (
      (q.0 ∙ i.0.0, q.2 ∙ i.0.1),
      free.0,
      taken_step _ _ _ _ (view c.args.giver) (view c.loop-taker.giver) (view c.absorb.new.pass) (view c.taker.inside.pass) c.in-Some.ensures.items i.2 (ap (λ (t : Taking). t.took) c.taker.view_is) (ap (λ (v : View). v.parts) c.taker.invariant.1) c.absorb.ensures.rule,
    )
