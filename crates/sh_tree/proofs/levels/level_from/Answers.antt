use Rattle.std.proofs.Common.{arith}
use Rattle.sh_tree.proofs.WalkLemmas.{gathered_none, gathered_more, along_none, along_more, along_all}
use Rattle.sh_tree.proofs.levels.level_from.Goals as goal

pub loop-init : goal.loop-init
loop-init c = rw c.new-level.ensures.items (gathered_none c.args.cfg.now.parts c.args.first c.requires.first, λ low chain h is. along_none c.args.cfg.now.parts c.args.words.now c.args.first low chain is h)

pub returns-then-node-eq0-clause-level : goal.returns-then-node-eq0-clause-level
returns-then-node-eq0-clause-level c = λ low chain h few is. along_all c.args.cfg.now.parts c.args.words.now chain c.loop.level.items c.loop.node few (λ some. absurd (some c.if-node-eq0.true)) (c.loop.invariant.1 low chain h is)

pub next_of-node-requires-clause-node : goal.next_of-node-requires-clause-node
next_of-node-requires-clause-node c = record { first = omega (arith, c.if-node-eq0.false); last = c.loop.invariant.0.small }

pub loop-preserved : goal.loop-preserved
loop-preserved c =
    let p = c.args.cfg.now.parts in
    rw c.in_ok-push.ensures.items (
      gathered_more p c.loop.counter c.loop.level.items c.loop.node c.next_of-node.result c.if-node-eq0.false c.next_of-node.ensures.most c.loop.invariant.0,
      λ low chain h is. along_more p c.args.words.now chain c.loop.level.items c.loop.node c.next_of-node.result c.if-node-eq0.false c.next_of-node.ensures.same (c.loop.invariant.1 low chain h is),
    )

pub returns-clause-level : goal.returns-clause-level
returns-clause-level c = λ low chain h few is. along_all c.args.cfg.now.parts c.args.words.now chain c.loop.level.items c.loop.node few (λ some. omega (arith, c.loop.invariant.0.long, c.loop-test.false, c.nodes-end.ensures)) (c.loop.invariant.1 low chain h is)
