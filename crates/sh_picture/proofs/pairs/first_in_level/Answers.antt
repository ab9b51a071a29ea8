use Rattle.std.{proofs.Common.{ℕ, refl, arith}, specs.Prelude.{slice_index}}
use Rattle.sh_base.specs.Parts.{parts_of}
use Rattle.sh_picture.{specs.Tree.{AllLeadBelow}, proofs.LookLemmas.{good_more}}
use Rattle.sh_picture.proofs.pairs.first_in_level.Goals as goal

pub returns-in-Some : goal.returns-in-Some
returns-in-Some c = λ below m.
    let p = parts_of c.args.cfg.now in
    let n = slice_index c.args.level.now c.loop-node.node-index in
    let found = c.in-Some.ensures below m in
    record {
      place = c.loop-node.node-index;
      among = record { below = c.loop-node-test.true; before = c.loop-node.invariant below m; here = λ all. found.here (all c.in-Some.index found.below) };
      node_is = refl;
      pair = found;
    }

pub loop-node-preserved : goal.loop-node-preserved
loop-node-preserved c = λ below m.
    let p = parts_of c.args.cfg.now in
    good_more (λ (i : ℕ). AllLeadBelow p c.args.words.now below (slice_index c.args.level.now i)) c.loop-node.node-index (c.loop-node.invariant below m) (c.in_default.ensures below m)

pub returns : goal.returns
returns c = λ below m i lt. c.loop-node.invariant below m i (omega (arith, lt, c.loop-node-test.false))
