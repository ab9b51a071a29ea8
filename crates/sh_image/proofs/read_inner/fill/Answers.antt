use Rattle.std.proofs.Common.{length, drop, ap, arith}
use Rattle.sh_base.proofs.LayoutLemmas.{node_size_is}
use Rattle.sh_image.proofs.InnerLemmas.{pairs_room, child_of, length-pairs_in, decoded_more}
use Rattle.sh_image.proofs.read_inner.fill.Goals as goal

pub bounds-words-index : goal.bounds-words-index
bounds-words-index c = omega (arith, c.requires.size, c.requires.few, node_size_is c.args.cfg.now.parts, pairs_room c.args.cfg.now.parts c.args.cfg.now.lawful.ranged.value_words.0)

pub returns-in_default-clause-always : goal.returns-in_default-clause-always
returns-in_default-clause-always c = λ h. absurd (c.in_default.ensures (child_of c.args.words.now c.args.cfg.now.parts c.args.count c.loop-index.index (omega arith) h))

pub push-requires : goal.push-requires
push-requires c = omega (arith, c.requires.few, ap length c.loop-index.invariant.pairs, length-pairs_in c.loop-index.index (drop 6 c.args.words.now), c.args.cfg.now.lawful.ranged.leaf.1)

pub loop-index-preserved : goal.loop-index-preserved
loop-index-preserved c = decoded_more c.args.cfg.now.parts c.args.words.now c.args.next c.loop-index.index c.in-Some.child _ _ (c.in-Some.ensures).0 (c.in-Some.ensures).1 (c.in-Some.ensures).2 c.loop-index.invariant c.push.ensures
