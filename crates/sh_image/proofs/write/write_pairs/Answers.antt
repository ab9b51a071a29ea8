use Rattle.std.proofs.Common.{◌<◌, ◌+◌, ◌*◌, ◌∙◌, length, set, arith}
use Rattle.std.proofs.lemmas.{List.{length-set}, Option.{get_or_from_slice_get}}
use Rattle.sh_image.{specs.{declared.inner.Pair.{Pair}, Inner.{inner_header}}, proofs.WriteLemmas.{pair_more}}
use Rattle.sh_image.proofs.write.write_pairs.Goals as goal

pub loop-index-preserved : goal.loop-index-preserved
loop-index-preserved c =
    let x : Pair = c.pair-separator.result in
    let ps = c.args.image.now.pairs in
    let below : c.loop-index.index < length ps = omega (arith, c.pairs-count.ensures.pairs) in (
      pair_more c.loop-index.out (inner_header c.args.image.now) ps c.loop-index.index _ x (omega (arith, c.requires.room, c.loop-index.invariant.1, c.pairs-count.ensures.pairs)) below (get_or_from_slice_get ps c.loop-index.index x x c.pair-separator.ensures) c.from.ensures c.loop-index.invariant.0,
      length-set (set c.loop-index.out (6 + 2 * c.loop-index.index) x.separator) (7 + 2 * c.loop-index.index) c.from.result ∙ length-set c.loop-index.out (6 + 2 * c.loop-index.index) x.separator ∙ c.loop-index.invariant.1,
    )
