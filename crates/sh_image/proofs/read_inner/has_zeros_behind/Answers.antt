use Rattle.std.proofs.Common.{arith}
use Rattle.sh_base.proofs.LayoutLemmas.{node_size_is}
use Rattle.sh_image.proofs.InnerLemmas.{pairs_room}
use Rattle.sh_image.proofs.read_inner.has_zeros_behind.Goals as goal

pub slice_bounds-are_empty-count : goal.slice_bounds-are_empty-count
slice_bounds-are_empty-count c = omega (arith, c.rear_at.ensures, c.requires.few, pairs_room c.args.cfg.now.parts c.args.cfg.now.lawful.ranged.value_words.0)

pub slice_bounds-are_empty-start : goal.slice_bounds-are_empty-start
slice_bounds-are_empty-start c = omega (arith, c.rear_at.ensures, c.requires.few, pairs_room c.args.cfg.now.parts c.args.cfg.now.lawful.ranged.value_words.0)

pub slice_bounds-are_empty-end : goal.slice_bounds-are_empty-end
slice_bounds-are_empty-end c = omega (arith, c.rear_at.ensures, c.requires.size, node_size_is c.args.cfg.now.parts)
