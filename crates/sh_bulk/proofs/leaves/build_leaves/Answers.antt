use Rattle.std.proofs.Common.{rules, length, arith}
use Rattle.sh_base.specs.Setting.{node_size}
use Rattle.sh_bulk.{specs.Nodes.{words_at}, proofs.{PieceLemmas.{piece_on}, ShapeLemmas.{leaves_few}}}
use Rattle.sh_bulk.proofs.leaves.build_leaves.Goals as goal

pub overflow_add-from : goal.overflow_add-from
overflow_add-from c = omega (arith, c.requires.leaves, c.requires.few, leaves_few c.args.cfg.now.parts c.args.cfg.now.lawful (length c.args.rows.now))

pub loop-k-preserved : goal.loop-k-preserved
loop-k-preserved c =
    let p = c.args.cfg.now.parts in
    piece_on (words_at p c.args.rows.now 0) (node_size p) c.args.from c.loop-k.k c.args.count _ _ c.loop-k.out c.build_leaf.new.out c.loop-k.invariant.0 c.node_size-size.ensures (omega arith) (omega (arith, c.requires.size)) (λ room. omega (arith, c.build_leaf.auto.out, room)) c.loop-k.invariant.1 c.build_leaf.ensures
