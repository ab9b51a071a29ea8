use Rattle.std.proofs.Common.{rules, ◌≡◌, suc, ◌+◌, ◌∙◌, ap, length, arith}
use Rattle.sh_base.specs.Setting.{node_size}
use Rattle.sh_image.specs.Inner.{inner_words}
use Rattle.sh_bulk.{specs.Nodes.{words_at}, proofs.{LevelLemmas.{pairs_many}, PieceLemmas.{piece_on}, ShapeLemmas.{inner_fill_small}}}
use Rattle.sh_bulk.proofs.inner.build_above.Goals as goal

pub write_inner-requires-clause-count : goal.write_inner-requires-clause-count
write_inner-requires-clause-count c = omega (arith, ap (λ a. length a.pairs) c.image_of-image.ensures, pairs_many c.args.cfg.now.parts c.args.rows.now c.args.below.number c.loop-j.j, inner_fill_small c.args.cfg.now.parts c.args.cfg.now.lawful)

pub loop-j-preserved : goal.loop-j-preserved
unfolding words_at
loop-j-preserved c =
    let p = c.args.cfg.now.parts in
    let words = words_at p c.args.rows.now (suc c.args.below.number) in
    let start : c.loop-j.j ≡ 0 + c.loop-j.j = omega arith in
    piece_on words (node_size p) 0 c.loop-j.j c.args.above _ _ c.loop-j.out c.write_inner.new.out c.loop-j.invariant.0 c.node_size-size.ensures (omega arith) (omega (arith, c.requires.size)) (λ room. omega (arith, c.write_inner.auto.out, room)) c.loop-j.invariant.1 (c.write_inner.ensures ∙ (ap (inner_words p) c.image_of-image.ensures ∙ ap words start))
