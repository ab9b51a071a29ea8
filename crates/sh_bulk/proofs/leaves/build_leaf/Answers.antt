use Rattle.std.proofs.Common.{rules, ◌-◌, ◌*◌, ◌∙◌, ap, length, drop, map, arith}
use Rattle.std.proofs.lemmas.List.{length-take}
use Rattle.sh_map.specs.Map.{row_pair}
use Rattle.sh_image.specs.Leaf.{empty_entry, leaf_words}
use Rattle.sh_edit.specs.Splitting.{entries_from}
use Rattle.sh_bulk.{specs.Nodes.{words_at}, proofs.{LevelLemmas.{leaf_from, rows_cut}, ShapeLemmas.{leaf_fill_small}}}
use Rattle.sh_bulk.proofs.leaves.build_leaf.Goals as goal

pub overflow_mul-from : goal.overflow_mul-from
overflow_mul-from c = omega (arith, leaf_from c.args.cfg.now.parts c.args.cfg.now.lawful _ c.args.j c.requires.leaf, ap (λ f. c.args.j * f) c.leaf_fill-fill.ensures.fill, c.requires.few)

pub overflow_add-from : goal.overflow_add-from
overflow_add-from c = omega (arith, leaf_from c.args.cfg.now.parts c.args.cfg.now.lawful _ c.args.j c.requires.leaf, ap (λ f. c.args.j * f) c.leaf_fill-fill.ensures.fill, c.requires.few, c.leaf_fill-fill.ensures.high)

pub fences_of-fences-requires-clause-from : goal.fences_of-fences-requires-clause-from
fences_of-fences-requires-clause-from c = ap (λ f. c.args.j * f) c.leaf_fill-fill.ensures.fill

pub fences_of-fences-requires-clause-to : goal.fences_of-fences-requires-clause-to
fences_of-fences-requires-clause-to c = omega (arith, c.leaf_fill-fill.ensures.fill)

pub offset_bounds-rows-from : goal.offset_bounds-rows-from
offset_bounds-rows-from c = omega (arith, leaf_from c.args.cfg.now.parts c.args.cfg.now.lawful _ c.args.j c.requires.leaf, ap (λ f. c.args.j * f) c.leaf_fill-fill.ensures.fill, c.requires.few)

pub slice_bounds-put_leaf-count : goal.slice_bounds-put_leaf-count
slice_bounds-put_leaf-count c = omega (arith, leaf_from c.args.cfg.now.parts c.args.cfg.now.lawful _ c.args.j c.requires.leaf, ap (λ f. c.args.j * f) c.leaf_fill-fill.ensures.fill)

pub slice_bounds-put_leaf-start : goal.slice_bounds-put_leaf-start
slice_bounds-put_leaf-start c = omega (arith, leaf_from c.args.cfg.now.parts c.args.cfg.now.lawful _ c.args.j c.requires.leaf, ap (λ f. c.args.j * f) c.leaf_fill-fill.ensures.fill)

pub put_leaf-requires-clause-count : goal.put_leaf-requires-clause-count
put_leaf-requires-clause-count c = omega (arith, length-take (c.min-to.result - c.args.j * c.leaf_fill-fill.result) (drop (c.args.j * c.leaf_fill-fill.result) c.args.rows.now), c.leaf_fill-fill.ensures.fill, leaf_fill_small c.args.cfg.now.parts c.args.cfg.now.lawful)

pub returns : goal.returns
unfolding words_at
returns c = search (rules, c.args.cfg.now.parts, c.args.rows.now, c.args.j, c.leaf_fill-fill.result, c.leaf_fill-fill.ensures.fill, rows_cut, c.min-to.result, leaf_from, c.args.cfg.now.lawful, c.requires.leaf, c.put_leaf.ensures, c.fences_of-fences.ensures)
