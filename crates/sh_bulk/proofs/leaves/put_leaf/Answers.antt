use Rattle.std.proofs.Common.{rules}
use Rattle.std.{proofs.{Common.{◌-◌, ◌++◌, ◌∷◌, [], length, map, drop, replicate, take, ap, sym, ◌∙◌, arith}, lemmas.List.{append-nil, length-drop, length-map, length-take-le}}, specs.List.{flat_map}}
use Rattle.sh_base.{specs.Layout.{entry_at}, proofs.LayoutLemmas.{node_size_is, rear_at_low, rear_at_small}}
use Rattle.sh_map.specs.Map.{row_pair}
use Rattle.sh_image.specs.Entries.{entry_words}
use Rattle.sh_edit.specs.Splitting.{entry_with}
use Rattle.sh_bulk.proofs.LevelLemmas.{entries_end, leaf_written, none_behind}
use Rattle.sh_bulk.proofs.leaves.put_leaf.Goals as goal

pub put_header-requires : goal.put_header-requires
put_header-requires c = omega (arith, c.requires.size, node_size_is c.args.cfg.now.parts, rear_at_low c.args.cfg.now.parts)

pub offset_bounds-out-end : goal.offset_bounds-out-end
offset_bounds-out-end c = let end = entries_end c.args.cfg.now.parts _ c.requires.count in omega (arith, c.put_entries-end.ensures.end, end, rear_at_small c.args.cfg.now.parts c.args.cfg.now.lawful)

pub slice_bounds-clear-count : goal.slice_bounds-clear-count
slice_bounds-clear-count c = let end = entries_end c.args.cfg.now.parts _ c.requires.count in omega (arith, c.put_entries-end.ensures.end, end, c.requires.size, node_size_is c.args.cfg.now.parts)

pub slice_bounds-clear-start : goal.slice_bounds-clear-start
slice_bounds-clear-start c = let end = entries_end c.args.cfg.now.parts _ c.requires.count in omega (arith, c.put_entries-end.ensures.end, end, c.requires.size, node_size_is c.args.cfg.now.parts)

pub returns : goal.returns
returns c =
    let p = c.args.cfg.now.parts in
    let xs = map row_pair c.args.rows.now in
    let long = length-map c.args.rows.now row_pair in
    let at = c.put_entries-end.ensures.end ∙ ap (entry_at p) (sym long) in
    let is = c.put_entries-end.ensures.front ∙ ap (λ l. l ++ flat_map entry_words (map entry_with xs)) c.put_header.ensures in
    let end = entries_end p _ c.requires.count in
    let none = none_behind c.put_entries-end.result c.put_entries-end.new.out (omega (arith, c.put_entries-end.ensures.end, end, c.requires.size, node_size_is p)) in
    let zs = c.clear.new.out in
    ap (λ l. take c.put_entries-end.result c.put_entries-end.new.out ++ l) (ap (λ l. zs ++ l) none ∙ append-nil zs)
    ∙ leaf_written p (0 ∷ 0 ∷ c.args.fences.low ∷ c.args.fences.high ∷ c.args.fences.next ∷ 0 ∷ []) (take c.put_entries-end.result c.put_entries-end.new.out) zs xs c.put_entries-end.result at (omega (arith, long, c.requires.count)) is (c.clear.ensures ∙ ap (λ k. replicate k 0) (length-take-le (length c.put_entries-end.new.out - c.put_entries-end.result) (drop c.put_entries-end.result c.put_entries-end.new.out) (simp length-drop (omega arith)) ∙ omega (arith, c.requires.size)))
