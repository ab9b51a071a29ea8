use Rattle.std.{proofs.Common.{rules, ◌≡◌, ◌≤◌, ◌<◌, ◌+◌, ◌++◌, length, take, map, sym, ap, ◌∙◌, arith}, specs.List.{flat_map}}
use Rattle.std.proofs.lemmas.List.{append-nil, get_or-map, length-drop, length-map, length-take-le}
use Rattle.sh_logic.proofs.Lists.{all_at}
use Rattle.sh_base.{specs.Layout.{entry_at}, proofs.LayoutLemmas.{entry_at_first, entry_at_more, entry_high, entry_size_is, node_size_is, rear_at_small}}
use Rattle.sh_map.specs.{Map.{row_pair}}
use Rattle.sh_image.{specs.Entries.{entry_words}, proofs.WriteLemmas.{piece_more, pieces_more}}
use Rattle.sh_edit.specs.Splitting.{entry_with}
use Rattle.sh_bulk.proofs.leaves.put_entries.Goals as goal

pub loop-i-init : goal.loop-i-init
loop-i-init c = (sym (entry_at_first c.args.cfg.now.parts), sym (append-nil _))

pub overflow_add-at : goal.overflow_add-at
overflow_add-at c = let high = entry_high c.args.cfg.now.parts c.loop-i.i (omega (arith, c.requires.count)) in omega (arith, c.loop-i.invariant.0, c.entry_size-size.ensures, high, rear_at_small c.args.cfg.now.parts c.args.cfg.now.lawful)

pub offset_bounds-out-at : goal.offset_bounds-out-at
offset_bounds-out-at c = let high = entry_high c.args.cfg.now.parts c.loop-i.i (omega (arith, c.requires.count)) in omega (arith, c.loop-i.invariant.0, high, rear_at_small c.args.cfg.now.parts c.args.cfg.now.lawful)

pub slice_bounds-put_entry-end : goal.slice_bounds-put_entry-end
slice_bounds-put_entry-end c = let high = entry_high c.args.cfg.now.parts c.loop-i.i (omega (arith, c.requires.count)) in omega (arith, c.loop-i.invariant.0, c.entry_size-size.ensures, c.requires.size, high, node_size_is c.args.cfg.now.parts)

pub put_entry-requires : goal.put_entry-requires
put_entry-requires c = search (rules, entry_high, length-take-le, length-drop, node_size_is, all_at, entry_size_is)

pub loop-i-preserved : goal.loop-i-preserved
loop-i-preserved c =
    let p = c.args.cfg.now.parts in
    let rows = c.args.rows.now in
    let i = c.loop-i.i in
    let at = c.loop-i.at in
    let size = c.entry_size-size.result in
    let es = map entry_with (map row_pair rows) in
    let high = entry_high p i (omega (arith, c.requires.count)) in
    let inside : i < length rows = omega arith in
    let bound : at ≤ length c.loop-i.out = omega (arith, c.loop-i.invariant.0, c.requires.size, high, node_size_is p) in
    let next : at + size ≡ entry_at p (i + 1) = omega (arith, c.loop-i.invariant.0, entry_at_more p i, c.entry_size-size.ensures) in
    let long : length (map row_pair rows) ≡ length rows = length-map rows row_pair in
    let entry = get_or-map entry_with (map row_pair rows) i (row_pair c.index-rows-i.result) (entry_with (row_pair c.index-rows-i.result)) (omega (arith, long)) ∙ ap entry_with (get_or-map row_pair rows i c.index-rows-i.result (row_pair c.index-rows-i.result) inside ∙ ap row_pair (sym c.index-rows-i.is)) in (
      next,
      piece_more c.loop-i.out _ c.put_entry.new.out at size _ bound (λ t. at + size) (omega (arith, c.put_entry.auto.out, c.loop-i.invariant.0, high, c.entry_size-size.ensures, c.requires.size, node_size_is p)) c.loop-i.invariant.1
          ∙ (ap (λ l. take 6 c.args.out.now ++ flat_map entry_words (take i es) ++ l) c.put_entry.ensures
          ∙ pieces_more (take 6 c.args.out.now) es i (entry_with (row_pair c.index-rows-i.result)) (omega (arith, long, length-map (map row_pair rows) entry_with)) entry),
    )
