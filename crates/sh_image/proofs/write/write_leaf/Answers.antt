use Rattle.std.{proofs.{Common.{rules, ◌≡◌, ◌+◌, ◌-◌, length, take, drop, ◌∙◌, arith}, lemmas.List.{take_all, length-take-le, length-drop}}}
use Rattle.std.proofs.lemmas.Option.{get_or_from_slice_get}
use Rattle.sh_base.{proofs.LayoutLemmas.{entry_high, node_size_is, rear_at_low, entry_size_is, entry_at_first, entry_at_more, entry_at_last}}
use Rattle.sh_image.{proofs.{EntriesLemmas.{value_at}, WriteLemmas.{piece_more, pieces_more, last_word}}}
use Rattle.sh_image.proofs.write.write_leaf.Goals as goal

pub write_header-requires : goal.write_header-requires
write_header-requires c = omega (arith, c.requires.size, node_size_is c.args.cfg.now.parts, rear_at_low c.args.cfg.now.parts)

pub loop-index-init : goal.loop-index-init
loop-index-init c = rw (entry_at_first c.args.cfg.now.parts) c.write_header.ensures

pub slice_bounds-write_entry-end : goal.slice_bounds-write_entry-end
slice_bounds-write_entry-end c = search (rules, entry_high, node_size_is)

pub write_entry-requires : goal.write_entry-requires
write_entry-requires c =
    let p = c.args.cfg.now.parts in
    let at = c.entry_at-at.result in
    let size = c.entry_size-size.result in
    let high = entry_high p c.loop-index.index (omega arith) in
    let part : length (take (at + size - at) (drop at c.loop-index.out)) ≡ at + size - at = length-take-le (at + size - at) (drop at c.loop-index.out) (simp length-drop (omega (arith, c.entry_at-at.ensures, c.entry_size-size.ensures, c.requires.size, high, node_size_is p))) in
    part ∙ omega (arith, c.entry_size-size.ensures, entry_size_is p, value_at p.value_words c.args.image.now.entries c.loop-index.index _ c.requires.values c.entry-entry.ensures)

pub loop-index-preserved : goal.loop-index-preserved
loop-index-preserved c = search (rules, entry_high, node_size_is, entry_at_more, piece_more, pieces_more, get_or_from_slice_get)

pub bounds-out-rear_at : goal.bounds-out-rear_at
bounds-out-rear_at c = omega (arith, c.rear_at.ensures, c.requires.size, node_size_is c.args.cfg.now.parts)

pub returns : goal.returns
returns c = search (rules, entry_at_last, take_all, last_word, node_size_is)
