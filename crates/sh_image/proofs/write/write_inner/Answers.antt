use Rattle.std.proofs.Common.{rules, ◌<◌, ◌≤◌, ◌+◌, ◌*◌, ◌++◌, ◌∙◌, length, append_assoc, arith}
use Rattle.std.{specs.List.{flat_map}, proofs.lemmas.List.{length-set}}
use Rattle.sh_base.proofs.LayoutLemmas.{node_size_is, rear_at_low}
use Rattle.sh_image.{specs.Inner.{inner_header, pair_words}, proofs.{InnerLemmas.{pairs_room}, WriteLemmas.{zeros, zero_more, last_word}}}
use Rattle.sh_image.proofs.write.write_inner.Goals as goal

pub write_inner_header-requires : goal.write_inner_header-requires
write_inner_header-requires c = omega (arith, c.requires.size, node_size_is c.args.cfg.now.parts, rear_at_low c.args.cfg.now.parts)

pub write_pairs-end-requires-clause-room : goal.write_pairs-end-requires-clause-room
write_pairs-end-requires-clause-room c = omega (arith, c.write_inner_header.ensures.as_long, c.requires.size, c.requires.count, node_size_is c.args.cfg.now.parts, pairs_room c.args.cfg.now.parts c.args.cfg.now.lawful.ranged.value_words.0)

pub bounds-out-at : goal.bounds-out-at
bounds-out-at c = omega (arith, c.loop-at.invariant.1, c.requires.size, node_size_is c.args.cfg.now.parts, c.rear_at-rear.ensures)

pub loop-at-preserved : goal.loop-at-preserved
loop-at-preserved c =
    let a = c.args.image.now in
    let below : c.loop-at.at < length c.loop-at.out = omega (arith, c.loop-at.invariant.1, c.requires.size, node_size_is c.args.cfg.now.parts, c.rear_at-rear.ensures) in
    let from : 6 + 2 * length a.pairs ≤ c.loop-at.at = omega (arith, c.write_pairs-end.ensures.end) in
    (zero_more c.loop-at.out (inner_header a ++ flat_map pair_words a.pairs) c.loop-at.at (6 + 2 * length a.pairs) below from c.loop-at.invariant.0, length-set c.loop-at.out c.loop-at.at 0 ∙ c.loop-at.invariant.1)

pub bounds-out-rear : goal.bounds-out-rear
bounds-out-rear c = omega (arith, c.loop-at.invariant.1, c.requires.size, node_size_is c.args.cfg.now.parts, c.rear_at-rear.ensures)

pub returns : goal.returns
returns c = search (rules, pairs_room, zeros, last_word, node_size_is, append_assoc)
