use Rattle.std.proofs.Common.{◌≡◌, ◌+◌, ◌*◌, ◌++◌, length, take}
use Rattle.std.specs.List.{flat_map}
use Rattle.sh_image.specs.Inner.{inner_header, pair_words}
use Rattle.sh_image.proofs.write.write_pairs.Given as goal

-- the header and the pairs so far
abbrev pub invariant-loop-index : goal.invariant-loop-index
invariant-loop-index l = (take (6 + 2 * l.index) l.out ≡ inner_header l.image ++ flat_map pair_words (take l.index l.image.pairs)) × (length l.out ≡ length l.fn.out)
