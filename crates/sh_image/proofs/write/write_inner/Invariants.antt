use Rattle.std.proofs.Common.{◌≡◌, ◌+◌, ◌-◌, ◌*◌, ◌++◌, length, take}
use Rattle.std.specs.{Prelude.{replicate}, List.{flat_map}}
use Rattle.sh_image.specs.Inner.{inner_header, pair_words}
use Rattle.sh_image.proofs.write.write_inner.Given as goal

-- the header, the pairs, and the zeros so far
abbrev pub invariant-loop-at : goal.invariant-loop-at
invariant-loop-at l = (take l.at l.out ≡ inner_header l.image ++ flat_map pair_words l.image.pairs ++ replicate (l.at - (6 + 2 * length l.image.pairs)) 0) × (length l.out ≡ length l.fn.out)
