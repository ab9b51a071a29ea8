use Rattle.std.proofs.Common.{rules, arith, sym, ◌∙◌, ◌==◌, w64}
use lib.Lanes.{chunk}
use Rattle.std.proofs.lemmas.Simd.{bitmask_splat, leading_from_mask_l, length-chunk, trailing_mask_l}
use Rattle.sh_lanes.proofs.equal_lane.Goals as goal

pub returns-then-mask-eq0 : goal.returns-then-mask-eq0
returns-then-mask-eq0 c =
    let lanes = chunk c.args.at 4 c.args.keys.now in
    let four = length-chunk c.args.at 4 c.args.keys.now c.requires in
    let mask = bitmask_splat w64 (λ a b. a == b) lanes 4 c.args.key four (omega arith) in
    sym (leading_from_mask_l (λ k. k == c.args.key) lanes (sym mask ∙ c.if-mask-eq0.true) ∙ four)

pub returns-else-mask-eq0 : goal.returns-else-mask-eq0
returns-else-mask-eq0 c = search (rules, length-chunk, bitmask_splat, w64, trailing_mask_l)
