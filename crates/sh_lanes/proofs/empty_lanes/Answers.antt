use Rattle.std.proofs.Common.{rules, w64}
use Rattle.std.proofs.lemmas.Simd.{bitmask_splat, length-chunk, ones-mask_l}
use Rattle.sh_lanes.proofs.LaneLemmas.{empty_counted}
use Rattle.sh_lanes.proofs.empty_lanes.Goals as goal

pub returns : goal.returns
returns c = search (rules, length-chunk, bitmask_splat, w64, ones-mask_l, empty_counted)
