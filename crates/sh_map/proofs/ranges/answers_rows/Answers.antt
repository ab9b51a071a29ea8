use Rattle.std.proofs.Common.{rules, refl}
use Rattle.sh_map.{proofs.{RangeLemmas.{is_rising}, PointLemmas.{range_decides}}}
use Rattle.sh_map.proofs.ranges.answers_rows.Goals as goal

pub have_points-requires-clause-rising : goal.have_points-requires-clause-rising
have_points-requires-clause-rising c = is_rising c.as_slice-rows.result.now (c.if-not-are_rising.ensures.0 refl)

pub returns : goal.returns
returns c = search (rules, range_decides)
