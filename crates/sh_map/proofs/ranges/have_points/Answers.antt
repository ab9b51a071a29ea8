use Rattle.std.{proofs.Common.{subst, List, ℕ, ◌↔◌}, specs.Prelude.{IsTrue, All}}
use Rattle.sh_map.{specs.Tables.{IsGivenValue}, proofs.PointLemmas.{points_decide}}
use Rattle.sh_map.proofs.ranges.have_points.Goals as goal

pub returns : goal.returns
returns c =
    let m = c.args.before.now in
    let rows = c.args.rows.now in
    let met = c.in_ok-met.met in
    let told = subst (λ (keys : List ℕ). IsTrue c.are_all_given.result ↔ (All (λ r. IsGivenValue m met rows r.key) rows × All (λ key. IsGivenValue m met rows key) keys)) c.deref.ensures.value c.are_all_given.ensures in
    points_decide m c.args.during.now rows c.in_ok-standing.standing.items c.args.low c.args.upto met c.in_ok-met.ensures c.in_ok-standing.ensures.each c.requires.within c.in_ok-standing.ensures.within c.are_all_given.result told
