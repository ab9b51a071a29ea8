use Rattle.std.proofs.Common.{◌≡◌, ◌≢◌, arith}
use Rattle.sh_map.specs.Log.{change_key}
use Rattle.sh_world.proofs.{PointLemmas.{ends, finds, other, passes}, points.least_point.Goals.{then-key+else-same, else-key}}
use Rattle.sh_world.proofs.points.least_point.Goals as goal

pub returns-then-same : goal.returns-then-same
returns-then-same c =
    let is : c.args.key ≡ change_key c.index-log-at.result.change = omega (arith, c.if-key.true, c.key.ensures) in
    finds _ _ _ _ c.requires.legal _ _ c.index-log-at.result (omega (arith, c.loop-at-test.true, c.loop-at.auto.at-end)) c.index-log-at.is c.loop-at.invariant is (c.same.ensures.0 c.if-same.true)

pub loop-at-preserved : goal.loop-at-preserved
loop-at-preserved c =
    let lt = c.loop-at-test.true in
    let e = c.index-log-at.result in
    elim c.if-key.branch [
      | then-key+else-same w ↦
          let is : c.args.key ≡ change_key e.change = omega (arith, w.if-key.true, c.key.ensures) in
          rw w.start-is (passes _ _ _ _ c.requires.legal _ _ e lt c.index-log-at.is c.loop-at.invariant is (λ q. let t = w.same.ensures.1 q in let f = w.if-same.false in cc))
      | else-key w ↦
          let ne : c.args.key ≢ change_key e.change = λ q. absurd (omega (arith, q, w.if-key.false, c.key.ensures)) in
          rw w.start-is (other _ _ _ _ c.requires.legal _ _ e lt c.index-log-at.is c.loop-at.invariant ne)
    ]

pub returns : goal.returns
returns c = ends _ _ _ _ _ _ c.loop-at.invariant (omega (arith, c.loop-at-test.false)) c.requires.had
