-- The steps of verbs keep to their node.
use Rattle.std.proofs.Common.{rules, ◌≡◌, ℕ, ◌+◌, ◌-◌, ◌*◌, ◌%◌, ◌<◌, ◌≤◌, Bool, refl, sym, arith}
use Rattle.std.proofs.{lemmas.{Nat.{div_below, mod_below}}, Math.Nat.{mul-le-mul_right, mul_assoc}}
use Rattle.sh_base.specs.declared.{config.ConfigParts.{ConfigParts}, plan.{Place.TheVariants.{Body, Lock}, ReadPlan.{ReadPlan}, WritePlan.{WritePlan}}}
use Rattle.sh_base.specs.{Setting.{all_locks, node_size, IsNode, IsSetting}, Layout.{node_word, lock_word, lock_of, server_of}}
use Rattle.sh_base.{specs.Plans.{IsReadOf, FallsOver, IsWriteOf, RisesOver, rising, steps_with, unlocked_word}, proofs.LayoutLemmas.{node_size_is}}

pub falls_over : (p : ConfigParts) (n : ℕ) (plan : ReadPlan) → IsReadOf p n plan → FallsOver p n plan
falls_over p n plan h step below = (omega (arith, node_size_is p), rw (h.0, h.1) refl)

-- a node's server and lock are the setting's
server_below : (p : ConfigParts) (n : ℕ) → IsSetting p → IsNode p n → server_of p n < p.servers
unfolding server_of
server_below p n lawful h =
    let all : (n - 1) < p.servers * (p.chunks * p.chunk_nodes) = rw (sym (mul_assoc p.servers p.chunks p.chunk_nodes)) (omega (arith, h.first, h.last)) in
    div_below (n - 1) (p.chunks * p.chunk_nodes) p.servers (grind (arith, lawful.ranged.chunks, lawful.ranged.chunk_nodes)) all

pub lock_below : (p : ConfigParts) (n : ℕ) → IsSetting p → IsNode p n → lock_of p n < all_locks p
unfolding lock_of
lock_below p n lawful h =
    let row : (server_of p n + 1) * p.locks ≤ p.servers * p.locks = mul-le-mul_right p.locks (omega (arith, server_below p n lawful h)) in
    let place : ((n - 1) % (p.chunks * p.chunk_nodes)) % p.locks < p.locks = mod_below _ _ (omega (arith, lawful.ranged.locks)) in
    omega (arith, row, place)

-- a step behind the body, of a WRITE that gives the lock back or doesn't
module _ (p : ConfigParts) (n offset count : ℕ) where
  body_step : (unlock : Bool) (step : ℕ) → step < count → rising (node_word p n) offset count (unlocked_word p n unlock) step ≡ Body (node_word p n + (offset + step)) (offset + step)
  body_step unlock step h = search rules

  last_step : (unlock : Bool) (step : ℕ) → count ≤ step → step < steps_with count (unlocked_word p n unlock) → rising (node_word p n) offset count (unlocked_word p n unlock) step ≡ Lock (lock_word p (lock_of p n))
  last_step unlock step h below = search rules

  pub rises_over : (unlock : Bool) (plan : WritePlan) → IsSetting p → IsNode p n → offset + count ≤ node_size p → IsWriteOf p n offset count unlock plan → RisesOver p n offset count plan
  rises_over unlock plan lawful node inside h = record {
    body = λ step below. (omega arith, rw (h.0, h.1, h.2, h.3) (body_step unlock step below));
    last = λ step behind below. (
      lock_below p n lawful node,
      rw (h.0, h.1, h.2, h.3) (last_step unlock step behind (rw (h.2, h.3) at below)),
    );
  }
