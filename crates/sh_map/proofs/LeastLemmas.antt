-- The least point of a reply is the first at which the map has this at the key.
use Rattle.std.{proofs.Common.{rules, ◌≡◌, ◌≢◌, ℕ, zero, suc, ◌+◌, ◌-◌, ◌<◌, ◌≤◌, Bool, true, false, List, length, Option, refl, subst, arith}, specs.Prelude.{if◌then◌else◌}}
use mathlib.Core.Logic.{dite}
use native.Mathlib.Decide.{ℕ_discrete}
use Rattle.std.proofs.lemmas.Slice.Eq.{bytes_eq-Decides}
use Rattle.sh_map.specs.{declared.log.Entry.{Entry}, Map.{get}, Log.{map_at}, Points.{had_same, least_from, least_point, IsLeastPoint}}

same_is : (a b : Option (List ℕ)) → had_same a b ≡ true → a ≡ b
same_is a b e = search (rules, bytes_eq-Decides)

is_same : (a b : Option (List ℕ)) → a ≡ b → had_same a b ≡ true
is_same a b e = search (rules, bytes_eq-Decides)

module _ (log : List Entry) (first key : ℕ) (had : Option (List ℕ)) where
  abbrev At : ℕ → Type 0
  At q = get (map_at log q) key ≡ had

  -- from p on, where there is one among the next, the least of these has it, and none before
  least_found : (count p n : ℕ) → p ≤ n → n ≤ p + count → At n → first ≤ p → n ≤ length log → ((q : ℕ) → first ≤ q → q < p → At q → ⊥) → IsLeastPoint log first key had (least_from log key had count p)
  least_found zero p n a b h f w none =
      let e : n ≡ p = omega (arith, a, b) in
      record { from = f; within = omega (arith, a, w); here = subst At e h; least = none }
  least_found (suc count) p n a b h f w none = by_test (λ ne less. least_found count (suc p) n (omega (arith, a, ne)) (omega (arith, b)) h (omega (arith, f)) w less) (had_same (get (map_at log p) key) had) refl
    where
      differ : (t : Bool) → t ≡ true → t ≡ false → ⊥
      differ t x y = cc

      by_test : (n ≢ p → ((q : ℕ) → first ≤ q → q < suc p → At q → ⊥) → IsLeastPoint log first key had (least_from log key had count (suc p))) → (t : Bool) → had_same (get (map_at log p) key) had ≡ t
          → IsLeastPoint log first key had (if t then p else least_from log key had count (suc p))
      by_test next true e = record { from = f; within = omega (arith, a, w); here = same_is (get (map_at log p) key) had e; least = none }
      by_test next false e =
          let away : At p → ⊥ = λ q. differ (had_same (get (map_at log p) key) had) (is_same (get (map_at log p) key) had q) e in
          next (λ q. away (subst At q h)) (λ q from lt. dite (ℕ_discrete q p) (λ (z : q ≡ p). λ k. away (subst At z k)) (λ (z : q ≢ p). none q from (omega (arith, lt, z))))

  pub least_is : (n : ℕ) → first ≤ n → n ≤ length log → At n → IsLeastPoint log first key had (least_point log first key had)
  least_is n a w h = least_found (length log - first) first n a (omega (arith, w)) h (omega arith) w (λ q from lt. absurd (omega (arith, from, lt)))
