-- A WRITE of a node, one store more.
use Rattle.std.proofs.{Common.{rules, ◌≡◌, ◌⊎◌, ℕ, ◌+◌, ◌<◌, ◌≤◌, List, length, get_or, set, refl, arith}, lemmas.{Bool.{cases_eq}, List.{get_or-set_same, get_or-set_other}}}
use Rattle.std.specs.Prelude.{false}
use Rattle.sh_base.specs.{declared.{config.ConfigParts.{ConfigParts}, plan.{Place.TheVariants.{Body}, WritePlan.{WritePlan}}}, Layout.{node_word}, Plans.{IsWriteOf, place_of, write_steps}}

-- a WRITE that gives no lock back stores each word of its node
pub body_of : (p : ConfigParts) (n count : ℕ) (plan : WritePlan) (step : ℕ) → IsWriteOf p n 0 count false plan → place_of plan step ≡ Body (node_word p n + step) step
body_of p n count plan step h = let none : 0 + step ≡ step = omega arith in rw (h.0, h.1, h.2, h.3, none) refl

pub steps_of : (p : ConfigParts) (n count : ℕ) (plan : WritePlan) → IsWriteOf p n 0 count false plan → write_steps plan ≡ count
steps_of p n count plan h = rw (h.2, h.3) refl

pub body_is : (at offset at' offset' : ℕ) → Body at offset ≡ Body at' offset' → (at ≡ at') × (offset ≡ offset')
body_is at offset at' offset' e = (cc, cc)

module _ (old words from : List ℕ) (first step : ℕ) where
  pub stored_more : (at offset : ℕ) → at ≡ first + step → offset ≡ step → first + step < length words → ((o : ℕ) → o < step → get_or words (first + o) 0 ≡ get_or from o 0) → (o : ℕ) → o < step + 1 → get_or (set words at (get_or from offset 0)) (first + o) 0 ≡ get_or from o 0
  stored_more at offset e f inside before o below = search (rules, cases_eq, get_or-set_same, get_or-set_other)

  pub others_more : (at word : ℕ) → at ≡ first + step → ((i : ℕ) → (i < first) ⊎ (first + step ≤ i) → get_or words i 0 ≡ get_or old i 0) → (i : ℕ) → (i < first) ⊎ (first + (step + 1) ≤ i) → get_or (set words at word) i 0 ≡ get_or old i 0
  others_more at word e before i out = search (rules, get_or-set_other)
