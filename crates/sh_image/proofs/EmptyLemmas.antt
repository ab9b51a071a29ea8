-- Words are all 0 exactly where as many are 0 as there are.
use Rattle.std.{proofs.{Common.{◌≡◌, ◌≤◌, ℕ, zero, suc, List, [], ◌∷◌, length, refl, ap, ◌∙◌, arith}, lemmas.Bool.Decides.{nat_tests}}, specs.Prelude.{◌↔◌, replicate}}
use Rattle.sh_lanes.specs.Scans.{count_empty}

few : (ws : List ℕ) → count_empty ws ≤ length ws
few [] = omega arith
few (zero ∷ ws) = omega (arith, few ws)
few (suc w ∷ ws) = grind (arith, nat_tests, few ws)

all_empty : (ws : List ℕ) → count_empty ws ≡ length ws → ws ≡ replicate (length ws) 0
all_empty [] h = refl
all_empty (zero ∷ ws) h = ap (λ l. 0 ∷ l) (all_empty ws (omega arith))
all_empty (suc w ∷ ws) h = grind (arith, nat_tests, few ws)

empty_all : (n : ℕ) → count_empty (replicate n 0) ≡ n
empty_all zero = refl
empty_all (suc n) = omega (arith, empty_all n)

pub empty_exactly : (ws : List ℕ) → (count_empty ws ≡ length ws) ↔ (ws ≡ replicate (length ws) 0)
empty_exactly ws = (all_empty ws, λ e. ap count_empty e ∙ empty_all (length ws))
