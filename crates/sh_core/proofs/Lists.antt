-- The laws over a list of actors, and a list of rights.
use Rattle.std.proofs.Common.{rules, ◌≡◌, ◌≢◌, ℕ, zero, suc, ◌<◌, Bool, true, false, List, [], ◌∷◌, ◌++◌, length, set, Some, refl, sym, ap, ◌∙◌, inl, inr, arith, eq-eqb, eqb-true}
use Rattle.std.{specs.Prelude.{◌==◌, if◌then◌else◌, slice_get}, proofs.lemmas.Option.{slice_get_within}}
use Rattle.sh_logic.proofs.Lists.{slice_get-append_left, slice_get-push_back, slice_get-push_end}
use Rattle.sh_core.{specs.{Actors.{Actor}, Core.{Moves}, Opening.{IsFreeSeat}, Listed.{HasAt, RightOut, OutAt, without}}, proofs.Moves.{moves_from}}

pub set_here : {X : Type 0} (xs : List X) (i : ℕ) (x : X) → i < length xs → slice_get (set xs i x) i ≡ Some x
set_here [] i x lt = absurd (omega (arith, lt))
set_here (y ∷ xs) zero x lt = refl
set_here (y ∷ xs) (suc i) x lt = set_here xs i x (omega (arith, lt))

pub set_else : {X : Type 0} (xs : List X) (i j : ℕ) (x : X) → j ≢ i → slice_get (set xs i x) j ≡ slice_get xs j
set_else [] i j x ne = refl
set_else (y ∷ xs) zero zero x ne = absurd (ne refl)
set_else (y ∷ xs) zero (suc j) x ne = refl
set_else (y ∷ xs) (suc i) zero x ne = refl
set_else (y ∷ xs) (suc i) (suc j) x ne = set_else xs i j x (λ e. ne (ap suc e))

pub set_again : {X : Type 0} (xs : List X) (i : ℕ) (x y : X) → set (set xs i x) i y ≡ set xs i y
set_again [] i x y = refl
set_again (z ∷ xs) zero x y = refl
set_again {X = X} (z ∷ xs) (suc i) x y = ap (λ (ys : List X). z ∷ ys) (set_again xs i x y)

pub set_same : {X : Type 0} (xs : List X) (i : ℕ) (x : X) → slice_get xs i ≡ Some x → set xs i x ≡ xs
set_same [] i x e = refl
set_same (z ∷ xs) zero x e = cc
set_same {X = X} (z ∷ xs) (suc i) x e = ap (λ (ys : List X). z ∷ ys) (set_same xs i x e)

pub none_at : (seat : ℕ) (a : Actor) → slice_get [] seat ≡ Some a → ⊥
none_at seat a h = cc

-- one actor of a list changes
pub list_moves : (actors : List Actor) (seat : ℕ) (a x : Actor) → slice_get actors seat ≡ Some a → Moves (HasAt actors) seat x (HasAt (set actors seat x))
list_moves actors seat a x h = search (rules, set_here, slice_get_within, moves_from, set_else)

-- one joins them
pub push_moves : (actors : List Actor) (x : Actor) → Moves (HasAt actors) (length actors) x (HasAt (actors ++ x ∷ []))
push_moves actors x = search (rules, slice_get-push_back, slice_get_within, slice_get-push_end, slice_get-append_left)

pub end_is_free : (actors : List Actor) → IsFreeSeat (HasAt actors) (length actors)
end_is_free actors a h = let lt = slice_get_within actors (length actors) a h in omega (arith, lt)

-- the rights but one
pub without_back : (rights : List RightOut) (lock l c d : ℕ) → OutAt (without lock rights) l c d → (l ≢ lock) × OutAt rights l c d
without_back [] lock l c d h = absurd h
without_back (r ∷ rights) lock l c d h = by (without_back rights lock l c d) (r.lock == lock) refl h
  where
    by : (OutAt (without lock rights) l c d → (l ≢ lock) × OutAt rights l c d) → (t : Bool) → (r.lock == lock) ≡ t → OutAt (if t then without lock rights else r ∷ without lock rights) l c d → (l ≢ lock) × OutAt (r ∷ rights) l c d
    by rest true e h = let u = rest h in (u.0, inr u.1)
    by rest false e (inl q) = ((λ z. let t = eq-eqb r.lock lock (q.0 ∙ z) in cc), inl q)
    by rest false e (inr k) = let u = rest k in (u.0, inr u.1)

pub without_on : (rights : List RightOut) (lock l c d : ℕ) → l ≢ lock → OutAt rights l c d → OutAt (without lock rights) l c d
without_on [] lock l c d ne h = h
without_on (r ∷ rights) lock l c d ne h = by (without_on rights lock l c d ne) (r.lock == lock) refl h
  where
    by : (OutAt rights l c d → OutAt (without lock rights) l c d) → (t : Bool) → (r.lock == lock) ≡ t → OutAt (r ∷ rights) l c d → OutAt (if t then without lock rights else r ∷ without lock rights) l c d
    by rest true e (inl q) = absurd (ne (sym q.0 ∙ eqb-true r.lock lock e))
    by rest true e (inr k) = rest k
    by rest false e (inl q) = inl q
    by rest false e (inr k) = inr (rest k)
