-- The steps that keep the rule of the shelf.
use Rattle.std.proofs.Common.{◌≡◌, ◌≢◌, ℕ, List, [], ◌∷◌, ◌++◌, set, refl, sym, subst, ◌∙◌, ap, ⊎_elim}
use Rattle.std.specs.List.{AllByRecursion}
use mathlib.Core.Option.{some, some-ne-none}
use lib.ListN.{get_elem?}
use Rattle.left_right.specs.Register.{Admits, Forks, Merges, Turns, TurnsAt}
use Rattle.atomic_table.proofs.Lists.{at_set, at_snoc}
use Rattle.sh_logic.proofs.Lists.{all_join, all_weaker}
use Rattle.sh_shelf.specs.{Shelf.{shelf_of}, Book.{Fronted}, Racked.{Racked, Holds, IsSame, IsShown, Sees, Puts}}

abbrev AreKnown : Racked → List (List Racked) → Type 0
AreKnown x views = (seat : ℕ) (v : List Racked) → get_elem? views seat ≡ some v → AllByRecursion (IsSame x) v

module _ (x : Racked) (views : List (List Racked)) (w : List Racked) (all : AreKnown x views) (k : AllByRecursion (IsSame x) w) where
  known_set : (seat : ℕ) → AreKnown x (set views seat w)
  known_set seat j u e = ⊎_elim (λ (t : (j ≡ seat) × (w ≡ u)). subst (AllByRecursion (IsSame x)) t.1 k) (λ (t : (j ≢ seat) × (get_elem? views j ≡ some u)). all j u t.1) (at_set views seat j w u e)

  known_more : AreKnown x (views ++ w ∷ [])
  known_more j u e = ⊎_elim (all j u) (λ (t : w ≡ u). subst (AllByRecursion (IsSame x)) t k) (at_snoc views w u j e)

pub admits : Admits Holds []
admits x views h = record { shown = h.shown; known = known_more x views [] h.known tt }

self_same : (x : Racked) → AllByRecursion (IsSame x) (x ∷ [])
self_same x = (record { room = refl; book = refl }, tt)

pub looks : (seat : ℕ) (v : List Racked) → Turns Holds seat v (λ x. x) (λ v x y w. Sees v y w)
looks seat v x views h at = (
  x ∷ [],
  record { shown = h.shown; known = known_set x views (x ∷ []) h.known (self_same x) seat },
  record { shown = h.shown; same = h.known seat v at; known = refl },
)

pub puts : (seat : ℕ) (v : List Racked) (x y : Racked) → IsSame y x → IsShown y → TurnsAt Holds seat v x y Puts
puts seat v x y s shown views h at =
    let now : AreKnown y views = λ j u e. all_weaker (IsSame x) (IsSame y) u (λ b k. record { room = k.room ∙ s.room; book = k.book ∙ s.book }) (h.known j u e) in
    (y ∷ [], record { shown = shown; known = known_set y views (y ∷ []) now (self_same y) seat }, refl)

pub forks : (seat : ℕ) (v : List Racked) → Forks Holds seat v v v
forks seat v x views h at =
    let k = h.known seat v at in
    record { shown = h.shown; known = known_more x (set views seat v) v (known_set x views v h.known k seat) k }

pub merges : (seat : ℕ) (v : List Racked) (other : ℕ) (w : List Racked) → Merges Holds seat v other w (w ++ v) []
merges seat v other w x views h at apart there =
    let theirs : AllByRecursion (IsSame x) w = ⊎_elim (λ (t : (other ≡ seat) × (w ++ v ≡ w)). absurd (apart t.0)) (λ (t : (other ≢ seat) × (get_elem? views other ≡ some w)). h.known other w t.1) (at_set views seat other (w ++ v) w there) in
    let both = all_join (IsSame x) w v theirs (h.known seat v at) in
    record { shown = h.shown; known = known_set x (set views seat (w ++ v)) [] (known_set x views (w ++ v) h.known both seat) tt other }

pub new_holds : (x : Racked) → IsShown x → Holds x ([] ∷ [])
new_holds x shown = record { shown = shown; known = known_more x [] [] (λ seat v e. absurd (some-ne-none v (sym e))) tt }

pub fresh_shown : (room : ℕ) (front : Fronted) → front.log ≡ [] → IsShown (record { room = room; rows = []; front = front })
unfolding shelf_of
fresh_shown room front none = record { rows = ap (shelf_of room) (sym none) }
