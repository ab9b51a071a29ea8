-- The rows of a cache, as images in hand.
use Rattle.std.{proofs.Common.{◌≡◌, ℕ, zero, suc, ◌<◌, ◌≤◌, true, List, [], ◌∷◌, Some, sym, subst, arith}, specs.Prelude.{slice_get}}
use Rattle.std.{specs.List.{AllByRecursion}, proofs.lemmas.Bool.Decides.{nat_tests}}
use Rattle.sh_base.specs.declared.config.ConfigParts.{ConfigParts}
use Rattle.sh_image.specs.{declared.inner.Image.TheVariants.{Inner as InnerImage}, Inner.{Inner}}
use Rattle.sh_cache.specs.Cached.{covers, FoundBy}
use Rattle.sh_state.specs.{TreeState.{Linked, Owner, TreeState}, Change.{ChangeFor}}
use Rattle.sh_readers.{specs.Hand.{IsImageOf, AreRowsOf}, proofs.HandLemmas.{image_linked}}

pub all_get : (P : Inner → Type 0) (xs : List Inner) (i : ℕ) (x : Inner) → AllByRecursion P xs → slice_get xs i ≡ Some x → P x
all_get P [] i x h e = absurd (cc)
all_get P (y ∷ xs) zero x h e = subst P (cc) h.0
all_get P (y ∷ xs) (suc i) x h e = all_get P xs i x h.1 e

covering : (r : Inner) (key : ℕ) → covers r key ≡ true → (r.low ≤ key) × (key < r.high)
covering r key e = (grind (arith, nat_tests), grind (arith, nat_tests))

pub rows_linked : (p : ConfigParts) (s t : TreeState) → ((n l a : ℕ) → s.class n ≡ Linked l a → t.class n ≡ Linked l a) → (rows : List Inner) → AreRowsOf s rows → AreRowsOf t rows
rows_linked p s t linked [] h = tt
rows_linked p s t linked (r ∷ rows) h = (image_linked p s t linked 1 r.low (InnerImage r) h.0, rows_linked p s t linked rows h.1)

pub rows_on : (p : ConfigParts) (Other : Owner → Type 0) (s t : TreeState) → ChangeFor p Other s t → (rows : List Inner) → AreRowsOf s rows → AreRowsOf t rows
rows_on p Other s t ch rows h = rows_linked p s t ch.linked rows h

-- an image has its own low fence
pub own_low : (s : TreeState) (low : ℕ) (row : Inner) → IsImageOf s 1 low (InnerImage row) → IsImageOf s 1 row.low (InnerImage row)
own_low s low row h = subst (λ (k : ℕ). IsImageOf s 1 k (InnerImage row)) (sym h.low_is) h

pub row_found : (s : TreeState) (key : ℕ) (rows : List Inner) (row : Inner) → AreRowsOf s rows → FoundBy rows key (Some row) → IsImageOf s 1 row.low (InnerImage row) × (row.low ≤ key) × (key < row.high)
row_found s key rows row h f = let c = covering row key f.covering in (all_get (λ (r : Inner). IsImageOf s 1 r.low (InnerImage r)) rows f.index row h f.here, c.0, c.1)
