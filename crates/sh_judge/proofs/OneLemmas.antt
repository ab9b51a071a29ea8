-- Of a text one thing is found.
use Rattle.std.{specs.Prelude.{slice_get}, proofs.{Common.{rules, ◌≡◌, ℕ, zero, suc, ◌<◌, List, [], ◌∷◌, take, refl, sym, ap, ◌∙◌, arith}, lemmas.Bool.{cases_lt}}}
use Rattle.sh_map.{specs.{declared.{log.Entry.{Entry}, book.{Row.{Row}, Done.{Done}}, misfit.Misfit.{Misfit}}, Judge.{IsFirstMisfit, IsLeastUnfit}}, proofs.LawfulLemmas.{no_misfit}}
use Rattle.sh_map.specs.declared.misfit.Misfit.TheVariants as misfit
use Rattle.sh_judge.specs.{declared.finding.Finding.{Finding}, Finding.{AreUnlikeAt, HasMap, IsFinding, IsFoundIn, IsFoundOf, IsWrongMap}, Places.{ArePlaced, IsLeastUnplaced}}
use Rattle.sh_judge.specs.Reading.{Reading, LinesTold, reading_of}

-- the first number of which something doesn't hold is one
first_one : (Good : ℕ → Type 0) (a b : ℕ) → (Good a → ⊥) → (Good b → ⊥) → ((i : ℕ) → i < a → Good i) → ((i : ℕ) → i < b → Good i) → a ≡ b
first_one h0 a b bad worse before earlier = search (rules, cases_lt)

least_one : (Fits : List Done → Done → Type 0) (dones : List Done) (a b : ℕ) → IsLeastUnfit Fits dones a → IsLeastUnfit Fits dones b → a ≡ b
least_one h0 dones a b h k = search rules

module _ (log : List Entry) (dones : List Done) where
  misfit_one : (m n : Misfit) → IsFirstMisfit log dones m → IsFirstMisfit log dones n → m ≡ n
  misfit_one (misfit.Entry a) (misfit.Entry b) h k = ap misfit.Entry (first_one _ a b h.1 k.1 h.2 k.2)
  misfit_one (misfit.Entry a) n h k = absurd (h.1 (k.0 a h.0))
  misfit_one m (misfit.Entry b) h k = absurd (k.1 (h.0 b k.0))
  misfit_one (misfit.Reply a) (misfit.Reply b) h k = ap misfit.Reply (least_one _ dones a b h.1 k.1)
  misfit_one (misfit.Reply a) n h k = let s = h.1.some in absurd (s.4 (k.1 s.0 s.1 s.2))
  misfit_one m (misfit.Reply b) h k = let s = k.1.some in absurd (s.4 (h.1 s.0 s.1 s.2))
  misfit_one (misfit.Row a) (misfit.Row b) h k = ap misfit.Row (least_one _ dones a b h.2 k.2)
  misfit_one (misfit.Row a) n h k = let s = h.2.some in absurd (s.4 (k.2 s.0 s.1 s.2))
  misfit_one m (misfit.Row b) h k = let s = k.2.some in absurd (s.4 (h.2 s.0 s.1 s.2))
  misfit_one (misfit.Order a) (misfit.Order b) h k = ap misfit.Order (least_one _ dones a b h.3 k.3)

slice_get-take : {X : Type 0} (xs : List X) (n i : ℕ) → i < n → slice_get (take n xs) i ≡ slice_get xs i
slice_get-take xs zero i lt = absurd (omega arith)
slice_get-take [] (suc n) i lt = refl
slice_get-take (x ∷ xs) (suc n) zero lt = refl
slice_get-take (x ∷ xs) (suc n) (suc i) lt = slice_get-take xs n i (omega arith)

unlike_first : {X : Type 0} (xs ys : List X) (a b : ℕ) → AreUnlikeAt xs ys a → take b xs ≡ take b ys → a < b → ⊥
unlike_first xs ys a b h same lt = h.here (sym (slice_get-take xs b a lt) ∙ ap (λ l. slice_get l a) same ∙ slice_get-take ys b a lt)

unlike_one : {X : Type 0} (xs ys : List X) (a b : ℕ) → AreUnlikeAt xs ys a → AreUnlikeAt xs ys b → a ≡ b
unlike_one xs ys a b h k = search (rules, cases_lt, unlike_first)

module _ (t : LinesTold) (lines : ℕ) where
  unplaced : (a : ℕ) → IsLeastUnplaced t.dones a → ArePlaced t.dones → ⊥
  unplaced a h placed = h.unplaced (placed a h.below)

  no_wrong : (a : ℕ) (rows : List Row) → IsWrongMap t rows lines a → HasMap t rows → ⊥
  no_wrong a rows h h3 = search rules

  found_one : (f g : Finding) → IsFoundIn t lines f → IsFoundIn t lines g → f ≡ g
  found_one f g h k = search (rules, first_one, unplaced, misfit_one, no_misfit, unlike_one, no_wrong)

one_of_reading : (r : Reading) (f g : Finding) → IsFoundOf r f → IsFoundOf r g → f ≡ g
one_of_reading r f g h k = search (rules, found_one)

pub findings_one : (words : ℕ) (text : List ℕ) (f g : Finding) → IsFinding words text f → IsFinding words text g → f ≡ g
unfolding IsFinding
findings_one words text f g h k = one_of_reading (reading_of words text) f g h k
