-- The least number of a call that breaks a rule, and what a book is that breaks none.
use Rattle.std.proofs.Common.{rules, ◌≡◌, ◌↔◌, ◌⊎◌, ℕ, Bool, ◌+◌, ◌<◌, ◌≤◌, List, [], ◌∷◌, ◌++◌, length, get_or, take, Option, Some, None, min, MatchOption, inl, inr, refl, sym, ap, subst, ◌∙◌, arith}
use Rattle.std.{specs.Prelude.{slice_get, IsTrue}, proofs.lemmas.{List.{take-append-le, take_all, get_or_default}, Bool.{cases_lt}, Option.{slice_get_within, slice_get-get_or}}}
use Rattle.sh_logic.proofs.Lists.{slice_get-append_left, slice_get-push_back, slice_get-push_end}
use Rattle.sh_map.{specs.{declared.book.Done.{Done}, Judge.{AllFit, IsLeastUnfit}, Tables.{AreKept}}, proofs.WalkLemmas.{one_more}}

-- the least so far of the calls that break the rule
abbrev pub SoFar : (List Done → Done → Type 0) → List Done → Option ℕ → Type 0
SoFar Fits dones least = MatchOption least (AllFit Fits dones) (λ n. IsLeastUnfit Fits dones n)

module _ (Fits : List Done → Done → Type 0) (xs : List Done) (d : Done) where
  -- the calls before a place stay the same
  before_stays : (i : ℕ) → i ≤ length xs → take i (xs ++ d ∷ []) ≡ take i xs
  before_stays i h = take-append-le i xs (d ∷ []) h

  -- a call that breaks it in the longer list is an old one or the new one
  breaks_back : (i : ℕ) (x : Done) → slice_get (xs ++ d ∷ []) i ≡ Some x → (Fits (take i (xs ++ d ∷ [])) x → ⊥) → ((slice_get xs i ≡ Some x) × (Fits (take i xs) x → ⊥)) ⊎ ((d ≡ x) × (Fits xs d → ⊥))
  breaks_back i x here breaks = search (rules, slice_get-push_back, before_stays, slice_get_within, take_all)

  fits_forth : (i : ℕ) (x : Done) → slice_get xs i ≡ Some x → (Fits (take i xs) x → ⊥) → Fits (take i (xs ++ d ∷ [])) x → ⊥
  fits_forth i x here breaks fits = breaks (subst (λ l. Fits l x) (before_stays i (omega (arith, slice_get_within xs i x here))) fits)

  least_kept : (n m : ℕ) → IsLeastUnfit Fits xs n → m ≡ n → ((Fits xs d → ⊥) → m ≤ d.n) → IsLeastUnfit Fits (xs ++ d ∷ []) m
  least_kept n m h is new = record {
    some = (h.some.0, h.some.1, slice_get-append_left xs (d ∷ []) _ _ h.some.2, h.some.3 ∙ sym is, fits_forth _ _ h.some.2 h.some.4);
    least = λ i x here breaks. elim (breaks_back i x here breaks) [
      | inl old ↦ omega (arith, h.least i x old.0 old.1)
      | inr last ↦ omega (arith, new last.1, ap (λ (y : Done). y.n) last.0)
    ];
  }

  least_new : (m : ℕ) → m ≡ d.n → (Fits xs d → ⊥) → ((i : ℕ) (x : Done) → slice_get xs i ≡ Some x → (Fits (take i xs) x → ⊥) → m ≤ x.n) → IsLeastUnfit Fits (xs ++ d ∷ []) m
  least_new m is breaks old = record {
    some = (length xs, d, slice_get-push_end xs d, sym is, λ fits. breaks (subst (λ l. Fits l d) (before_stays (length xs) (omega arith) ∙ take_all (length xs) xs (omega arith)) fits));
    least = λ i x here unfit. elim (breaks_back i x here unfit) [
      | inl before ↦ old i x before.0 before.1
      | inr last ↦ omega (arith, ap (λ (y : Done). y.n) last.0)
    ];
  }

  pub so_far_fit : (least : Option ℕ) → SoFar Fits xs least → Fits xs d → SoFar Fits (xs ++ d ∷ []) least
  so_far_fit None h fits = λ i x here. elim (slice_get-push_back xs d x i here) [
    | inl old ↦ subst (λ l. Fits l x) (sym (before_stays i (omega (arith, slice_get_within xs i x old)))) (h i x old)
    | inr new ↦ subst (λ l. Fits l x) (sym (ap (λ k. take k (xs ++ d ∷ [])) new.0 ∙ before_stays (length xs) (omega arith) ∙ take_all (length xs) xs (omega arith))) (subst (Fits xs) new.1 fits)
  ]
  so_far_fit (Some n) h fits = least_kept n n h refl (λ breaks. absurd (breaks fits))

  pub so_far_unfit : (least : Option ℕ) (m : ℕ) → SoFar Fits xs least → (Fits xs d → ⊥) → MatchOption least (m ≡ d.n) (λ n. m ≡ min n d.n) → SoFar Fits (xs ++ d ∷ []) (Some m)
  so_far_unfit None m h breaks is = least_new m is breaks (λ i x here unfit. absurd (unfit (h i x here)))
  so_far_unfit (Some n) m h breaks is = elim (cases_lt n d.n) [
    | inl lower ↦ least_kept n m h (omega arith) (λ _. omega arith)
    | inr higher ↦ least_new m (omega arith) breaks (λ i x here unfit. omega (arith, h.least i x here unfit))
  ]

-- a walk over the calls, one on, which was read
module _ (Fits : List Done → Done → Type 0) (dones : List Done) (at : ℕ) (d : Done) (in_range : at < length dones) (read : d ≡ get_or dones at d) where
  pub more_fit : (least : Option ℕ) → SoFar Fits (take at dones) least → Fits (take at dones) d → SoFar Fits (take (at + 1) dones) least
  more_fit least h fits = subst (λ (l : List Done). SoFar Fits l least) (one_more dones at d in_range read) (so_far_fit Fits (take at dones) d least h fits)

  pub more_unfit : (least : Option ℕ) (m : ℕ) → SoFar Fits (take at dones) least → (Fits (take at dones) d → ⊥) → MatchOption least (m ≡ d.n) (λ n. m ≡ min n d.n) → SoFar Fits (take (at + 1) dones) (Some m)
  more_unfit least m h breaks is = subst (λ (l : List Done). SoFar Fits l (Some m)) (one_more dones at d in_range read) (so_far_unfit Fits (take at dones) d least m h breaks is)

-- what was kept of a call that was read
pub kept_at : (Fits : List Done → Done → Type 0) (dones : List Done) (kept : List Bool) (at : ℕ) (d : Done) (b : Bool) → AreKept Fits dones kept → at < length dones → d ≡ get_or dones at d → b ≡ get_or kept at b → IsTrue b ↔ Fits (take at dones) d
kept_at h0 dones kept at d b h in_range read is = search (rules, get_or_default, slice_get-get_or)
