-- What holds of a list that gains an element, and of a walk over a list, one on.
use Rattle.std.{proofs.{Common.{◌≡◌, ◌↔◌, ◌⊎◌, ℕ, ◌+◌, ◌<◌, List, [], ◌∷◌, ◌++◌, length, get_or, take, inl, inr, sym, ap, subst, ◌∙◌}, lemmas.List.{take_more}}, specs.Prelude.{All, Any, Contains}}
use Rattle.std.proofs.lemmas.List.{Elements.{All-push, All-contains, Contains-push, Contains-push_cases, Contains-append_left, Contains-get_or}, Quantifiers.{Any-push}}

module _ {X : Type 0} where
  pub any_from : (P : X → Type 0) (xs : List X) (x : X) → Contains xs x → P x → Any P xs
  any_from P xs x c p = (c.0, x, c.1, c.2, p)

module _ {X : Type 0} (P : X → Type 0) (xs : List X) (y : X) where
  pub any_push : Any P (xs ++ y ∷ []) ↔ (Any P xs ⊎ P y)
  any_push = (
    λ h. elim (Contains-push_cases xs y h.1 (h.0, h.2, h.3)) [
      | inl old ↦ inl (any_from P xs h.1 old h.4)
      | inr new ↦ inr (subst P (sym new) h.4)
    ],
    λ h. elim h [
      | inl old ↦ any_from P (xs ++ y ∷ []) old.1 (Contains-append_left xs (y ∷ []) old.1 (old.0, old.2, old.3)) old.4
      | inr new ↦ Any-push P xs y new
    ],
  )

  pub all_push : All P (xs ++ y ∷ []) ↔ (All P xs × P y)
  all_push = (
    λ h. (
      λ k d lt. All-contains P (xs ++ y ∷ []) (get_or xs k d) h (Contains-append_left xs (y ∷ []) (get_or xs k d) (Contains-get_or xs k d lt)),
      All-contains P (xs ++ y ∷ []) y h (Contains-push xs y),
    ),
    λ h. All-push P xs y h.0 h.1,
  )

-- the elements up to one that was read, and it
pub one_more : {X : Type 0} (xs : List X) (at : ℕ) (x : X) → at < length xs → x ≡ get_or xs at x → take at xs ++ x ∷ [] ≡ take (at + 1) xs
one_more {X} xs at x in_range read = sym (take_more xs at x in_range ∙ ap (λ (y : X). take at xs ++ y ∷ []) (sym read))
