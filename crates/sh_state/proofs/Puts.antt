-- Functions that are changed at one number, and what a store leaves of the words that are shown.
use Rattle.std.proofs.Common.{rules, ◌≡◌, ◌≢◌, ℕ, ◌<◌, List, length, get_or, set, refl, ap, sym, ◌∙◌, arith, length-set, get_or-set_same, get_or-set_other, ne_eqb, eq-eqb}
use mathlib.Core.Logic.{dite}
use native.Mathlib.Decide.{ℕ_discrete}
use Rattle.sh_base.{specs.{declared.config.ConfigParts.{ConfigParts}, Places.{Site, address, IsSite}}, proofs.PlacesLemmas.{are_places_apart}}
use Rattle.sh_state.specs.TreeState.{put, Shows}

pub put_here : {A : Type 0} (f : ℕ → A) (n : ℕ) (x : A) → put f n x n ≡ x
put_here f n x = rw (eq-eqb n n refl)

pub put_else : {A : Type 0} (f : ℕ → A) (n : ℕ) (x : A) (m : ℕ) → m ≢ n → put f n x m ≡ f m
put_else f n x m ne = rw (ne_eqb m n ne)

-- what holds of a changed function at a number
pub put_case : {A : Type 0} (P : A → Type 0) (f : ℕ → A) (n : ℕ) (x : A) (m : ℕ) → (m ≡ n → P x) → (m ≢ n → P (f m)) → P (put f n x m)
put_case h0 f n x m here away = search (rules, put_here, put_else)

module _ (p : ConfigParts) (words : List ℕ) (f : Site → ℕ) (s : Shows p words f) where
  -- the same words show what is equal place by place
  pub shows_same : (g : Site → ℕ) → ((a : Site) → IsSite p a → f a ≡ g a) → Shows p words g
  shows_same g same = record { size = s.size; each = λ a is. s.each a is ∙ same a is }

  -- a store at a place
  pub shows_store : (g : Site → ℕ) (a : Site) (x : ℕ) → IsSite p a → g a ≡ x → ((b : Site) → IsSite p b → b ≢ a → f b ≡ g b) → Shows p (set words (address p a) x) g
  shows_store g a x is here others = record {
    size = length-set words (address p a) x ∙ s.size;
    each = λ b ib. dite (ℕ_discrete (address p b) (address p a))
        (λ (e : address p b ≡ address p a).
        let q : b ≡ a = (are_places_apart p).apart b a ib is e in
        let lt : address p a < length words = omega (arith, s.size, (are_places_apart p).within a is) in
        ap (λ (k : ℕ). get_or (set words (address p a) x) k 0) e ∙ get_or-set_same words (address p a) x 0 lt ∙ sym here ∙ ap g (sym q))
        (λ (ne : address p b ≢ address p a). get_or-set_other words (address p a) (address p b) x 0 ne ∙ s.each b ib ∙ others b ib (λ q. ne (ap (address p) q)));
  }
