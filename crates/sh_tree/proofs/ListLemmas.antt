-- Lists of node numbers: what is in them, and how many there are.
use Rattle.std.{specs.Prelude.{◌||◌}, proofs.Common.{◌≡◌, ◌≢◌, ◌⊎◌, ℕ, ◌+◌, ◌<◌, ◌≤◌, Bool, true, false, cond, eqb, List, [], ◌∷◌, ◌++◌, length, refl, sym, subst, ◌∙◌, inl, inr, arith}}
use Rattle.std.{specs.List.{list_any, AllByRecursion, IsDistinct}, proofs.lemmas.{Bool.{cases_eq, eq-eqb}, Map.Steps.{length-le_from_distinct_below}}}
use Rattle.sh_logic.proofs.Tests.{differ_test}
use Rattle.sh_base.specs.{declared.config.ConfigParts.{ConfigParts}, Setting.{nodes, IsNode}}
use Rattle.sh_tree.specs.Lists.{is_in, outside, AreDifferent}

pub in_head : (n : ℕ) (ns : List ℕ) → is_in (n ∷ ns) n ≡ true
in_head n ns = rw (eq-eqb n n refl) refl

pub in_tail : (m n : ℕ) (ns : List ℕ) → m ≢ n → is_in (m ∷ ns) n ≡ is_in ns n
in_tail m n ns differ = rw (differ_test m n differ) refl

pub in_more : (m n : ℕ) (ns : List ℕ) → is_in ns n ≡ true → is_in (m ∷ ns) n ≡ true
in_more m n ns h = elim (cases_eq m n) [ inl e ↦ rw (eq-eqb m n e) refl | inr ne ↦ in_tail m n ns ne ∙ h ]

-- an element of a list is its first, or among the rest
pub in_cases : (m n : ℕ) (ns : List ℕ) → is_in (m ∷ ns) n ≡ true → (m ≡ n) ⊎ (is_in ns n ≡ true)
in_cases m n ns h = elim (cases_eq m n) [ inl e ↦ inl e | inr ne ↦ inr (sym (in_tail m n ns ne) ∙ h) ]

pub in_front : (xs ys : List ℕ) (n : ℕ) → is_in xs n ≡ true → is_in (xs ++ ys) n ≡ true
in_front [] ys n h = absurd (cc)
in_front (x ∷ xs) ys n h = elim (in_cases x n xs h) [
  | inl e ↦ rw (eq-eqb x n e) refl
  | inr rest ↦ in_more x n (xs ++ ys) (in_front xs ys n rest)
]

-- both parts of a list without repeats are without
not_front : (xs ys : List ℕ) (n : ℕ) → is_in (xs ++ ys) n ≡ false → is_in xs n ≡ false
not_front [] ys n h = refl
not_front (x ∷ xs) ys n h = elim (cases_eq x n) [
  | inl e ↦ absurd (let is : is_in (x ∷ (xs ++ ys)) n ≡ true = rw (eq-eqb x n e) refl in cc)
  | inr ne ↦ in_tail x n xs ne ∙ not_front xs ys n (sym (in_tail x n (xs ++ ys) ne) ∙ h)
]

pub different_front : (xs ys : List ℕ) → AreDifferent (xs ++ ys) → AreDifferent xs
different_front [] ys h = tt
different_front (x ∷ xs) ys h = (not_front xs ys x h.0, different_front xs ys h.1)

pub different_behind : (xs ys : List ℕ) → AreDifferent (xs ++ ys) → AreDifferent ys
different_behind [] ys h = h
different_behind (x ∷ xs) ys h = different_behind xs ys h.1

-- ---- there are no more nodes than the pool has
apart_from : (n : ℕ) (ns : List ℕ) → is_in ns n ≡ false → AllByRecursion (λ y. eqb n y ≡ false) ns
apart_from n [] h = tt
apart_from n (m ∷ ns) h = elim (cases_eq m n) [
  | inl e ↦ absurd (let is : is_in (m ∷ ns) n ≡ true = rw (eq-eqb m n e) refl in cc)
  | inr ne ↦ (differ_test n m (λ e. ne (sym e)), apart_from n ns (sym (in_tail m n ns ne) ∙ h))
]

distinct : (ns : List ℕ) → AreDifferent ns → IsDistinct eqb ns
unfolding IsDistinct
distinct [] h = tt
distinct (n ∷ ns) h = (apart_from n ns h.0, distinct ns h.1)

no_zero : (p : ConfigParts) (ns : List ℕ) → AllByRecursion (IsNode p) ns → is_in ns 0 ≡ false
no_zero p [] h = refl
no_zero p (n ∷ ns) h = in_tail n 0 ns (λ e. omega (arith, e, h.0.first)) ∙ no_zero p ns h.1

below_all : (p : ConfigParts) (ns : List ℕ) (q : ℕ) → AllByRecursion (IsNode p) ns → list_any (eqb q) ns ≡ true → q < nodes p + 1
below_all p [] q h is = absurd (cc)
below_all p (n ∷ ns) q h is = elim (cases_eq q n) [
  | inl e ↦ omega (arith, e, h.0.last)
  | inr ne ↦ below_all p ns q h.1 (subst (λ (b : Bool). (b || list_any (eqb q) ns) ≡ true) (differ_test q n ne) is)
]

pub few_nodes : (p : ConfigParts) (ns : List ℕ) → AllByRecursion (IsNode p) ns → AreDifferent ns → length ns ≤ nodes p
few_nodes p ns h d =
    let below : (q : ℕ) → list_any (eqb q) (0 ∷ ns) ≡ true → q < nodes p + 1 = λ q is. elim (cases_eq q 0) [
      | inl e ↦ omega (arith, e)
      | inr ne ↦ below_all p ns q h (subst (λ (b : Bool). (b || list_any (eqb q) ns) ≡ true) (differ_test q 0 ne) is)
    ] in
    let most : length (0 ∷ ns) ≤ nodes p + 1 = length-le_from_distinct_below (0 ∷ ns) (nodes p + 1) (distinct (0 ∷ ns) (no_zero p ns h, d)) below in
    omega (arith, most)

-- ---- how many of a list are not in another one
pub outside_none : (ns : List ℕ) → outside [] ns ≡ length ns
outside_none [] = refl
outside_none (n ∷ ns) = omega (arith, outside_none ns)

pub outside_head : (named : List ℕ) (n : ℕ) (ns : List ℕ) → is_in named n ≡ true → outside named (n ∷ ns) ≡ outside named ns
outside_head named n ns h = rw h refl

outside_same : (k : ℕ) (named ns : List ℕ) → is_in ns k ≡ false → outside (k ∷ named) ns ≡ outside named ns
outside_same k named [] h = refl
outside_same k named (n ∷ ns) h = elim (cases_eq n k) [
  | inl e ↦ absurd (let is : is_in (n ∷ ns) k ≡ true = rw (eq-eqb n k e) refl in cc)
  | inr ne ↦
      let rest : outside (k ∷ named) ns ≡ outside named ns = outside_same k named ns (sym (in_tail n k ns ne) ∙ h) in
      λ t. cond (in_tail k n named (λ e. ne (sym e)) t) (rest t) (rest t + 1)
]

-- one more number that is named is one fewer outside
outside_more : (k : ℕ) (named ns : List ℕ) → is_in ns k ≡ true → is_in named k ≡ false → AreDifferent ns → outside named ns ≡ outside (k ∷ named) ns + 1
outside_more k named [] among new d = absurd (cc)
outside_more k named (n ∷ ns) among new d = elim (cases_eq n k) [
  | inl e ↦
      let out : is_in named n ≡ false = rw e new in
      let rest : outside (k ∷ named) ns ≡ outside named ns = outside_same k named ns (rw (← e) d.0) in
      let here : is_in (k ∷ named) n ≡ true = rw (eq-eqb k n (sym e)) refl in
      grind (arith, out, here, rest)
  | inr ne ↦
      let same : is_in (k ∷ named) n ≡ is_in named n = in_tail k n named (λ e. ne (sym e)) in
      let rest : outside named ns ≡ outside (k ∷ named) ns + 1 = outside_more k named ns (sym (in_tail n k ns ne) ∙ among) new d.1 in
      by_test (is_in named n) (is_in (k ∷ named) n) _ _ same rest
]
  where
    by_test : (b c : Bool) (x y : ℕ) → c ≡ b → x ≡ y + 1 → cond b x (x + 1) ≡ cond c y (y + 1) + 1
    by_test b c x y same rest = grind (arith, same, rest)

-- of a list all those are outside that are not among so many different ones of it
pub outside_all : (named ns : List ℕ) → AreDifferent named → AreDifferent ns → AllByRecursion (λ k. is_in ns k ≡ true) named → outside named ns + length named ≡ length ns
outside_all [] ns dn d h = omega (arith, outside_none ns)
outside_all (k ∷ named) ns dn d h = omega (arith, outside_all named ns dn.1 d h.1, outside_more k named ns h.0 dn.0 d)
