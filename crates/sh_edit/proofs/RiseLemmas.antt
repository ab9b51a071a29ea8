-- Inner nodes that pairs were added to, and their halves, meet the rules and keep all pairs.
use Rattle.std.proofs.Common.{rules, ◌≡◌, ℕ, zero, suc, ◌+◌, ◌-◌, ◌*◌, ◌<◌, ◌≤◌, ◌^◌, List, [], ◌∷◌, length, take, drop, inl, inr, refl, subst, arith}
use Rattle.std.{specs.List.{AllByRecursion, Sorted.{IsPermutation}}, proofs.lemmas.{Bool.{cases_lt}, List.{length-take-le, length-drop}}}
use Rattle.std.proofs.lemmas.List.Sorted.{IsPermutation-refl, IsPermutation-cons, IsPermutation-trans, IsPermutation-swap}
use Rattle.sh_logic.proofs.Tests.{less_test, not_less_test}
use Rattle.sh_base.specs.{declared.config.ConfigParts.{ConfigParts}, Setting.{nodes, last_version}}
use Rattle.sh_image.specs.{declared.inner.Pair.{Pair}, Inner.{Inner, IsInner, AreSeparators, HasChild, separator_at}}
use Rattle.sh_edit.specs.Pairing.{IsNewSeparator, pairs_with, with_pair, middle_of, left_inner, right_inner, root_over}

-- pairs with rising separators, all above one
abbrev RiseAbove : ℕ → List Pair → Type 0
RiseAbove b [] = Unit {0}
RiseAbove b (x ∷ xs) = (b < x.separator) × RiseAbove x.separator xs

-- rising separators that begin with this one
abbrev RiseFrom : ℕ → List Pair → Type 0
RiseFrom low [] = ⊥
RiseFrom low (x ∷ xs) = (x.separator ≡ low) × RiseAbove x.separator xs

abbrev AreBelow : ℕ → List Pair → Type 0
AreBelow high xs = AllByRecursion (λ (x : Pair). x.separator < high) xs

-- ---- between the two ways of saying it
to_above : (x : Pair) (xs : List Pair) → ((i : ℕ) → i + 1 < length (x ∷ xs) → separator_at (x ∷ xs) i < separator_at (x ∷ xs) (i + 1)) → RiseAbove x.separator xs
to_above x [] h = tt
to_above x (y ∷ xs) h = (
  h 0 (omega arith),
  to_above y xs (λ i lt.
      let step : suc i + 1 ≡ suc (i + 1) = omega arith in
      subst (λ n. separator_at (x ∷ y ∷ xs) (suc i) < separator_at (x ∷ y ∷ xs) n) step (h (suc i) (omega arith))),
)

from_above : (x : Pair) (xs : List Pair) → RiseAbove x.separator xs → (i : ℕ) → i + 1 < length (x ∷ xs) → separator_at (x ∷ xs) i < separator_at (x ∷ xs) (i + 1)
from_above x [] h i lt = absurd (omega arith)
from_above x (y ∷ xs) h zero lt = h.0
from_above x (y ∷ xs) h (suc i) lt =
    let step : suc (i + 1) ≡ suc i + 1 = omega arith in
    subst (λ n. separator_at (x ∷ y ∷ xs) (suc i) < separator_at (x ∷ y ∷ xs) n) step (from_above y xs h.1 i (omega arith))

to_below : (high : ℕ) (xs : List Pair) → ((i : ℕ) → i < length xs → separator_at xs i < high) → AreBelow high xs
to_below high [] h = tt
to_below high (x ∷ xs) h = (h 0 (omega arith), to_below high xs (λ i lt. h (suc i) (omega arith)))

from_below : (high : ℕ) (xs : List Pair) → AreBelow high xs → (i : ℕ) → i < length xs → separator_at xs i < high
from_below high [] h i lt = absurd (omega arith)
from_below high (x ∷ xs) h zero lt = h.0
from_below high (x ∷ xs) h (suc i) lt = from_below high xs h.1 i (omega arith)

to_rise : (low high : ℕ) (xs : List Pair) → 1 ≤ length xs → AreSeparators low high xs → RiseFrom low xs × AreBelow high xs
to_rise low high [] some h = absurd (omega arith)
to_rise low high (x ∷ xs) some h = ((h.first, to_above x xs h.rise), to_below high (x ∷ xs) h.below)

from_rise : (low high : ℕ) (xs : List Pair) → RiseFrom low xs → AreBelow high xs → AreSeparators low high xs
from_rise low high xs h below = search (rules, from_above, from_below)

-- ---- a pair more
above_with : (b : ℕ) (xs : List Pair) (new : Pair) → b < new.separator → IsNewSeparator xs new.separator → RiseAbove b xs → RiseAbove b (pairs_with xs new)
above_with b [] new lt fresh h = (lt, tt)
above_with b (x ∷ xs) new lt fresh h = elim (cases_lt x.separator new.separator) [
  | inl below ↦ rw (less_test x.separator new.separator below) (h.0, above_with x.separator xs new below fresh.1 h.1)
  | inr from ↦ rw (not_less_test x.separator new.separator from) (lt, (omega (arith, from, fresh.0), h.1))
]

rise_with : (low : ℕ) (xs : List Pair) (new : Pair) → low ≤ new.separator → IsNewSeparator xs new.separator → RiseFrom low xs → RiseFrom low (pairs_with xs new)
rise_with low xs new le fresh h = search (rules, less_test, above_with)

all_with : (P : Pair → Type 0) (xs : List Pair) (new : Pair) → P new → AllByRecursion P xs → AllByRecursion P (pairs_with xs new)
all_with P [] new p h = (p, tt)
all_with P (x ∷ xs) new p h = elim (cases_lt x.separator new.separator) [
  | inl below ↦ rw (less_test x.separator new.separator below) (h.0, all_with P xs new p h.1)
  | inr from ↦ rw (not_less_test x.separator new.separator from) (p, h)
]

pub length-pairs_with : (xs : List Pair) (new : Pair) → length (pairs_with xs new) ≡ length xs + 1
length-pairs_with [] new = refl
length-pairs_with (x ∷ xs) new = elim (cases_lt x.separator new.separator) [
  | inl below ↦ rw (less_test x.separator new.separator below) (omega (arith, length-pairs_with xs new))
  | inr from ↦ rw (not_less_test x.separator new.separator from) (omega arith)
]

-- all pairs are kept, and the new one is added
pub kept : (xs : List Pair) (new : Pair) → IsPermutation (new ∷ xs) (pairs_with xs new)
kept [] new = IsPermutation-refl (new ∷ [])
kept (x ∷ xs) new = elim (cases_lt x.separator new.separator) [
  | inl below ↦ rw (less_test x.separator new.separator below) (IsPermutation-trans _ _ _ (IsPermutation-swap (new ∷ x ∷ xs) (x ∷ new ∷ xs) 0 1 (omega arith) (omega arith) refl) (IsPermutation-cons x (new ∷ xs) (pairs_with xs new) (kept xs new)))
  | inr from ↦ rw (not_less_test x.separator new.separator from) (IsPermutation-refl (new ∷ x ∷ xs))
]

pub with_lawful : (p : ConfigParts) (a : Inner) (new : Pair) → IsInner p a → length a.pairs < 2 * p.leaf → IsNewSeparator a.pairs new.separator → a.low ≤ new.separator → new.separator < a.high → HasChild p new → a.version < last_version p → IsInner p (with_pair a new)
with_lawful p a new h room fresh low high child version =
    let rise = to_rise a.low a.high a.pairs h.count.0 h.separators in
    record {
      version = omega (arith, version);
      level = h.level;
      fences = h.fences;
      next = h.next;
      end = h.end;
      count = (omega (arith, length-pairs_with a.pairs new), omega (arith, length-pairs_with a.pairs new, room));
      separators = from_rise a.low a.high (pairs_with a.pairs new) (rise_with a.low a.pairs new low fresh rise.0) (all_with (λ (x : Pair). x.separator < a.high) a.pairs new high rise.1);
      children = all_with (HasChild p) a.pairs new child h.children;
    }

-- ---- the halves
module _ (P : Pair → Type 0) where
  all_take : (n : ℕ) (xs : List Pair) → AllByRecursion P xs → AllByRecursion P (take n xs)
  all_take zero xs h = tt
  all_take (suc n) [] h = tt
  all_take (suc n) (x ∷ xs) h = (h.0, all_take n xs h.1)

  all_drop : (n : ℕ) (xs : List Pair) → AllByRecursion P xs → AllByRecursion P (drop n xs)
  all_drop zero xs h = h
  all_drop (suc n) [] h = tt
  all_drop (suc n) (x ∷ xs) h = all_drop n xs h.1

above_take : (b n : ℕ) (xs : List Pair) → RiseAbove b xs → RiseAbove b (take n xs)
above_take b zero xs h = tt
above_take b (suc n) [] h = tt
above_take b (suc n) (x ∷ xs) h = (h.0, above_take x.separator n xs h.1)

-- a pair behind lies above, and those before it below
above_at : (b n : ℕ) (xs : List Pair) → RiseAbove b xs → n < length xs → b < separator_at xs n
above_at b n [] h lt = absurd (omega arith)
above_at b zero (x ∷ xs) h lt = h.0
above_at b (suc n) (x ∷ xs) h lt = omega (arith, h.0, above_at x.separator n xs h.1 (omega arith))

below_at : (b n : ℕ) (xs : List Pair) → RiseAbove b xs → n < length xs → AreBelow (separator_at xs n) (take n xs)
below_at b n [] h lt = absurd (omega arith)
below_at b zero (x ∷ xs) h lt = tt
below_at b (suc n) (x ∷ xs) h lt = (above_at x.separator n xs h.1 (omega arith), below_at x.separator n xs h.1 (omega arith))

above_drop : (b n : ℕ) (xs : List Pair) → RiseAbove b xs → n < length xs → RiseFrom (separator_at xs n) (drop n xs)
above_drop b n [] h lt = absurd (omega arith)
above_drop b zero (x ∷ xs) h lt = (refl, h.1)
above_drop b (suc n) (x ∷ xs) h lt = above_drop x.separator n xs h.1 (omega arith)

rise_take : (low n : ℕ) (xs : List Pair) → RiseFrom low xs → 1 ≤ n → n < length xs → RiseFrom low (take n xs) × AreBelow (separator_at xs n) (take n xs) × (low < separator_at xs n)
rise_take low n xs h some lt = search (rules, above_at, above_take, below_at)

rise_drop : (low n : ℕ) (xs : List Pair) → RiseFrom low xs → 1 ≤ n → n < length xs → RiseFrom (separator_at xs n) (drop n xs)
rise_drop low n xs h some lt = search (rules, above_drop)

module _ (p : ConfigParts) (a : Inner) (new : Pair) (h : IsInner p a) (full : length a.pairs ≡ 2 * p.leaf) (fresh : IsNewSeparator a.pairs new.separator) (low : a.low ≤ new.separator) (high : new.separator < a.high) where
  some : 1 ≤ p.leaf
  some = omega (arith, h.count.0, full)

  past : p.leaf < length (pairs_with a.pairs new)
  past = omega (arith, length-pairs_with a.pairs new, full)

  rise : RiseFrom a.low (pairs_with a.pairs new)
  rise = rise_with a.low a.pairs new low fresh (to_rise a.low a.high a.pairs h.count.0 h.separators).0

  below : AreBelow a.high (pairs_with a.pairs new)
  below = all_with (λ (x : Pair). x.separator < a.high) a.pairs new high (to_rise a.low a.high a.pairs h.count.0 h.separators).1

  pub middle_within : (a.low < middle_of p.leaf a.pairs new) × (middle_of p.leaf a.pairs new < a.high)
  middle_within = ((rise_take a.low p.leaf (pairs_with a.pairs new) rise some past).2, from_below a.high (pairs_with a.pairs new) below p.leaf past)

  pub left_inner_lawful : (right : ℕ) → HasChild p new → a.version < last_version p → 1 ≤ right → right ≤ nodes p → a.high < 2 ^ 64 → IsInner p (left_inner p.leaf a new right)
  left_inner_lawful right child version one node word =
      let front = rise_take a.low p.leaf (pairs_with a.pairs new) rise some past in
      let long : length (take p.leaf (pairs_with a.pairs new)) ≡ p.leaf = length-take-le p.leaf (pairs_with a.pairs new) (omega (arith, past)) in
      record {
        version = omega (arith, version);
        level = h.level;
        fences = middle_within.0;
        next = node;
        end = (λ z. absurd (omega (arith, one, z)), λ e. absurd (omega (arith, e, middle_within.1, word)));
        count = (omega (arith, long, some), omega (arith, long));
        separators = from_rise a.low (middle_of p.leaf a.pairs new) (take p.leaf (pairs_with a.pairs new)) front.0 front.1;
        children = all_take (HasChild p) p.leaf (pairs_with a.pairs new) (all_with (HasChild p) a.pairs new child h.children);
      }

  pub right_inner_lawful : HasChild p new → IsInner p (right_inner p.leaf a new)
  right_inner_lawful child =
      let long : length (drop p.leaf (pairs_with a.pairs new)) ≡ p.leaf + 1 = omega (arith, length-drop p.leaf (pairs_with a.pairs new), length-pairs_with a.pairs new, full) in
      record {
        version = omega arith;
        level = h.level;
        fences = middle_within.1;
        next = h.next;
        end = h.end;
        count = (omega (arith, long), omega (arith, long, some));
        separators = from_rise (middle_of p.leaf a.pairs new) a.high (drop p.leaf (pairs_with a.pairs new)) (rise_drop a.low p.leaf (pairs_with a.pairs new) rise some past) (all_drop (λ (x : Pair). x.separator < a.high) p.leaf (pairs_with a.pairs new) below);
        children = all_drop (HasChild p) p.leaf (pairs_with a.pairs new) (all_with (HasChild p) a.pairs new child h.children);
      }

pub root_lawful : (p : ConfigParts) (level left separator right : ℕ) → 1 ≤ p.leaf → 1 ≤ level → level < nodes p → 1 ≤ left → left ≤ nodes p → 1 ≤ right → right ≤ nodes p → 1 ≤ separator → separator < 2 ^ 64 - 1 → IsInner p (root_over level left separator right)
root_lawful p level left separator right some low below a b c d first last = search (rules, from_rise)
