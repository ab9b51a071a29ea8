-- The child that a hop down leads to, pair by pair.
use Rattle.std.proofs.Common.{rules, ◌≡◌, ℕ, zero, suc, ◌+◌, ◌<◌, ◌≤◌, Bool, false, List, [], ◌∷◌, length, drop, Some, refl, sym, subst, add-one, inl, inr, arith}
use Rattle.std.{specs.Prelude.{slice_get, ◌==◌, ◌||◌, nat_lt, nat_le, if◌then◌else◌}, proofs.lemmas.{Bool.{cases_lt, Decides.{nat_tests}}, Option.{slice_get_within}}}
use Rattle.sh_logic.proofs.{Lists.{all_at}, Tests.{less_test, not_less_test}}
use Rattle.sh_base.specs.{declared.config.ConfigParts.{ConfigParts}, Setting.{IsNode}}
use Rattle.sh_image.specs.{declared.inner.{Image.{Image, TheVariants.{Leaf as LeafImage, Inner as InnerImage}}, Pair.{Pair}}, Inner.{no_pair, separator_at, HasChild, Inner, IsInner}}
use Rattle.sh_descend.specs.{declared.Hop.{Hop, TheVariants.{Here, Right, Down, Restart}}, Descent.{child_from, child_of, hop_of, image_pairs, Covers, HasSortedPairs, IsSorted}}

child_skip : (ps : List Pair) (at : ℕ) (x : Pair) (child key : ℕ) → slice_get ps at ≡ Some x → x.separator ≤ key → child_from child (drop at ps) key ≡ child_from x.child (drop (suc at) ps) key
child_skip [] at x child key is low = absurd (omega (arith, slice_get_within [] at x is))
child_skip (y ∷ ps) zero x child key is low = grind (arith, nat_tests)
child_skip (y ∷ ps) (suc at) x child key is low = child_skip ps at x child key is low

pub child_step : (ps : List Pair) (at : ℕ) (x : Pair) (child key : ℕ) → slice_get ps at ≡ Some x → x.separator ≤ key → child_from child (drop at ps) key ≡ child_from x.child (drop (at + 1) ps) key
child_step ps at x child key is low = rw (add-one at) (child_skip ps at x child key is low)

pub child_stop : (ps : List Pair) (at : ℕ) (x : Pair) (child key : ℕ) → slice_get ps at ≡ Some x → key < x.separator → child_from child (drop at ps) key ≡ child
child_stop [] at x child key is above = absurd (omega (arith, slice_get_within [] at x is))
child_stop (y ∷ ps) zero x child key is above = grind (arith, nat_tests)
child_stop (y ∷ ps) (suc at) x child key is above = child_stop ps at x child key is above

pub child_end : (ps : List Pair) (at child key : ℕ) → length ps ≤ at → child_from child (drop at ps) key ≡ child
child_end [] zero child key h = refl
child_end [] (suc at) child key h = refl
child_end (x ∷ ps) zero child key h = absurd (omega arith)
child_end (x ∷ ps) (suc at) child key h = child_end ps at child key (omega arith)

-- each separator is less than the next one
abbrev Rises : List Pair → Type 0
Rises ps = (i : ℕ) → suc i < length ps → separator_at ps i < separator_at ps (suc i)

above_all : (ps : List Pair) (key : ℕ) → Rises ps → key < separator_at ps 0 → (i : ℕ) → i < length ps → key < separator_at ps i
above_all ps key rise h zero below = h
above_all ps key rise h (suc i) below = omega (arith, above_all ps key rise h i (omega arith), rise i (omega arith))

covers_from : (x : Pair) (ps : List Pair) (key : ℕ) → Rises (x ∷ ps) → x.separator ≤ key → Covers (x ∷ ps) key (child_from x.child ps key)
covers_from x [] key rise low = record { index = 0; in_range = omega arith; here = refl; not_above = low; later = λ i a b. absurd (omega arith) }
covers_from x (y ∷ ps) key rise low =
    let rest : Rises (y ∷ ps) = λ i h. rise (suc i) (omega arith) in
    elim (cases_lt key y.separator) [
      | inl above ↦ rw (less_test key y.separator above) (record { index = 0; in_range = omega arith; here = refl; not_above = low; later = later rest above })
      | inr from ↦ rw (not_less_test key y.separator from) (one_more (covers_from y ps key rest from))
    ]
  where
    later : Rises (y ∷ ps) → key < y.separator → (i : ℕ) → 0 < i → i < length (x ∷ y ∷ ps) → key < separator_at (x ∷ y ∷ ps) i
    later rest above zero a b = absurd (omega arith)
    later rest above (suc i) a b = above_all (y ∷ ps) key rest above i (omega arith)

    one_more : {child : ℕ} → Covers (y ∷ ps) key child → Covers (x ∷ y ∷ ps) key child
    one_more h = record { index = suc h.index; in_range = omega (arith, h.in_range); here = h.here; not_above = h.not_above; later = λ i a b. after h i a b }
      where
        after : {child : ℕ} (h : Covers (y ∷ ps) key child) (i : ℕ) → suc h.index < i → i < length (x ∷ y ∷ ps) → key < separator_at (x ∷ y ∷ ps) i
        after h zero a b = absurd (omega arith)
        after h (suc i) a b = h.later i (omega arith) (omega arith)

covers : (ps : List Pair) (low key : ℕ) → IsSorted low ps → low ≤ key → Covers ps key (child_of ps key)
covers [] low key sorted h = absurd (omega (arith, sorted.some))
covers (x ∷ ps) low key sorted h =
    let first : x.separator ≤ key = omega (arith, sorted.first) in
    rw (not_less_test key x.separator first) (covers_from x ps key (λ i b. rw (add-one i) at (sorted.rise i (omega arith))) first)

-- an inner node that keeps the rules has its pairs sorted
pub pairs_sorted : {p : ConfigParts} (a : Inner) → IsInner p a → IsSorted a.low a.pairs
pairs_sorted a h = record { some = h.count.0; first = h.separators.first; rise = h.separators.rise }

-- of an inner node the child for a key that isn't below its low fence is a node
pub child_is_node : {p : ConfigParts} (a : Inner) (key : ℕ) → IsInner p a → a.low ≤ key → IsNode p (child_of a.pairs key)
child_is_node {p} a key h low =
    let c = covers a.pairs a.low key (pairs_sorted a h) low in
    let child = all_at (HasChild p) a.pairs c.index no_pair h.children c.in_range in
    subst (IsNode p) (sym c.here) (record { first = child.0; last = child.1 })

abbrev child_in : Hop → ℕ
child_in Here = 0
child_in (Right n) = n
child_in (Down n) = n
child_in Restart = 0

-- where the hop is down, it isn't back to the root, and the levels aren't equal
down_is : (back right here : Bool) (next to child : ℕ) → (if back then Restart else if right then Right next else if here then Here else Down to) ≡ Down child → (back ≡ false) × (here ≡ false) × (to ≡ child)
down_is back right here next to child e = search rules

pub down_covers : (image : Image) (key level child : ℕ) → HasSortedPairs image → hop_of image key level ≡ Down child → Covers (image_pairs image) key child
down_covers (LeafImage a) key level child sorted is =
    let d = down_is (nat_lt 0 level || nat_lt key a.low) (nat_le a.high key) (0 == level) a.next 0 child is in
    absurd (grind (arith, nat_tests, d.0, d.1))
down_covers (InnerImage a) key level child sorted is =
    let d = down_is (nat_lt a.level level || nat_lt key a.low) (nat_le a.high key) (a.level == level) a.next (child_of a.pairs key) child is in
    let low : a.low ≤ key = grind (arith, nat_tests, d.0) in
    subst (Covers a.pairs key) d.2 (covers a.pairs a.low key sorted low)

pub two_sorted : (x y : Pair) → x.separator < y.separator → IsSorted x.separator (x ∷ y ∷ [])
two_sorted x y h = search rules
