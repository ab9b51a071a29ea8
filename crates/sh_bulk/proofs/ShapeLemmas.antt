-- What the counts of the levels come to: linear facts, so that proofs above never divide.
use Rattle.std.proofs.Common.{rules, ◌≡◌, ◌≢◌, ℕ, zero, suc, ◌+◌, ◌-◌, ◌*◌, ◌<◌, ◌≤◌, Bool, refl, sym, ap, subst, ◌∙◌, inl, inr, arith}
use Rattle.std.{specs.Prelude.{if◌then◌else◌, min, ◌/◌, ◌%◌}, proofs.{lemmas.{Grind.{div_ceil_times}, Nat.{mul-le}, Bool.{cases_eq, cases_lt}}, Math.Nat.{mul-le-mul_right}}}
use Rattle.sh_logic.proofs.Tests.{same_test, differ_test}
use Rattle.sh_base.specs.{declared.config.ConfigParts.{ConfigParts}, Setting.{IsSetting}}
use Rattle.sh_bulk.specs.Shape.{div_up, leaf_fill, inner_fill, count_in, first_in, span_in, height_from, height_of, need_of}

-- so many pieces cover n, and one less doesn't
pub covers : (n d : ℕ) → 0 < d → (n ≤ div_up n d * d) × (div_up n d * d < n + d)
unfolding div_up
covers n d h = div_ceil_times n d h

-- n pieces in two parts
pub two_parts : (a b w : ℕ) → a ≤ b → a * w + (b - a) * w ≡ b * w
two_parts a b w le = let whole : a + (b - a) ≡ b = omega arith in (let both : a * w + (b - a) * w ≡ (a + (b - a)) * w = grind arith in both ∙ ap (λ c. c * w) whole)

-- a place among the pieces begins within n, and any that begins within n is among them
pub begins : (n d j : ℕ) → 0 < d → j < div_up n d → j * d < n
begins n d j pos h =
    let row : (j + 1) * d ≤ div_up n d * d = mul-le-mul_right d (omega arith) in
    omega (arith, row, covers n d pos)

pub among : (n d j : ℕ) → 0 < d → j * d < n → j < div_up n d
among n d j pos h = elim (cases_lt j (div_up n d)) [
  | inl lt ↦ lt
  | inr le ↦ let row : div_up n d * d ≤ j * d = mul-le-mul_right d (omega arith) in absurd (omega (arith, row, covers n d pos))
]

-- there is a piece where there is something to cut
pub covers_some : (n d : ℕ) → 0 < d → 0 < n → 0 < n / d + min 1 (n % d)
unfolding div_up
covers_some n d pos some = let first : 0 * d < n = omega arith in among n d 0 pos first

-- a piece of at least six over more than one halves the count
pub halves : (n d : ℕ) → 6 ≤ d → 1 < n → 2 * div_up n d ≤ n
halves n d pos h = elim (cases_lt (div_up n d) 2) [
  | inl lt ↦ omega (arith)
  | inr le ↦
      let row : (div_up n d - 1) * 6 ≤ (div_up n d - 1) * d = mul-le (div_up n d - 1) 6 (div_up n d - 1) d (omega arith) pos in
      search (rules, begins, row)
]

module _ (p : ConfigParts) (lawful : IsSetting p) where
  pub leaf_fill_small : (3 ≤ leaf_fill p) × (leaf_fill p ≤ p.leaf)
  unfolding leaf_fill
  leaf_fill_small = let l = lawful.ranged.leaf in (omega (arith, l), omega (arith, l))

  pub inner_fill_small : (6 ≤ inner_fill p) × (inner_fill p ≤ 2 * p.leaf)
  unfolding inner_fill
  inner_fill_small = let l = lawful.ranged.leaf in (omega (arith, l), omega (arith, l))

  -- each level has a node
  pub some_node : (n level : ℕ) → 1 ≤ count_in p n level
  some_node n zero = grind arith
  some_node n (suc level) = among (count_in p n level) (inner_fill p) 0 (omega (arith, inner_fill_small)) (omega (arith, some_node n level))

  -- a node of a level begins with a node of the level below
  pub child_begins : (n level j : ℕ) → j < count_in p n (suc level) → j * inner_fill p < count_in p n level
  child_begins n level j h = begins (count_in p n level) (inner_fill p) j (omega (arith, inner_fill_small)) h

  -- a leaf begins with a row, but the only leaf of no rows
  pub leaf_begins : (n j : ℕ) → j < count_in p n 0 → j ≢ 0 → j * leaf_fill p < n
  leaf_begins n j h nz = begins n (leaf_fill p) j (omega (arith, leaf_fill_small)) (grind arith)

  -- so does each node
  pub node_begins : (n level j : ℕ) → j < count_in p n level → j ≢ 0 → j * span_in p level < n
  node_begins n zero j h nz = leaf_begins n j h nz
  node_begins n (suc level) j h nz =
      let nz' : j * inner_fill p ≢ 0 = λ e. (let row : 1 * 6 ≤ j * inner_fill p = mul-le 1 6 j (inner_fill p) (omega arith) (inner_fill_small.0) in omega (arith, row, e)) in
      let below = node_begins n level (j * inner_fill p) (child_begins n level j h) nz' in
      grind arith

  module _ (n : ℕ) where
    -- the first level with one node, and all below it have more
    pub record IsHeight (level top : ℕ) : Type 0 where
      pub one : count_in p n top ≡ 1
      pub from : level ≤ top
      pub below : (l : ℕ) → level ≤ l → l < top → 1 < count_in p n l

    height_found : (turns level : ℕ) → count_in p n level ≤ turns + 1 → IsHeight level (height_from p n turns level)
    height_found zero level h = record { one = omega (arith, some_node n level); from = omega arith; below = λ l ge lt. absurd (omega arith) }
    height_found (suc turns) level h = elim (cases_eq (count_in p n level) 1) [
      | inl one ↦ subst (λ (t : Bool). IsHeight level (if t then level else height_from p n turns (suc level))) (sym (same_test _ 1 one)) (record { one = one; from = omega arith; below = λ l ge lt. absurd (omega arith) })
      | inr more ↦
          let many : 1 < count_in p n level = omega (arith, some_node n level) in
          let half = halves (count_in p n level) (inner_fill p) inner_fill_small.0 many in
          let next = height_found turns (suc level) (omega (arith, half)) in
          subst (λ (t : Bool). IsHeight level (if t then level else height_from p n turns (suc level))) (sym (differ_test _ 1 more)) (record {
            one = next.one;
            from = omega (arith, next.from);
            below = λ l ge lt. elim (cases_eq level l) [ inl same ↦ subst (λ k. 1 < count_in p n k) same many | inr other ↦ next.below l (omega arith) lt ];
          })
    ]

    pub height_is : IsHeight 0 (height_of p n)
    unfolding height_of
    height_is = height_found (count_in p n 0) 0 (omega arith)

    -- the nodes of the levels below one have smaller numbers
    pub first_up : (l t : ℕ) → l < t → first_in p n l + count_in p n l ≤ first_in p n t
    first_up l zero h = absurd (omega arith)
    first_up l (suc t) h = elim (cases_eq l t) [
      | inl same ↦ subst (λ k. first_in p n l + count_in p n l ≤ first_in p n k + count_in p n k) same (omega arith)
      | inr other ↦ omega (arith, first_up l t (omega arith))
    ]

    -- the number of a level is below that of its first node
    pub first_above : (l : ℕ) → l < first_in p n l
    first_above zero = omega arith
    first_above (suc l) = omega (arith, first_above l, some_node n l)

    pub first_some : (l : ℕ) → 1 ≤ first_in p n l
    first_some l = omega (arith, first_above l)

    -- all nodes are numbered up to the root
    pub within_need : (l : ℕ) → l ≤ height_of p n → first_in p n l + count_in p n l ≤ need_of p n + 1
    within_need l h = elim (cases_eq l (height_of p n)) [
      | inl same ↦ subst (λ k. first_in p n k + count_in p n k ≤ need_of p n + 1) (sym same) (omega (arith, height_is.one))
      | inr other ↦ omega (arith, first_up l (height_of p n) (omega arith))
    ]

    pub leaves_few : count_in p n 0 ≤ n + 1
    leaves_few = elim (cases_lt 0 (div_up n (leaf_fill p))) [
      | inl some ↦
          let last = begins n (leaf_fill p) (div_up n (leaf_fill p) - 1) (omega (arith, leaf_fill_small)) (omega arith) in
          search (rules, mul-le, leaf_fill_small)
      | inr none ↦ grind arith
    ]

    -- how far the levels are counted
    pub record IsClimb (count need top : ℕ) : Type 0 where
      pub count_is : count ≡ count_in p n top
      pub need_is : need ≡ first_in p n top
      pub turns : height_of p n ≡ height_from p n (count_in p n 0 - top) top
      pub few : count + top ≤ count_in p n 0
      pub small : need + 2 * count ≤ 2 * count_in p n 0 + 1

    pub climb_start : (count : ℕ) → count ≡ count_in p n 0 → IsClimb count 1 0
    unfolding height_of
    climb_start count is = record {
      count_is = is;
      need_is = refl;
      turns = (let none : count_in p n 0 ≡ count_in p n 0 - 0 = omega arith in ap (λ k. height_from p n k 0) none);
      few = omega (arith, is);
      small = omega (arith, is);
    }

    one_turn : (turns level k : ℕ) → turns ≡ suc k → count_in p n level ≢ 1 → height_from p n turns level ≡ height_from p n k (suc level)
    one_turn turns level k e more = ap (λ m. height_from p n m level) e ∙ ap (λ (t : Bool). if t then level else height_from p n k (suc level)) (differ_test _ 1 more)

    pub climb_more : (count need top next : ℕ) → 1 < count → next ≡ div_up count (inner_fill p) → IsClimb count need top → IsClimb next (need + count) (top + 1)
    climb_more count need top next many is was =
        let half = halves count (inner_fill p) inner_fill_small.0 many in
        let up : suc top ≡ top + 1 = omega arith in
        let more : count_in p n top ≢ 1 = λ e. omega (arith, was.count_is, e) in
        subst (λ t. IsClimb next (need + count) t) up (record {
          count_is = is ∙ ap (λ c. div_up c (inner_fill p)) was.count_is;
          need_is = (λ t. was.need_is t + was.count_is t);
          turns = was.turns ∙ one_turn (count_in p n 0 - top) top (count_in p n 0 - suc top) (omega (arith, was.few)) more;
          few = omega (arith, was.few, half, is);
          small = omega (arith, was.small, half, is);
        })

    stops : (turns level : ℕ) → count_in p n level ≡ 1 → height_from p n turns level ≡ level
    stops zero level e = refl
    stops (suc turns) level e = ap (λ (t : Bool). if t then level else height_from p n turns (suc level)) (same_test _ 1 e)

    pub climb_end : (count need top : ℕ) → count ≤ 1 → IsClimb count need top → (need ≡ need_of p n) × (top ≡ height_of p n)
    climb_end count need top few was = search (rules, top, was.turns, stops, was.count_is, some_node, was.need_is)
