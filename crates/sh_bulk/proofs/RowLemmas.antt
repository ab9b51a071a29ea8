-- Good rows rise, and so do the lows of a level.
use Rattle.std.proofs.Common.{rules, ◌≡◌, ◌≢◌, ℕ, zero, suc, ◌+◌, ◌-◌, ◌*◌, ◌^◌, ◌<◌, ◌≤◌, true, List, length, get_or, refl, sym, ap, subst, ◌∙◌, inl, inr, arith}
use Rattle.std.proofs.{lemmas.{Nat.{mul-le}, List.{get_or_default}, Bool.{cases_eq, Decides.{nat_tests}}}, Math.Nat.{mul-le-mul_right}}
use Rattle.sh_logic.proofs.Tests.{differ_test, less_test, not_less_test}
use Rattle.sh_base.specs.{declared.config.ConfigParts.{ConfigParts}, Setting.{IsSetting}}
use Rattle.sh_map.{specs.{declared.book.Row.{Row}, Rows.{IsRising, row_key, nothing}}, proofs.RangeLemmas.{is_rising}}
use Rattle.sh_sheet.specs.Row.{is_key}
use Rattle.sh_bulk.specs.{Shape.{leaf_fill, inner_fill, count_in, first_in, span_in}, Nodes.{high_in, low_in, next_in}, Fault.{AreGood}}
use Rattle.sh_bulk.proofs.ShapeLemmas.{inner_fill_small, leaf_fill_small, node_begins}

module _ (rows : List Row) (good : AreGood rows) where
  pub key_range : (i : ℕ) → i < length rows → (1 ≤ row_key rows i) × (row_key rows i < 2 ^ 64 - 1)
  key_range i h = let g = good i h in grind (arith, nat_tests)

  pub rise : (i j : ℕ) → i < j → j < length rows → row_key rows i < row_key rows j
  rise i zero lt h = absurd (omega arith)
  rise i (suc j) lt h =
      let g = good (suc j) h in
      let up : row_key rows j < row_key rows (suc j) = g.rises in
      elim (cases_eq i j) [
        | inl same ↦ subst (λ k. row_key rows k < row_key rows (suc j)) (sym same) up
        | inr other ↦ omega (arith, up, rise i j (omega arith) (omega arith))
      ]

  pub are_rising : IsRising rows
  are_rising = is_rising rows (λ i j d lt h. search (rules, get_or_default, rise, lt))

module _ (p : ConfigParts) (rows : List Row) where
  pub low_first : (level : ℕ) → low_in p rows level 0 ≡ 0
  low_first zero = refl
  low_first (suc level) = let none : 0 * inner_fill p ≡ 0 = omega arith in ap (low_in p rows level) none ∙ low_first level

  pub leaf_low : (j : ℕ) → j ≢ 0 → low_in p rows 0 j ≡ row_key rows (j * leaf_fill p)
  leaf_low j nz = rw (differ_test j 0 nz) refl

  -- a node that isn't its level's first begins with the first row of its first leaf
  pub low_more : 6 ≤ inner_fill p → (level j : ℕ) → j ≢ 0 → low_in p rows level j ≡ row_key rows (j * span_in p level)
  low_more wide zero j nz = leaf_low j nz
  low_more wide (suc level) j nz =
      let nz' : j * inner_fill p ≢ 0 = λ e. (let row : 1 * 6 ≤ j * inner_fill p = mul-le 1 6 j (inner_fill p) (omega arith) wide in omega (arith, row, e)) in
      let same : j * inner_fill p * span_in p level ≡ j * (inner_fill p * span_in p level) = grind arith in
      low_more wide level (j * inner_fill p) nz' ∙ ap (row_key rows) same

  pub high_more : (level j : ℕ) → j + 1 < count_in p (length rows) level → high_in p rows level j ≡ low_in p rows level (j + 1)
  unfolding high_in
  high_more level j h = rw (less_test (j + 1) (count_in p (length rows) level) h) refl

  pub high_last : (level j : ℕ) → count_in p (length rows) level ≤ j + 1 → high_in p rows level j ≡ 2 ^ 64 - 1
  unfolding high_in
  high_last level j h = rw (not_less_test (j + 1) (count_in p (length rows) level) h) refl

  pub next_more : (level j : ℕ) → j + 1 < count_in p (length rows) level → next_in p rows level j ≡ first_in p (length rows) level + (j + 1)
  unfolding next_in
  next_more level j h = rw (less_test (j + 1) (count_in p (length rows) level) h) refl

  pub next_last : (level j : ℕ) → count_in p (length rows) level ≤ j + 1 → next_in p rows level j ≡ 0
  unfolding next_in
  next_last level j h = rw (not_less_test (j + 1) (count_in p (length rows) level) h) refl

module _ (p : ConfigParts) (lawful : IsSetting p) where
  pub span_some : (level : ℕ) → 1 ≤ span_in p level
  span_some zero = omega (arith, leaf_fill_small p lawful)
  span_some (suc level) = let row : 6 * 1 ≤ inner_fill p * span_in p level = mul-le 6 1 (inner_fill p) (span_in p level) (inner_fill_small p lawful).0 (span_some level) in omega (arith, row)

module _ (p : ConfigParts) (lawful : IsSetting p) (rows : List Row) (good : AreGood rows) where
  wide : 6 ≤ inner_fill p
  wide = (inner_fill_small p lawful).0

  -- the lows of a level rise
  pub lows_rise : (level i j : ℕ) → i < j → j < count_in p (length rows) level → low_in p rows level i < low_in p rows level j
  lows_rise level i j lt h =
      let nz : j ≢ 0 = λ e. omega arith in
      let there = node_begins p lawful (length rows) level j h nz in
      let above = low_more p rows wide level j nz in
      elim (cases_eq i 0) [
        | inl first ↦ omega (arith, ap (low_in p rows level) first, low_first p rows level, above, key_range rows good (j * span_in p level) there)
        | inr other ↦
            let row : (i + 1) * span_in p level ≤ j * span_in p level = mul-le-mul_right (span_in p level) (omega arith) in
            let less : i * span_in p level < j * span_in p level = omega (arith, row, span_some p lawful level) in
            omega (arith, above, low_more p rows wide level i other, rise rows good (i * span_in p level) (j * span_in p level) less there)
      ]

  -- and are below the greatest word
  pub low_small : (level j : ℕ) → j < count_in p (length rows) level → low_in p rows level j < 2 ^ 64 - 1
  low_small level j h = elim (cases_eq j 0) [
    | inl first ↦ omega (arith, ap (low_in p rows level) first, low_first p rows level)
    | inr other ↦ omega (arith, low_more p rows wide level j other, key_range rows good (j * span_in p level) (node_begins p lawful (length rows) level j h other))
  ]
