-- When each key of a range has a point.
use Rattle.std.proofs.Common.{rules, ◌≡◌, ◌↔◌, ◌⊎◌, ℕ, suc, ◌+◌, ◌-◌, ◌<◌, ◌≤◌, Bool, List, [], ◌∷◌, length, get_or, take, drop, map, Option, None, Result, IfOk, inl, inr, refl, sym, ap, subst, ◌∙◌, arith, length-drop, length-take-le}
use Rattle.std.specs.{Prelude.{IsTrue, IsSome, Contains, All, AllPairs}, Ordering.{nat_cmp}, Cmp.{nat_cmp_total}, FinMap.{empty, find, get-from_entries}, declared.alloc.AllocError.{AllocError}}
use Rattle.std.{proofs.{lemmas.{Bool.{cases_eq}, List.Elements.{All-contains}}, Math.Seq.{take-add, take-take}}, specs.BTreeSet.{BTreeSet}}
use Rattle.sh_map.specs.{declared.{log.Entry.{Entry}, book.Row.{Row}}, Map.{Map, get, row_pair}, Log.{map_from, map_of, map_at}, Book.{AnswersRange}, Rows.{RowHasPoint}}
use Rattle.sh_map.{specs.Tables.{AreMet, IsGivenValue, given_value}, proofs.{RangeLemmas.{given_becomes}, MapLemmas.{apart_test}, LogLemmas.{map_from-append}}}

-- a key stands nowhere in these rows, or at a place
found_or_not : (rows : List Row) (key : ℕ) → (find nat_cmp key (map row_pair rows) ≡ None) ⊎ ((k : ℕ) × (k < length rows) × ((d : Row) → (get_or rows k d).key ≡ key))
found_or_not [] key = inl refl
found_or_not (r ∷ rows) key = elim (cases_eq key r.key) [
  | inl same ↦ inr (0, omega arith, λ d. sym same)
  | inr differ ↦ elim (found_or_not rows key) [
    | inl none ↦ inl (rw (apart_test key r.key differ) none)
    | inr at ↦ inr (suc at.0, omega (arith, at.1), at.2)
  ]
]

lacks : (m : Map) (rows : List Row) (key : ℕ) → find nat_cmp key (map row_pair rows) ≡ None → get m key ≡ None → get m key ≡ given_value rows key
lacks m rows key no_row no_value = no_value ∙ sym (get-from_entries nat_cmp_total (map row_pair rows) key ∙ no_row)

some_or_none : (o : Option (List ℕ)) → IsSome o ⊎ (o ≡ None)
some_or_none o = search rules

-- where the rows' keys and those that stand in the map are given, all keys have a point, and the other way round
module _ (m : Map) (log : List Entry) (rows : List Row) (keys : List ℕ) (low upto : ℕ) (met : BTreeSet ℕ) (are_met : AreMet log rows met) where
  module _ (stand : (key : ℕ) → low ≤ key → key < upto → IsSome (get m key) → Contains keys key) where
    points_from : All (λ r. IsGivenValue m met rows r.key) rows → All (λ key. IsGivenValue m met rows key) keys → (key : ℕ) → RowHasPoint m log rows low upto key
    points_from by_rows by_keys key = record {
      here = λ above below. (given_becomes m log rows met key are_met).0 (elim (found_or_not rows key) [
        | inr at ↦ let d : Row = record { key = 0; value = [] } in subst (IsGivenValue m met rows) (at.2 d) (by_rows at.0 d at.1)
        | inl no_row ↦ elim (some_or_none (get m key)) [
          | inl some ↦ All-contains (IsGivenValue m met rows) keys key by_keys (stand key above below some)
          | inr none ↦ inl (lacks m rows key no_row none)
        ]
      ]);
    }

    module _ (within_rows : All (λ x. (low ≤ x.key) × (x.key < upto)) rows) (within_keys : All (λ key. (low ≤ key) × (key < upto)) keys) where
      pub points_decide : (b : Bool) → (IsTrue b ↔ (All (λ r. IsGivenValue m met rows r.key) rows × All (λ key. IsGivenValue m met rows key) keys)) → IsTrue b ↔ ((key : ℕ) → RowHasPoint m log rows low upto key)
      points_decide b told = (
        λ yes. points_from (told.0 yes).0 (told.0 yes).1,
        λ all. told.1 (
          λ k d lt. let w = within_rows k d lt in (given_becomes m log rows met (get_or rows k d).key are_met).1 ((all (get_or rows k d).key).here w.0 w.1),
          λ k d lt. let w = within_keys k d lt in (given_becomes m log rows met (get_or keys k d) are_met).1 ((all (get_or keys k d)).here w.0 w.1),
        ),
      )

-- a map q entries on from a point
map_at-later : (log : List Entry) (a n q : ℕ) → q ≤ n → map_from (map_at log a) (take q (take n (drop a log))) ≡ map_at log (a + q)
map_at-later log a n q le = ap (map_from (map_at log a)) (take-take q n (drop a log) le) ∙ sym (map_from-append empty (take a log) (take q (drop a log))) ∙ sym (ap map_of (take-add a q log))

module _ (log : List Entry) (a b low upto : ℕ) (rows : List Row) (ordered : a ≤ b) (within : b ≤ length log) where
  pub range_from_points : AllPairs (λ x y. x.key < y.key) rows → All (λ x. (low ≤ x.key) × (x.key < upto)) rows → ((key : ℕ) → RowHasPoint (map_of (take a log)) (take (b - a) (drop a log)) rows low upto key) → AnswersRange log a b low upto rows
  range_from_points rising inside points = record {
    rising = rising;
    within = inside;
    points = λ key above below.
        let p = (points key).here above below in
        let q_small : p.0 ≤ b - a = omega (arith, p.1, length-take-le (b - a) (drop a log) (omega (arith, length-drop a log))) in
        (a + p.0, omega arith, omega arith, ap (λ m. get m key) (sym (map_at-later log a (b - a) p.0 q_small)) ∙ p.2);
  }

  pub points_from_range : AnswersRange log a b low upto rows → (key : ℕ) → RowHasPoint (map_of (take a log)) (take (b - a) (drop a log)) rows low upto key
  points_from_range answers key = record {
    here = λ above below.
        let p = answers.points key above below in
        let q : ℕ = p.0 - a in
        let q_small : q ≤ b - a = omega (arith, p.1, p.2) in
        let place : a + q ≡ p.0 = omega (arith, p.1) in
        (q, omega (arith, length-take-le (b - a) (drop a log) (omega (arith, length-drop a log))), ap (λ m. get m key) (map_at-later log a (b - a) q q_small) ∙ ap (λ i. get (map_at log i) key) place ∙ p.3);
  }

  -- a test of the keys' points is one of the range
  pub range_decides : (r : Result Bool AllocError) → AllPairs (λ x y. x.key < y.key) rows → All (λ x. (low ≤ x.key) × (x.key < upto)) rows → IfOk r (λ yes. IsTrue yes ↔ ((key : ℕ) → RowHasPoint (map_of (take a log)) (take (b - a) (drop a log)) rows low upto key)) → IfOk r (λ yes. IsTrue yes ↔ ((b ≤ length log) × AnswersRange log a b low upto rows))
  range_decides r rising inside told = search (rules, range_from_points, points_from_range)
