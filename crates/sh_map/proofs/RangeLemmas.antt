-- What rows and points say of a range.
use Rattle.std.proofs.Common.{rules, ◌≡◌, ◌↔◌, ◌⊎◌, ℕ, zero, suc, ◌+◌, ◌-◌, ◌<◌, ◌≤◌, true, List, [], ◌∷◌, length, get_or, take, map, Option, inl, inr, refl, sym, ap, subst, ◌∙◌, arith, length-take-le}
use Rattle.std.{proofs.lemmas.{List.{take_more, get_or-take, get_or_default}, Bool.{cases_eq}}, specs.{Prelude.{T, IsTrue, AllPairs, Any}, Ordering.{nat_cmp}, FinMap.Entries.{below_all}}}
use Rattle.std.{proofs.lemmas.List.Quantifiers.{all_pairs_push}, specs.{BTreeSet.{BTreeSet, contains, Updates}}}
use Rattle.sh_logic.proofs.Tests.{both}
use Rattle.sh_map.specs.{declared.{log.Entry.{Entry}, book.Row.{Row}}, Map.{Map, get, row_pair}, Log.{change_key, left_value, changed, map_from}, Rows.{IsRising, Becomes}}
use Rattle.sh_map.{specs.Tables.{AreMet, IsGivenValue, given_value}, proofs.{MapLemmas.{apart_test}, WalkLemmas.{any_push, one_more}, LogLemmas.{changed_other}, ReplyLemmas.{changed_here}}}
use Rattle.sh_map.proofs.RowsLemmas.{less_is}

-- a walk over rows, one row on, which was read and lies above the one before
module _ (rows : List Row) (at : ℕ) (row : Row) (in_range : at < length rows) (read : row ≡ get_or rows at row) where
  pub rising_more : AllPairs (λ x y. x.key < y.key) (take at rows) → (0 < at → (x : Row) × (x ≡ get_or rows (at - 1) x) × (x.key < row.key)) → AllPairs (λ x y. x.key < y.key) (take (at + 1) rows)
  rising_more pairs last = rw (take_more rows at row in_range) (all_pairs_push (λ x y. x.key < y.key) (take at rows) (get_or rows at row) pairs (λ k d lt.
      let len : length (take at rows) ≡ at = length-take-le at rows (omega arith) in
      let x = last (omega arith) in
      let above : x.0.key < (get_or rows at row).key = omega (arith, x.2, ap (λ (r : Row). r.key) read) in
      let in_take : (i : ℕ) → i < at → get_or (take at rows) i d ≡ get_or rows i x.0 = λ i h. get_or-take at rows i d h ∙ get_or_default rows i d x.0 (omega arith) in
      let at_last : (get_or (take at rows) (at - 1) d).key ≡ x.0.key = ap (λ (r : Row). r.key) (in_take (at - 1) (omega arith) ∙ sym x.1) in
      elim (cases_eq k (at - 1)) [
        | inl same ↦ omega (arith, above, at_last, ap (λ (i : ℕ). (get_or (take at rows) i d).key) same)
        | inr differ ↦ omega (arith, above, at_last, pairs k (at - 1) d (omega arith) (omega arith))
      ]))

pub is_rising : (rows : List Row) → AllPairs (λ x y. x.key < y.key) rows → IsRising rows
is_rising [] h = tt
is_rising (r ∷ rows) h = both _ _ (below r.key rows (λ j d lt. h 0 (suc j) d (omega arith) (omega arith))) (is_rising rows (λ i j d lt in_range. h (suc i) (suc j) d (omega arith) (omega arith)))
  where
    below : (x : ℕ) (rs : List Row) → ((j : ℕ) (d : Row) → j < length rs → x < (get_or rs j d).key) → T (below_all nat_cmp x (map row_pair rs))
    below x [] above = tt
    below x (s ∷ rs) above = both _ _ (rw (less_is x s.key (above 0 s (omega arith))) tt) (below x rs (λ j d lt. above (suc j) d (omega arith)))

-- a key has something at a point of the entries where it had it before, or an entry leaves it so
becomes_by_entry : (m : Map) (log : List Entry) (key : ℕ) (had : Option (List ℕ)) (k : ℕ) (e : Entry) → k < length log → get_or log k e ≡ e → change_key e.change ≡ key → left_value e.change ≡ had → Becomes m log key had
becomes_by_entry m [] key had k e lt is of_key left = absurd (omega arith)
becomes_by_entry m (x ∷ log) key had zero e lt is of_key left =
    let here : change_key x.change ≡ key = ap (λ (y : Entry). change_key y.change) is ∙ of_key in
    (1, omega arith, ap (get (changed m x.change)) (sym here) ∙ changed_here m x.change ∙ ap (λ (y : Entry). left_value y.change) is ∙ left)
becomes_by_entry m (x ∷ log) key had (suc k) e lt is of_key left =
    let later = becomes_by_entry (changed m x.change) log key had k e (omega arith) is of_key left in
    (suc later.0, omega (arith, later.1), later.2)

becomes_cases : (m : Map) (log : List Entry) (key : ℕ) (had : Option (List ℕ)) (q : ℕ) → q ≤ length log → get (map_from m (take q log)) key ≡ had → (get m key ≡ had) ⊎ Any (λ e. (change_key e.change ≡ key) × (left_value e.change ≡ had)) log
becomes_cases m log key had zero le is = inl is
becomes_cases m [] key had (suc q) le is = absurd (omega arith)
becomes_cases m (x ∷ log) key had (suc q) le is = elim (becomes_cases (changed m x.change) log key had q (omega arith) is) [
  | inr any ↦ inr (suc any.0, any.1, omega (arith, any.2), any.3, any.4)
  | inl here ↦ elim (cases_eq (change_key x.change) key) [
    | inl same ↦ inr (0, x, omega arith, refl, (same, sym (changed_here m x.change) ∙ ap (get (changed m x.change)) same ∙ here))
    | inr differ ↦ inl (sym (changed_other m x.change key (λ e. differ (sym e))) ∙ here)
  ]
]

-- a key is given by the map or the entries met where it is so at a point of the entries
pub given_becomes : (m : Map) (log : List Entry) (rows : List Row) (met : BTreeSet ℕ) (key : ℕ) → AreMet log rows met → IsGivenValue m met rows key ↔ Becomes m log key (given_value rows key)
given_becomes m log rows met key are_met = (
  λ is. elim is [
    | inl before ↦ (0, omega arith, before)
    | inr is_met ↦ let any = (are_met.each key).0 is_met in becomes_by_entry m log key (given_value rows key) any.0 any.1 any.2 any.3 any.4.0 any.4.1
  ],
  λ b. elim (becomes_cases m log key (given_value rows key) b.0 b.1 b.2) [ inl before ↦ inl before | inr any ↦ inr ((are_met.each key).1 any) ],
)

pub met_none : (rows : List Row) (met : BTreeSet ℕ) → met.keys ≡ [] → AreMet [] rows met
met_none rows met empty = search rules

-- a walk over the entries, one on, which was read
module _ (log : List Entry) (at : ℕ) (e : Entry) (in_range : at < length log) (read : e ≡ get_or log at e) (rows : List Row) (met : BTreeSet ℕ) (h : AreMet (take at log) rows met) where
  met_push : (new : BTreeSet ℕ) → ((key : ℕ) → IsTrue (contains nat_cmp new key) ↔ (IsTrue (contains nat_cmp met key) ⊎ ((change_key e.change ≡ key) × (left_value e.change ≡ given_value rows key)))) → AreMet (take (at + 1) log) rows new
  met_push new each = subst (λ (l : List Entry). AreMet l rows new) (one_more log at e in_range read) (record {
    each = λ key.
        let push = any_push (λ (x : Entry). (change_key x.change ≡ key) × (left_value x.change ≡ given_value rows key)) (take at log) e in (
          λ yes. push.1 (elim ((each key).0 yes) [ inl old ↦ inl ((h.each key).0 old) | inr here ↦ inr here ]),
          λ some. (each key).1 (elim (push.0 some) [ inl old ↦ inl ((h.each key).1 old) | inr here ↦ inr here ]),
        );
  })

  pub met_more : (key : ℕ) (new : BTreeSet ℕ) → key ≡ change_key e.change → left_value e.change ≡ given_value rows key → Updates nat_cmp met new key true → AreMet (take (at + 1) log) rows new
  met_more key new is left updates = search (rules, met_push, cases_eq, apart_test)

  pub met_same : (left_value e.change ≡ given_value rows (change_key e.change) → ⊥) → AreMet (take (at + 1) log) rows met
  met_same other = met_push met (λ q. (λ yes. inl yes, λ some. elim some [ inl old ↦ old | inr here ↦ absurd (other (here.1 ∙ ap (given_value rows) (sym here.0))) ]))
