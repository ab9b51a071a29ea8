-- Where a closed book's calls are in range, so is all that it says: what a map has came from some put.
use Rattle.std.proofs.Common.{rules, ℕ, ◌≡◌, ◌≤◌, ◌<◌, ◌*◌, ◌^◌, List, [], ◌∷◌, length, map, take, Some, refl, sym, ap, subst, ◌∙◌, arith}
use Rattle.std.specs.{Prelude.{slice_get, sum, T}, Cmp.{nat_cmp_total}, FinMap.{entries, entries_sorted, from_entries, get-entries, get-from_entries, is_sorted}}
use Rattle.std.specs.{List.{AllByRecursion}, Ordering.{nat_cmp}}
use Rattle.std.proofs.lemmas.{List.{take-append-drop, Sums.{sum_by-cons}}, Option.{slice_get_within}}
use Rattle.sh_logic.proofs.{Lists.{all_at, from_each, slice_get-append_left}, Options.{some_is}}
use Rattle.sh_map.specs.{declared.{call.{Call.{Call, TheVariants.{Get, Put, Del, Range}}, Reply.{Reply}}, log.{Change.{Change}, Entry.{Entry}}, book.{Done.{Done}, Row.{Row}}}, Calls.{IsKey}}
use Rattle.sh_map.specs.declared.call.Reply.TheVariants as reply
use Rattle.sh_map.specs.declared.log.Change.TheVariants as change
use Rattle.sh_map.specs.{Book.{Answers, AnswersAt, AnswersRange, IsClosed, IsLawful, made, made_entry}, Log.{map_at, map_of}, Map.{Map, get, pair_row, row_pair}, Rows.{IsRising, nothing, row_key}}
use Rattle.sh_map.proofs.{LastLemmas.{value_from}, LogLemmas.{IsLegal-at, map_at-length}, RangeLemmas.{is_rising}, RowsLemmas.{found_in}}
use Rattle.sh_core.specs.Actors.{HasOwnRows}
use Rattle.sh_judge.specs.{Finding.{log_rows}}
use Rattle.sh_text.specs.Text.{sum_of}
use Rattle.sh_judged.proofs.Lines.{FitsCall, FitsReply, FitsRows, IsFit, IsFitRow, IsWordy}

pairs_back : (es : List (ℕ × List ℕ)) → map row_pair (map (λ p. pair_row p.0 p.1) es) ≡ es
pairs_back [] = refl
pairs_back (e ∷ es) = ap (λ xs. e ∷ xs) (pairs_back es)

-- a key and a value as a put may have them
record IsPair (words key : ℕ) (value : List ℕ) : Type 0 where
  key_is : IsKey key
  value_is : IsWordy words value

put_is : (words k key : ℕ) (v value : List ℕ) → IsKey k × IsWordy words v → change.Put k v ≡ change.Put key value → IsPair words key value
put_is words k key v value fits same = let keys : k ≡ key = cc in let values : v ≡ value = cc in record { key_is = subst IsKey keys fits.0; value_is = subst (IsWordy words) values fits.1 }

-- the version of a worn reply is a word
abbrev pub HasSmallVersion : Reply → Type 0
HasSmallVersion (reply.Worn version) = version < 2 ^ 64
HasSmallVersion answer = Unit {0}

module _ (words : ℕ) (log : List Entry) (dones : List Done) (law : IsLawful log dones) (closed : IsClosed log dones) (calls : AllByRecursion (λ d. FitsCall words d.call) dones) where
  put_fits : (i : ℕ) (e : Entry) (key : ℕ) (value : List ℕ) → i < length log → slice_get log i ≡ Some e → e.change ≡ change.Put key value → IsPair words key value
  put_fits i e key value within here is =
      let (k, d, inside, at, own) = closed i within in
      let a : Answers log d = subst (Answers log) at (law.answers k d inside) in
      let fits : FitsCall words d.call = subst (λ (x : Done). FitsCall words x.call) at (all_at (λ x. FitsCall words x.call) dones k d calls inside) in
      search (rules, put_is, some_is)

  value_fits : (p key : ℕ) (value : List ℕ) → get (map_at log p) key ≡ Some value → IsPair words key value
  value_fits p key value has =
      let (i, e, last, is) = value_from (take p log) key value has in
      let here : slice_get log i ≡ Some e = subst (λ l. slice_get l i ≡ Some e) (take-append-drop p log) (slice_get-append_left (take p log) _ i e last.here) in
      put_fits i e key value (slice_get_within log i e here) here is

  old_fits : (i seat : ℕ) (c : Change) (old : List ℕ) → slice_get log i ≡ Some (made_entry seat c (Some old)) → IsWordy words old
  old_fits i seat c old here = (value_fits i _ old (sym (IsLegal-at log i (made_entry seat c (Some old)) law.legal here).0)).value_is

  -- rising rows that have what some map of the log has
  rows_fit : (rows : List Row) → IsRising rows → ((i : ℕ) (value : List ℕ) → i < length rows → get (from_entries (map row_pair rows)) (row_key rows i) ≡ Some value → (p : ℕ) × (get (map_at log p) (row_key rows i) ≡ Some value)) → AllByRecursion (IsFitRow words) rows
  rows_fit rows rising had = from_each (IsFitRow words) nothing rows (λ i within.
      let h = had i _ within (sym (found_in rows (row_key rows i) i nothing rising (record { in_range = within; has_key = refl }))) in
      let f = value_fits h.0 _ _ h.1 in
      record { key = omega (arith, f.key_is.1); value = f.value_is })

  range_fits : (a b low upto : ℕ) (rows : List Row) → AnswersRange log a b low upto rows → AllByRecursion (IsFitRow words) rows
  range_fits a b low upto rows h = rows_fit rows (is_rising rows h.rising) (λ i value within has.
      let inside = h.within i nothing within in
      let p = h.points (row_key rows i) inside.0 inside.1 in
      (p.0, p.3 ∙ has))

  own_rows : (d : Done) (call : Call) (answer : Reply) → AnswersAt log d call answer → HasOwnRows call d.rows → FitsRows words call d.rows
  own_rows d (Range low high) (reply.Rows upto) a own = range_fits d.first d.point low upto d.rows a.2
  own_rows d (Range low high) answer a own = absurd a
  own_rows d (Get key) answer a own = own
  own_rows d (Put key value) answer a own = own
  own_rows d (Del key) answer a own = own

  -- the rows of the map are in range, and so is the sum of their values
  pub map_fits : AllByRecursion (IsFitRow words) (log_rows log)
  map_fits =
      let es = entries (map_of log) in
      let same = pairs_back (entries (map_of log)) in
      rows_fit (log_rows log) (subst (λ xs. T (is_sorted nat_cmp xs)) (sym same) (entries_sorted (map_of log))) (λ i value within has. (
        length log,
        ap (λ (m : Map). get m (row_key (log_rows log) i)) (map_at-length log) ∙ get-entries (map_of log) (row_key (log_rows log) i)
            ∙ sym (ap (λ xs. let m : Map = from_entries xs in get m (row_key (log_rows log) i)) same ∙ get-from_entries nat_cmp_total es (row_key (log_rows log) i)) ∙ has,
      ))

  -- a call with what isn't said of it yet
  pub fit : (d : Done) → Answers log d → d.first ≤ d.point → length log < 2 ^ 64 → FitsCall words d.call → d.seat ≤ 63 → HasOwnRows d.call d.rows → HasSmallVersion d.reply → IsFit words d
  fit d a first few call seat own version = search (rules, value_fits, old_fits, own_rows)

-- the sum of values of at most 8 words
sum_within : (ws : List ℕ) → AllByRecursion (λ w. w < 2 ^ 64) ws → sum ws ≤ length ws * 18446744073709551615
sum_within [] h = omega arith
sum_within (w ∷ ws) h = omega (arith, sum_by-cons (λ x. x) w ws, sum_within ws h.1, h.0)

pub sums_within : (words : ℕ) (rows : List Row) → words ≤ 8 → AllByRecursion (IsFitRow words) rows → sum_of rows ≤ length rows * 147573952589676412920
sums_within words [] few h = omega arith
sums_within words (r ∷ rows) few h =
    let one = sum_within r.value h.0.value.each in
    let long = h.0.value.long in
    omega (arith, sum_by-cons (λ (x : Row). sum x.value) r rows, sums_within words rows few h.1, one, long)
