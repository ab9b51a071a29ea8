-- What a search finds among rising rows, and what an edit there makes of the map.
use Rattle.std.proofs.Common.{rules, ◌≡◌, ◌≢◌, ℕ, zero, suc, ◌<◌, ◌≤◌, cond, List, [], ◌∷◌, length, get_or, set, map, Some, None, Result, Ok, Err, IfOk, IfErr, Less, Equal, Greater, refl, sym, ap, ◌∙◌, subst, arith}
use Rattle.std.specs.{Prelude.{T}, List.{insert, remove, Sorted.{IsSearchInRange, IsBinarySearchResult, IsNonDecreasingBy}}, Ordering.{nat_cmp, ordering_index, is_lt, eq_by_cmp}}
use Rattle.std.{specs.Cmp.{nat_cmp_is, nat_cmp_total}, proofs.lemmas.{Cmp.{ranked}, List.Sorted.{IsNonDecreasingBy-from_default}, Bool.Decides.{nat_tests}}}
use Rattle.std.specs.FinMap.{find, is_sorted, entries, from_entries, get-from_entries, entries-from_sorted, entries-insert, get-from_sorted, same_entries_map, empty, empty_of_len, len-entries}
use Rattle.std.{proofs.lemmas.List.{get_or_default}, specs.FinMap.Entries.{put, below_all, is_sorted-put}}
use Rattle.sh_logic.proofs.Tests.{first, second, both}
use Rattle.sh_map.{specs.{Map.{get, del, row_pair, put as map_put}, declared.book.Row.{Row}, Rows.{nothing, IsRising, map_of_rows, row_key, IsRowAt, IsGapFor}}, proofs.MapLemmas.{apart_test, is_del}}

pub less : (x y : ℕ) → T (is_lt (nat_cmp x y)) → x < y
less x y h = search (rules, ranked)

below_first : (x : ℕ) (rows : List Row) (i : ℕ) → T (below_all nat_cmp x (map row_pair rows)) → i < length rows → x < row_key rows i
below_first x [] i h lt = absurd (omega arith)
below_first x (r ∷ rows) zero h lt = less x r.key (first _ _ h)
below_first x (r ∷ rows) (suc i) h lt = below_first x rows i (second _ _ h) (omega arith)

pub rises : (rows : List Row) (i j : ℕ) → IsRising rows → i < j → j < length rows → row_key rows i < row_key rows j
rises [] i j h lt in_range = absurd (omega arith)
rises (r ∷ rows) zero zero h lt in_range = absurd (omega arith)
rises (r ∷ rows) zero (suc j) h lt in_range = below_first r.key rows j (first _ _ h) (omega arith)
rises (r ∷ rows) (suc i) zero h lt in_range = absurd (omega arith)
rises (r ∷ rows) (suc i) (suc j) h lt in_range = rises rows i j (second _ _ h) (omega arith) (omega arith)

module _ (rows : List Row) (rising : IsRising rows) (key : ℕ) where
  comparisons_rise : IsNonDecreasingBy (λ r. ordering_index (nat_cmp r.key key)) rows
  comparisons_rise = IsNonDecreasingBy-from_default (λ r. ordering_index (nat_cmp r.key key)) rows nothing (λ i j le in_range.
      let keys_rise : row_key rows i ≤ row_key rows j = grind (arith, rises rows i j rising, λ (same : i ≡ j). ap (row_key rows) same) in
      grind (arith, nat_tests))

  pub searched : (r : Result ℕ ℕ) → IsSearchInRange r (length rows) → IsBinarySearchResult (λ r. nat_cmp r.key key) rows r → record { found : IfOk r (IsRowAt rows key); absent : IfErr r (IsGapFor rows key) }
  searched (Ok at) in_range equal = record { found = record { in_range = in_range; has_key = ranked _ key _ (sym (equal nothing)) }; absent = tt }
  searched (Err at) in_range parted = record {
    found = tt;
    absent = record {
      in_range = in_range;
      smaller_before = λ j lt. ranked _ key _ (sym ((parted comparisons_rise).0 j nothing (omega arith) lt));
      greater_after = λ j le lt. ranked _ key _ (sym ((parted comparisons_rise).1 j nothing le lt));
    };
  }

gap_tail : (r : Row) (rows : List Row) (key i : ℕ) → IsGapFor (r ∷ rows) key (suc i) → IsGapFor rows key i
gap_tail r rows key i gap = record {
  in_range = omega (arith, gap.in_range);
  smaller_before = λ j lt. gap.smaller_before (suc j) (omega arith);
  greater_after = λ j le lt. gap.greater_after (suc j) (omega arith) (omega arith);
}

at_tail : (r : Row) (rows : List Row) (key i : ℕ) → IsRowAt (r ∷ rows) key (suc i) → IsRowAt rows key i
at_tail r rows key i at = record { in_range = omega (arith, at.in_range); has_key = at.has_key }

pub less_is : (x y : ℕ) → x < y → nat_cmp x y ≡ Less
less_is x y h = sym (nat_cmp_is x y Less h)

greater_is : (x y : ℕ) → y < x → nat_cmp x y ≡ Greater
greater_is x y h = sym (nat_cmp_is x y Greater h)

equal_is : (x y : ℕ) → x ≡ y → nat_cmp x y ≡ Equal
equal_is x y h = sym (nat_cmp_is x y Equal h)

-- a row in a gap
pub put_in_gap : (rows : List Row) (key : ℕ) (value : List ℕ) (i : ℕ) → IsGapFor rows key i → put nat_cmp key value (map row_pair rows) ≡ map row_pair (insert rows i (record { key = key; value = value }))
put_in_gap [] key value zero gap = refl
put_in_gap [] key value (suc i) gap = absurd (omega (arith, gap.in_range))
put_in_gap (r ∷ rows) key value zero gap = rw (less_is key r.key (gap.greater_after 0 (omega arith) (omega arith))) refl
put_in_gap (r ∷ rows) key value (suc i) gap = rw (greater_is key r.key (gap.smaller_before 0 (omega arith))) (ap (λ l. row_pair r ∷ l) (put_in_gap rows key value i (gap_tail r rows key i gap)))

-- a row over the one with the key
pub put_over : (rows : List Row) (key : ℕ) (value : List ℕ) (i : ℕ) → IsRising rows → IsRowAt rows key i → put nat_cmp key value (map row_pair rows) ≡ map row_pair (set rows i (record { key = key; value = value }))
put_over [] key value i rising at = absurd (omega (arith, at.in_range))
put_over (r ∷ rows) key value zero rising at = rw (equal_is key r.key (sym at.has_key)) (ap (λ k. (k, value) ∷ map row_pair rows) at.has_key)
put_over (r ∷ rows) key value (suc i) rising at =
    let past : r.key < key = omega (arith, rises (r ∷ rows) 0 (suc i) rising (omega arith) at.in_range, at.has_key) in
    rw (greater_is key r.key past) (ap (λ l. row_pair r ∷ l) (put_over rows key value i (second _ _ rising) (at_tail r rows key i at)))

pub find_at : (rows : List Row) (key i : ℕ) → IsRising rows → IsRowAt rows key i → find nat_cmp key (map row_pair rows) ≡ Some (get_or rows i nothing).value
find_at [] key i rising at = absurd (omega (arith, at.in_range))
find_at (r ∷ rows) key zero rising at = rw (equal_is key r.key (sym at.has_key)) refl
find_at (r ∷ rows) key (suc i) rising at =
    let past : r.key < key = omega (arith, rises (r ∷ rows) 0 (suc i) rising (omega arith) at.in_range, at.has_key) in
    rw (greater_is key r.key past) (find_at rows key i (second _ _ rising) (at_tail r rows key i at))

pub find_in_gap : (rows : List Row) (key i : ℕ) → IsGapFor rows key i → find nat_cmp key (map row_pair rows) ≡ None
find_in_gap [] key i gap = refl
find_in_gap (r ∷ rows) key zero gap = rw (less_is key r.key (gap.greater_after 0 (omega arith) (omega arith))) (find_in_gap rows key 0 (record {
  in_range = omega arith;
  smaller_before = λ j lt. absurd (omega arith);
  greater_after = λ j le lt. gap.greater_after (suc j) (omega arith) (omega arith);
}))
find_in_gap (r ∷ rows) key (suc i) gap = rw (greater_is key r.key (gap.smaller_before 0 (omega arith))) (find_in_gap rows key i (gap_tail r rows key i gap))

-- rows that are the old ones with a pair put in are rising, and their map is the put
module _ (rows new : List Row) (key : ℕ) (value : List ℕ) (rising : IsRising rows) (same : put nat_cmp key value (map row_pair rows) ≡ map row_pair new) where
  pub rising_put : IsRising new
  rising_put = subst (λ es. T (is_sorted nat_cmp es)) same (is_sorted-put nat_cmp nat_cmp_total key value (map row_pair rows) rising)

  pub view_put : map_of_rows new ≡ map_put (map_of_rows rows) key value
  view_put = same_entries_map _ _ (entries-from_sorted nat_cmp (map row_pair new) rising_put ∙ sym same ∙ ap (put nat_cmp key value) (sym (entries-from_sorted nat_cmp (map row_pair rows) rising)) ∙ sym (entries-insert nat_cmp_total (map_of_rows rows) key value))

pub get_rows : (rows : List Row) (key : ℕ) → IsRising rows → get (map_of_rows rows) key ≡ find nat_cmp key (map row_pair rows)
get_rows rows key rising = get-from_sorted nat_cmp (map row_pair rows) key rising

pub map_of_no_rows : map_of_rows [] ≡ empty
map_of_no_rows = empty_of_len (map_of_rows []) (len-entries (map_of_rows []) ∙ ap length (entries-from_sorted nat_cmp [] tt))

-- what the map has, by a search
pub get_found : (rows : List Row) (key i : ℕ) (read : Row) → IsRising rows → IsRowAt rows key i → read ≡ get_or rows i read → Some read.value ≡ get (map_of_rows rows) key
get_found rows key i read rising at is = search (rules, get_rows, find_at, get_or_default)

pub get_missed : (rows : List Row) (key i : ℕ) → IsRising rows → IsGapFor rows key i → None ≡ get (map_of_rows rows) key
get_missed rows key i rising gap = sym (get_rows rows key rising ∙ find_in_gap rows key i gap)

-- the row with the key taken out
below_removed : (x : ℕ) (rows : List Row) (i : ℕ) → T (below_all nat_cmp x (map row_pair rows)) → T (below_all nat_cmp x (map row_pair (remove rows i)))
below_removed x [] zero h = h
below_removed x [] (suc i) h = h
below_removed x (r ∷ rows) zero h = second _ _ h
below_removed x (r ∷ rows) (suc i) h = both _ _ (first _ _ h) (below_removed x rows i (second _ _ h))

pub rising_removed : (rows : List Row) (i : ℕ) → IsRising rows → IsRising (remove rows i)
rising_removed [] zero h = h
rising_removed [] (suc i) h = h
rising_removed (r ∷ rows) zero h = second _ _ h
rising_removed (r ∷ rows) (suc i) h = both _ _ (below_removed r.key rows i (first _ _ h)) (rising_removed rows i (second _ _ h))

find_removed : (rows : List Row) (key i : ℕ) → IsRising rows → IsRowAt rows key i → find nat_cmp key (map row_pair (remove rows i)) ≡ None
find_removed [] key i rising at = absurd (omega (arith, at.in_range))
find_removed (r ∷ rows) key zero rising at = find_in_gap rows key 0 (record {
  in_range = omega arith;
  smaller_before = λ j lt. absurd (omega arith);
  greater_after = λ j le lt. omega (arith, rises (r ∷ rows) 0 (suc j) rising (omega arith) (omega arith), at.has_key);
})
find_removed (r ∷ rows) key (suc i) rising at =
    let past : r.key < key = omega (arith, rises (r ∷ rows) 0 (suc i) rising (omega arith) at.in_range, at.has_key) in
    rw (greater_is key r.key past) (find_removed rows key i (second _ _ rising) (at_tail r rows key i at))

find_removed_other : (rows : List Row) (key i q : ℕ) → IsRowAt rows key i → q ≢ key → find nat_cmp q (map row_pair (remove rows i)) ≡ find nat_cmp q (map row_pair rows)
find_removed_other [] key i q at differ = absurd (omega (arith, at.in_range))
find_removed_other (r ∷ rows) key zero q at differ = rw (apart_test q r.key (λ e. differ (e ∙ at.has_key))) refl
find_removed_other (r ∷ rows) key (suc i) q at differ = ap (cond (eq_by_cmp nat_cmp q r.key) (Some r.value)) (find_removed_other rows key i q (at_tail r rows key i at) differ)

pub view_removed : (rows : List Row) (key i : ℕ) → IsRising rows → IsRowAt rows key i → map_of_rows (remove rows i) ≡ del (map_of_rows rows) key
view_removed rows key i rising at = search (rules, is_del, get_rows, rising_removed, find_removed, find_removed_other)

-- the rows are the map's entries
pub entries_are : (rows : List Row) → IsRising rows → map row_pair rows ≡ entries (map_of_rows rows)
entries_are rows rising = sym (entries-from_sorted nat_cmp (map row_pair rows) rising)

-- what rising rows give a key, by a search
pub found_in : (rows : List Row) (key i : ℕ) (d : Row) → IsRising rows → IsRowAt rows key i → Some (get_or rows i d).value ≡ get (from_entries (map row_pair rows)) key
found_in rows key i d rising at = sym (get-from_entries nat_cmp_total (map row_pair rows) key ∙ find_at rows key i rising at ∙ ap (λ (r : Row). Some r.value) (get_or_default rows i nothing d at.in_range))

pub missed_in : (rows : List Row) (key i : ℕ) → IsGapFor rows key i → None ≡ get (from_entries (map row_pair rows)) key
missed_in rows key i gap = sym (get-from_entries nat_cmp_total (map row_pair rows) key ∙ find_in_gap rows key i gap)
