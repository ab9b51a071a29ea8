-- The rows of a tree, by rising keys.
use Rattle.std.{proofs.Common.{ℕ, ◌≡◌, ◌∙◌, List, [], ◌∷◌, ◌++◌, map, ap, sym, Less}, specs.{Prelude.{T}, List.{AllByRecursion, Sorted.{IsStrictlySortedBy}}, Map.{keys_of}, Ordering.{nat_cmp}}}
use Rattle.std.specs.{Cmp.{nat_cmp_total}, FinMap.{entries, entries-from_sorted, from_entries, from_sorted, get-from_entries, get-from_sorted, is_sorted, Entries.{below_all}}}
use Rattle.std.proofs.lemmas.List.{append-nil, append_assoc}
use Rattle.sh_logic.proofs.Tests.{both}
use Rattle.sh_map.{specs.{declared.book.Row.{Row}, Map.{Map, pair_row}}, proofs.MapLemmas.{same_by_keys}}
use Rattle.sh_judge.specs.Trees.{map_rows}

abbrev pub to_row : ℕ × List ℕ → Row
to_row p = pair_row p.0 p.1

below : (x : ℕ) (es : List (ℕ × List ℕ)) → AllByRecursion (λ y. nat_cmp x y ≡ Less) (keys_of es) → T (below_all nat_cmp x es)
below x [] h = tt
below x (e ∷ es) h = both _ _ (rw h.0 tt) (below x es h.1)

sorted_pairs : (es : List (ℕ × List ℕ)) → IsStrictlySortedBy nat_cmp (keys_of es) → T (is_sorted nat_cmp es)
unfolding IsStrictlySortedBy
sorted_pairs [] h = tt
sorted_pairs (e ∷ es) h = both _ _ (below e.0 es h.0) (sorted_pairs es h.1)

-- entries whose keys rise are those of their map
in_order : (es : List (ℕ × List ℕ)) → IsStrictlySortedBy nat_cmp (keys_of es) → (let m : Map = from_entries es in entries m ≡ es)
in_order es h =
    let sorted = sorted_pairs es h in
    ap entries (same_by_keys (from_entries es) (from_sorted es) (λ q. get-from_entries nat_cmp_total es q ∙ sym (get-from_sorted nat_cmp es q sorted))) ∙ entries-from_sorted nat_cmp es sorted

-- a walk over the entries, one on
pub rows_more : (old : List Row) (rest new : List (ℕ × List ℕ)) (e : ℕ × List ℕ) (all : List Row) → old ++ map to_row rest ≡ all → rest ≡ e ∷ new → (old ++ to_row e ∷ []) ++ map to_row new ≡ all
rows_more old rest new e all h is = append_assoc old (to_row e ∷ []) (map to_row new) ∙ ap (λ es. old ++ map to_row es) (sym is) ∙ h

pub rows_all : (old : List Row) (rest es : List (ℕ × List ℕ)) → old ++ map to_row rest ≡ map to_row es → rest ≡ [] → IsStrictlySortedBy nat_cmp (keys_of es) → old ≡ map_rows (from_entries es)
rows_all old rest es h is sorted = sym (append-nil old) ∙ ap (λ x. old ++ map to_row x) (sym is) ∙ h ∙ ap (map to_row) (sym (in_order es sorted))
