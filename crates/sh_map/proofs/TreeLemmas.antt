-- What a tree of keys and values says as a map.
use Rattle.std.proofs.Common.{rules, ◌≡◌, ℕ, ◌+◌, ◌<◌, ◌≤◌, List, [], ◌∷◌, ◌++◌, length, map, take, get_or, Some, None, refl, sym, ap, subst, ◌∙◌, cond, true, Less, false}
use Rattle.std.specs.{Prelude.{All, Contains, IsSome, slice_get}, declared.ops.Bound.TheVariants.{Included, Excluded}, Ordering.{nat_cmp, eq_by_cmp, is_gt}, Cmp.{nat_cmp_total}}
use Rattle.std.specs.{FinMap.{find, from_entries, get-from_entries}, Map.{lookup, keys_of}, BTreeMap.{BTreeMap, is_at, Updates, Range.{IsInRange, entries_between, range_contains}}}
use Rattle.std.proofs.lemmas.Map.{Keys.{le_from_not_gt}, Entries.{lookup-filter-keys}, Views.{range_contains-from_IsInRange, Contains-keys_from_lookup, tells_apart}, Lookups.{exact_unsigned}}
use Rattle.std.proofs.lemmas.{List.{append-nil, append_assoc, map-append, Elements.{All-map}}, Bool.{cases_lt}, Cmp.{ranked}, Option.{get_or_from_slice_get, slice_get-get_or, slice_get_within}}
use Rattle.std.specs.BTreeMap as tree
use Rattle.sh_map.{specs.{declared.book.Row.{Row}, Map.{get, put, del, row_pair, pair_row}, Tables.{given_value}}, proofs.{MapLemmas.{apart_test, is_put, is_del}, RowsLemmas.{less_is}}}
use Rattle.sh_map.proofs.WalkLemmas.{one_more}

find_is_lookup : (q : ℕ) (es : List (ℕ × List ℕ)) → find nat_cmp q es ≡ lookup (is_at (nat_cmp q)) es
find_is_lookup q [] = refl
find_is_lookup q (e ∷ es) = ap (cond (eq_by_cmp nat_cmp q e.0) (Some e.1)) (find_is_lookup q es)

pub tree_get : (t : BTreeMap ℕ (List ℕ)) (q : ℕ) → get (from_entries t.entries) q ≡ tree.get nat_cmp t q
tree_get t q = get-from_entries nat_cmp_total t.entries q ∙ find_is_lookup q t.entries

module _ (old new : BTreeMap ℕ (List ℕ)) (key : ℕ) where
  pub tree_put : (value : List ℕ) → Updates nat_cmp old new key (Some value) → from_entries new.entries ≡ put (from_entries old.entries) key value
  tree_put value h = is_put _ _ key value (tree_get new key ∙ h.1) (λ q differ. tree_get new q ∙ h.2 q (apart_test key q (λ e. differ (sym e))) ∙ sym (tree_get old q))

  pub tree_del : Updates nat_cmp old new key None → from_entries new.entries ≡ del (from_entries old.entries) key
  tree_del h = is_del _ _ key (tree_get new key ∙ h.1) (λ q differ. tree_get new q ∙ h.2 q (apart_test key q (λ e. differ (sym e))) ∙ sym (tree_get old q))

-- a walk over the entries of a part of the tree, one on
pub keys_more : (old : List ℕ) (rest new : List (ℕ × List ℕ)) (e : ℕ × List ℕ) (all : List ℕ) → old ++ keys_of rest ≡ all → rest ≡ e ∷ new → (old ++ e.0 ∷ []) ++ keys_of new ≡ all
keys_more old rest new e all h is = append_assoc old (e.0 ∷ []) (keys_of new) ∙ ap (λ es. old ++ keys_of es) (sym is) ∙ h

pub keys_all : (old : List ℕ) (rest : List (ℕ × List ℕ)) (all : List ℕ) → old ++ keys_of rest ≡ all → rest ≡ [] → old ≡ all
keys_all old rest all h is = sym (append-nil old) ∙ ap (λ es. old ++ keys_of es) (sym is) ∙ h

not_gt_from_le : (a b : ℕ) → a ≤ b → is_gt (nat_cmp a b) ≡ false
not_gt_from_le a b h = search (rules, cases_lt)

-- the keys of the part from low up to but without upto
module _ (t : BTreeMap ℕ (List ℕ)) (low upto : ℕ) (part : List (ℕ × List ℕ)) where
  pub keys_within : All (λ e. IsInRange nat_cmp (Included low) (Excluded upto) e.0) part → All (λ key. (low ≤ key) × (key < upto)) (keys_of part)
  keys_within h = All-map (λ key. (low ≤ key) × (key < upto)) (λ (e : ℕ × List ℕ). e.0) part (λ k d lt. let r = h k d lt in (le_from_not_gt low _ r.0, ranked _ upto Less (sym r.1)))

  is_in_range : (key : ℕ) → low ≤ key → key < upto → IsInRange nat_cmp (Included low) (Excluded upto) key
  is_in_range key above below = (not_gt_from_le low key above, less_is key upto below)

  -- what a key of the bounds has in the part it has in the tree
  part_has : part ≡ entries_between nat_cmp (Included low) (Excluded upto) t.entries → (key : ℕ) → low ≤ key → key < upto → lookup (is_at (nat_cmp key)) part ≡ tree.get nat_cmp t key
  part_has is key above below =
      let inside : (k : ℕ) → is_at (nat_cmp key) k ≡ true → range_contains nat_cmp (Included low) (Excluded upto) k ≡ true =
      λ k same. subst (λ x. range_contains nat_cmp (Included low) (Excluded upto) x ≡ true) (tells_apart exact_unsigned key k same) (range_contains-from_IsInRange nat_cmp_total (Included low) (Excluded upto) key (is_in_range key above below)) in
      ap (lookup (is_at (nat_cmp key))) is ∙ lookup-filter-keys (is_at (nat_cmp key)) (range_contains nat_cmp (Included low) (Excluded upto)) true inside t.entries

  pub keys_each : part ≡ entries_between nat_cmp (Included low) (Excluded upto) t.entries → (key : ℕ) → low ≤ key → key < upto → IsSome (tree.get nat_cmp t key) → Contains (keys_of part) key
  keys_each is key above below some = Contains-keys_from_lookup (tells_apart exact_unsigned) key part (subst IsSome (sym (part_has is key above below)) some)

  -- rows that are the part give its keys what they have
  pub rows_give : (rows : List Row) → map row_pair rows ≡ part → part ≡ entries_between nat_cmp (Included low) (Excluded upto) t.entries → (key : ℕ) → low ≤ key → key < upto → get (from_entries t.entries) key ≡ given_value rows key
  rows_give rows are is key above below = tree_get t key ∙ sym (part_has is key above below) ∙ ap (lookup (is_at (nat_cmp key))) (sym are) ∙ sym (get-from_entries nat_cmp_total (map row_pair rows) key ∙ find_is_lookup key (map row_pair rows))

pub this_row : (rows : List Row) (at key : ℕ) (value : List ℕ) (row : Row) → at < length rows → row ≡ get_or rows at row → row.key ≡ key → row.value ≡ value → slice_get rows at ≡ Some (pair_row key value)
this_row rows at key value row in_range read k v = slice_get-get_or rows at row in_range ∙ ap Some (sym read) ∙ ap (λ n. Some (pair_row n row.value)) k ∙ ap (λ ws. Some (pair_row key ws)) v

-- a walk over rows and the pairs of a part, one on
pub rows_more : (rows : List Row) (at key : ℕ) (value : List ℕ) (rest new all : List (ℕ × List ℕ)) → map row_pair (take at rows) ++ rest ≡ all → slice_get rows at ≡ Some (pair_row key value) → rest ≡ (key, value) ∷ new → map row_pair (take (at + 1) rows) ++ new ≡ all
rows_more rows at key value rest new all h here is =
    let row : Row = pair_row key value in
    let more : take at rows ++ row ∷ [] ≡ take (at + 1) rows = one_more rows at row (slice_get_within rows at row here) (sym (get_or_from_slice_get rows at row row here)) in
    ap (λ l. map row_pair l ++ new) (sym more) ∙ ap (λ l. l ++ new) (map-append row_pair (take at rows) (row ∷ [])) ∙ append_assoc (map row_pair (take at rows)) (row_pair row ∷ []) new ∙ ap (λ l. map row_pair (take at rows) ++ l) (sym is) ∙ h
