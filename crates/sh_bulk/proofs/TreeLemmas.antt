-- The memory that is built holds a lawful tree, whose map is the rows.
use Rattle.std.proofs.Common.{rules, ◌≡◌, ◌≢◌, ℕ, zero, suc, ◌+◌, ◌-◌, ◌*◌, ◌^◌, ◌<◌, ◌≤◌, List, [], ◌++◌, length, get_or, take, drop, map, replicate, refl, sym, ap, subst, ◌∙◌, inl, inr, arith}
use Rattle.std.{specs.List.{AllByRecursion}, proofs.lemmas.Bool.{cases_eq, cases_lt}}
use Rattle.std.proofs.lemmas.List.{length-map, length-replicate, length-take, length-drop, get_or-map, get_or-take, get_or-drop, take-map, drop-map}
use Rattle.sh_logic.proofs.Lists.{all_at, all_drop, all_take, from_each}
use Rattle.sh_base.specs.{declared.config.ConfigParts.{ConfigParts}, Setting.{node_size, nodes, IsSetting}}
use Rattle.sh_map.specs.{declared.book.Row.{Row}, Map.{row_pair}, Rows.{row_key, nothing}}
use Rattle.sh_image.specs.{declared.{inner.Pair.{Pair}, leaf.LeafEntry.{LeafEntry}}, Leaf.{IsLeaf, IsEntry, empty_entry}, Inner.{IsInner, HasChild, no_pair}}
use Rattle.sh_image.proofs.{LeafLemmas.{length-leaf_words, values_of}, InnerLemmas.{length-inner_words}}
use Rattle.sh_edit.{specs.{Held.{pairs_of, HasKeysOnce}, Splitting.{empty_like, entry_with}}, proofs.SplitLemmas.{pairs_of-entries, AreKeys}}
use Rattle.sh_edit.proofs.HalvesLemmas.{IsPair, RiseFrom, filled_lawful, length-entries_from, once_filled, rise_drop, rise_sorted, rise_take}
use Rattle.sh_bulk.specs.{Shape.{leaf_fill, inner_fill, count_in, need_of, height_of}, Nodes.{high_in, inner_of, leaf_of, low_in, next_in, rows_at, taken_by, words_at, HaveValues}, Fault.{AreGood}}
use Rattle.sh_bulk.proofs.{ShapeLemmas.{child_begins, first_above, first_some, inner_fill_small, leaf_begins, leaf_fill_small, some_node, within_need}, LevelLemmas.{pair_is, pairs_many}}
use Rattle.sh_bulk.proofs.RowLemmas.{are_rising, high_last, high_more, key_range, leaf_low, low_first, low_small, lows_rise, next_last, next_more, rise}

-- an empty entry, by the length of its value
like : (p : ConfigParts) → empty_like (replicate p.value_words 0) ≡ empty_entry p
like p = λ t. record { version = 0; key = 0; value = replicate (length-replicate {A = ℕ} p.value_words 0 t) 0 }

module _ (p : ConfigParts) (lawful : IsSetting p) (rows : List Row) (good : AreGood rows) (values : HaveValues p rows) (room : need_of p (length rows) ≤ nodes p) where
  abbrev pub n : ℕ
  n = length rows

  -- ---- fences of any node
  fences : (level j : ℕ) → j < count_in p n level → low_in p rows level j < high_in p rows level j
  fences level j h = search (rules, cases_lt, high_more, lows_rise, high_last, low_small)

  next_node : (level j : ℕ) → level ≤ height_of p n → j < count_in p n level → next_in p rows level j ≤ nodes p
  next_node level j le h = search (rules, cases_lt, next_more, within_need, next_last)

  ends : (level j : ℕ) → j < count_in p n level → (next_in p rows level j ≡ 0 → high_in p rows level j ≡ 2 ^ 64 - 1) × (high_in p rows level j ≡ 2 ^ 64 - 1 → next_in p rows level j ≡ 0)
  ends level j h = search (rules, cases_lt, next_more, high_more, low_small, high_last, next_last)

  -- ---- leaves
  row_of : (j k : ℕ) → k < length (rows_at p rows j) → (k < leaf_fill p) × (j * leaf_fill p + k < n) × (get_or (rows_at p rows j) k nothing ≡ get_or rows (j * leaf_fill p + k) nothing)
  row_of j k h = search (rules, length-take, length-drop, get_or-take, get_or-drop)

  leaf_pair : (j : ℕ) → j < count_in p n 0 → (k : ℕ) → k < length (rows_at p rows j) → IsPair p (low_in p rows 0 j) (high_in p rows 0 j) (row_pair (get_or (rows_at p rows j) k nothing))
  leaf_pair j h k lt =
      let (below, inside, is) = row_of j k lt in
      search (rules, key_range, cases_eq, low_first, low_at_row, rise, cases_lt, high_above, high_last, all_at, all_take, all_drop, lt)
    where
      low_at_row : (i : ℕ) → i ≢ 0 → low_in p rows 0 i ≡ row_key rows (i * leaf_fill p)
      low_at_row i nz = leaf_low p rows i nz

      high_above : (i k : ℕ) → k < leaf_fill p → i + 1 < count_in p n 0 → row_key rows (i * leaf_fill p + k) < high_in p rows 0 i
      high_above i k below more = search (rules, high_more, more, low_at_row, rise, leaf_begins)

  leaf_pairs : (j : ℕ) → j < count_in p n 0 → AllByRecursion (IsPair p (low_in p rows 0 j) (high_in p rows 0 j)) (map row_pair (rows_at p rows j))
  leaf_pairs j h = from_each _ (0, []) (map row_pair (rows_at p rows j)) (λ k lt.
      let inside : k < length (rows_at p rows j) = omega (arith, length-map (rows_at p rows j) row_pair, lt) in
      subst (IsPair p (low_in p rows 0 j) (high_in p rows 0 j)) (sym (get_or-map row_pair (rows_at p rows j) k nothing (0, []) inside)) (leaf_pair j h k inside))

  leaf_keys : (j : ℕ) → j < count_in p n 0 → AreKeys (map row_pair (rows_at p rows j))
  leaf_keys j h = from_each (λ x. x.0 ≢ 0) (0, []) (map row_pair (rows_at p rows j)) (λ k lt.
      let inside : k < length (rows_at p rows j) = omega (arith, length-map (rows_at p rows j) row_pair, lt) in
      let (below, at, is) = row_of j k inside in
      let key = ap (λ (x : ℕ × List ℕ). x.0) (get_or-map row_pair (rows_at p rows j) k nothing (0, []) inside) ∙ ap (λ (r : Row). r.key) is in
      λ e. omega (arith, key, e, (key_range rows good (j * leaf_fill p + k) at).0))

  pub leaf_lawful : (j : ℕ) → j < count_in p n 0 → IsLeaf p (leaf_of p rows j)
  leaf_lawful j h =
      let xs = map row_pair (rows_at p rows j) in
      record {
        version = omega arith;
        fences = fences 0 j h;
        next = next_node 0 j (omega arith) h;
        end = ends 0 j h;
        count = length-entries_from p.leaf (empty_entry p) xs (omega (arith, length-map (rows_at p rows j) row_pair, length-take (leaf_fill p) (drop (j * leaf_fill p) rows), leaf_fill_small p lawful));
        entries = subst (λ (e : LeafEntry). AllByRecursion (IsEntry p (low_in p rows 0 j) (high_in p rows 0 j)) (map entry_with xs ++ replicate (p.leaf - length xs) e)) (like p)
            (filled_lawful p (low_in p rows 0 j) (high_in p rows 0 j) (p.leaf - length xs) (replicate p.value_words 0) xs (length-replicate {A = ℕ} p.value_words 0) (leaf_pairs j h));
      }

  pub leaf_once : (j : ℕ) → j < count_in p n 0 → HasKeysOnce (leaf_of p rows j).entries
  leaf_once j h =
      let cut : take (leaf_fill p) (drop (j * leaf_fill p) (map row_pair rows)) ≡ map row_pair (rows_at p rows j) = ap (take (leaf_fill p)) (drop-map row_pair (j * leaf_fill p) rows) ∙ take-map row_pair (leaf_fill p) (drop (j * leaf_fill p) rows) in
      once_filled (empty_entry p) (map row_pair (rows_at p rows j)) _ refl (leaf_keys j h) (subst RiseFrom cut (rise_take (leaf_fill p) _ (rise_drop (j * leaf_fill p) _ (rise_sorted (map row_pair rows) (are_rising rows good)))))

  pub leaf_rows : (j : ℕ) → j < count_in p n 0 → pairs_of (leaf_of p rows j).entries ≡ map row_pair (rows_at p rows j)
  leaf_rows j h = pairs_of-entries (empty_entry p) (map row_pair (rows_at p rows j)) _ refl (leaf_keys j h)

  -- ---- inner nodes
  -- the children of node j lie among the nodes of the level below
  taken : (level j i : ℕ) → i < taken_by p rows level j → (i < inner_fill p) × (j * inner_fill p + i < count_in p n level)
  taken level j i h = (omega (arith, h), omega (arith, h))

  pub inner_lawful : (level j : ℕ) → level < height_of p n → j < count_in p n (suc level) → IsInner p (inner_of p rows level j)
  inner_lawful level j below h =
      let start = child_begins p lawful n level j h in
      let wide = inner_fill_small p lawful in
      let many : length (inner_of p rows level j).pairs ≡ taken_by p rows level j = pairs_many p rows level j in
      let some : 1 ≤ taken_by p rows level j = omega (arith, start, wide) in
      record {
        version = omega arith;
        level = (omega arith, omega (arith, first_above p lawful n (suc level), within_need p lawful n (suc level) (omega arith), some_node p lawful n (suc level), room));
        fences = fences (suc level) j h;
        next = next_node (suc level) j (omega arith) h;
        end = ends (suc level) j h;
        count = (omega (arith, many, some), omega (arith, many, wide));
        separators = record {
          first = (let zeroth : j * inner_fill p + 0 ≡ j * inner_fill p = omega arith in ap (λ (x : Pair). x.separator) (pair_is p rows level j 0 some) ∙ ap (low_in p rows level) zeroth);
          rise = λ i lt.
              let at : i + 1 < taken_by p rows level j = omega (arith, many, lt) in
              let here = ap (λ (x : Pair). x.separator) (pair_is p rows level j i (omega (arith, at))) in
              let there = ap (λ (x : Pair). x.separator) (pair_is p rows level j (i + 1) at) in
              omega (arith, here, there, lows_rise p lawful rows good level (j * inner_fill p + i) (j * inner_fill p + (i + 1)) (omega arith) (taken level j (i + 1) at).1);
          below = λ i lt.
              let at : i < taken_by p rows level j = omega (arith, many, lt) in
              let here = ap (λ (x : Pair). x.separator) (pair_is p rows level j i at) in
              let within = taken level j i at in
              elim (cases_lt (j + 1) (count_in p n (suc level))) [
                | inl more ↦
                    let step : (j + 1) * inner_fill p ≡ j * inner_fill p + inner_fill p = grind arith in
                    omega (arith, here, high_more p rows (suc level) j more, lows_rise p lawful rows good level (j * inner_fill p + i) ((j + 1) * inner_fill p) (omega (arith, within.0)) (child_begins p lawful n level (j + 1) more))
                | inr last ↦ omega (arith, here, high_last p rows (suc level) j last, low_small p lawful rows good level (j * inner_fill p + i) within.1)
              ];
        };
        children = from_each (HasChild p) no_pair (inner_of p rows level j).pairs (λ i lt.
            let at : i < taken_by p rows level j = omega (arith, many, lt) in
            let within = taken level j i at in
            subst (HasChild p) (sym (pair_is p rows level j i at)) (omega (arith, first_some p lawful n level), omega (arith, within.1, within_need p lawful n level (omega arith), room)));
      }

  -- ---- the words of any node
  pub words_long : (level j : ℕ) → level ≤ height_of p n → j < count_in p n level → length (words_at p rows level j) ≡ node_size p
  unfolding words_at
  words_long zero j le h = length-leaf_words p (leaf_of p rows j) (leaf_lawful j h).count (values_of p _ _ _ (leaf_lawful j h).entries)
  words_long (suc level) j le h = length-inner_words p (inner_of p rows level j) lawful.ranged.value_words.0 (inner_lawful level j (omega arith) h).count.1
