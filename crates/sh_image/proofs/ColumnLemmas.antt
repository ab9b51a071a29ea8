-- The entries in columns, by their indexes.
use Rattle.std.{proofs.{Common.{◌≡◌, ℕ, ◌<◌, ◌≤◌, List, [], length, get_or, set, take, sym, ap, ◌∙◌, inl, inr, arith}, lemmas.Bool.{cases_eq}}, specs.Prelude.{replicate}}
use Rattle.std.proofs.lemmas.List.{same_lists, get_or-map, get_or-take, get_or-replicate, get_or_default, length-replicate, length-map, length-take-le, length-set, get_or-set_same, get_or-set_other}
use Rattle.std.proofs.lemmas.List.FromFn.{get_or-map-range_with_len, length-map-range_with_len}
use Rattle.sh_image.specs.{declared.leaf.LeafEntry.{LeafEntry}, Entries.{keys_of}, Columns.{entry_of_columns, entries_of_columns}}

module _ (versions keys : List ℕ) (values : List (List ℕ)) where
  pub length_entries_of : (n : ℕ) → length (entries_of_columns n versions keys values) ≡ n
  unfolding entries_of_columns
  length_entries_of n = length-map-range_with_len (entry_of_columns versions keys values) 0 n

  pub get_or_entries_of : (n i : ℕ) (d : LeafEntry) → i < n → get_or (entries_of_columns n versions keys values) i d ≡ entry_of_columns versions keys values i
  unfolding entries_of_columns
  get_or_entries_of n i d below = get_or-map-range_with_len (entry_of_columns versions keys values) 0 n i i d below (omega arith)

  pub keys_of_entries_of : (n : ℕ) → n ≤ length keys → keys_of (entries_of_columns n versions keys values) ≡ take n keys
  keys_of_entries_of n room =
      let long : length (keys_of (entries_of_columns n versions keys values)) ≡ n = length-map (entries_of_columns n versions keys values) (λ (x : LeafEntry). x.key) ∙ length_entries_of n in
      same_lists _ _ (long ∙ sym (length-take-le n keys room)) (λ k d below.
      let e : LeafEntry = entry_of_columns versions keys values k in
      get_or-map (λ (x : LeafEntry). x.key) (entries_of_columns n versions keys values) k e d (omega (arith, length_entries_of n))
      ∙ ap (λ (x : LeafEntry). x.key) (get_or_entries_of n k e (omega arith))
      ∙ get_or_default keys k 0 d (omega arith)
      ∙ sym (get_or-take n keys k d (omega arith)))

pub entries_of_replicate : (n : ℕ) (zero : List ℕ) → n ≤ 64 → entries_of_columns n (replicate 64 0) (replicate 64 0) (replicate 64 zero) ≡ replicate n (record { version = 0; key = 0; value = zero })
entries_of_replicate n zero room =
    same_lists _ _ (length_entries_of (replicate 64 0) (replicate 64 0) (replicate 64 zero) n ∙ sym (length-replicate n _)) (λ k d below.
    let in_range : k < n = omega (arith, length_entries_of (replicate 64 0) (replicate 64 0) (replicate 64 zero) n) in
    get_or_entries_of (replicate 64 0) (replicate 64 0) (replicate 64 zero) n k d in_range
    ∙ (λ t. record { version = get_or-replicate 64 k 0 0 (omega arith) t; key = get_or-replicate 64 k 0 0 (omega arith) t; value = get_or-replicate 64 k zero [] (omega arith) t })
    ∙ sym (get_or-replicate n k _ d in_range))

module _ (versions keys : List ℕ) (values : List (List ℕ)) (i : ℕ) (e : LeafEntry) where
  entry_of_set : (k : ℕ) → i < length versions → i < length keys → i < length values → (n : ℕ) → k < n → (d : LeafEntry) → i < n → entry_of_columns (set versions i e.version) (set keys i e.key) (set values i e.value) k ≡ get_or (set (entries_of_columns n versions keys values) i e) k d
  entry_of_set k a b c n below d in_range = elim (cases_eq k i) [
    | inl same ↦ rw same ((λ t. record { version = get_or-set_same versions i e.version 0 a t; key = get_or-set_same keys i e.key 0 b t; value = get_or-set_same values i e.value [] c t }) ∙ sym (get_or-set_same (entries_of_columns n versions keys values) i e d (omega (arith, length_entries_of versions keys values n))))
    | inr other ↦ (λ t. record { version = get_or-set_other versions i k e.version 0 other t; key = get_or-set_other keys i k e.key 0 other t; value = get_or-set_other values i k e.value [] other t }) ∙ sym (get_or-set_other (entries_of_columns n versions keys values) i k e d other ∙ get_or_entries_of versions keys values n k d below)
  ]

  pub entries_of_set : (n : ℕ) → i < n → n ≤ length versions → n ≤ length keys → n ≤ length values → entries_of_columns n (set versions i e.version) (set keys i e.key) (set values i e.value) ≡ set (entries_of_columns n versions keys values) i e
  entries_of_set n below a b c =
      let long = length_entries_of (set versions i e.version) (set keys i e.key) (set values i e.value) n in
      same_lists _ _ (long ∙ sym (length-set (entries_of_columns n versions keys values) i e ∙ length_entries_of versions keys values n)) (λ k d h.
      get_or_entries_of (set versions i e.version) (set keys i e.key) (set values i e.value) n k d (omega (arith, long))
      ∙ entry_of_set k (omega arith) (omega arith) (omega arith) n (omega (arith, long)) d below)
