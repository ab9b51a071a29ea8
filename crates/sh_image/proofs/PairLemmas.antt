-- The pairs in columns, by their indexes.
use Rattle.std.proofs.{Common.{◌≡◌, ℕ, ◌+◌, ◌<◌, ◌≤◌, List, [], ◌∷◌, ◌++◌, length, get_or, set, take, refl, sym, ap, ◌∙◌, inl, inr, length-append, arith}, lemmas.Bool.{cases_lt}}
use Rattle.std.proofs.lemmas.List.{same_lists, get_or-take, length-take-le, get_or-set_same, get_or-set_other, get_or_append_left, FromFn.{get_or-map-range_with_len, length-map-range_with_len}}
use Rattle.sh_image.specs.{declared.inner.Pair.{Pair}, PairColumns.{pair_at, pairs_of_columns}}

module _ (separators children : List ℕ) where
  pub length_pairs_of : (n : ℕ) → length (pairs_of_columns n separators children) ≡ n
  unfolding pairs_of_columns
  length_pairs_of n = length-map-range_with_len (pair_at separators children) 0 n

  pub get_or_pairs_of : (n i : ℕ) (d : Pair) → i < n → get_or (pairs_of_columns n separators children) i d ≡ pair_at separators children i
  unfolding pairs_of_columns
  get_or_pairs_of n i d below = get_or-map-range_with_len (pair_at separators children) 0 n i i d below (omega arith)

pub no_pairs_of : (separators children : List ℕ) → pairs_of_columns 0 separators children ≡ []
unfolding pairs_of_columns
no_pairs_of separators children = refl

at_end : (xs : List Pair) (x d : Pair) (k n : ℕ) → length xs ≡ n → k ≡ n → get_or (xs ++ x ∷ []) k d ≡ x
at_end xs x d k n long is = ap (λ j. get_or (xs ++ x ∷ []) j d) (is ∙ sym long) ∙ last xs
  where
    last : (xs : List Pair) → get_or (xs ++ x ∷ []) (length xs) d ≡ x
    last [] = refl
    last (y ∷ xs) = last xs

pub pairs_of_push : (separators children : List ℕ) (n : ℕ) (x : Pair) → n < length separators → n < length children → pairs_of_columns (n + 1) (set separators n x.separator) (set children n x.child) ≡ pairs_of_columns n separators children ++ x ∷ []
pairs_of_push separators children n x a b =
    let old = pairs_of_columns n separators children in
    let news = set separators n x.separator in
    let newc = set children n x.child in
    let long = length_pairs_of news newc (n + 1) in
    let old_long = length_pairs_of separators children n in
    same_lists _ _ (long ∙ sym (length-append old (x ∷ []) ∙ ap (λ k. k + 1) old_long)) (λ k d h.
    let in_range : k < n + 1 = omega (arith, long) in
    get_or_pairs_of news newc (n + 1) k d in_range
    ∙ elim (cases_lt k n) [
      | inl below ↦ (λ t. record { separator = get_or-set_other separators n k x.separator 0 (λ e. omega arith) t; child = get_or-set_other children n k x.child 0 (λ e. omega arith) t }) ∙ sym (get_or_append_left old (x ∷ []) d k (omega (arith, old_long)) ∙ get_or_pairs_of separators children n k d below)
      | inr from ↦
          let is : k ≡ n = omega arith in
          ap (pair_at news newc) is ∙ (λ t. record { separator = get_or-set_same separators n x.separator 0 a t; child = get_or-set_same children n x.child 0 b t }) ∙ sym (at_end old x d k n old_long is)
    ])

-- pairs whose columns begin as two others do
pub pairs_of_front : (s c news newc r q : List ℕ) (n : ℕ) → news ≡ take n s → newc ≡ take n c → n ≤ length s → n ≤ length c → pairs_of_columns n (news ++ r) (newc ++ q) ≡ pairs_of_columns n s c
pairs_of_front s c news newc r q n is_s is_c a b =
    same_lists _ _ (length_pairs_of (news ++ r) (newc ++ q) n ∙ sym (length_pairs_of s c n)) (λ k d h.
    let below : k < n = omega (arith, length_pairs_of (news ++ r) (newc ++ q) n) in
    get_or_pairs_of (news ++ r) (newc ++ q) n k d below
    ∙ (λ t. record { separator = front s news r n k is_s a below t; child = front c newc q n k is_c b below t })
    ∙ sym (get_or_pairs_of s c n k d below))
  where
    front : (xs new r : List ℕ) (n k : ℕ) → new ≡ take n xs → n ≤ length xs → k < n → get_or (new ++ r) k 0 ≡ get_or xs k 0
    front xs new r n k is a h = get_or_append_left new r 0 k (omega (arith, ap length is, length-take-le n xs a)) ∙ ap (λ l. get_or l k 0) is ∙ get_or-take n xs k 0 h
