-- Pieces of one length, one behind the other.
use Rattle.std.proofs.Common.{rules, ◌≡◌, ℕ, zero, suc, ◌+◌, ◌-◌, ◌*◌, ◌<◌, ◌≤◌, List, [], ◌∷◌, ◌++◌, length, take, drop, refl, sym, ap, ◌∙◌, length-append, arith}
use borrow.Rule.Slice.PartMut.{put_mid}
use Rattle.sh_image.proofs.WriteLemmas.{piece_more}
use Rattle.std.{specs.List.{range_with_len, flat_map}, proofs.Math.Nat.{mul-le-mul_right}, proofs.lemmas.List.{append-nil, drop_at, take_at, Concat.{flat_map-append}}}

-- a range of numbers in two parts
pub range_split : (a i m n : ℕ) → i + m ≡ n → range_with_len a n ≡ range_with_len a i ++ range_with_len (a + i) m
range_split a zero m n e = (let start : a ≡ a + 0 = omega arith in let same : n ≡ m = omega arith in λ t. range_with_len (start t) (same t))
range_split a (suc i) m zero e = absurd (omega arith)
range_split a (suc i) m (suc n) e =
    let on : a + 1 + i ≡ a + suc i = omega arith in
    ap (λ l. a ∷ l) (range_split (a + 1) i m n (omega arith) ∙ ap (λ k. range_with_len (a + 1) i ++ range_with_len k m) on)

module _ (f : ℕ → List ℕ) (w : ℕ) where
  -- each of n pieces from a on has w words
  abbrev pub AreLong : ℕ → ℕ → Type 0
  AreLong a n = (j : ℕ) → a ≤ j → j < a + n → length (f j) ≡ w

  pub length-pieces : (a n : ℕ) → AreLong a n → length (flat_map f (range_with_len a n)) ≡ n * w
  length-pieces a zero long = omega arith
  length-pieces a (suc n) long =
      let rest = length-pieces (a + 1) n (λ j ge lt. long j (omega arith) (omega arith)) in
      search (rules, length-append, long, rest)

  -- some of the pieces, cut out
  pub pieces_cut : (a i k n : ℕ) → i + k ≤ n → AreLong a n → take (k * w) (drop (i * w) (flat_map f (range_with_len a n))) ≡ flat_map f (range_with_len (a + i) k)
  pieces_cut a i k n le long =
      let front = flat_map f (range_with_len a i) in
      let middle = flat_map f (range_with_len (a + i) k) in
      let back = flat_map f (range_with_len (a + i + k) (n - (i + k))) in
      let one : range_with_len (a + i) (n - i) ≡ range_with_len (a + i) k ++ range_with_len (a + i + k) (n - (i + k)) = range_split (a + i) k (n - (i + k)) (n - i) (omega arith) in
      let two : flat_map f (range_with_len (a + i) (n - i)) ≡ middle ++ back = ap (flat_map f) one ∙ flat_map-append f (range_with_len (a + i) k) (range_with_len (a + i + k) (n - (i + k))) in
      let whole : flat_map f (range_with_len a n) ≡ front ++ (middle ++ back) = ap (flat_map f) (range_split a i (n - i) n (omega arith)) ∙ (flat_map-append f (range_with_len a i) (range_with_len (a + i) (n - i)) ∙ ap (λ l. front ++ l) two) in
      ap (λ l. take (k * w) (drop (i * w) l)) whole
      ∙ (ap (take (k * w)) (drop_at front (middle ++ back) (i * w) (length-pieces a i (λ j ge lt. long j ge (omega arith))))
      ∙ take_at middle back (k * w) (length-pieces (a + i) k (λ j ge lt. long j (omega arith) (omega arith))))

  -- one of them
  pub piece_cut : (i n : ℕ) → i < n → AreLong 0 n → take w (drop (i * w) (flat_map f (range_with_len 0 n))) ≡ f i
  piece_cut i n lt long =
      let one : 1 * w ≡ w = omega arith in
      search (rules, one, pieces_cut, long, append-nil)

  -- one piece more
  pub pieces_more : (a n : ℕ) → flat_map f (range_with_len a n) ++ f (a + n) ≡ flat_map f (range_with_len a (n + 1))
  pieces_more a n =
      sym (ap (flat_map f) (range_split a n 1 (n + 1) refl) ∙ (flat_map-append f (range_with_len a n) ((a + n) ∷ []) ∙ ap (λ l. flat_map f (range_with_len a n) ++ l) (append-nil (f (a + n)))))

  -- a loop that writes piece after piece has written one more
  pub piece_on : (a k count at size : ℕ) (out new : List ℕ) → at ≡ k * w → size ≡ w → k < count → length out ≡ count * w → (at + size ≤ length out → length new ≡ size) → take at out ≡ flat_map f (range_with_len a k) → new ≡ f (a + k)
      → (at + size ≡ (k + 1) * w) × (take (at + size) (put_mid at (at + size - at) out new) ≡ flat_map f (range_with_len a (k + 1)))
  piece_on a k count at size out new at_is size_is lt long new_long before made = search (rules, mul-le-mul_right, piece_more, pieces_more)
