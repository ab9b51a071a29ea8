-- Words that are written piece by piece.
use Rattle.std.proofs.Common.{rules, ◌≡◌, ◌<◌, ◌≤◌, ◌+◌, ◌-◌, ◌*◌, ◌++◌, [], ◌∷◌, ℕ, zero, suc, List, length, drop, take, get_or, refl, sym, ap, ◌∙◌, append_assoc, length-append, arith}
use Rattle.std.{specs.{Prelude.{slice_set, replicate}, List.{flat_map}}, proofs.lemmas.List.{take_more, drop_all, length-drop, length-set, set_split, append-nil, Concat.{flat_map-append}}}
use Rattle.std.proofs.lemmas.Slice.{take-put_mid}
use borrow.Rule.Slice.PartMut.{put_mid}
use Rattle.sh_image.specs.{declared.{leaf.LeafEntry.{LeafEntry}, inner.Pair.{Pair}}, Leaf.{Leaf, header}, Entries.{entry_words}, Inner.{Inner, inner_header, pair_words}}

-- one piece more is written behind what stands
pub piece_more : (out front new : List ℕ) (at size next : ℕ) → at ≤ length out → next ≡ at + size → length new ≡ size → take at out ≡ front → take next (put_mid at (at + size - at) out new) ≡ front ++ new
piece_more out front new at size next in_range e long before = take-put_mid at (at + size - at) out new next (omega arith) in_range ∙ ap (λ l. l ++ new) before

-- the pieces of one entry more
pub pieces_more : (front : List ℕ) (es : List LeafEntry) (i : ℕ) (e : LeafEntry) → i < length es → get_or es i e ≡ e → front ++ flat_map entry_words (take i es) ++ entry_words e ≡ front ++ flat_map entry_words (take (i + 1) es)
pieces_more front es i e in_range is =
    let one = take_more es i e in_range ∙ ap (λ x. take i es ++ x ∷ []) is in
    append_assoc front (flat_map entry_words (take i es)) (entry_words e)
    ∙ ap (λ l. front ++ l) (sym (ap (flat_map entry_words) one ∙ flat_map-append entry_words (take i es) (e ∷ []) ∙ ap (λ l. flat_map entry_words (take i es) ++ l) (append-nil (entry_words e))))

-- the last word
pub last_word : (out front : List ℕ) (at v w : ℕ) → length out ≡ at + 1 → v ≡ w → take at out ≡ front → slice_set out at v ≡ front ++ w ∷ []
last_word out front at v w long e before =
    set_split out at v (omega arith) ∙ ap (λ l. take at out ++ v ∷ l) (drop_all (suc at) out (omega arith)) ∙ (λ i. before i ++ e i ∷ [])

-- an entry's words, its rear version last
pub entry_written : (version key rear : ℕ) (value out new : List ℕ) → length out ≡ 3 + length value → rear ≡ length out - 1 → new ≡ value → slice_set (put_mid 2 (rear - 2) (slice_set (slice_set out 0 version) 1 key) new) rear version ≡ version ∷ key ∷ (value ++ version ∷ [])
entry_written version key rear value (x ∷ y ∷ out) new long last is =
    let two : rear - 2 ≡ length new = omega (arith, ap length is) in
    let front : take rear (put_mid 2 (rear - 2) (version ∷ key ∷ out) new) ≡ version ∷ key ∷ value = take-put_mid 2 (rear - 2) (version ∷ key ∷ out) new rear (omega (arith, ap length is)) (omega arith) ∙ ap (λ l. version ∷ key ∷ l) is in
    last_word (put_mid 2 (rear - 2) (version ∷ key ∷ out) new) (version ∷ key ∷ value) rear version version (omega (arith, length-append new (drop (rear - 2) out), length-drop (rear - 2) out, ap length is)) refl front
entry_written version key rear value out new long last is = absurd (omega arith)

-- a header's words
pub header_written : (a : Leaf) (version low high next : ℕ) (out : List ℕ) → version ≡ a.version → low ≡ a.low → high ≡ a.high → next ≡ a.next → 6 < length out → take 6 (slice_set (slice_set (slice_set (slice_set (slice_set (slice_set out 0 version) 1 0) 2 low) 3 high) 4 next) 5 0) ≡ header a
header_written a version low high next (x ∷ y ∷ z ∷ w ∷ u ∷ v ∷ out) e f g h long = λ i. e i ∷ 0 ∷ f i ∷ g i ∷ h i ∷ 0 ∷ []
header_written a version low high next out e f g h long = absurd (omega arith)

pub inner_header_written : (a : Inner) (version level low high next count : ℕ) (out : List ℕ) → version ≡ a.version → level ≡ a.level → low ≡ a.low → high ≡ a.high → next ≡ a.next → count ≡ length a.pairs → 6 < length out → take 6 (slice_set (slice_set (slice_set (slice_set (slice_set (slice_set out 0 version) 1 level) 2 low) 3 high) 4 next) 5 count) ≡ inner_header a
inner_header_written a version level low high next count (x ∷ y ∷ z ∷ w ∷ u ∷ v ∷ out) e l f g h k long = λ i. e i ∷ l i ∷ f i ∷ g i ∷ h i ∷ k i ∷ []
inner_header_written a version level low high next count out e l f g h k long = absurd (omega arith)

-- one word more is written behind what stands
pub word_more : (out : List ℕ) (n v : ℕ) → n < length out → take (n + 1) (slice_set out n v) ≡ take n out ++ v ∷ []
word_more out n v below = ap (λ k. take k (slice_set out n v)) (next n) ∙ by_steps out n below
  where
    next : (n : ℕ) → n + 1 ≡ suc n
    next n = omega arith

    by_steps : (out : List ℕ) (n : ℕ) → n < length out → take (suc n) (slice_set out n v) ≡ take n out ++ v ∷ []
    by_steps [] n h = absurd (omega arith)
    by_steps (x ∷ out) zero h = refl
    by_steps (x ∷ out) (suc n) h = ap (λ l. x ∷ l) (by_steps out n (omega arith))

-- the words of one pair more
pub pair_more : (out front : List ℕ) (ps : List Pair) (i child : ℕ) (x : Pair) → 6 + 2 * i + 1 < length out → i < length ps → get_or ps i x ≡ x → child ≡ x.child → take (6 + 2 * i) out ≡ front ++ flat_map pair_words (take i ps) → take (6 + 2 * (i + 1)) (slice_set (slice_set out (6 + 2 * i) x.separator) (7 + 2 * i) child) ≡ front ++ flat_map pair_words (take (i + 1) ps)
pair_more out front ps i child x room below is same before =
    let n = 6 + 2 * i in
    let past : 6 + 2 * (i + 1) ≡ n + 1 + 1 = omega arith in
    let second : 7 + 2 * i ≡ n + 1 = omega arith in
    let first = slice_set out n x.separator in
    let one = take_more ps i x below ∙ ap (λ y. take i ps ++ y ∷ []) is in
    (λ t. take (past t) (slice_set first (second t) (same t)))
    ∙ word_more first (n + 1) x.child (omega (arith, length-set out n x.separator))
    ∙ ap (λ l. l ++ x.child ∷ []) (word_more out n x.separator (omega arith) ∙ ap (λ l. l ++ x.separator ∷ []) before)
    ∙ append_assoc (front ++ flat_map pair_words (take i ps)) (x.separator ∷ []) (x.child ∷ [])
    ∙ append_assoc front (flat_map pair_words (take i ps)) (pair_words x)
    ∙ ap (λ l. front ++ l) (sym (ap (flat_map pair_words) one ∙ flat_map-append pair_words (take i ps) (x ∷ []) ∙ ap (λ l. flat_map pair_words (take i ps) ++ l) (append-nil (pair_words x))))

abbrev pub zeros : ℕ → List ℕ
zeros n = replicate n 0

zeros_more : (k : ℕ) → zeros k ++ 0 ∷ [] ≡ zeros (suc k)
zeros_more zero = refl
zeros_more (suc k) = ap (λ l. 0 ∷ l) (zeros_more k)

-- one word of 0 more is written
pub zero_more : (out front : List ℕ) (n start : ℕ) → n < length out → start ≤ n → take n out ≡ front ++ zeros (n - start) → take (n + 1) (slice_set out n 0) ≡ front ++ zeros (n + 1 - start)
zero_more out front n start below from before = search (rules, word_more, append_assoc, zeros_more)
