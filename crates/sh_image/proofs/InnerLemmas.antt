-- Pairs and inner nodes are read back from their words, and words from the pairs that they spell.
use Rattle.std.proofs.Common.{rules, ◌≡◌, ℕ, zero, suc, ◌+◌, ◌*◌, ◌<◌, ◌≤◌, List, [], ◌∷◌, ◌++◌, length, get_or, take, drop, refl, sym, ap, subst, ◌∙◌, append_assoc, length-append, arith}
use Rattle.std.{specs.{Prelude.{replicate, slice_index}, List.{flat_map, AllByRecursion}}, proofs.Math.{Nat.{mul-le-mul_right}, Seq.{drop-cons}}}
use Rattle.std.proofs.lemmas.List.{take_at, drop_at, drop-drop, drop_all, get_or-drop, length-replicate, take-append-drop}
use Rattle.sh_base.{specs.{declared.config.ConfigParts.{ConfigParts}, Setting.{nodes, node_size}, Layout.{rear_at}}, proofs.LayoutLemmas.{node_size_is, node_size_by_words}}
use Rattle.sh_image.specs.{declared.inner.Pair.{Pair}, Inner.{Inner, pair_words, pairs_in, inner_header, inner_words, inner_in, words_behind, HasChild, IsInner, SpellsInner}}

abbrev zeros : ℕ → List ℕ
zeros n = replicate n 0

length-zeros : (n : ℕ) → length (zeros n) ≡ n
length-zeros n = length-replicate n _

-- the pair of two words
abbrev pub pair_of : ℕ → ℕ → Pair
pair_of separator child = record { separator = separator; child = child }

none : 2 * 0 ≡ 0
none = omega arith

twice : (k : ℕ) → 2 * suc k ≡ suc (suc (2 * k))
twice k = omega arith

pub pairs_in-words : (ps : List Pair) (rest : List ℕ) → pairs_in (length ps) (flat_map pair_words ps ++ rest) ≡ ps
pairs_in-words [] rest = refl
pairs_in-words (x ∷ ps) rest = ap (λ l. x ∷ l) (pairs_in-words ps rest)

pub words-pairs_in : (k : ℕ) (ws : List ℕ) → 2 * k ≤ length ws → flat_map pair_words (pairs_in k ws) ++ drop (2 * k) ws ≡ ws
words-pairs_in zero ws long = refl
words-pairs_in (suc k) [] long = absurd (omega arith)
words-pairs_in (suc k) (a ∷ []) long = absurd (omega arith)
words-pairs_in (suc k) (a ∷ b ∷ ws) long = rw (twice k) (ap (λ l. a ∷ b ∷ l) (words-pairs_in k ws (omega arith)))

pub length-pairs_in : (k : ℕ) (ws : List ℕ) → length (pairs_in k ws) ≡ k
length-pairs_in zero ws = refl
length-pairs_in (suc k) ws = ap suc (length-pairs_in k (drop 2 ws))

pub length-pair_words : (ps : List Pair) → length (flat_map pair_words ps) ≡ 2 * length ps
length-pair_words [] = sym none
length-pair_words (x ∷ ps) = omega (arith, length-pair_words ps)

-- one pair more
pub pairs_in-more : (k : ℕ) (ws : List ℕ) → pairs_in (suc k) ws ≡ pairs_in k ws ++ pair_of (get_or ws (2 * k) 0) (get_or ws (2 * k + 1) 0) ∷ []
pairs_in-more zero ws = rw none refl
pairs_in-more (suc k) ws =
    ap (λ l. record { separator = get_or ws 0 0; child = get_or ws 1 0 } ∷ l) (pairs_in-more k (drop 2 ws)
    ∙ ap (λ x. pairs_in k (drop 2 ws) ++ x ∷ []) (λ t. record { separator = word (2 * k) (2 * suc k) (omega arith) t; child = word (2 * k + 1) (2 * suc k + 1) (omega arith) t }))
  where
    word : (i j : ℕ) → 2 + i ≡ j → get_or (drop 2 ws) i 0 ≡ get_or ws j 0
    word i j e = get_or-drop 2 ws i 0 ∙ ap (λ n. get_or ws n 0) e

all_at : (P : Pair → Type 0) (n k : ℕ) (ws : List ℕ) → k < n → AllByRecursion P (pairs_in n ws) → P (pair_of (get_or ws (2 * k) 0) (get_or ws (2 * k + 1) 0))
all_at P zero k ws below h = absurd (omega arith)
all_at P (suc n) zero ws below h = rw none h.0
all_at P (suc n) (suc k) ws below h =
    subst P (λ t. record { separator = word (2 * k) (2 * suc k) (omega arith) t; child = word (2 * k + 1) (2 * suc k + 1) (omega arith) t }) (all_at P n k (drop 2 ws) (omega arith) h.1)
  where
    word : (i j : ℕ) → 2 + i ≡ j → get_or (drop 2 ws) i 0 ≡ get_or ws j 0
    word i j e = get_or-drop 2 ws i 0 ∙ ap (λ n. get_or ws n 0) e

pub all_push : (P : Pair → Type 0) (xs : List Pair) (x : Pair) → AllByRecursion P xs → P x → AllByRecursion P (xs ++ x ∷ [])
all_push P [] x h p = (p, tt)
all_push P (y ∷ xs) x h p = (h.0, all_push P xs x h.1 p)

-- the pairs of a node's words, as the code reads them
module _ (ws : List ℕ) where
  word : (i j : ℕ) → 6 + i ≡ j → get_or (drop 6 ws) i 0 ≡ get_or ws j 0
  word i j e = get_or-drop 6 ws i 0 ∙ ap (λ n. get_or ws n 0) e

  pub pair_read : (k : ℕ) → pair_of (get_or (drop 6 ws) (2 * k) 0) (get_or (drop 6 ws) (2 * k + 1) 0) ≡ pair_of (get_or ws (6 + 2 * k) 0) (get_or ws (6 + 2 * k + 1) 0)
  pair_read k = λ t. record { separator = word (2 * k) (6 + 2 * k) refl t; child = word (2 * k + 1) (6 + 2 * k + 1) (omega arith) t }

  pub pairs_more : (k : ℕ) → pairs_in (k + 1) (drop 6 ws) ≡ pairs_in k (drop 6 ws) ++ pair_of (get_or ws (6 + 2 * k) 0) (get_or ws (6 + 2 * k + 1) 0) ∷ []
  pairs_more k = search (rules, pairs_in-more, pair_read)

  pub child_of : (p : ConfigParts) (n k : ℕ) → k < n → AllByRecursion (HasChild p) (pairs_in n (drop 6 ws)) → (1 ≤ get_or ws (6 + 2 * k + 1) 0) × (get_or ws (6 + 2 * k + 1) 0 ≤ nodes p)
  child_of p n k below h = subst (HasChild p) (pair_read k) (all_at (HasChild p) n k (drop 6 ws) below h)

module _ (p : ConfigParts) where
  -- so many pairs as an inner node may have end before the rear version
  pub pairs_room : 1 ≤ p.value_words → 6 + 2 * (2 * p.leaf) ≤ rear_at p
  pairs_room some = omega (arith, node_size_is p, node_size_by_words p, mul-le-mul_right {m = 4} {n = 3 + p.value_words} p.leaf (omega arith))

  pub inner_in-inner_words : (a : Inner) → inner_in (inner_words p a) ≡ a
  inner_in-inner_words a = λ t. record { version = a.version; level = a.level; low = a.low; high = a.high; next = a.next; pairs = pairs_in-words a.pairs (zeros (words_behind p (length a.pairs)) ++ a.version ∷ []) t }

  -- words spell the inner node that is read from them, and no other
  pub inner_spelled_one : (ws : List ℕ) (a : Inner) → SpellsInner p ws a → inner_in ws ≡ a
  inner_spelled_one ws a s = ap inner_in s.words ∙ inner_in-inner_words a

  last_one : (n : ℕ) (ws : List ℕ) → length ws ≡ n + 1 → drop n ws ≡ get_or ws n 0 ∷ []
  last_one n ws h = drop-cons ws n 0 (omega arith) ∙ ap (λ l. get_or ws n 0 ∷ l) (drop_all (suc n) ws (omega arith))

  -- words whose versions agree, with zeros behind the pairs, are those of the inner node that is read from them
  pub inner_words-inner_in : (ws : List ℕ) (rear : ℕ) → rear ≡ rear_at p → length ws ≡ rear + 1 → 6 + 2 * slice_index ws 5 ≤ rear → slice_index ws rear ≡ slice_index ws 0 → take (words_behind p (slice_index ws 5)) (drop (6 + 2 * slice_index ws 5) ws) ≡ zeros (words_behind p (slice_index ws 5)) → inner_words p (inner_in ws) ≡ ws
  inner_words-inner_in (front ∷ level ∷ low ∷ high ∷ next ∷ count ∷ ws) rear is long room agree empty =
      let six : 6 + 2 * count ≡ suc (suc (suc (suc (suc (suc (2 * count)))))) = omega arith in
      let behind = words_behind p count in
      let past : rear ≡ suc (suc (suc (suc (suc (suc (2 * count + behind)))))) = omega arith in
      let rear_is : get_or ws (2 * count + behind) 0 ≡ front = rw past at agree in
      let tail : drop behind (drop (2 * count) ws) ≡ front ∷ [] = drop-drop behind (2 * count) ws ∙ last_one (2 * count + behind) ws (omega arith) ∙ ap (λ r. r ∷ []) rear_is in
      let zeros_are : take behind (drop (2 * count) ws) ≡ zeros behind = ap (λ n. take behind (drop n (front ∷ level ∷ low ∷ high ∷ next ∷ count ∷ ws))) (sym six) ∙ empty in
      let rest : zeros behind ++ front ∷ [] ≡ drop (2 * count) ws = (λ t. sym zeros_are t ++ sym tail t) ∙ take-append-drop behind (drop (2 * count) ws) in
      let many : length (pairs_in count ws) ≡ count = length-pairs_in count ws in
      ap (λ n. front ∷ level ∷ low ∷ high ∷ next ∷ n ∷ (flat_map pair_words (pairs_in count ws) ++ (zeros (words_behind p n) ++ front ∷ []))) many
      ∙ ap (λ l. front ∷ level ∷ low ∷ high ∷ next ∷ count ∷ l) (ap (λ l. flat_map pair_words (pairs_in count ws) ++ l) rest ∙ words-pairs_in count ws (omega arith))
  inner_words-inner_in ws rear is long room agree empty = absurd (omega arith)

  -- the words behind the pairs of an inner node that is spelled
  pub zeros_spelled : (ws : List ℕ) (a : Inner) → SpellsInner p ws a → take (words_behind p (slice_index ws 5)) (drop (6 + 2 * slice_index ws 5) ws) ≡ zeros (words_behind p (slice_index ws 5))
  zeros_spelled ws a s = search (rules, append_assoc, drop_at, length-pair_words, take_at, length-zeros)

  -- its rear version
  pub rear_spelled : (ws : List ℕ) (a : Inner) → 1 ≤ p.value_words → SpellsInner p ws a → slice_index ws (rear_at p) ≡ slice_index ws 0
  rear_spelled ws a some s = subst (λ (l : List ℕ). slice_index l (rear_at p) ≡ slice_index l 0) (sym s.words) here
    where
      here : get_or (inner_words p a) (rear_at p) 0 ≡ a.version
      here =
          let blank = zeros (words_behind p (length a.pairs)) in
          let body = inner_header a ++ (flat_map pair_words a.pairs ++ blank) in
          let long : length body ≡ rear_at p = omega (arith, length-append (flat_map pair_words a.pairs) blank, length-pair_words a.pairs, length-zeros (words_behind p (length a.pairs)), pairs_room some, s.lawful.count) in
          ap (λ l. get_or (inner_header a ++ l) (rear_at p) 0) (sym (append_assoc (flat_map pair_words a.pairs) blank (a.version ∷ []))) ∙ sym (get_or-drop (rear_at p) (body ++ a.version ∷ []) 0 0 ∙ ap (λ n. get_or (body ++ a.version ∷ []) n 0) (omega arith)) ∙ ap (λ l. get_or l 0 0) (drop_at body (a.version ∷ []) (rear_at p) long)

  pub length-inner_words : (a : Inner) → 1 ≤ p.value_words → length a.pairs ≤ 2 * p.leaf → length (inner_words p a) ≡ node_size p
  length-inner_words a some few = search (rules, length-append, length-pair_words, length-zeros, pairs_room, node_size_is)

-- the image after some of the pairs were read
pub record IsDecoded (p : ConfigParts) (ws : List ℕ) (next i : ℕ) (image : Inner) : Type 0 where
  pub others : image ≡ record { version = get_or ws 0 0; level = get_or ws 1 0; low = get_or ws 2 0; high = get_or ws 3 0; next = next; pairs = image.pairs }
  pub pairs : image.pairs ≡ pairs_in i (drop 6 ws)
  pub children : AllByRecursion (HasChild p) image.pairs

pub decoded_more : (p : ConfigParts) (ws : List ℕ) (next i child : ℕ) (image new : Inner) → child ≡ get_or ws (6 + 2 * i + 1) 0 → (1 ≤ get_or ws (6 + 2 * i + 1) 0) → (get_or ws (6 + 2 * i + 1) 0 ≤ nodes p) → IsDecoded p ws next i image → new ≡ record image { pairs = image.pairs ++ pair_of (get_or ws (6 + 2 * i) 0) child ∷ [] } → IsDecoded p ws next (i + 1) new
decoded_more p ws next i child image new is low high h now = search (rules, pairs_more, all_push)

-- what an inner node that is spelled says of its words
pub inner_spelled : (p : ConfigParts) (ws : List ℕ) (a : Inner) → SpellsInner p ws a → IsInner p (inner_in ws) × (get_or ws 4 0 ≤ nodes p) × (get_or ws 5 0 ≤ 2 * p.leaf) × (1 ≤ get_or ws 1 0)
inner_spelled p ws a s = search (rules, inner_spelled_one)

-- words that passed the tests spell the inner node that was read from them
pub inner_passed : (p : ConfigParts) (ws : List ℕ) (image : Inner) → 1 ≤ p.value_words → length ws ≡ node_size p → get_or ws (rear_at p) 0 ≡ get_or ws 0 0 → get_or ws 5 0 ≤ 2 * p.leaf → take (words_behind p (get_or ws 5 0)) (drop (6 + 2 * get_or ws 5 0) ws) ≡ zeros (words_behind p (get_or ws 5 0)) → (image ≡ inner_in ws) × AllByRecursion (HasChild p) image.pairs → IsInner p image → SpellsInner p ws image
inner_passed p ws image some long untorn few empty is lawful = record {
  words = sym (ap (inner_words p) is.0 ∙ inner_words-inner_in p ws (rear_at p) refl (long ∙ node_size_is p) (omega (arith, pairs_room p some, few)) untorn empty);
  lawful = lawful;
}

pub inner_failed : (p : ConfigParts) (ws : List ℕ) (image a : Inner) → (image ≡ inner_in ws) × AllByRecursion (HasChild p) image.pairs → SpellsInner p ws a → IsInner p image
inner_failed p ws image a is s = subst (IsInner p) (sym is.0) (inner_spelled p ws a s).0

pub length_decoded : (p : ConfigParts) (ws : List ℕ) (image : Inner) → (image ≡ inner_in ws) × AllByRecursion (HasChild p) image.pairs → length image.pairs ≡ get_or ws 5 0
length_decoded p ws image is = ap (λ (a : Inner). length a.pairs) is.0 ∙ length-pairs_in (get_or ws 5 0) (drop 6 ws)
