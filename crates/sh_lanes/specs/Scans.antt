-- What the scans of words find.
use Rattle.std.specs.Prelude.{◌≡◌, ◌≢◌, ℕ, ◌+◌, ◌*◌, ◌<◌, ◌==◌, if◌then◌else◌, List, [], ◌∷◌, length, slice_index}

-- no word is this one
abbrev pub LacksWord : List ℕ → ℕ → Type 0
LacksWord words word = (i : ℕ) → i < length words → slice_index words i ≢ word

-- the least index of a word
pub record IsFirst (words : List ℕ) (word i : ℕ) : Type 0 where
  pub in_range : i < length words
  pub here : slice_index words i ≡ word
  pub before : (k : ℕ) → k < i → slice_index words k ≢ word

-- the least index at which two lists of one length differ
pub record IsFirstDiffering (a b : List ℕ) (i : ℕ) : Type 0 where
  pub in_range : i < length a
  pub differ : slice_index a i ≢ slice_index b i
  pub before : (k : ℕ) → k < i → slice_index a k ≡ slice_index b k

-- how many words are 0
abbrev pub count_empty : List ℕ → ℕ
count_empty [] = 0
count_empty (word ∷ words) = (if word == 0 then 1 else 0) + count_empty words

-- the words from a start on, each a stride behind the one before
pub record IsColumn (words : List ℕ) (start stride : ℕ) (column : List ℕ) : Type 0 where
  pub each : (i : ℕ) → i < length column → slice_index column i ≡ slice_index words (start + stride * i)
