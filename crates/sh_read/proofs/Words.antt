-- What a WRITE under way leaves of a node's words.
use Rattle.std.{proofs.{Common.{rules, ◌≡◌, ◌≢◌, ◌⊎◌, ℕ, ◌+◌, ◌<◌, ◌≤◌, cond, ltb, leb, List, get_or, refl, ap, ◌∙◌, inl, inr, arith}, lemmas.Bool.Decides.{nat_tests}}, specs.Prelude.{◌&&◌}}
use Rattle.std.proofs.lemmas.Bool.{cases_lt, cases_eq}
use Rattle.sh_base.specs.{declared.config.ConfigParts.{ConfigParts}, Setting.{entry_size}, Layout.{entry_at, rear_at, entry_rear_at}}
use Rattle.sh_base.proofs.LayoutLemmas.{entry_low, entry_apart, entry_within, entry_size_is}
use Rattle.sh_read.specs.{Moments.{Writing, Idle, Whole, One, word, IsWriting, IsNodeMoment}, Reading.{IsHead, IsEntryWord, NotWhole, NotOne}}

pub stored : (n o x y : ℕ) → o < n → cond (ltb o n) x y ≡ x
stored n o x y h = grind (arith, nat_tests)

pub not_stored : (n o x y : ℕ) → n ≤ o → cond (ltb o n) x y ≡ y
not_stored n o x y h = grind (arith, nat_tests)

pub outside : (a n o x y : ℕ) → (o < a) ⊎ (a + n ≤ o) → cond (leb a o && ltb o (a + n)) x y ≡ y
outside a n o x y h = grind (arith, nat_tests)

pub inside : (a n o x y : ℕ) → a ≤ o → o < a + n → cond (leb a o && ltb o (a + n)) x y ≡ x
inside a n o x y l h = grind (arith, nat_tests)

module _ (p : ConfigParts) (level : ℕ) (s : List ℕ) where
  pub entry_end : (i : ℕ) → entry_at p i + entry_size p ≡ entry_rear_at p i + 1
  entry_end i = omega (arith, entry_size_is p)

  -- an entry's WRITE leaves the words that only node WRITEs store
  pub word_head : (w : Writing) (o : ℕ) → IsWriting p level s w → NotWhole w → IsHead p level o → word p s w o ≡ get_or s o 0
  word_head w o h n at = search (rules, outside, entry_low, entry_within)

  -- and the words of the other entries
  pub word_other : (w : Writing) (i o : ℕ) → IsWriting p level s w → NotWhole w → NotOne i w → IsEntryWord p i o → word p s w o ≡ get_or s o 0
  word_other Idle i o h n k at = refl
  word_other (Whole new done) i o h n k at = absurd n
  word_other (One j new done) i o h n k at = outside (entry_at p j) done o _ _ (elim (cases_lt i j) [
    | inl lt ↦ inl (omega (arith, entry_apart p i j lt, at.high))
    | inr ge ↦ let past : j < i = omega arith in inr (omega (arith, entry_apart p j i past, at.low, h.4, entry_size_is p))
  ])

  -- the rear version is stored last
  pub word_rear : (w : Writing) (i : ℕ) → IsWriting p level s w → NotWhole w → word p s w (entry_rear_at p i) ≡ get_or s (entry_rear_at p i) 0
  word_rear Idle i h n = refl
  word_rear (Whole new done) i h n = absurd n
  word_rear (One j new done) i h n = elim (cases_eq j i) [
    | inl e ↦ outside (entry_at p j) done (entry_rear_at p i) _ _ (inr (omega (arith, h.4, ap (entry_at p) e)))
    | inr differ ↦ word_other (One j new done) i (entry_rear_at p i) h n differ (record { low = omega arith; high = omega (arith, entry_end i) })
  ]

  -- the front version is stored first
  pub word_front : (i : ℕ) (new : List ℕ) (done : ℕ) → 1 ≤ done → word p s (One i new done) (entry_at p i) ≡ get_or new 0 0
  word_front i new done h = search (rules, inside)

  pub rear_below : (w : Writing) → IsNodeMoment p level s w → word p s w (rear_at p) ≤ get_or s 0 0
  rear_below w m = search (rules, not_stored, word_head)

  -- the first word that a node WRITE stores is its greater version
  pub word_first : (new : List ℕ) (done : ℕ) → 1 ≤ done → word p s (Whole new done) 0 ≡ get_or new 0 0
  word_first new done h = stored done 0 _ _ h

  -- what stands when an entry's WRITE ends: the other words stay
  pub ended_head : (i : ℕ) (new t : List ℕ) (o : ℕ) → i < p.leaf → level ≡ 0 → ((o : ℕ) → get_or t o 0 ≡ word p s (One i new (3 + p.value_words)) o) → IsHead p level o → get_or t o 0 ≡ get_or s o 0
  ended_head i new t o h leaf same h7 = search (rules, outside, entry_low, entry_within)

  pub ended_other : (i j : ℕ) (new t : List ℕ) (o : ℕ) → ((o : ℕ) → get_or t o 0 ≡ word p s (One j new (3 + p.value_words)) o) → j ≢ i → IsEntryWord p i o → get_or t o 0 ≡ get_or s o 0
  ended_other i j new t o same differ at = same o ∙ outside (entry_at p j) (3 + p.value_words) o _ _ (elim (cases_lt i j) [
    | inl lt ↦ inl (omega (arith, entry_apart p i j lt, at.high))
    | inr ge ↦ let past : j < i = omega arith in inr (omega (arith, entry_apart p j i past, at.low, entry_size_is p))
  ])
