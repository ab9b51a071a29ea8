-- The words of a node have one answer: the node that they spell, or the one cause that they spell none.
use Rattle.std.proofs.{Common.{rules, ◌≡◌, ℕ, ◌≤◌, List, length, get_or, sym, ap, ◌∙◌, arith}, lemmas.Bool.{cases_lt}}
use Rattle.sh_base.specs.{declared.config.ConfigParts.{ConfigParts}, Setting.{node_size}}
use Rattle.sh_image.specs.declared.{inner.Image.{Image, TheVariants.{Leaf, Inner}}, read.Seen.{Seen, TheVariants.{Odd}}}
use Rattle.sh_image.{specs.{Seen.{IsTornAt, SeenBy}, Node.{words_of, IsImage, SpellsImage, seen_as}}, proofs.InnerLemmas.{inner_spelled_one, length-inner_words}}
use Rattle.sh_image.proofs.{LeafLemmas.{length-leaf_words, spelled_one, values_of}, UntornLemmas.{seen_spelled, seen_inner}}

-- the first torn entry is one
torn_once : (p : ConfigParts) (ws : List ℕ) (i j : ℕ) → IsTornAt p ws i → IsTornAt p ws j → i ≡ j
torn_once p ws i j h k = search (rules, cases_lt)

module _ (p : ConfigParts) (ws : List ℕ) (some : 1 ≤ p.value_words) where
  pub one_answer : (a b : Seen) → SeenBy p ws a → SeenBy p ws b → a ≡ b
  one_answer a b h k = search (rules, seen_spelled, seen_inner, torn_once)

  -- a reader's answer to words that spell a node is that node
  pub seen_image : (a : Image) (seen : Seen) → SpellsImage p ws a → SeenBy p ws seen → seen ≡ seen_as a
  seen_image a seen s h = search (rules, seen_spelled, seen_inner)

  pub odd_spells_none : (a : Image) → SeenBy p ws Odd → SpellsImage p ws a → ⊥
  odd_spells_none a h s = search rules

  pub spelled_twice : (a b : Image) → SpellsImage p ws a → SpellsImage p ws b → a ≡ b
  spelled_twice (Leaf a) (Leaf b) s t = ap Leaf (sym (spelled_one p ws a s) ∙ spelled_one p ws b t)
  spelled_twice (Leaf a) (Inner b) s t = absurd (omega (arith, ap (λ l. get_or l 1 0) s.words, ap (λ l. get_or l 1 0) t.words, t.lawful.level))
  spelled_twice (Inner a) (Leaf b) s t = absurd (omega (arith, ap (λ l. get_or l 1 0) t.words, ap (λ l. get_or l 1 0) s.words, s.lawful.level))
  spelled_twice (Inner a) (Inner b) s t = ap Inner (sym (inner_spelled_one p ws a s) ∙ inner_spelled_one p ws b t)

module _ (p : ConfigParts) (some : 1 ≤ p.value_words) where
  spells_own : (a : Image) → IsImage p a → SpellsImage p (words_of p a) a
  spells_own a h = search rules

  -- so is the answer to the words that were written of a node
  pub read_again : (a : Image) (seen : Seen) → IsImage p a → SeenBy p (words_of p a) seen → seen ≡ seen_as a
  read_again a seen h = seen_image p (words_of p a) some a seen (spells_own a h)

  pub length-words_of : (a : Image) → IsImage p a → length (words_of p a) ≡ node_size p
  length-words_of a h = search (rules, length-leaf_words, values_of, length-inner_words)
