-- The law of reads, over the words in memory.
use Rattle.std.proofs.Common.{rules, ◌≡◌, ℕ, ◌<◌, List, length, sym, ◌∙◌, arith}
use Rattle.sh_base.specs.{declared.config.ConfigParts.{ConfigParts}, Setting.{node_size}, Layout.{entry_at, rear_at, entry_rear_at}}
use Rattle.sh_base.proofs.LayoutLemmas.{entry_high, entry_within, node_size_is, rear_at_low}
use Rattle.sh_read.specs.Moments.{}
use Rattle.sh_read.{specs.{Reading.{IsHead, IsEntryWord}, ReadLaw.{Moment, word_at, load_at, IsHistory, HasMemoryLaw}}, proofs.Law.{node_law, entry_law}}

module _ (p : ConfigParts) (level n : ℕ) (memories : List (List ℕ)) (moments : List Moment) (h : IsHistory p level n memories moments) where
  found : (t o : ℕ) → t < length memories → o < node_size p → load_at p memories n t o ≡ word_at p moments t o
  found t o in_range below = h.agrees t (omega (arith, h.as_long)) o below

  head_below : (o : ℕ) → IsHead p level o → o < node_size p
  head_below o h1 = search (rules, node_size_is, rear_at_low)

  entry_below : (i o : ℕ) → i < p.leaf → IsEntryWord p i o → o < node_size p
  entry_below i o k at = omega (arith, at.high, entry_high p i k, node_size_is p)

  rear_found : (t : ℕ) → t < length memories → load_at p memories n t (rear_at p) ≡ word_at p moments t (rear_at p)
  rear_found t in_range = found t (rear_at p) in_range (omega (arith, node_size_is p))

  front_found : (t : ℕ) → t < length memories → load_at p memories n t 0 ≡ word_at p moments t 0
  front_found t in_range = found t 0 in_range (omega (arith, node_size_is p))

  pub memory_law : HasMemoryLaw p level n memories
  memory_law = record {
    node = λ s t le in_range agree o u head from to.
        found u o (omega arith) (head_below o head)
        ∙ node_law p level moments h.course s t le (omega (arith, h.as_long)) (sym (rear_found s (omega arith)) ∙ agree ∙ front_found t in_range) o head u from to
        ∙ sym (found s o (omega arith) (head_below o head));
    entries = λ l s a b t i sa ab bt in_range k agree entry_agree o u at from to.
        found u o (omega arith) (entry_below i o k at)
        ∙ entry_law p level moments h.course l s a b t i sa ab bt (omega (arith, h.as_long)) k (sym (rear_found s (omega arith)) ∙ agree ∙ front_found t in_range)
        (sym (found a (entry_rear_at p i) (omega arith) (omega (arith, entry_within p i k, node_size_is p))) ∙ entry_agree ∙ found b (entry_at p i) (omega arith) (omega (arith, entry_within p i k, node_size_is p))) o at u from to
        ∙ sym (found a o (omega arith) (entry_below i o k at));
  }
