-- What a READ leaves behind a word.
use Rattle.std.{proofs.Common.{rules, ◌≡◌, ◌≢◌, ℕ, ◌+◌, ◌-◌, true, false, length, Some, None, arith}, specs.Prelude.{nat_lt}}
use Rattle.sh_logic.proofs.Tests.{less_test}
use Rattle.sh_base.{specs.{declared.config.ConfigParts.{ConfigParts}, Setting.{node_size}, Layout.{node_word}}, proofs.LayoutLemmas.{node_size_is}}
use Rattle.sh_image.specs.declared.read.Seen.{Seen}
use Rattle.sh_read.specs.{Judging.{seen_of}, Reads.{Reads, answer_to, read_fed, reads_left, progress_of, reads_start}}
use Rattle.sh_client.specs.Sound.{IsLoading, Leaves}

some_is : {X : Type 0} (x : X) → Some x ≢ None
some_is x h = cc

module _ (p : ConfigParts) where
  pub start_loading : (node : ℕ) → IsLoading p (reads_start node)
  start_loading node = rw (less_test 0 (node_size p) (omega (arith, node_size_is p))) (some_is (node_word p node + (node_size p - 1 - 0)))

  more : (r : Reads) → nat_lt (length r.loaded) (node_size p) ≡ true → IsLoading p r
  more r e = rw e (some_is (node_word p r.node + (node_size p - 1 - length r.loaded)))

  whole : (r : Reads) (s : Seen) → nat_lt (length r.loaded) (node_size p) ≡ false → seen_of p r.loaded ≡ s → Leaves p (reads_left s r) (answer_to s)
  whole r s e is = search (rules, start_loading, some_is)

  pub left_loading : (r : Reads) (word : ℕ) → Leaves p (read_fed p r word) (progress_of p r word)
  left_loading r word = search (rules, more, whole)
