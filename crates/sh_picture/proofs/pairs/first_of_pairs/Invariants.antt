use Rattle.std.proofs.Common.{ℕ, List, ◌<◌}
use Rattle.sh_picture.specs.Marks.{AreMarked, PairLeads}
use Rattle.sh_picture.proofs.pairs.first_of_pairs.Given as goal

abbrev pub invariant-loop-index : goal.invariant-loop-index
invariant-loop-index l = (below : List ℕ) → AreMarked below l.mark l.marks → (i : ℕ) → i < l.index → PairLeads l.cfg.parts l.words below l.image.pairs i
