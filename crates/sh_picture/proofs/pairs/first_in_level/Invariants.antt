use Rattle.std.{proofs.Common.{ℕ, List, ◌<◌}, specs.Prelude.{slice_index}}
use Rattle.sh_picture.specs.{Tree.{AllLeadBelow}, Marks.{AreMarked}}
use Rattle.sh_picture.proofs.pairs.first_in_level.Given as goal

abbrev pub invariant-loop-node : goal.invariant-loop-node
invariant-loop-node l = (below : List ℕ) → AreMarked below l.mark l.marks → (i : ℕ) → i < l.node-index → AllLeadBelow l.cfg.parts l.words below (slice_index l.level i)
