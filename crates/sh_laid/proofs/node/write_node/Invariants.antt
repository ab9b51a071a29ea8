use Rattle.std.proofs.Common.{◌≡◌, ℕ, ◌+◌, ◌<◌, ◌≤◌, ◌⊎◌, length, get_or}
use Rattle.sh_base.specs.Layout.{node_word}
use Rattle.sh_laid.proofs.node.write_node.Given as goal

abbrev pub invariant-loop-step : goal.invariant-loop-step
invariant-loop-step l = (length l.words ≡ length l.fn.words)
    × ((o : ℕ) → o < l.step → get_or l.words (node_word l.cfg.parts l.node + o) 0 ≡ get_or l.from o 0)
    × ((i : ℕ) → (i < node_word l.cfg.parts l.node) ⊎ (node_word l.cfg.parts l.node + l.step ≤ i) → get_or l.words i 0 ≡ get_or l.fn.words i 0)
