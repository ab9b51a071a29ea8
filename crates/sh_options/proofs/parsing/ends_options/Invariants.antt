use Rattle.std.proofs.Common.{◌≡◌, map, drop}
use Rattle.sh_options.specs.Command.{has_end}
use Rattle.sh_options.proofs.parsing.ends_options.Given as goal

abbrev pub invariant-loop-word : goal.invariant-loop-word
invariant-loop-word l = has_end (map (λ w. w.now) l.words) ≡ has_end (map (λ w. w.now) (drop l.word-index l.words))
