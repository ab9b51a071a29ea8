use Rattle.std.{proofs.Common.{◌≡◌, ◌++◌, take}, specs.{Prelude.{codes, string_bytes}, Fmt.{decimal}, List.{flat_map}}}
use Rattle.sh_text.proofs.push.push_more_words.Given as goal

abbrev pub invariant-loop-word : goal.invariant-loop-word
invariant-loop-word l = string_bytes l.text ≡ string_bytes l.fn.text ++ flat_map (λ w. codes ":" ++ decimal w) (take l.word-index l.words)
