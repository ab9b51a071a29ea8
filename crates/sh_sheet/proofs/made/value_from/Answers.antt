use Rattle.std.proofs.{Common.{rules}, lemmas.List.{length-set}}
use Rattle.sh_sheet.proofs.MadeLemmas.{words_more}
use Rattle.sh_sheet.proofs.made.value_from.Goals as goal

pub loop-place-preserved : goal.loop-place-preserved
loop-place-preserved c = search (rules, length-set, words_more)
