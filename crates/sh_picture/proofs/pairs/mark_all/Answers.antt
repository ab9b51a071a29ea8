use Rattle.std.proofs.{Common.{rules}, lemmas.List.{length-set}}
use Rattle.sh_picture.proofs.LookLemmas.{marks_step, under_more}
use Rattle.sh_picture.proofs.pairs.mark_all.Goals as goal

pub loop-node-preserved : goal.loop-node-preserved
loop-node-preserved c = search (rules, marks_step, under_more, length-set)
