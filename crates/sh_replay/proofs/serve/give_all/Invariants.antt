use Rattle.std.{proofs.Common.{◌≡◌, take}, specs.List.{fold}}
use Rattle.sh_replay.specs.Course.{given_by}
use Rattle.sh_replay.proofs.serve.give_all.Given as goal

abbrev pub invariant-loop-item : goal.invariant-loop-item
invariant-loop-item l = l.world ≡ fold given_by l.fn.world (take l.item-index l.items)
