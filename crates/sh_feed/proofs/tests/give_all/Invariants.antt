use Rattle.std.proofs.Common.{◌≡◌, length}
use Rattle.std.specs.List.{AllByRecursion}
use Rattle.sh_feed.specs.Jobs.{IsAsk}
use Rattle.sh_feed.proofs.tests.give_all.Given as goal

abbrev pub invariant-loop-i : goal.invariant-loop-i
invariant-loop-i g l = (l.giver.feed ≡ l.fn.giver.feed) × (l.giver.setup ≡ l.fn.giver.setup) × AllByRecursion IsAsk l.giver.gave × (length l.giver.gave ≡ l.i)
