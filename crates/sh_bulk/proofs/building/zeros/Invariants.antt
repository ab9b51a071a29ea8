use Rattle.std.proofs.Common.{◌≡◌, ◌*◌, replicate}
use Rattle.sh_bulk.proofs.building.zeros.Given as goal

-- the blocks so far
abbrev pub invariant-loop : goal.invariant-loop
invariant-loop l = l.words.items ≡ replicate (l.counter * 4096) 0
