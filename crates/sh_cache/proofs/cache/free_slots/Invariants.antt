use Rattle.std.{proofs.Common.{◌≤◌}, specs.Vec.{vec_capacity}}
use Rattle.sh_cache.specs.Columns.{AreNumbers}
use Rattle.sh_cache.proofs.cache.free_slots.Given as goal

abbrev pub invariant-loop-slot : goal.invariant-loop-slot
invariant-loop-slot l = AreNumbers l.slot l.slots.items × (l.room ≤ vec_capacity l.slots)
