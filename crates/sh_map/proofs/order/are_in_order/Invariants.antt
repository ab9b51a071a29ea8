use Rattle.std.{proofs.Common.{◌+◌, ◌-◌, ◌≤◌, length, take}, specs.Vec.{vec_capacity, vec_len}}
use Rattle.sh_map.specs.{Judge.{FitsOrder}, Tables.{AreKept, AreBounds}}
use Rattle.sh_map.proofs.order.are_in_order.Given as goal

abbrev pub invariant-loop-done : goal.invariant-loop-done
invariant-loop-done l = AreKept FitsOrder (take l.done-index l.dones) l.kept.items × AreBounds (take l.done-index l.dones) l.above l.ends × (vec_len l.kept + (length l.dones - l.done-index) ≤ vec_capacity l.kept)
