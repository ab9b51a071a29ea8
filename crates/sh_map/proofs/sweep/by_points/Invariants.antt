use Rattle.std.{proofs.Common.{◌+◌, ◌-◌, ◌≤◌, length, take}, specs.Vec.{vec_capacity, vec_len}}
use Rattle.sh_map.proofs.SweepLemmas.{AreDue}
use Rattle.sh_map.proofs.sweep.by_points.Given as goal

abbrev pub invariant-loop-place : goal.invariant-loop-place
invariant-loop-place l = AreDue l.part (take l.place l.dones) l.due.items × (vec_len l.due + (length l.dones - l.place) ≤ vec_capacity l.due)
