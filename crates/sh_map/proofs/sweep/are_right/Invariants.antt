use Rattle.std.proofs.Common.{◌≡◌, ◌≤◌, length, take}
use Rattle.sh_map.{specs.Log.{map_at}, proofs.SweepLemmas.{AreSwept}}
use Rattle.sh_map.proofs.sweep.are_right.Given as goal

-- those so far were judged rightly, and the map is that of where the sweep stands
abbrev pub invariant-loop-one : goal.invariant-loop-one
invariant-loop-one l = AreSwept l.part l.log l.dones (take l.one-index l.one-items) l.kept.items × (l.map ≡ map_at l.log l.here) × (l.here ≤ length l.log)
