use Rattle.std.proofs.Common.{◌≡◌, ℕ, ◌<◌}
use Rattle.sh_map.specs.{Log.{map_at}, Judge.{FitsEntry}}
use Rattle.sh_map.proofs.entries.first_unfit_entry.Given as goal

-- the entries so far fit, and the map is theirs
abbrev pub invariant-loop-at : goal.invariant-loop-at
invariant-loop-at l = record { fits : (i : ℕ) → i < l.at → FitsEntry l.log l.dones i; map : l.map ≡ map_at l.log l.at }
