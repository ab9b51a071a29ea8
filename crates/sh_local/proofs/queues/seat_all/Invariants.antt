use Rattle.std.{proofs.Common.{◌≡◌, ◌-◌, ◌≤◌, [], replicate}, specs.Vec.{vec_capacity}}
use Rattle.sh_local.specs.{Calls.{opener}, Chairs.{fresh_chair}}
use Rattle.sh_local.proofs.queues.seat_all.Given as goal

abbrev pub invariant-loop-made : goal.invariant-loop-made
invariant-loop-made g l =
    (l.made ≤ l.chairs) × (l.chairs ≤ vec_capacity l.seats) × (l.maker.table_id ≡ l.shelf.table_id) × (l.maker.me ≡ (opener l.shelf.key.key (l.chairs - l.made), []))
    × (l.seats.items ≡ replicate l.made (fresh_chair l.shelf.table_id l.shelf.key.key))

abbrev pub decreases-loop-made : goal.decreases-loop-made
decreases-loop-made g l = l.chairs - l.made
