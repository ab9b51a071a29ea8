use Rattle.std.{proofs.Common.{◌≡◌, ◌+◌, ◌-◌, ◌≤◌, []}, specs.Vec.{vec_capacity}}
use Rattle.crossbeam_queue.specs.Passes.{view, IsPassOf}
use Rattle.sh_feed.specs.{Lines.{line_id}, Views.{giver_view}, Feeds.{fresh_takers}}
use Rattle.sh_feed.proofs.feed.seat_all.Given as goal

abbrev pub invariant-loop-made : goal.invariant-loop-made
invariant-loop-made l =
    (l.made ≤ l.takers) × (l.takers ≤ vec_capacity l.seats) × IsPassOf l.line l.maker × (view l.maker ≡ giver_view (view l.fn.maker).setup (l.takers - l.made + 1) [] [])
    × (l.seats.items ≡ fresh_takers (line_id l.line) (view l.fn.maker).setup l.made)

abbrev pub decreases-loop-made : goal.decreases-loop-made
decreases-loop-made l = l.takers - l.made
