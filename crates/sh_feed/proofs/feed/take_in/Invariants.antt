use Rattle.crossbeam_queue.specs.Passes.{view, IsPassOf}
use Rattle.sh_feed.specs.{Lines.{line_id}, Feeds.{AllAt, IsTakenIn}}
use Rattle.sh_feed.proofs.feed.take_in.Given as goal

abbrev pub invariant-loop-taker : goal.invariant-loop-taker
invariant-loop-taker l = IsPassOf l.line l.giver × AllAt (line_id l.line) l.takers.items × IsTakenIn l.fn.takers.items l.takers.items (view l.fn.giver) (view l.giver)

abbrev pub decreases-loop-taker : goal.decreases-loop-taker
decreases-loop-taker l = goal.left-loop-taker l
