use Rattle.std.{proofs.Common.{◌≡◌, ◌+◌, ◌≤◌, [], length}, specs.{Vec.{vec_capacity}, List.{AllByRecursion}}}
use Rattle.sh_base.specs.Parts.{parts_of}
use Rattle.sh_pool.specs.Gathering.{AreTakenIn, IsAtTable}
use Rattle.sh_pool.proofs.gathering.take_all.Given as goal

abbrev pub invariant-loop-pass : goal.invariant-loop-pass
invariant-loop-pass l =
    AreTakenIn l.fn.passes.items l.passes.items l.last.me.0 l.chairs.items × (l.last.table_id ≡ l.words.table_id) × (l.last.me.1 ≡ []) × AllByRecursion (IsAtTable l.words.table_id (parts_of l.words.key)) l.passes.items
    × (length l.passes.items + length l.chairs.items ≤ vec_capacity l.chairs)

abbrev pub decreases-loop-pass : goal.decreases-loop-pass
decreases-loop-pass l = goal.left-loop-pass l
