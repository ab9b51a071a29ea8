use Rattle.std.{proofs.Common.{◌≡◌, ◌≤◌, take}, specs.{Vec.{vec_capacity}, Mem.Slots.{slots_items}}}
use Rattle.sh_pool.proofs.gathering.read_out.Given as goal

abbrev pub invariant-loop-i : goal.invariant-loop-i
invariant-loop-i l = (l.words.items ≡ take l.i (slots_items l.closed.words)) × (l.count ≤ vec_capacity l.words)
