use Rattle.std.{proofs.Common.{◌≡◌, ◌≤◌}, specs.{Prelude.{vec_len}, Vec.{vec_capacity}}}
use Rattle.sh_judge.specs.Places.{log_to}
use Rattle.sh_judge.proofs.places.log_of.Given as goal

abbrev pub invariant-loop-owner : goal.invariant-loop-owner
invariant-loop-owner l = (l.log.items ≡ log_to l.dones l.owner-index) × (vec_len l.log ≤ l.owner-index) × (l.len ≤ vec_capacity l.log)
