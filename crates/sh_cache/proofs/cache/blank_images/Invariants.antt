use Rattle.std.{proofs.Common.{◌≡◌, ◌≤◌, length}, specs.Vec.{vec_capacity}}
use Rattle.sh_cache.proofs.cache.blank_images.Given as goal

abbrev pub invariant-loop : goal.invariant-loop
invariant-loop l = (length l.images.items ≡ l.counter) × (l.room ≤ vec_capacity l.images)
