use Rattle.std.proofs.Common.{◌≡◌, ◌≤◌, vec_capacity, vec_len}
use Rattle.std.specs.List.{AllByRecursion}
use Rattle.sh_fleet.specs.Sharing.{IsNoShare}
use Rattle.sh_fleet.proofs.sharing.no_shares.Given as goal

abbrev pub invariant-loop : goal.invariant-loop
invariant-loop l = (vec_len l.shares ≡ l.counter) × (l.count ≤ vec_capacity l.shares) × AllByRecursion IsNoShare l.shares.items
