use Rattle.std.proofs.Common.{◌≡◌, ◌+◌, ◌≤◌, drop, vec_capacity, vec_len}
use Rattle.std.specs.Vec.Iter.{into_iter_items, into_iter_len}
use Rattle.sh_base.specs.{Parts.{parts_of}, Setting.{all_seats}}
use Rattle.sh_fleet.specs.Sharing.{AreShares, AreUnused, AreWorks}
use Rattle.sh_fleet.proofs.sharing.share_out.Given as goal

abbrev pub invariant-loop-pass : goal.invariant-loop-pass
invariant-loop-pass l =
    let rest = l.pass-iterator in
    let done = vec_len l.works in
    (done + into_iter_len rest ≡ all_seats (parts_of l.cfg))
    × (done + into_iter_len rest ≤ vec_capacity l.works)
    × (vec_len l.shares ≡ all_seats (parts_of l.cfg))
    × AreUnused (parts_of l.cfg) l.pool.laid done (into_iter_items rest)
    × AreShares (parts_of l.cfg) l.items l.items done (drop done l.shares.items)
    × AreWorks (parts_of l.cfg) l.pool.laid l.items 0 l.works.items
