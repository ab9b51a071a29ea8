use Rattle.std.{proofs.Common.{◌≡◌, ◌≤◌, []}, specs.Vec.{vec_capacity}}
use Rattle.sh_base.specs.Setting.{all_seats}
use Rattle.sh_pool.specs.Pools.{AreMade}
use Rattle.sh_pool.proofs.pool.LaidPool.make_all.Given as goal

abbrev pub invariant-loop-seat : goal.invariant-loop-seat
invariant-loop-seat l = AreMade l.self l.seat l.maker.me.0 l.chairs.items l.passes.items × (l.maker.table_id ≡ l.self.table) × (l.maker.me.1 ≡ []) × (all_seats l.self.setting ≤ vec_capacity l.passes)
