use Rattle.std.proofs.Common.{◌-◌, length}
use Rattle.sh_base.specs.Parts.{parts_of}
use Rattle.sh_fleet.specs.Sharing.{IsWork}
use Rattle.sh_fleet.proofs.work.Work.finish.Given as goal

abbrev pub invariant-loop-self : goal.invariant-loop-self
invariant-loop-self g l = IsWork (parts_of l.fn.floor.cfg.now) l.fn.floor.pool.now.laid l.fn.floor.items.now l.fn.seat l.self

abbrev pub decreases-loop-self : goal.decreases-loop-self
decreases-loop-self g l = length l.self.places.items - l.self.next
