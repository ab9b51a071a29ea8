use Rattle.std.proofs.Common.{◌+◌, ◌≤◌, ◌-◌, ap, length, subst}
use Rattle.sh_base.specs.Setting.{node_size}
use Rattle.sh_read.{specs.Reads.{Reader}, proofs.KeptLemmas.{loads_none, next_is}}
use Rattle.sh_read.proofs.state.Reading.next_inside.Goals as goal

pub returns-then-self-le1 : goal.returns-then-self-le1
returns-then-self-le1 c = subst (λ (r : Reader). node_size r.setting ≤ length r.reads.loaded + 1) c.self.view_is (loads_none c.self.inside.cfg.parts c.self.inside.cfg.lawful c.self.inside.left c.self.inside.words c.self.invariant.room c.self.invariant.within c.if-self-le1.true)

pub returns : goal.returns
returns c = rw (← c.self.view_is) (next_is c.self.inside.cfg.parts c.self.inside.cfg.lawful c.self.inside.left c.self.inside.words c.self.invariant.room c.self.invariant.within c.self.inside.node c.self.invariant.here _ c.if-self-le1.false (ap (λ n. n + (c.self.inside.left - 1)) c.self.invariant.address))
