use Rattle.std.proofs.Common.{arith}
use Rattle.sh_read.proofs.KeptLemmas.{wants, wants_none}
use Rattle.sh_read.proofs.state.Reading.want.Goals as goal

pub returns-clause-here : goal.returns-clause-here
returns-clause-here c = rw (← c.self.view_is, c.self.invariant.address) (wants c.self.inside.cfg.parts c.self.inside.cfg.lawful c.self.inside.left c.self.inside.words c.self.invariant.room c.self.invariant.within c.self.inside.node (omega (arith, c.if-self-eq0.false)))

pub returns-then-self-eq0-clause-here : goal.returns-then-self-eq0-clause-here
returns-then-self-eq0-clause-here c = rw (← c.self.view_is) (wants_none c.self.inside.cfg.parts c.self.inside.cfg.lawful c.self.inside.left c.self.inside.words c.self.invariant.room c.self.invariant.within c.self.inside.node c.if-self-eq0.true)
