use Rattle.sh_state.specs.TreeState.{Pending, put}
use Rattle.sh_acts.proofs.Broken.{rear_first, early_unlock, unwritten_half, kept_number}
use Rattle.sh_acts.proofs.writes.orders_that_break.Goals as goal

pub returns-clause-early_unlock : goal.returns-clause-early_unlock
returns-clause-early_unlock c = λ words s seat depth n level low new g e h newer after. early_unlock c.args.cfg.now.parts words s g c.args.cfg.now.lawful seat depth n level low new e h newer after

pub returns-clause-rear_first : goal.returns-clause-rear_first
returns-clause-rear_first c = λ level node new v w newer go. rear_first c.args.cfg.now.parts level node new v w newer go

pub returns-clause-unwritten_half : goal.returns-clause-unwritten_half
returns-clause-unwritten_half c = λ words now s seat depth n r separator image more g ne low after. unwritten_half c.args.cfg.now.parts words s g now seat depth n r separator image more ne low after

pub returns-clause-kept_number : goal.returns-clause-kept_number
returns-clause-kept_number c = λ words now s seat depth n level low r image more g e fresh next after. kept_number c.args.cfg.now.parts words s g now seat depth n level low r image (put s.post r (Pending seat)) more e fresh next after
