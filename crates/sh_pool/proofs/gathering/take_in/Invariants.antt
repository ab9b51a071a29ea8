use Rattle.std.proofs.Common.{length}
use Rattle.sh_pool.specs.Passes.{pass_actor, tale_of}
use Rattle.sh_pool.proofs.gathering.take_in.Given as goal

abbrev pub ghosts-take_in_as : goal.ghosts-take_in_as
ghosts-take_in_as a = record { actor = pass_actor a.pass; tale = tale_of a.pass (length a.pass.chair.view.calls) }
