use Rattle.std.proofs.Common.{length, ◌+◌}
use Rattle.sh_pool.specs.Passes.{pass_actor, tale_of}
use Rattle.sh_pool.proofs.state.Pass.look.Given as goal

abbrev pub ghosts-look_as : goal.ghosts-look_as
ghosts-look_as a = record { actor = pass_actor a.self.now; tale = tale_of a.self.now (length a.self.now.chair.view.calls + 1) }
