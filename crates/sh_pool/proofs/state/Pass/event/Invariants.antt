use Rattle.std.proofs.Common.{length}
use Rattle.sh_pool.specs.Passes.{pass_actor, tale_of}
use Rattle.sh_pool.proofs.state.Pass.event.Given as goal

abbrev pub ghosts-event_as : goal.ghosts-event_as
ghosts-event_as a = record { actor = pass_actor a.self.now; tale = tale_of a.self.now (length a.self.now.chair.view.calls) }
