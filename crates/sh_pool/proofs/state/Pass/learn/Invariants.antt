use Rattle.std.proofs.Common.{length}
use Rattle.sh_pool.specs.Passes.{pass_actor, tale_of}
use Rattle.sh_pool.proofs.state.Pass.learn.Given as goal

abbrev pub ghosts-learn_by : goal.ghosts-learn_by
ghosts-learn_by a = record { actor = pass_actor a.self.now; tale = tale_of a.self.now (length a.self.now.chair.view.calls) }
