use Rattle.sh_core_says.proofs.{Trees.{holds_tree}, AtRest.{skipped_are, top_is, all_free, free_words}}
use Rattle.sh_core_says.proofs.quiescent.trees_at_rest.Goals as goal

pub returns-clause-tree : goal.returns-clause-tree
returns-clause-tree c = λ words s g rest. holds_tree c.args.cfg.now.parts words s g rest

pub returns-clause-unposted : goal.returns-clause-unposted
returns-clause-unposted c = λ words s skipped levels g rest different are tree. skipped_are c.args.cfg.now.parts words s g rest skipped different are levels tree

pub returns-clause-top : goal.returns-clause-top
returns-clause-top c = λ words s n low g e q. top_is c.args.cfg.now.parts words s g n low e q

pub returns-clause-rest : goal.returns-clause-rest
returns-clause-rest c = λ words s g free. all_free c.args.cfg.now.parts words s g free

pub returns-clause-locks : goal.returns-clause-locks
returns-clause-locks c = λ words s lock g free lt. free_words c.args.cfg.now.parts words s g free lock lt
