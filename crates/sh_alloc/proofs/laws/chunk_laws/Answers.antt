use Rattle.sh_alloc.proofs.WalkLemmas.{spent_by_run, chunk_by_run, run_by_spent}
use Rattle.sh_alloc.proofs.laws.chunk_laws.Goals as goal

pub returns-clause-spent : goal.returns-clause-spent
returns-clause-spent c = spent_by_run

pub returns-clause-got : goal.returns-clause-got
returns-clause-got c = chunk_by_run

pub returns-clause-all : goal.returns-clause-all
returns-clause-all c = run_by_spent
