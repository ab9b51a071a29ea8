use Rattle.sh_course.proofs.Courses.{frees_all}
use Rattle.sh_course.proofs.causes.calls_free_their_locks.Goals as goal

pub returns : goal.returns
returns c = λ m n call turns r ready course is lock. frees_all m n call turns ready course r is lock
