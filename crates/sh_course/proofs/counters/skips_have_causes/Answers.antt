use Rattle.sh_course.proofs.Courses.{course_skips}
use Rattle.sh_course.proofs.counters.skips_have_causes.Goals as goal

pub returns : goal.returns
returns c = λ m n call turns x ready course may. course_skips m n call turns ready course x may
