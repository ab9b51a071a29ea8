use Rattle.sh_course.proofs.Courses.{course_reads}
use Rattle.sh_course.proofs.counters.reads_are_counted.Goals as goal

pub returns : goal.returns
returns c = λ m n call turns x ready course may. course_reads m n call turns ready course x
