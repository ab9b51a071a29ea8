use Rattle.sh_course.proofs.{Deciding.{course_decides}, Storing.{must_be_full, worn_stores_nothing}}
use Rattle.sh_course.proofs.causes.causes_refuse.Goals as goal

pub returns-clause-worn : goal.returns-clause-worn
returns-clause-worn c = λ m n call turns before since r node depth version a h worn. (worn_stores_nothing m n call r depth a node h.words since (course_decides m n call turns before since node depth a r h) h.replied version worn).1

pub returns-clause-full : goal.returns-clause-full
returns-clause-full c = λ m n call turns before since r node depth a h full none got. must_be_full m n call r depth a node h.words since (course_decides m n call turns before since node depth a r h) h.replied (let ready = h.ready in let lawful = ready.setting in lawful.ranged.servers.0) full none got
