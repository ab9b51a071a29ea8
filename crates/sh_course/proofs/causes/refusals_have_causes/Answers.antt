use Rattle.sh_map.specs.declared.call.Reply.TheVariants as reply
use Rattle.sh_course.proofs.Courses.{caused}
use Rattle.sh_course.proofs.causes.refusals_have_causes.Goals as goal

pub returns-clause-worn : goal.returns-clause-worn
returns-clause-worn c = λ m n call turns version ready course is. caused m n call turns ready course (reply.Worn version) is

pub returns-clause-full : goal.returns-clause-full
returns-clause-full c = λ m n call turns ready course is. caused m n call turns ready course reply.Full is
