use Rattle.sh_course.proofs.Courses.{ends_are, life_course, life_turns}
use Rattle.sh_course.proofs.lives.lives_have_courses.Goals as goal

pub returns-clause-course : goal.returns-clause-course
returns-clause-course c = life_course

pub returns-clause-last : goal.returns-clause-last
returns-clause-last c = life_turns

pub returns-clause-ends : goal.returns-clause-ends
returns-clause-ends c = λ m life ready rest may. ends_are m ready rest life may
