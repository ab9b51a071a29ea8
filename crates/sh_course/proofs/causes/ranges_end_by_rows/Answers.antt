use Rattle.sh_map.specs.declared.call.Call.TheVariants.{Range}
use Rattle.sh_course.proofs.Courses.{caused, rows_alone}
use Rattle.sh_course.proofs.causes.ranges_end_by_rows.Goals as goal

pub returns : goal.returns
returns c = λ m n turns low high r ready course is. rows_alone m.setting m.registers.spare turns n.registers.rows low high r (caused m n (Range low high) turns ready course r is)
