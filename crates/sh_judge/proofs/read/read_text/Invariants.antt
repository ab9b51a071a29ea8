use Rattle.std.proofs.Common.{◌≡◌, ◌≤◌, ◌+◌, length}
use Rattle.sh_judge.specs.{Fields.{parts_at}, Reading.{reading_from, reading_of}, Reader.{HasLeast, told_of}}
use Rattle.sh_judge.proofs.read.read_text.Given as goal

abbrev pub invariant-lines : goal.invariant-lines
invariant-lines l = (reading_of l.words l.text ≡ reading_from l.words (told_of l.found) l.lines (parts_at 10 l.rest)) × HasLeast l.found.ends.items l.found.dones.items × (length l.found.maps.items ≤ l.lines) × (l.lines + length l.rest ≤ length l.text)

abbrev pub decreases-lines : goal.decreases-lines
decreases-lines l = length l.rest
