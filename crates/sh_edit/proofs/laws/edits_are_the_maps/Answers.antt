use Rattle.std.proofs.Common.{◌∙◌}
use Rattle.sh_edit.proofs.{HeldLemmas.{get-map_of_entries, held_at, held_none}, RewriteLemmas.{rewritten_over, rewritten_new, rewritten_removed, rewritten_once, rewritten_lawful}}
use Rattle.sh_edit.proofs.RoomLemmas.{room_is_size}
use Rattle.sh_edit.proofs.laws.edits_are_the_maps.Goals as goal

pub returns-clause-found : goal.returns-clause-found
returns-clause-found c = λ es key i nz at. get-map_of_entries es key nz ∙ held_at es key i at

pub returns-clause-absent : goal.returns-clause-absent
returns-clause-absent c = λ es key nz none. get-map_of_entries es key nz ∙ held_none es key none

pub returns-clause-over : goal.returns-clause-over
returns-clause-over c = rewritten_over

pub returns-clause-new : goal.returns-clause-new
returns-clause-new c = rewritten_new

pub returns-clause-removed : goal.returns-clause-removed
returns-clause-removed c = rewritten_removed

pub returns-clause-once : goal.returns-clause-once
returns-clause-once c = rewritten_once

pub returns-clause-lawful : goal.returns-clause-lawful
returns-clause-lawful c = rewritten_lawful

pub returns-clause-room : goal.returns-clause-room
returns-clause-room c = room_is_size
