-- Whether a client has nothing to do, and what its call was answered.
use Rattle.std.specs.Prelude.{Bool, true, false, List, [], Option, Some, None}
use Rattle.sh_map.specs.declared.{book.Row.{Row}, call.{Reply.{Reply}, Call.{Call, TheVariants.{Range}}}}
use Rattle.sh_client.specs.{declared.state.Phase.{Phase, TheVariants.{Idle, Ended}}, Machine.{Machine}}

-- it has no call, or its call has ended
abbrev pub rests : Phase → Bool
rests Idle = true
rests Ended = true
rests phase = false

abbrev pub is_resting : Machine → Bool
is_resting m = rests m.phase

-- its call has ended
abbrev pub has_ended : Phase → Bool
has_ended Ended = true
has_ended phase = false

-- the reply, once the call has ended
abbrev pub reply_in : Machine → Phase → Option Reply
reply_in m Ended = Some m.registers.reply
reply_in m phase = None

abbrev pub reply_of : Machine → Option Reply
reply_of m = reply_in m m.phase

-- the rows of a call that has ended: a range's, and none of any other call
abbrev pub rows_for : Call → List Row → List Row
rows_for (Range low high) rows = rows
rows_for call rows = []

abbrev pub rows_told : Machine → List Row
rows_told m = rows_for m.registers.call m.registers.rows
