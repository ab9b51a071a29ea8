-- The cause of each answer that needs one.
use Rattle.std.specs.Prelude.{◌≡◌, List}
use Rattle.sh_base.specs.declared.config.ConfigParts.{ConfigParts}
use Rattle.sh_map.specs.declared.{book.Row.{Row}, call.{Call.{Call, TheVariants.{Range}}, Reply.{Reply}}}
use Rattle.sh_map.specs.declared.call.Reply.TheVariants as reply
use Rattle.sh_alloc.specs.declared.state.NodeRange.{NodeRange}
use Rattle.sh_decide.specs.Aims.{call_key, end_of}
use Rattle.sh_course.specs.{Turns.{Taken}, Causes.{FoundFull, FoundWorn}, Ranges.{FoundRows}}

-- no range, which is answered by rows alone
abbrev pub HasOneKey : Call → Type 0
HasOneKey (Range low high) = ⊥
HasOneKey call = Unit {0}

-- A reply that refuses, or tells of rows, has its cause in the turns of its call; start are the seat's spare nodes where the
-- call began, of which a put that is full had none.
abbrev pub Caused : ConfigParts → Call → (start : NodeRange) → List Taken → List Row → Reply → Type 0
Caused p call start turns rows reply.Full = FoundFull p call turns × (start.count ≡ 0)
Caused p call start turns rows (reply.Worn version) = FoundWorn p call turns version
Caused p call start turns rows (reply.Rows upto) = FoundRows p (call_key call) (end_of call) turns rows upto
Caused p call start turns rows (reply.Some value) = HasOneKey call
Caused p call start turns rows reply.None = HasOneKey call
