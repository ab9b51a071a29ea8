-- The entry that an answered call makes.
use Rattle.std.specs.Prelude.{ℕ, List, [], ◌∷◌, Some, None}
use Rattle.sh_map.specs.{declared.{call.{Call.{Call, TheVariants.{Put, Del}}, Reply.{Reply}}, log.Entry.{Entry}}, Book.{made_entry}}
use Rattle.sh_map.specs.declared.call.Reply.TheVariants as reply
use Rattle.sh_map.specs.declared.log.Change.TheVariants as change

-- a put that wasn't refused and a delete that removed something make one, and every other call none
abbrev pub entries_by : ℕ → Call → Reply → List Entry
entries_by seat (Put key value) (reply.Some old) = made_entry seat (change.Put key value) (Some old) ∷ []
entries_by seat (Put key value) reply.None = made_entry seat (change.Put key value) None ∷ []
entries_by seat (Del key) (reply.Some old) = made_entry seat (change.Del key) (Some old) ∷ []
entries_by seat call reply = []
