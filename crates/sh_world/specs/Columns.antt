-- The calls of a world in columns: a small record of each; behind one another the words of its value and of its reply's
-- value, all values of one width; and behind one another the rows of the ranges that have ended.
use Rattle.std.specs.Prelude.{◌≡◌, ℕ, zero, suc, ◌+◌, ◌-◌, ◌*◌, ◌≤◌, min, List, [], ◌∷◌, length, take, drop, slice_index, Option, None, Some}
use Rattle.std.specs.List.{AllByRecursion}
use Rattle.sh_base.specs.declared.config.ConfigParts.{ConfigParts}
use Rattle.sh_map.specs.declared.{call.{Call.{Call}, Reply.{Reply}}, book.Row.{Row}}
use Rattle.sh_map.specs.declared.call.Call.TheVariants as call
use Rattle.sh_map.specs.declared.call.Reply.TheVariants as reply
use Rattle.sh_world.specs.{declared.calls.{CallKind.{CallKind, TheVariants.{Get, Put, Del, Range}}, ReplyKind.{ReplyKind}, Kept.{Kept}}, States.{Given}}
use Rattle.sh_world.specs.declared.calls.ReplyKind.TheVariants as kind

-- the calls, and the setting that they are kept for
pub record Listed : Type 0 where
  pub setting : ConfigParts
  pub calls : List Given

-- ---- what the words of a value say

-- a range's end stands in the first word
abbrev pub call_of : CallKind → (key : ℕ) → List ℕ → Call
call_of Get key words = call.Get key
call_of Put key words = call.Put key words
call_of Del key words = call.Del key
call_of Range key words = call.Range key (slice_index words 0)

-- as do a reply's bound and version
abbrev pub reply_read : ReplyKind → List ℕ → Option Reply
reply_read kind.Waiting words = None
reply_read kind.Some words = Some (reply.Some words)
reply_read kind.None words = Some reply.None
reply_read kind.Rows words = Some (reply.Rows (slice_index words 0))
reply_read kind.Full words = Some reply.Full
reply_read kind.Worn words = Some (reply.Worn (slice_index words 0))

-- a row in words: its key and its value's words
abbrev pub row_words : Row → List ℕ
row_words r = r.key ∷ r.value

-- so many rows of these words, with values of one width
unfoldable pub rows_read : (width count : ℕ) → List ℕ → List Row
rows_read width zero words = []
rows_read width (suc count) words = record { key = slice_index words 0; value = take width (drop 1 words) } ∷ rows_read width count (drop (width + 1) words)

abbrev pub given_of : (width : ℕ) → Kept → (asked answer rows : List ℕ) → Given
given_of width k asked answer rows = record { seat = k.seat; call = call_of k.call k.key asked; reply = reply_read k.reply answer; first = k.first; point = k.point; rows = rows_read width k.count (drop k.start rows) }

-- each call has the next two values, and its rows where it says
unfoldable pub calls_of : (width : ℕ) → List Kept → (words rows : List ℕ) → List Given
calls_of width [] words rows = []
calls_of width (k ∷ kept) words rows = given_of width k (take width words) (take width (drop width words)) rows ∷ calls_of width kept (drop (2 * width) words) rows

-- ---- the room of rows

-- how many keys a range asks for; any other call has no rows
abbrev pub keys_of : Call → ℕ
keys_of (call.Get key) = 0
keys_of (call.Put key value) = 0
keys_of (call.Del key) = 0
keys_of (call.Range low high) = high - low

-- the most rows that the call's answer may have
abbrev pub room_of : ConfigParts → Call → ℕ
room_of p call = min p.rows (keys_of call)

-- how many words the rows of a call may still take: none, once it is answered
abbrev pub owed_by : ConfigParts → Given → Option Reply → ℕ
owed_by p g None = room_of p g.call * (p.value_words + 1)
owed_by p g (Some reply) = 0

abbrev pub owed_words : ConfigParts → List Given → ℕ
owed_words p [] = 0
owed_words p (g ∷ calls) = owed_by p g g.reply + owed_words p calls

-- the rows of a call, and of these calls, lie before this end
abbrev pub LiesBefore : (width end : ℕ) → Kept → Type 0
LiesBefore width end k = k.start + k.count * (width + 1) ≤ end

abbrev pub AreInside : (width end : ℕ) → List Kept → Type 0
AreInside width end kept = AllByRecursion (LiesBefore width end) kept

-- Each call has the words of two values. The column of rows has room for all rows that are still to come.
pub record AreColumns (p : ConfigParts) (kept : List Kept) (words rows : List ℕ) (owed room : ℕ) : Type 0 where
  pub long : length words ≡ length kept * (2 * p.value_words)
  pub inside : AreInside p.value_words (length rows) kept
  pub owed_is : owed ≡ owed_words p (calls_of p.value_words kept words rows)
  pub fits : length rows + owed ≤ room

-- words were written over those from a place on, and the rest is as it was
pub record IsWritten (old new : List ℕ) (at : ℕ) (v : List ℕ) : Type 0 where
  pub before : take at new ≡ take at old
  pub here : take (length v) (drop at new) ≡ v
  pub behind : drop (at + length v) new ≡ drop (at + length v) old

-- ---- which calls, replies and rows can be kept

-- a put's value has so many words
abbrev pub IsCallWide : (width : ℕ) → Call → Type 0
IsCallWide width (call.Put key value) = length value ≡ width
IsCallWide width (call.Get key) = Unit {0}
IsCallWide width (call.Del key) = Unit {0}
IsCallWide width (call.Range low high) = Unit {0}

-- so has a reply's value
abbrev pub IsReplyWide : (width : ℕ) → Reply → Type 0
IsReplyWide width (reply.Some value) = length value ≡ width
IsReplyWide width reply.None = Unit {0}
IsReplyWide width (reply.Rows upto) = Unit {0}
IsReplyWide width reply.Full = Unit {0}
IsReplyWide width (reply.Worn version) = Unit {0}

-- and a row's
abbrev pub IsRowWide : (width : ℕ) → Row → Type 0
IsRowWide width r = length r.value ≡ width

-- ---- what is kept of them

abbrev pub kind_of : Call → CallKind
kind_of (call.Get key) = Get
kind_of (call.Put key value) = Put
kind_of (call.Del key) = Del
kind_of (call.Range low high) = Range

abbrev pub reply_kind_of : Reply → ReplyKind
reply_kind_of (reply.Some value) = kind.Some
reply_kind_of reply.None = kind.None
reply_kind_of (reply.Rows upto) = kind.Rows
reply_kind_of reply.Full = kind.Full
reply_kind_of (reply.Worn version) = kind.Worn
