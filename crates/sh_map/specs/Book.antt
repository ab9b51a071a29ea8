-- The finished calls of a book, each answered at a point of its log.
use Rattle.std.specs.{Prelude.{◌≡◌, ◌≢◌, ◌⊎◌, ℕ, ◌+◌, ◌<◌, ◌≤◌, List, length, map, slice_get, All, AllPairs, Any, Option, Some, None}, FinMap.{from_entries}}
use Rattle.sh_map.specs.{declared.{call.{Call.{Call, TheVariants.{Get, Put, Del, Range}}, Reply.{Reply}}, log.{Change.{Change}, Entry.{Entry}}, book.{Row.{Row}, Done.{Done}}}, Map.{get, row_pair}}
use Rattle.sh_map.specs.Log.{map_at, IsLegal}
use Rattle.sh_map.specs.declared.call.Reply.TheVariants as reply
use Rattle.sh_map.specs.declared.log.Change.TheVariants as change

-- A range answered key by key: the rows rise and lie in low..upto, and each key of low..upto has its row's value, or
-- nothing where it has no row, at a point of its own from a to b.
pub record AnswersRange (log : List Entry) (a b low upto : ℕ) (rows : List Row) : Type 0 where
  pub rising : AllPairs (λ x y. x.key < y.key) rows
  pub within : All (λ x. (low ≤ x.key) × (x.key < upto)) rows
  pub points : (key : ℕ) → low ≤ key → key < upto → (p : ℕ) × (a ≤ p) × (p ≤ b) × (get (map_at log p) key ≡ get (from_entries (map row_pair rows)) key)

abbrev pub made_entry : ℕ → Change → Option (List ℕ) → Entry
made_entry seat change old = record { seat = seat; change = change; old = old }

-- What must hold of a call and its reply. Full and Worn are no replies of the map, and nothing more is asked of them.
abbrev pub AnswersAt : List Entry → Done → Call → Reply → Type 0
AnswersAt log d (Get key) (reply.Some value) = get (map_at log d.point) key ≡ Some value
AnswersAt log d (Get key) reply.None = get (map_at log d.point) key ≡ None
AnswersAt log d (Put key value) (reply.Some old) = slice_get log d.point ≡ Some (made_entry d.seat (change.Put key value) (Some old))
AnswersAt log d (Put key value) reply.None = slice_get log d.point ≡ Some (made_entry d.seat (change.Put key value) None)
AnswersAt log d (Del key) (reply.Some old) = slice_get log d.point ≡ Some (made_entry d.seat (change.Del key) (Some old))
AnswersAt log d (Del key) reply.None = get (map_at log d.point) key ≡ None
AnswersAt log d (Range low high) (reply.Rows upto) = (low ≤ upto) × (upto ≤ high) × AnswersRange log d.first d.point low upto d.rows
AnswersAt log d (Put key value) reply.Full = Unit {0}
AnswersAt log d (Put key value) (reply.Worn version) = Unit {0}
AnswersAt log d (Del key) (reply.Worn version) = Unit {0}
AnswersAt log d call reply = ⊥

-- a finished call is answered at its point
pub record Answers (log : List Entry) (d : Done) : Type 0 where
  pub within : d.point ≤ length log
  pub row : AnswersAt log d d.call d.reply

-- how many entries a call with this reply has made: one where it is updating
abbrev pub made : Call → Reply → ℕ
made (Put key value) (reply.Some old) = 1
made (Put key value) reply.None = 1
made (Del key) (reply.Some old) = 1
made call reply = 0

-- the entry at place i is this finished call's own
abbrev pub IsOwn : ℕ → Done → Type 0
IsOwn i d = (made d.call d.reply ≡ 1) × (d.point ≡ i)

-- each entry is some finished call's own
abbrev pub IsClosed : List Entry → List Done → Type 0
IsClosed log dones = (i : ℕ) → i < length log → Any (IsOwn i) dones

-- no later entry is of the seat of the one at place i
abbrev pub IsLastOfSeat : List Entry → ℕ → Type 0
IsLastOfSeat log i = (j : ℕ) (e f : Entry) → i < j → slice_get log i ≡ Some e → slice_get log j ≡ Some f → f.seat ≢ e.seat

-- a later call of a seat begins no earlier than an earlier one's point, and behind its entry
abbrev pub IsLater : Done → Done → Type 0
IsLater d e = d.seat ≡ e.seat → d.point + made d.call d.reply ≤ e.first

-- A lawful book: the log is legal, each finished call is answered, each seat's order is kept, and each seat has at most
-- one entry whose call hasn't ended.
pub record IsLawful (log : List Entry) (dones : List Done) : Type 0 where
  pub legal : IsLegal log
  pub answers : All (Answers log) dones
  pub numbers : AllPairs (λ d e. d.n < e.n) dones
  pub firsts : All (λ d. d.first ≤ d.point) dones
  pub order : AllPairs IsLater dones
  pub owned : (i : ℕ) → i < length log → Any (IsOwn i) dones ⊎ IsLastOfSeat log i
