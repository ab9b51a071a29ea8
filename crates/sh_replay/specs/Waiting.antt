-- What an after says of points: a call behind it begins no earlier in the log than the calls that come before it were
-- answered.
use Rattle.std.specs.Prelude.{◌≡◌, ◌⊎◌, ◌≤◌, ◌<◌, ◌+◌, ◌-◌, ℕ, false, List, slice_get, Some}
use Rattle.sh_map.specs.{declared.call.Reply.{Reply}, Book.{made}}
use Rattle.sh_client.specs.Rests.{is_resting}
use Rattle.sh_sheet.specs.{declared.item.Item.{Item}, Marks.{stops_of, Stop}}
use Rattle.sh_world.specs.{States.{Given, Place, State}, Running.{numbers_from}}

-- the call is the seat's, behind so many others of it, and it has ended with this reply
pub record EndedWith (calls : List Given) (seat before : ℕ) (g : Given) (reply : Reply) : Type 0 where
  pub number : ℕ
  pub own : slice_get (numbers_from seat 1 calls) before ≡ Some number
  pub here : slice_get calls (number - 1) ≡ Some g
  pub reply_is : g.reply ≡ Some reply

-- the seat's call behind so many others has ended, and the log had this length before its first turn
pub record HasEndedFrom (calls : List Given) (seat before first : ℕ) : Type 0 where
  pub call : Given
  pub reply : Reply
  pub ended : EndedWith calls seat before call reply
  pub first_is : call.first ≡ first

-- or it is under way
pub record IsUnderWay (seats : List Place) (seat before first : ℕ) : Type 0 where
  pub place : Place
  pub here : slice_get seats seat ≡ Some place
  pub busy : is_resting place.client ≡ false
  pub before_is : place.ended ≡ before
  pub first_is : place.first ≡ first

-- the seat has begun its call behind so many others, with a log of this length
abbrev pub BeganAt : List Given → List Place → (seat before first : ℕ) → Type 0
BeganAt calls seats seat before first = HasEndedFrom calls seat before first ⊎ IsUnderWay seats seat before first

-- For each of the items' afters, each call that comes before it and has ended, and each call of its seat behind it that was
-- begun: the former's point, and behind that the entry that it made, were in the log before the latter's first turn.
abbrev pub HasWaited : List Item → State → Type 0
HasWaited items s = (n : ℕ) (x : Stop) (seat before behind first : ℕ) (g : Given) (reply : Reply) → slice_get (stops_of items) n ≡ Some x
    → before < x.counts seat → EndedWith s.calls seat before g reply → x.counts x.seat ≤ behind → BeganAt s.calls s.seats x.seat behind first
    → g.point + made g.call reply ≤ first
