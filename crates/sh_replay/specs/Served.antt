-- What is left of a sheet that was served.
use Rattle.std.specs.{Prelude.{◌≡◌, ◌≤◌, ℕ, true, List, [], map, filter, length, All, Option}, FinMap.{entries}, List.{fold, sum_by}}
use Rattle.sh_base.specs.declared.config.ConfigParts.{ConfigParts}
use Rattle.sh_map.specs.{declared.book.{Row.{Row}}, Book.{IsClosed, IsLawful}, Log.{map_of}}
use Rattle.sh_sheet.specs.{declared.item.Item.{Item, TheVariants.{Ask}}, Sheet.{is_call, item_calls, AreFew, IsLawfulItem}}
use Rattle.sh_tree.specs.Tree.{IsTree, map_in}
use Rattle.sh_image.specs.Laid.{AreLaid}
use Rattle.sh_world.specs.{Laws.{RefusalsHaveCauses}, States.{Given, State, dones_of, fresh_state}}
use Rattle.sh_replay.specs.{declared.{ending.Finish.{Finish}, turns.Plan.{Plan}}, Course.{all_asks, begun, budget_of, course, given, given_by, goes_on, have_ended, HasFinished, SeatEvent}, Run.{IsRun}, Standing.{IsPlan}, Stopping.{Stops}, Waiting.{HasWaited}}
use Rattle.sh_replay.specs.declared.ending.Finish.TheVariants as finish

-- the row of a key and its value
abbrev pub row_of : ℕ × List ℕ → Row
row_of x = record { key = x.0; value = x.1 }

-- the words hold a tree, whose map is the log's and has these rows, and each entry is some ended call's own
pub record HoldsAll (s : State) (rows : List Row) : Type 0 where
  pub closed : IsClosed s.log (dones_of s.calls)
  pub levels : List (List ℕ)
  pub tree : IsTree s.setting s.words levels
  pub holds : map_in s.setting s.words levels ≡ map_of s.log
  pub rows_are : rows ≡ map row_of (entries (map_in s.setting s.words levels))

-- what is said of the rows, by how the rounds ended
abbrev pub HoldsRows : State → Finish → List Row → Type 0
HoldsRows s (finish.Done turns) rows = HoldsAll s rows
HoldsRows s (finish.Spent turns) rows = rows ≡ []

-- every call has ended, where it is said so
abbrev pub HasEnded : State → Finish → Type 0
HasEnded s (finish.Done turns) = have_ended s.calls ≡ true
HasEnded s (finish.Spent turns) = Unit {0}

-- a call of the world, as the item that asks for it
abbrev pub item_of : Given → Item
item_of g = Ask g.seat g.call

-- The world was laid, and then given the items' calls.
pub record IsGiven (p : ConfigParts) (items : List Item) (s : State) : Type 0 where
  pub laid : List ℕ
  pub are_laid : AreLaid p laid
  pub is : s ≡ fold given_by (fresh_state p laid) items

-- The world was given lawful items' calls, and the plan is theirs.
pub record IsReady (p : ConfigParts) (s : State) (plan : Plan) : Type 0 where
  pub items : List Item
  pub plan_is : IsPlan items plan
  pub given_is : IsGiven p items s
  pub can : All (IsLawfulItem p) items
  pub few : AreFew p items

-- The world is the last one of the items' course, over laid words, and its rounds ended so. These are the course's events,
-- a run from the laid words to the world's. Its calls are the items'.
-- The log and the ended calls are a lawful book, so each seat has at most one entry whose call hasn't ended; a put was
-- full, an update worn and a range ended early by their causes. A call behind an after begins no earlier in the log than the
-- calls before it were answered. Where every call has ended the book is closed, and the
-- words hold the log's map, whose rows these are.
pub record HasServed (p : ConfigParts) (items : List Item) (s : State) (end : Finish) (events : List SeatEvent) (rows : List Row) : Type 0 where
  pub laid : List ℕ
  pub are_laid : AreLaid p laid
  pub last : s ≡ (course p laid items).stage.world
  pub end_is : HasFinished (budget_of (sum_by item_calls items)) (course p laid items).stage end
  pub events_are : events ≡ (course p laid items).events
  pub run : IsRun laid events s.words
  pub setting : s.setting ≡ p
  pub calls : map item_of s.calls ≡ filter is_call items
  pub lawful : IsLawful s.log (dones_of s.calls)
  pub causes : RefusalsHaveCauses s
  pub waited : HasWaited items s
  pub rows_are : HoldsRows s end rows
  pub few_rows : length rows ≤ 4294967296
  pub few_calls : length s.calls ≤ 1000000

-- Of the asks of the items' course, over laid words, the first ones were made, up to one with an event: the world is the one
-- right behind that turn, and the events so far are a run from the laid words to the world's. Of that event's line a front
-- was written, behind those of the events before it. The log and the ended calls are a lawful book, and calls behind afters have waited.
pub record HasStopped (p : ConfigParts) (items : List Item) (s : State) (held after : Option (List ℕ)) : Type 0 where
  pub laid : List ℕ
  pub are_laid : AreLaid p laid
  pub stops : Stops items (begun (given p laid items) (budget_of (sum_by item_calls items))) (all_asks items (length (given p laid items).seats) (budget_of (sum_by item_calls items))) s held after
  pub run : IsRun laid (goes_on items stops.before stops.last).events s.words
  pub setting : s.setting ≡ p
  pub calls : map item_of s.calls ≡ filter is_call items
  pub lawful : IsLawful s.log (dones_of s.calls)
  pub causes : RefusalsHaveCauses s
  pub waited : HasWaited items s
