-- The output of a run: the lines of each call, and the last lines.
use Rattle.std.specs.{Prelude.{ℕ, ◌+◌, ◌<◌, ◌≤◌, ◌==◌, All, Bool, List, [], ◌∷◌, ◌++◌, drop, length, if◌then◌else◌}, List.{sum_by}}
use Rattle.sh_map.specs.declared.{book.{Done.{Done}, Row.{Row}}, call.Call.{Call}}
use Rattle.sh_sheet.specs.{declared.item.Item.{Item, TheVariants.{Ask}}, Sheet.{item_calls, item_seat}}
use Rattle.sh_fleet.specs.{declared.answers.Answers.{Answers}, Sharing.{Told}, Served.{HasItsRows}}
use Rattle.sh_text.specs.Text.{call_text, calls_text, end_lines}
use Rattle.sh_text.specs.declared.points.Points.TheVariants as points

-- the output for these finished calls, and the rows that the words hold
unfoldable pub text_of : (asked : Bool) → List Done → List Row → List ℕ
text_of asked dones rows = calls_text points.Hidden dones ++ end_lines asked (length dones) rows

-- the lines of a call that is told the first of these answers
abbrev pub told_lines : (n seat : ℕ) → Call → List Told → List ℕ
told_lines n seat call [] = []
told_lines n seat call (t ∷ ts) = call_text points.Hidden (record { n = n; seat = seat; call = call; reply = t.reply; first = 0; point = 0; rows = t.rows })

-- the answers of each seat, without the first one of this seat
abbrev pub behind_first : (seat : ℕ) → (ℕ → List Told) → (k : ℕ) → List Told
behind_first seat of k = if seat == k then drop 1 (of k) else of k

-- an item's own lines, those that are still to be told behind it, and the number of the next call
abbrev pub item_lines : (n : ℕ) → Item → (of : ℕ → List Told) → List ℕ
item_lines n (Ask seat call) of = told_lines n seat call (of seat)
item_lines n other of = []

abbrev pub item_behind : Item → (of : ℕ → List Told) → (k : ℕ) → List Told
item_behind (Ask seat call) of k = behind_first seat of k
item_behind other of k = of k

abbrev pub number_behind : (n : ℕ) → Item → ℕ
number_behind n (Ask seat call) = n + 1
number_behind n other = n

-- The lines of the items' calls, of which the first has the number n: each is told the next answer of its seat.
abbrev pub lines_from : (n : ℕ) → List Item → (of : ℕ → List Told) → List ℕ
lines_from n [] of = []
lines_from n (item ∷ items) of = item_lines n item of ++ lines_from (number_behind n item) items (item_behind item of)

-- the output as it is written, from the seats' answers
unfoldable pub text_from : (asked : Bool) → List Item → (of : ℕ → List Told) → List Row → List ℕ
text_from asked items of rows = lines_from 1 items of ++ end_lines asked (sum_by item_calls items) rows

-- There are at most 1,000,000 calls; each seat of an item has its answers, and each seat just the rows that these have.
pub record IsEnough (items : List Item) (answers : List Answers) : Type 0 where
  pub calls : sum_by item_calls items ≤ 1000000
  pub seats : All (λ (item : Item). item_seat item < length answers) items
  pub counted : All HasItsRows answers
