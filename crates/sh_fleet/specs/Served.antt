-- What is left of a sheet that was served by seats in threads.
use Rattle.std.specs.{Prelude.{◌≡◌, ℕ, suc, ◌+◌, ◌≤◌, ◌⊎◌, Option, None, Some, List, [], ◌∷◌, drop, filter, length, map, take, All}, List.{AllByRecursion}, FinMap.{entries}}
use Rattle.sh_base.specs.{declared.config.ConfigParts.{ConfigParts}, Setting.{all_seats}}
use Rattle.sh_map.specs.{declared.book.{Done.{Done}, Row.{Row}}, Book.{made, IsClosed, IsLawful}}
use Rattle.sh_sheet.specs.{declared.item.Item.{Item}, Marks.{stops_of, Stop}, Sheet.{done_item, is_call}}
use Rattle.sh_tree.specs.Tree.{map_in}
use Rattle.sh_core.specs.Causes.{HaveCauses}
use Rattle.sh_core_says.specs.Books.{calls_by, counter_in, IsBookOf}
use Rattle.sh_pool.specs.{Gathering.{IsGatheredFrom, PassesHave}, Passes.{PoolTable, Standing}, Pools.{PoolState}}
use Rattle.sh_fleet.specs.{declared.answers.Answers.{Answers}, Sharing.{rows_told, told_by, told_of}}

-- the row of a key and its value
abbrev pub row_of : ℕ × List ℕ → Row
row_of x = record { key = x.0; value = x.1 }

-- the calls are numbered from n on, in their order
abbrev pub AreNumbered : (n : ℕ) → List Done → Type 0
AreNumbered n [] = Unit {0}
AreNumbered n (d ∷ dones) = (d.n ≡ n) × AreNumbered (suc n) dones

-- what the seats keep of their calls: their replies and rows, in their order, seat by seat
abbrev pub AreTold : List Done → List Answers → Type 0
AreTold dones answers = (seat : ℕ) → told_by answers seat ≡ map told_of (calls_by seat dones)

-- a seat keeps just the rows that its answers have
abbrev pub HasItsRows : Answers → Type 0
HasItsRows a = rows_told a.replies.items ≡ length a.rows.items

-- each of these calls comes before each of the others: those begin no earlier than its point, and behind its entry
abbrev pub KeepsBefore : List Done → List Done → Type 0
KeepsBefore before behind = AllByRecursion (λ (d : Done). AllByRecursion (λ (e : Done). d.point + made d.call d.reply ≤ e.first) behind) before

-- The marks are kept: behind each after no call of its seat begins before what had ended at its mark. That is so many calls of
-- each seat: those of the mark's seat that stand before the mark, and those that came before the marks of that seat's afters.
abbrev pub MarksKept : List Item → List Done → Type 0
MarksKept items dones = AllByRecursion (λ (x : Stop). (k : ℕ) → KeepsBefore (take (x.counts k) (calls_by k dones)) (drop (x.counts x.seat) (calls_by x.seat dones))) (stops_of items)

-- The finished calls of a run. They are the sheet's calls, in its order, and numbered from 1. Each pass's are among them in
-- their order, with nothing changed but their numbers. With the gathered pool's log they are a lawful and closed book, and
-- each refusal among them has its cause.
pub record AreFinished (p : ConfigParts) (items : List Item) (passes : List Standing) (words : List ℕ) (gathered : IsGatheredFrom p passes words) (dones : List Done) : Type 0 where
  pub calls : map done_item dones ≡ filter is_call items
  pub numbers : AreNumbered 1 dones
  pub book : IsBookOf (PassesHave passes) dones
  pub lawful : IsLawful gathered.log dones
  pub closed : IsClosed gathered.log dones
  pub causes : HaveCauses p (counter_in p words) gathered.log dones
  pub marks : MarksKept items dones

-- The pool is gathered: its passes, with the log that they leave, and all that is said of them and of the words; the
-- finished calls; what the seats keep of them; and the rows of the words' map, which is the log's.
pub record HasServed (p : ConfigParts) (items : List Item) (s : PoolState) (answers : List Answers) (rows : List Row) : Type 0 where
  pub passes : List Standing
  pub closed : s.laid ≡ None
  pub gathered : IsGatheredFrom p passes s.words
  pub dones : List Done
  pub finished : AreFinished p items passes s.words gathered dones
  pub seats : length answers ≡ all_seats p
  pub told : AreTold dones answers
  pub counted : All HasItsRows answers
  pub rows_are : rows ≡ map row_of (entries (map_in p s.words gathered.rest.levels))
  pub few_rows : length rows ≤ 4294967296
  pub few_calls : length dones ≤ 1000000

-- Where memory was wanting: the pool is as it was, or laid, or gathered.
abbrev pub IsLaid : ConfigParts → Option PoolTable → Type 0
IsLaid p None = ⊥
IsLaid p (Some t) = t.setting ≡ p

pub record WasGathered (p : ConfigParts) (s : PoolState) : Type 0 where
  pub passes : List Standing
  pub closed : s.laid ≡ None
  pub gathered : IsGatheredFrom p passes s.words

abbrev pub HasStopped : ConfigParts → (old new : PoolState) → Type 0
HasStopped p old new = (new ≡ old) ⊎ (IsLaid p new.laid ⊎ WasGathered p new)
