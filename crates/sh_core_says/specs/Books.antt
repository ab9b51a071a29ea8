-- The book of all calls that have ended.
use Rattle.std.specs.{Prelude.{◌≡◌, ◌⊎◌, ℕ, ◌<◌, ◌≤◌, ◌==◌, false, true, List, [], ◌∷◌, filter, length, map, slice_get, slice_index, AllPairs, Any, Some}, List.{AllByRecursion}}
use Rattle.sh_base.specs.{declared.config.ConfigParts.{ConfigParts}, Layout.{counter_word}}
use Rattle.sh_map.specs.{declared.{log.Entry.{Entry as LogEntry}, book.Done.{Done}}, Made.{entries_by}, Book.{IsClosed, IsLawful, IsOwn}}
use Rattle.sh_client.specs.Rests.{is_resting}
use Rattle.sh_core.specs.{Actors.{Actor, AreAnswered, AreInOrder}, Causes.{HaveCauses}, Core.{Inv}}

-- an ended call with another number
abbrev pub numbered : (n : ℕ) → Done → Done
numbered n d = record d { n = n }

-- the ended calls of a seat, in their order
abbrev pub calls_by : (seat : ℕ) → List Done → List Done
calls_by seat dones = filter (λ (d : Done). d.seat == seat) dones

-- These are the ended calls of all actors: each seat's in their order, whatever the order among the seats. Their numbers
-- rise; they may have been numbered anew.
pub record IsBookOf (Has : ℕ → Actor → Type 0) (dones : List Done) : Type 0 where
  pub seats : AllByRecursion (λ (d : Done). (a : Actor) × Has d.seat a) dones
  pub own : (seat : ℕ) (a : Actor) → Has seat a → map (numbered 0) (calls_by seat dones) ≡ map (numbered 0) a.dones
  pub numbers : AllPairs (λ (d e : Done). d.n < e.n) dones

-- the entry at place i is the one that its seat's call under way has made
pub record IsOfCall (Has : ℕ → Actor → Type 0) (i : ℕ) (e : LogEntry) : Type 0 where
  pub actor : Actor
  pub has : Has e.seat actor
  pub busy : is_resting actor.client ≡ false
  pub made : entries_by e.seat actor.client.registers.call actor.client.registers.reply ≡ e ∷ []
  pub place : actor.point ≡ i

-- The book is lawful. An entry that is no ended call's own is that of a call under way; so where all clients rest there is
-- none.
pub record IsLawfulBook (Has : ℕ → Actor → Type 0) (log : List LogEntry) (dones : List Done) : Type 0 where
  pub lawful : IsLawful log dones
  pub owned : (i : ℕ) (e : LogEntry) → slice_get log i ≡ Some e → Any (IsOwn i) dones ⊎ IsOfCall Has i e
  pub closed : ((seat : ℕ) (a : Actor) → Has seat a → is_resting a.client ≡ true) → IsClosed log dones

-- The book of the actors' calls is lawful at each moment.
abbrev pub BooksAreLawful : ConfigParts → Type 1
BooksAreLawful p = (words : List ℕ) (log : List LogEntry) (Has : ℕ → Actor → Type 0) (Out : ℕ → ℕ → ℕ → Type 0) (dones : List Done) → Inv p words log Has Out → IsBookOf Has dones → IsLawfulBook Has log dones

-- the server's counter in memory
abbrev pub counter_in : ConfigParts → (words : List ℕ) → (server : ℕ) → ℕ
counter_in p words server = slice_index words (counter_word p server)

-- Each refusal has its cause, at each moment: the counters of a put that was full are spent for good.
abbrev pub RefusalsHaveCauses : ConfigParts → Type 1
RefusalsHaveCauses p = (words : List ℕ) (log : List LogEntry) (Has : ℕ → Actor → Type 0) (Out : ℕ → ℕ → ℕ → Type 0) (dones : List Done) → Inv p words log Has Out → IsBookOf Has dones → HaveCauses p (counter_in p words) log dones

-- What a seat's calls were answered: at a point of the log, which is the least one of a get and of a delete that found
-- nothing, and none before what the seat had seen when the call began.
pub record HasAnswers (log : List LogEntry) (seat : ℕ) (a : Actor) : Type 0 where
  pub answered : AreAnswered log seat a.dones
  pub ordered : AreInOrder 0 a.dones a.first
  pub first : a.first ≤ a.seen
  pub seen : a.seen ≤ length log

abbrev pub CallsAreAnswered : ConfigParts → Type 1
CallsAreAnswered p = (words : List ℕ) (log : List LogEntry) (Has : ℕ → Actor → Type 0) (Out : ℕ → ℕ → ℕ → Type 0) (seat : ℕ) (a : Actor) → Inv p words log Has Out → Has seat a → HasAnswers log seat a
