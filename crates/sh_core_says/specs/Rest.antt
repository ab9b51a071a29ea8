-- What holds where all clients rest.
use Rattle.std.specs.Prelude.{◌≡◌, ◌⊎◌, ℕ, zero, suc, ◌+◌, ◌<◌, true, List, length, slice_index}
use Rattle.sh_base.specs.{declared.config.ConfigParts.{ConfigParts}, Setting.{all_locks, all_seats}, Layout.{lock_word}}
use Rattle.sh_map.specs.{declared.{log.Entry.{Entry as LogEntry}, book.Done.{Done}}, Log.{map_of}, Book.{IsClosed, IsLawful}}
use Rattle.sh_tree.specs.Tree.{IsTree, map_in, top_of, unposted_in}
use Rattle.sh_client.specs.Rests.{is_resting}
use Rattle.sh_core.specs.{Actors.{Actor}, Keeps.{skips_counted}, Core.{Inv}, Opening.{IsFreeSeat}}
use Rattle.sh_core_says.specs.Books.{IsBookOf}

-- the sum over the numbers below n
abbrev pub sum_below : (n : ℕ) → (ℕ → ℕ) → ℕ
sum_below zero f = 0
sum_below (suc n) f = f n + sum_below n f

-- how many posts a seat has skipped: as many as its client counts, and none where it has no client
abbrev pub HasSkipped : (Has : ℕ → Actor → Type 0) → (seat count : ℕ) → Type 0
HasSkipped Has seat count = ((a : Actor) × Has seat a × (skips_counted a.client.registers.tally ≡ count)) ⊎ (IsFreeSeat Has seat × (count ≡ 0))

-- All lock words are 0. The words hold a lawful tree, with the log's map. The book of all calls is lawful and closed. Of
-- the nodes as many aren't posted as the seats have skipped; where that's none, the root is the only node of its level.
pub record AreAtRest (p : ConfigParts) (words : List ℕ) (log : List LogEntry) (Has : ℕ → Actor → Type 0) : Type 0 where
  pub locks : (lock : ℕ) → lock < all_locks p → slice_index words (lock_word p lock) ≡ 0
  pub levels : List (List ℕ)
  pub tree : IsTree p words levels
  pub map : map_in p words levels ≡ map_of log
  pub books : (dones : List Done) → IsBookOf Has dones → IsLawful log dones × IsClosed log dones
  pub unposted : (skipped : ℕ → ℕ) → ((seat : ℕ) → seat < all_seats p → HasSkipped Has seat (skipped seat)) → unposted_in p words levels ≡ sum_below (all_seats p) skipped
  pub top : unposted_in p words levels ≡ 0 → length (top_of levels) ≡ 1

-- where all clients rest and no right is out
abbrev pub AtRest : ConfigParts → Type 1
AtRest p = (words : List ℕ) (log : List LogEntry) (Has : ℕ → Actor → Type 0) (Out : ℕ → ℕ → ℕ → Type 0) → Inv p words log Has Out → ((seat : ℕ) (a : Actor) → Has seat a → is_resting a.client ≡ true) → ((lock compute depth : ℕ) → Out lock compute depth → ⊥) → AreAtRest p words log Has
