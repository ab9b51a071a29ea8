-- The log that finished calls make, by their points.
use Rattle.std.specs.{Prelude.{◌≡◌, ◌≢◌, ℕ, zero, suc, ◌<◌, ◌==◌, ◌&&◌, Bool, List, [], ◌++◌, Option, Some, None, find, if◌then◌else◌}, List.{sum_by}}
use Rattle.sh_map.specs.{declared.{log.Entry.{Entry}, book.Done.{Done}}, Book.{made}, Made.{entries_by}}

abbrev pub entry_count : Done → ℕ
entry_count d = made d.call d.reply

-- how many updating calls there are: those that have made an entry
abbrev pub update_count : List Done → ℕ
update_count dones = sum_by entry_count dones

-- an updating call has this point
abbrev pub is_at : ℕ → Done → Bool
is_at p d = (entry_count d == 1) && (d.point == p)

-- how many updating calls have this point
abbrev pub count_at : ℕ → List Done → ℕ
count_at p dones = sum_by (λ d. if is_at p d then 1 else 0) dones

-- each place below the number of updating calls is the point of just one
abbrev pub ArePlaced : List Done → Type 0
ArePlaced dones = (p : ℕ) → p < update_count dones → count_at p dones ≡ 1

-- the least place that isn't the point of just one
pub record IsLeastUnplaced (dones : List Done) (at : ℕ) : Type 0 where
  pub below : at < update_count dones
  pub unplaced : count_at at dones ≢ 1
  pub least : (p : ℕ) → p < at → count_at p dones ≡ 1

-- the entry of a call, if there is one
abbrev pub entry_of : Option Done → List Entry
entry_of None = []
entry_of (Some d) = entries_by d.seat d.call d.reply

-- the entry at a place: that of the first updating call whose point it is
abbrev pub placed_entry : List Done → ℕ → List Entry
placed_entry dones p = entry_of (find (is_at p) dones)

-- the log of the places below n
unfoldable pub log_to : List Done → ℕ → List Entry
log_to dones zero = []
log_to dones (suc n) = log_to dones n ++ placed_entry dones n

-- the log of these calls: at each place the updating call whose point it is
abbrev pub log_of : List Done → List Entry
log_of dones = log_to dones (update_count dones)
