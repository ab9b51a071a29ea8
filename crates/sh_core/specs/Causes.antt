-- What the refusal of a call came by.
use Rattle.std.specs.{Prelude.{◌≡◌, ◌+◌, ◌<◌, ◌≤◌, ℕ, List, length}, List.{AllByRecursion}}
use Rattle.sh_base.specs.{declared.config.ConfigParts.{ConfigParts}, Setting.{last_version}}
use Rattle.sh_map.specs.declared.{call.{Call.{Call, TheVariants.{Put, Del, Range}}, Reply.{Reply, TheVariants.{Rows, Full, Worn}}}, log.Entry.{Entry as LogEntry}, book.{Done.{Done}, Row.{Row}}}
use Rattle.sh_edit.specs.Ranging.{last_key}
use Rattle.sh_core.specs.Fits.{WasFull}

-- A range ends below its high end exactly where its buffer is full and the key behind the last row's is below that end,
-- and then at that key.
pub record EndsByRows (p : ConfigParts) (high upto : ℕ) (rows : List Row) : Type 0 where
  pub few : length rows ≤ p.rows
  pub within : upto ≤ high
  pub early : upto < high → (length rows ≡ p.rows) × (upto ≡ last_key rows + 1)
  pub full : length rows ≡ p.rows → last_key rows + 1 < high → upto ≡ last_key rows + 1

-- A put is full where all chunks are drawn, and the map had nothing at its key, at a point of the call; an update is worn by
-- a node's last version; a range ends early by its rows. No other reply is a refusal.
abbrev pub HasCause : ConfigParts → (counter : ℕ → ℕ) → List LogEntry → (first point : ℕ) → List Row → Call → Reply → Type 0
HasCause p counter log first point rows (Put key value) Full = WasFull p counter log first point key
HasCause p counter log first point rows (Put key value) (Worn version) = version ≡ last_version p
HasCause p counter log first point rows (Del key) (Worn version) = version ≡ last_version p
HasCause p counter log first point rows (Range low high) (Rows upto) = EndsByRows p high upto rows
HasCause p counter log first point rows call reply = Unit {0}

-- each refusal has its cause
abbrev pub HaveCauses : ConfigParts → (counter : ℕ → ℕ) → List LogEntry → List Done → Type 0
HaveCauses p counter log dones = AllByRecursion (λ (d : Done). HasCause p counter log d.first d.point d.rows d.call d.reply) dones
