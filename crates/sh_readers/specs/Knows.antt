-- What a READ of a linked node knows while it is under way.
use Rattle.std.specs.Prelude.{◌≢◌, ℕ, zero, suc, ◌-◌, ◌<◌, ◌≤◌, List, ◌++◌, length, replicate, None}
use Rattle.sh_base.specs.{declared.config.ConfigParts.{ConfigParts}, Setting.{node_size}}
use Rattle.sh_map.specs.declared.log.Entry.{Entry}
use Rattle.sh_edit.specs.Held.{key_at}
use Rattle.sh_read.specs.{Moments.{Writing}, Reading.{IsCalm, FitsRead}}
use Rattle.sh_state.specs.Nodes.{low_in, high_in, standing_entries}
use Rattle.sh_readers.specs.Points.{HadSince, IsGoodNode, FitsKey, LoadedFrom, Agree}

-- A READ of a leaf that began no earlier than when the log had the length first: the node stands as s now, the WRITE w is
-- under way, and the words got from an offset on are loaded, so the entries from m on are loaded whole.
pub record Knows (p : ConfigParts) (log : List Entry) (first : ℕ) (s : List ℕ) (w : Writing) (from : ℕ) (got : List ℕ) : Type 0 where
  pub m : ℕ
  pub since : first ≤ length log
  pub fits : FitsRead p 0 (IsGoodNode p log first s) s w from got
  pub loaded : LoadedFrom p from m
  pub keys : IsCalm p s w got → Agree p m got → (key : ℕ) → key ≢ 0 → low_in s ≤ key → key < high_in s → FitsKey (HadSince log first key None) m (standing_entries p s) (λ i. key_at (standing_entries p got) i) key

-- of an inner node all words are of its own WRITEs
abbrev pub Anything : List ℕ → Type 0
Anything ws = Unit {0}

-- a READ of a linked node of a level
abbrev pub IsKnown : ConfigParts → List Entry → (first level : ℕ) → List ℕ → Writing → (from : ℕ) → List ℕ → Type 0
IsKnown p log first zero s w from got = Knows p log first s w from got
IsKnown p log first (suc level) s w from got = FitsRead p (suc level) Anything s w from got

-- the words that a READ was fed, of which the last one came first: where they begin in the node, and each in its place
abbrev pub fed_from : ConfigParts → List ℕ → ℕ
fed_from p fed = node_size p - length fed

abbrev pub fed_words : ConfigParts → List ℕ → List ℕ
fed_words p fed = replicate (fed_from p fed) 0 ++ fed

-- a READ of a linked node of a level, by the words that it was fed
abbrev pub IsFed : ConfigParts → List Entry → (first level : ℕ) → List ℕ → Writing → (fed : List ℕ) → Type 0
IsFed p log first level s w fed = IsKnown p log first level s w (fed_from p fed) (fed_words p fed)
