-- One node through time: its standing words, and the WRITE that is under way on it.
use Rattle.std.specs.Prelude.{◌≡◌, ℕ, ◌+◌, ◌-◌, ◌<◌, ◌≤◌, if◌then◌else◌, nat_lt, nat_le, ◌&&◌, List, slice_index}
use Rattle.sh_base.specs.{declared.config.ConfigParts.{ConfigParts}, Setting.{node_size}, Layout.{entry_at, entry_rear_at, rear_at}}

-- of a WRITE: the words that it stores, and how many of them are stored
pub data Writing : Type 0 where
  Idle : Writing
  Whole : (new : List ℕ) (done : ℕ) → Writing
  One : (i : ℕ) (new : List ℕ) (done : ℕ) → Writing

-- what the word at an offset is
abbrev pub word : ConfigParts → List ℕ → Writing → ℕ → ℕ
word p standing Idle o = slice_index standing o
word p standing (Whole new done) o = if nat_lt o done then slice_index new o else slice_index standing o
word p standing (One i new done) o = if nat_le (entry_at p i) o && nat_lt o (entry_at p i + done) then slice_index new (o - entry_at p i) else slice_index standing o

-- the two versions agree, of the node and, in a leaf, of each entry
pub record IsVersioned (p : ConfigParts) (level : ℕ) (ws : List ℕ) : Type 0 where
  pub node : slice_index ws (rear_at p) ≡ slice_index ws 0
  pub entries : level ≡ 0 → (i : ℕ) → i < p.leaf → slice_index ws (entry_rear_at p i) ≡ slice_index ws (entry_at p i)

-- A WRITE stores a greater version first. It is under way from its first store up to its last.
abbrev pub IsWriting : ConfigParts → ℕ → List ℕ → Writing → Type 0
IsWriting p level standing Idle = Unit {0}
IsWriting p level standing (Whole new done) = IsVersioned p level new × (slice_index standing 0 < slice_index new 0) × (1 ≤ done) × (done ≤ rear_at p)
IsWriting p level standing (One i new done) = (i < p.leaf) × (slice_index standing (entry_at p i) < slice_index new 0) × (slice_index new (2 + p.value_words) ≡ slice_index new 0) × (1 ≤ done) × (done ≤ 2 + p.value_words) × (level ≡ 0)

-- a node at a moment
pub record IsNodeMoment (p : ConfigParts) (level : ℕ) (standing : List ℕ) (w : Writing) : Type 0 where
  pub versioned : IsVersioned p level standing
  pub writing : IsWriting p level standing w

-- What an event may do to a node: nothing, or a store of the one WRITE that is under way, or the first store of one.
pub data Next (p : ConfigParts) : List ℕ → Writing → List ℕ → Writing → Type 0 where
  still : {s : List ℕ} {w : Writing} → Next p s w s w
  begin_whole : {s new : List ℕ} {done : ℕ} → done ≡ 1 → Next p s Idle s (Whole new done)
  more_whole : {s new : List ℕ} {done more : ℕ} → more ≡ done + 1 → Next p s (Whole new done) s (Whole new more)
  end_whole : {s new : List ℕ} {done : ℕ} → done ≡ rear_at p → Next p s (Whole new done) new Idle
  begin_one : {s new : List ℕ} {i done : ℕ} → done ≡ 1 → Next p s Idle s (One i new done)
  more_one : {s new : List ℕ} {i done more : ℕ} → more ≡ done + 1 → Next p s (One i new done) s (One i new more)
  end_one : {s t new : List ℕ} {i done : ℕ} → done ≡ 2 + p.value_words → ((o : ℕ) → slice_index t o ≡ word p s (One i new (done + 1)) o) → Next p s (One i new done) t Idle

-- a node's words in memory are those of its moment
abbrev pub Agrees : ConfigParts → List ℕ → List ℕ → Writing → Type 0
Agrees p part standing w = (o : ℕ) → o < node_size p → slice_index part o ≡ word p standing w o
