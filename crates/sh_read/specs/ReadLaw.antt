-- The law of reads, over a list of a node's moments.
use Rattle.std.specs.Prelude.{◌≡◌, ℕ, ◌+◌, ◌<◌, ◌≤◌, List, [], length, slice_index, slice_index_or}
use Rattle.sh_base.specs.{declared.config.ConfigParts.{ConfigParts}, Layout.{entry_at, rear_at, node_part, entry_rear_at}}
use Rattle.sh_read.specs.{Moments.{Writing, Idle, word, IsNodeMoment, Next, Agrees}, Reading.{IsHead, IsEntryWord}}

pub record Moment : Type 0 where
  pub standing : List ℕ
  pub writing : Writing

abbrev pub nowhere : Moment
nowhere = record { standing = []; writing = Idle }

-- the node's word at an offset, at a moment
abbrev pub word_at : ConfigParts → List Moment → ℕ → ℕ → ℕ
word_at p moments t o = let m = slice_index_or moments t nowhere in word p m.standing m.writing o

-- the moments follow each other by events
pub record IsCourse (p : ConfigParts) (level : ℕ) (moments : List Moment) : Type 0 where
  pub each : (t : ℕ) → t < length moments → IsNodeMoment p level (slice_index_or moments t nowhere).standing (slice_index_or moments t nowhere).writing
  pub steps : (t : ℕ) → t + 1 < length moments → Next p (slice_index_or moments t nowhere).standing (slice_index_or moments t nowhere).writing (slice_index_or moments (t + 1) nowhere).standing (slice_index_or moments (t + 1) nowhere).writing

-- the word is the same from s to t
abbrev pub IsQuiet : ConfigParts → List Moment → ℕ → ℕ → ℕ → Type 0
IsQuiet p moments s t o = (u : ℕ) → s ≤ u → u ≤ t → word_at p moments u o ≡ word_at p moments s o

-- the word of node n at an offset, in the memory at a moment
abbrev pub load_at : ConfigParts → List (List ℕ) → ℕ → ℕ → ℕ → ℕ
load_at p memories n t o = slice_index (node_part p (slice_index_or memories t []) n) o

-- The memories, one per event, have of node n what its WRITEs make of it: nothing else stores into it, one WRITE at a
-- time is under way, and each stores a greater version first and the same version last.
pub record IsHistory (p : ConfigParts) (level n : ℕ) (memories : List (List ℕ)) (moments : List Moment) : Type 0 where
  pub course : IsCourse p level moments
  pub as_long : length memories ≡ length moments
  pub agrees : (t : ℕ) → t < length moments → Agrees p (node_part p (slice_index_or memories t []) n) (slice_index_or moments t nowhere).standing (slice_index_or moments t nowhere).writing

-- The law of reads of node n over memories. A READ loads the rear version at s and the front version at t, and of an
-- entry the rear version at a and the front version at b.
pub record HasMemoryLaw (p : ConfigParts) (level n : ℕ) (memories : List (List ℕ)) : Type 0 where
  pub node : (s t : ℕ) → s ≤ t → t < length memories → load_at p memories n s (rear_at p) ≡ load_at p memories n t 0 → (o u : ℕ) → IsHead p level o → s ≤ u → u ≤ t → load_at p memories n u o ≡ load_at p memories n s o
  pub entries : level ≡ 0 → (s a b t i : ℕ) → s ≤ a → a ≤ b → b ≤ t → t < length memories → i < p.leaf → load_at p memories n s (rear_at p) ≡ load_at p memories n t 0 → load_at p memories n a (entry_rear_at p i) ≡ load_at p memories n b (entry_at p i) → (o u : ℕ) → IsEntryWord p i o → a ≤ u → u ≤ b → load_at p memories n u o ≡ load_at p memories n a o
