-- What a client counts, and where.
use Rattle.std.specs.Prelude.{◌≡◌, ◌⊎◌, ℕ, ◌+◌, ◌==◌, if◌then◌else◌, true, List, [], length, Option, Some, None}
use Rattle.sh_base.specs.declared.config.ConfigParts.{ConfigParts}
use Rattle.sh_descend.specs.Descent.{next_of}
use Rattle.sh_image.specs.{Node.{seen_as}, Seen.{SeenBy}, declared.{inner.Image.{Image}, read.Seen.{Seen, TheVariants.{Torn, TornEntry}}}}
use Rattle.sh_map.specs.declared.call.Call.{Call}
use Rattle.sh_decide.specs.{Aims.{is_node}, Ways.{leads_right}, declared.state.Aim.{Aim}}
use Rattle.sh_client.specs.{CachedTurns.{read_aim}, Machine.{up, Machine}, declared.state.{Phase.{Phase, TheVariants.{Body}}, Want.{Want}, Write.{Write, TheVariants.{Leaf, LeftInner, LeftLeaf}}}}
use Rattle.sh_client.specs.declared.state.Want.TheVariants as want
use Rattle.sh_course.specs.{Found.{HasRun}, Turns.{Taken}}

-- locks that were handed over: by a leave of the queue with a depth
abbrev pub handed_by : Want → ℕ → ℕ
handed_by (want.Leave lock (Some depth)) n = up n
handed_by w n = n

-- the write whose last store is wanted
abbrev pub ends_write_in : Machine → Phase → Option Write
ends_write_in m (Body carry done giving) = if done + 1 == length m.registers.body then Some giving.write else None
ends_write_in m phase = None

abbrev pub ends_write : Machine → Option Write
ends_write m = ends_write_in m m.phase

-- nodes that were split: by the last store of a left half
abbrev pub splits_by : Option Write → ℕ → ℕ
splits_by (Some LeftLeaf) n = up n
splits_by (Some LeftInner) n = up n
splits_by write n = n

-- leaves that were rewritten: by the last store of one
abbrev pub rewritten_by : Option Write → ℕ → ℕ
rewritten_by (Some Leaf) n = up n
rewritten_by write n = n

-- a turn raises the counter where the cause stands, and only there
abbrev pub RisesExactly : (before after : ℕ) → (Cause : Type 0) → Type 0
RisesExactly before after Cause = ((after ≡ up before) × Cause) ⊎ ((after ≡ before) × (Cause → ⊥))

abbrev pub IsTorn : Seen → Type 0
IsTorn (Torn rear front) = Unit {0}
IsTorn (TornEntry index rear front) = Unit {0}
IsTorn seen = ⊥

-- the last turns were a READ, under a lock or without one, whose words were torn
pub record EndsTorn (p : ConfigParts) (turns : List Taken) : Type 0 where
  pub node : ℕ
  pub words : List ℕ
  pub before : List Taken
  pub seen : Seen
  pub run : HasRun p turns node words before []
  pub seen_is : SeenBy p words seen
  pub torn : IsTorn seen

-- or one of a node that ends at or below what the client is after there, and whose right neighbour is a node of the setting
pub record EndsRight (p : ConfigParts) (call : Call) (turns : List Taken) (phase : Phase) : Type 0 where
  pub node : ℕ
  pub words : List ℕ
  pub before : List Taken
  pub image : Image
  pub aim : Aim
  pub run : HasRun p turns node words before []
  pub seen_is : SeenBy p words (seen_as image)
  pub aim_is : read_aim phase ≡ Some aim
  pub right : leads_right call aim image ≡ true
  pub next : is_node p (next_of image) ≡ true

-- a turn counts both exactly there
pub record CountsReads (p : ConfigParts) (call : Call) (now : List Taken) (m x : Machine) : Type 0 where
  pub again : RisesExactly m.registers.tally.again x.registers.tally.again (EndsTorn p now)
  pub rights : RisesExactly m.registers.tally.rights x.registers.tally.rights (EndsRight p call now m.phase)
