-- What a client's turns do to its cached nodes: each lemma says that a part of a turn leaves them, and the counter of calls
-- that began at one.
use Rattle.std.{proofs.Common.{rules, ◌≡◌, ℕ, Bool, false, Option, Some, refl, ap}, specs.{Option.{option_map}, Prelude.{if◌then◌else◌}}}
use Rattle.sh_alloc.specs.declared.state.ChunkWant.{ChunkWant}
use Rattle.sh_map.specs.declared.call.Call.{Call}
use Rattle.sh_image.specs.{Inner.{Inner}, declared.inner.Image.{Image}}
use Rattle.sh_read.specs.{declared.state.Progress.{Progress}}
use Rattle.sh_cache.specs.Cached.{found}
use Rattle.sh_decide.specs.{declared.state.{Aim.{Aim, TheVariants.{Own}}, Decision.{Decision}, Way.{Way}}, Aims.{aim_of, call_key, takes_lock}}
use Rattle.sh_client.specs.{declared.state.{Edge.{Edge}, Need.{Need}, Origin.{Origin}, Phase.{Phase, TheVariants.{Read, Draw}}}, Machine.{Machine, began_cached, reading, to}}
use Rattle.sh_client.specs.{Cached.{origin_in}, CachedTurns.{KeepsCached, BeginsBy, first_turn, image_by, learnt, learnt_by, learnt_in, settles}, Courses.{KeepsCall}}
use Rattle.sh_client.specs.Feeds.{arrived, began_at, begun, calling, did, fed_by, fed_in, from_cached, held_by, hold_by, read_by, turned_by, turned_in, went}
use Rattle.sh_client.specs.{Ranges.{gathered, rows_taken}, Splitting.{needing, sought_by, with_fresh}, Wants.{want_of}}

fresh_goes_on : (m : Machine) (fresh : ℕ) (need : Need) → KeepsCached m (with_fresh m fresh need)
fresh_goes_on m fresh need = search rules

takes : (m : Machine) (need : Need) (fresh : Option ℕ) → KeepsCached m (needing m need fresh)
takes m need fresh = search (rules, fresh_goes_on)

seeks : (m : Machine) (need : Need) (w : ChunkWant) → KeepsCached m (sought_by m need w)
seeks m need w = search (rules, fresh_goes_on)

rows_go_on : (m : Machine) (aim : Aim) (edge : Option Edge) → KeepsCached m (gathered m aim edge)
rows_go_on m aim edge = search rules

takes_rows : (m : Machine) (aim : Aim) (image : Image) → KeepsCached m (rows_taken m aim image)
takes_rows m aim image = search (rules, rows_go_on)

goes : (m : Machine) (aim : Aim) (image : Image) (w : Way) → KeepsCached m (went m aim image w)
goes m aim image w = search (rules, takes, takes_rows)

does : (m : Machine) (aim : Aim) (depth : ℕ) (image : Image) (d : Decision) → KeepsCached m (did m aim depth image d)
does m aim depth image d = search (rules, takes)

-- what the image shows is learnt
arrives : (m : Machine) (aim : Aim) (top : Bool) (o : Option Image) → KeepsCached (learnt m aim o) (arrived m aim top o)
arrives m aim top o = search (rules, goes)

holds : (m : Machine) (aim : Aim) (depth : ℕ) (o : Option Image) → KeepsCached (settles m aim o) (held_by m aim depth o)
holds m aim depth o = search (rules, does)

reads_on : (m : Machine) (aim : Aim) (top : Bool) (answer : Progress) → KeepsCached (learnt m aim (image_by m answer)) (read_by m aim top answer)
reads_on m aim top answer = search (rules, arrives)

holds_on : (m : Machine) (aim : Aim) (depth : ℕ) (answer : Progress) → KeepsCached (settles m aim (image_by m answer)) (hold_by m aim depth answer)
holds_on m aim depth answer = search (rules, holds)

learnt_fed : (m : Machine) (word : ℕ) (phase : Phase) → KeepsCached (learnt_in m word phase) (fed_in m word phase)
learnt_fed m word phase = search (rules, reads_on, holds_on, seeks)

pub fed_learns : (m : Machine) (word : ℕ) → KeepsCached (learnt_by m word) (fed_by m word)
fed_learns m word = learnt_fed m word m.phase

turned_leaves : (m : Machine) (depth : Option ℕ) (phase : Phase) → KeepsCached m (turned_in m depth phase)
turned_leaves m depth phase = search rules

pub turned_learns : (m : Machine) (depth : Option ℕ) → KeepsCached m (turned_by m depth)
turned_learns m depth = turned_leaves m depth m.phase

-- ---- a call begins
module _ (m : Machine) (call : Call) where
  begins_at : (row : Inner) (o : Origin) → o ≡ origin_in (call_key call) row → (t : Bool) → takes_lock call Own ≡ t → let x : Machine = if t then to (began_cached (from_cached (calling m call) o.low)) (Draw (aim_of call) o.child) else reading (began_cached (from_cached (calling m call) o.low)) o.child (Read (aim_of call) false) in
      (want_of x ≡ first_turn m.setting call o.child) × (x.registers.tally ≡ (began_cached m).registers.tally) × (x.registers.origin ≡ Some o.low) × (x.registers.cached ≡ m.registers.cached)
  begins_at row o is t e = search rules

  -- where it begins by the origin that is found, it begins so
  module _ (o : Option Inner) (e : found m.registers.cached (call_key call) ≡ o) where
    started : {A : Type 0} (f : Machine → A) → f (begun m call) ≡ f (began_at (calling m call) call (option_map (origin_in (call_key call)) o))
    started f = ap (λ (o : Option Inner). f (began_at (calling m call) call (option_map (origin_in (call_key call)) o))) e

  by_row : (o : Option Inner) → found m.registers.cached (call_key call) ≡ o → BeginsBy m call o
  by_row o e = search (rules, begins_at)

  pub begins_by : BeginsBy m call (found m.registers.cached (call_key call))
  begins_by = by_row (found m.registers.cached (call_key call)) refl

-- ---- so no turn changes the setting, the seat or the call
learnt_keeps : (m : Machine) (word : ℕ) (phase : Phase) → KeepsCall m (learnt_in m word phase)
learnt_keeps m word phase = search rules

pub fed_keeps : (m : Machine) (word : ℕ) → KeepsCall m (fed_by m word)
fed_keeps m word = search (rules, learnt_keeps, fed_learns)

pub turned_keeps : (m : Machine) (depth : Option ℕ) → KeepsCall m (turned_by m depth)
turned_keeps m depth = (turned_learns m depth).2
