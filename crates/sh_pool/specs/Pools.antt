-- A pool as it is laid, with its passes.
use Rattle.std.specs.{Prelude.{◌≡◌, ℕ, zero, suc, ◌-◌, length, replicate, false, Option, None, Some, List, [], ◌∷◌, true}, List.{AllByRecursion}}
use Rattle.atomic_table.specs.Seated.{TableId}
use Rattle.sh_base.specs.{declared.config.ConfigParts.{ConfigParts}, Setting.{all_seats}}
use Rattle.sh_client.specs.{Machine.{fresh_machine}, Rests.{is_resting}}
use Rattle.sh_core.specs.Opening.{entered}
use Rattle.sh_local.specs.Chairs.{fresh_chair, CellTable, Sitting}
use Rattle.sh_pool_rule.specs.{declared.view.PassView.{PassView}, Views.{bare_view, member, members_from}}
use Rattle.sh_pool.specs.{Handed.{Handed}, Passes.{IsOf, PoolTable, Standing}, declared.right.Knower.{Knower}}

-- a pool: its tables while it is laid, and the words that it held where it was gathered
pub record PoolState : Type 0 where
  pub laid : Option PoolTable
  pub words : List ℕ

-- nothing was laid yet
abbrev pub IsBlankPool : PoolState → Type 0
IsBlankPool s = (s.laid ≡ None) × (s.words ≡ [])

-- the pool is laid, and the pass is one of it
abbrev pub IsOfTables : Option PoolTable → Standing → Type 0
IsOfTables None p = ⊥
IsOfTables (Some pool) p = IsOf pool p

abbrev pub IsOfPool : PoolState → Standing → Type 0
IsOfPool s p = IsOfTables s.laid p

-- the pass of a seat, with a client that has no call, and has seen nothing
abbrev pub fresh_pass : TableId → ConfigParts → CellTable Knower → (seat : ℕ) → Standing
fresh_pass z p r k = record { table = z; client = fresh_machine p k; begun = false; view = record (bare_view []) { members = member k (entered p k) ∷ [] }; chair = fresh_chair r.table r.key }

-- those of so many seats, from this one on
abbrev pub fresh_passes : TableId → ConfigParts → CellTable Knower → (seat count : ℕ) → List Standing
fresh_passes z p r k zero = []
fresh_passes z p r k (suc n) = fresh_pass z p r k ∷ fresh_passes z p r (suc k) n

-- the cells are there, and this holds of them
abbrev pub HasChairs : Option (CellTable Knower) → (CellTable Knower → Type 0) → Type 0
HasChairs None P = ⊥
HasChairs (Some r) P = P r

-- a pool that was just laid: its passes are those of all seats, in rising order
abbrev pub AreNewPasses : PoolTable → List Standing → Type 0
AreNewPasses t ps = HasChairs t.cells (λ (r : CellTable Knower). ps ≡ fresh_passes t.table t.setting r 0 (all_seats t.setting))

abbrev pub AreLaidFor : ConfigParts → Option PoolTable → List Standing → Type 0
AreLaidFor p None ps = ⊥
AreLaidFor p (Some t) ps = (t.setting ≡ p) × AreNewPasses t ps

-- what is left of the view that makes the passes: the actors from this seat on
pub record IsMaker (p : ConfigParts) (seat count : ℕ) (v : PassView) : Type 0 where
  pub is : v ≡ record (bare_view []) { members = members_from p seat count }

-- the passes of the seats below this one are made, with a chair for each
pub record AreMade (t : PoolTable) (seat : ℕ) (v : PassView) (chairs : List (Sitting Handed Knower)) (ps : List Standing) : Type 0 where
  pub maker : IsMaker t.setting seat (all_seats t.setting - seat) v
  pub made : HasChairs t.cells (λ (r : CellTable Knower). (chairs ≡ replicate (all_seats t.setting - seat) (fresh_chair r.table r.key)) × (ps ≡ fresh_passes t.table t.setting r 0 seat))
  pub long : length ps ≡ seat

-- a pass of the pool that has no call under way
abbrev pub IsReady : ConfigParts → Option PoolTable → Standing → Type 0
IsReady p laid q = IsOfTables laid q × (is_resting q.client ≡ true) × (q.client.setting ≡ p)

abbrev pub AreReady : ConfigParts → Option PoolTable → List Standing → Type 0
AreReady p laid qs = AllByRecursion (IsReady p laid) qs
