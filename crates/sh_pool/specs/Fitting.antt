-- Which cell a lock has for a compute server, and which right may lie there.
use Rattle.std.specs.Prelude.{◌≡◌, ℕ, ◌+◌, ◌*◌, ◌/◌, ◌%◌, ◌≤◌, Some}
use Rattle.atomic_table.specs.Seated.{TableId}
use Rattle.sh_base.specs.declared.config.ConfigParts.{ConfigParts}
use Rattle.sh_pool_rule.specs.Views.{lock_right}
use Rattle.sh_pool.specs.Handed.{Handed}

unfoldable pub cell_for : ConfigParts → (lock compute : ℕ) → ℕ
cell_for p lock compute = lock * p.computes + compute

-- the right to the cell's lock, for the seats of its compute server, handed over within the bound
pub record FitsCell (p : ConfigParts) (z : TableId) (cell : ℕ) (r : Handed) : Type 0 where
  pub table : r.table ≡ z
  pub right : r.view.right ≡ Some (lock_right (cell / p.computes) (cell % p.computes) r.depth)
  pub within : r.depth ≤ p.bound
