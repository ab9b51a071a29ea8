-- A right that was handed over, as plain data.
use Rattle.std.specs.Prelude.{◌≡◌, ℕ, Option, None, Some}
use Rattle.atomic_table.specs.Seated.{TableId}
use Rattle.sh_pool_rule.specs.declared.view.{PassView.{PassView}, LockRight.{LockRight}}

-- its table, what its view knows, and how often the lock was handed over
pub record Handed : Type 0 where
  pub table : TableId
  pub view : PassView
  pub depth : ℕ

abbrev pub HasDepth : Option LockRight → ℕ → Type 0
HasDepth None depth = ⊥
HasDepth (Some c) depth = c.depth ≡ depth
