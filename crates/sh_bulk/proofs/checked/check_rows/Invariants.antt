use Rattle.std.proofs.Common.{◌≡◌, ◌<◌, ℕ}
use Rattle.sh_bulk.specs.Fault.{key_before, IsGoodRow}
use Rattle.sh_bulk.proofs.checked.check_rows.Given as goal

-- the rows so far are good, and this is the key before
abbrev pub invariant-loop-at : goal.invariant-loop-at
invariant-loop-at l = (l.before ≡ key_before l.rows l.at) × ((i : ℕ) → i < l.at → IsGoodRow l.rows i)
