use Rattle.std.proofs.Common.{◌≡◌, ◌+◌, ◌≤◌, ◌++◌, take, vec_capacity, vec_len}
use Rattle.sh_fleet.proofs.answers.push_rows.Given as goal

abbrev pub invariant-loop-row : goal.invariant-loop-row
invariant-loop-row l = (l.rows.items ≡ l.fn.rows.items ++ take l.row-index l.more) × (vec_len l.rows ≡ vec_len l.fn.rows + l.row-index) × (vec_capacity l.fn.rows ≤ vec_capacity l.rows)
