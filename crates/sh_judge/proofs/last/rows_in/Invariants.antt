use Rattle.std.proofs.Common.{◌≡◌, ◌++◌, map}
use Rattle.sh_judge.proofs.TreeRows.{to_row}
use Rattle.sh_judge.proofs.last.rows_in.Given as goal

-- the rows so far and those of the entries that are left are those of all
abbrev pub invariant-loop-key : goal.invariant-loop-key
invariant-loop-key l = l.rows.items ++ map to_row l.key-iterator ≡ map to_row l.initial.key-iterator
