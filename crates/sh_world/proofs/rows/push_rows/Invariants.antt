use Rattle.std.proofs.Common.{◌≡◌, ◌+◌, ◌*◌, ◌≤◌, ◌++◌, take}
use Rattle.std.specs.{List.{flat_map}, Vec.{vec_len, vec_capacity}}
use Rattle.sh_world.specs.Columns.{row_words}
use Rattle.sh_world.proofs.rows.push_rows.Given as goal

abbrev pub invariant-loop-row : goal.invariant-loop-row
invariant-loop-row l = (l.words.items ≡ l.fn.words.items ++ flat_map row_words (take l.row-index l.rows))
    × (vec_len l.words ≡ vec_len l.fn.words + l.row-index * (l.fn.width + 1))
    × (vec_capacity l.fn.words ≤ vec_capacity l.words)
