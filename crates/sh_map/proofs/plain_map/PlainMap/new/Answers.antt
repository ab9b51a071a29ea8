use Rattle.sh_map.proofs.RowsLemmas.{map_of_no_rows}
use Rattle.sh_map.proofs.plain_map.PlainMap.new.Goals as goal

pub returns : goal.returns
returns c = rw c.new.ensures.items map_of_no_rows
