use Rattle.std.{proofs.Common.{ap, ◌∙◌, map}, specs.FinMap.{entries}}
use Rattle.sh_map.{specs.Map.{row_pair}, proofs.RowsLemmas.{entries_are}}
use Rattle.sh_map.proofs.plain_map.PlainMap.pairs.Goals as goal

pub returns : goal.returns
returns c = ap (map row_pair) c.deref.ensures.value ∙ entries_are c.self.inside.rows.items c.self.invariant ∙ ap entries c.self.view_is
