use Rattle.std.proofs.{Common.{rules}, lemmas.List.Sorted.{answers_always}}
use Rattle.sh_map.proofs.RowsLemmas.{searched}
use Rattle.sh_map.proofs.plain_map.search.Goals as goal

-- the closure gives a row's key
pub returns : goal.returns
returns c =
    let facts = c.binary_search_by_key.ensures in
    let by_key = facts.position (λ r. r.key) (answers_always _ _ _ (λ f a r g called. search rules)) in
    searched c.args.rows.now c.requires c.args.key _ facts.bound by_key
