use Rattle.std.proofs.{Common.{◌∙◌, ap, sym, arith, ◌≡◌, ◌++◌, map, take}, lemmas.{Bool.{eqb-true}, List.{append-nil, take_all}, Option.{slice_get_within}}}
use Rattle.sh_map.{specs.Map.{get, row_pair}, proofs.TreeLemmas.{rows_give, rows_more}}
use Rattle.sh_map.proofs.tree_map.TreeMap.has_rows.Goals as goal

pub loop-key-preserved : goal.loop-key-preserved
loop-key-preserved c =
    let here = c.is_row.ensures c.if-not-is_row.false in (
      rows_more c.args.rows.now c.loop-key.at _ _ _ _ _ c.loop-key.invariant.0 here c.in-Some.ensures.steps,
      omega (arith, slice_get_within c.args.rows.now c.loop-key.at _ here),
    )

pub returns : goal.returns
returns c = λ all key above below.
    let rows = c.args.rows.now in
    let part = c.range-key-items.result in
    let are : map row_pair rows ≡ part = ap (map row_pair) (sym (take_all c.loop-key.at rows (omega (arith, eqb-true _ _ all)))) ∙ sym (append-nil (map row_pair (take c.loop-key.at rows))) ∙ ap (λ l. map row_pair (take c.loop-key.at rows) ++ l) (sym c.in-None.ensures.steps.0) ∙ c.loop-key.invariant.0 ∙ c.into_iter-key-iterator.ensures.into_iter_gives in
    ap (λ m. get m key) (sym c.self.view_is) ∙ rows_give c.self.inside.tree c.args.low c.args.upto part rows are (c.range-key-items.ensures.between tt) key above below
