use Rattle.std.{proofs.Common.{ap, ◌∙◌, subst}, specs.List.{insert}}
use Rattle.sh_map.{specs.{Map.{get, put}, Rows.{IsRowAt, IsGapFor, map_of_rows}}, proofs.RowsLemmas.{get_found, get_missed, put_over, put_in_gap, rising_put, view_put}}
use Rattle.sh_map.proofs.plain_map.PlainMap.put.Goals.{In-Ok, In-Err}
use Rattle.sh_map.proofs.plain_map.PlainMap.put.Goals as goal

at : (c : In-Ok) → IsRowAt c.self.inside.rows.items c.args.key c.in-Ok.at
at c = subst (λ rs. IsRowAt rs c.args.key c.in-Ok.at) c.deref.ensures.value c.in-Ok.ensures.found

gap : (c : In-Err) → IsGapFor c.self.inside.rows.items c.args.key c.in-Err.at
gap c = subst (λ rs. IsGapFor rs c.args.key c.in-Err.at) c.deref.ensures.value c.in-Err.ensures.absent

-- the key was there
pub invariant_of-self : goal.invariant_of-self
invariant_of-self c =
    let rows = c.self.inside.rows.items in
    rising_put rows _ c.args.key c.args.value c.self.invariant (put_over rows c.args.key c.args.value c.in-Ok.at c.self.invariant (at (goal.at.invariant_of-self c).In-Ok))

pub returns-in-Ok-clause-before : goal.returns-in-Ok-clause-before
returns-in-Ok-clause-before c = get_found c.self.inside.rows.items c.args.key c.in-Ok.at c.index.result.now c.self.invariant (at (goal.at.returns-in-Ok-clause-before c).In-Ok) c.index.ensures ∙ ap (λ m. get m c.args.key) c.self.view_is

pub returns-in-Ok-clause-ok : goal.returns-in-Ok-clause-ok
returns-in-Ok-clause-ok c =
    let rows = c.self.inside.rows.items in
    view_put rows _ c.args.key c.args.value c.self.invariant (put_over rows c.args.key c.args.value c.in-Ok.at c.self.invariant (at (goal.at.returns-in-Ok-clause-ok c).In-Ok)) ∙ ap (λ m. put m c.args.key c.args.value) c.self.view_is

-- the key is new
pub invariant_of-self-in-Err : goal.invariant_of-self-in-Err
invariant_of-self-in-Err c =
    let rows = c.self.inside.rows.items in
    rw c.in_ok-insert-in-Err.ensures.items (rising_put rows _ c.args.key c.args.value c.self.invariant (put_in_gap rows c.args.key c.args.value c.in-Err.at (gap (goal.at.invariant_of-self-in-Err c).In-Err)))

pub returns-in_ok-insert-in-Err-clause-before : goal.returns-in_ok-insert-in-Err-clause-before
returns-in_ok-insert-in-Err-clause-before c = get_missed c.self.inside.rows.items c.args.key c.in-Err.at c.self.invariant (gap (goal.at.returns-in_ok-insert-in-Err-clause-before c).In-Err) ∙ ap (λ m. get m c.args.key) c.self.view_is

pub returns-in_ok-insert-in-Err-clause-ok : goal.returns-in_ok-insert-in-Err-clause-ok
returns-in_ok-insert-in-Err-clause-ok c =
    let rows = c.self.inside.rows.items in
    ap map_of_rows c.in_ok-insert-in-Err.ensures.items ∙ view_put rows (insert rows c.in-Err.at (record { key = c.args.key; value = c.args.value })) c.args.key c.args.value c.self.invariant (put_in_gap rows c.args.key c.args.value c.in-Err.at (gap (goal.at.returns-in_ok-insert-in-Err-clause-ok c).In-Err)) ∙ ap (λ m. put m c.args.key c.args.value) c.self.view_is
