use Rattle.std.proofs.Common.{ap, ◌∙◌, sym, subst}
use Rattle.sh_map.{specs.{Map.{get, del}, Rows.{IsRowAt, IsGapFor, map_of_rows}}, proofs.{MapLemmas.{del_absent}, RowsLemmas.{get_found, get_missed, rising_removed, view_removed}}}
use Rattle.sh_map.proofs.plain_map.PlainMap.del.Goals.{In-Ok, In-Err}
use Rattle.sh_map.proofs.plain_map.PlainMap.del.Goals as goal

at : (c : In-Ok) → IsRowAt c.self.inside.rows.items c.args.key c.in-Ok.at
at c = subst (λ rs. IsRowAt rs c.args.key c.in-Ok.at) c.deref.ensures.value c.in-Ok.ensures.found

gap : (c : In-Err) → IsGapFor c.self.inside.rows.items c.args.key c.in-Err.field-0
gap c = subst (λ rs. IsGapFor rs c.args.key c.in-Err.field-0) c.deref.ensures.value c.in-Err.ensures.absent

pub invariant_of-self : goal.invariant_of-self
invariant_of-self c = rw c.remove.ensures.items (rising_removed c.self.inside.rows.items c.in-Ok.at c.self.invariant)

pub returns-in-Ok-clause-before : goal.returns-in-Ok-clause-before
returns-in-Ok-clause-before c = get_found c.self.inside.rows.items c.args.key c.in-Ok.at c.remove.result c.self.invariant (at (goal.at.returns-in-Ok-clause-before c).In-Ok) c.remove.ensures.value ∙ ap (λ m. get m c.args.key) c.self.view_is

pub returns-in-Ok-clause-removed : goal.returns-in-Ok-clause-removed
returns-in-Ok-clause-removed c = ap map_of_rows c.remove.ensures.items ∙ view_removed c.self.inside.rows.items c.args.key c.in-Ok.at c.self.invariant (at (goal.at.returns-in-Ok-clause-removed c).In-Ok) ∙ ap (λ m. del m c.args.key) c.self.view_is

pub returns-in-Err-clause-before : goal.returns-in-Err-clause-before
returns-in-Err-clause-before c = get_missed c.self.inside.rows.items c.args.key c.in-Err.field-0 c.self.invariant (gap (goal.at.returns-in-Err-clause-before c).In-Err) ∙ ap (λ m. get m c.args.key) c.self.view_is

pub returns-in-Err-clause-removed : goal.returns-in-Err-clause-removed
returns-in-Err-clause-removed c = sym (del_absent c.args.self.now c.args.key (sym (get_missed c.self.inside.rows.items c.args.key c.in-Err.field-0 c.self.invariant (gap (goal.at.returns-in-Err-clause-removed c).In-Err) ∙ ap (λ m. get m c.args.key) c.self.view_is)))
