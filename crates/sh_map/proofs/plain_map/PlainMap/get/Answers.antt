use Rattle.std.proofs.Common.{rules, ap, ◌∙◌, subst}
use Rattle.sh_map.{specs.{Map.{get}, Rows.{IsGapFor}}, proofs.RowsLemmas.{get_found, get_missed}}
use Rattle.sh_map.proofs.plain_map.PlainMap.get.Goals as goal

pub returns-in-Ok : goal.returns-in-Ok
returns-in-Ok c = search (rules, get_found)

pub returns-in-Err : goal.returns-in-Err
returns-in-Err c =
    get_missed _ c.args.key c.in-Err.field-0 c.self.invariant (subst (λ rs. IsGapFor rs c.args.key c.in-Err.field-0) c.deref.ensures.value c.in-Err.ensures.absent)
    ∙ ap (λ m. get m c.args.key) c.self.view_is
