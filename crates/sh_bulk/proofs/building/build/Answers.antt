use Rattle.std.proofs.Common.{rules}
use Rattle.std.proofs.{Common.{sym, subst}, lemmas.Result.{err_from_is_err_and}}
use Rattle.sh_bulk.{specs.Fault.{IsBulkFault}, proofs.HoldLemmas.{built_holds}}
use Rattle.sh_bulk.proofs.building.build.Goals as goal

pub returns-in_err-check_rows-clause-fault : goal.returns-in_err-check_rows-clause-fault
returns-in_err-check_rows-clause-fault g c =
    let p = err_from_is_err_and c.from_residual.result c.from_residual.ensures.1 in
    rw p.1 (subst (IsBulkFault c.args.cfg.now.parts c.args.rows.now) (sym p.2) (c.in_err-check_rows.ensures c.args.cfg.now.parts))

pub returns-clause-tree : goal.returns-clause-tree
returns-clause-tree g c = built_holds (λ w. w.items) c.args.cfg.now.parts c.args.rows.now c.build_good.result c.args.cfg.now.lawful c.in_ok-check_rows.ensures c.requires.values c.build_good.ensures.built c.build_good.ensures.room
