use Rattle.std.proofs.Common.{◌∙◌, arith}
use Rattle.sh_local.proofs.Regroup.{opening_kept}
use Rattle.sh_local.proofs.cells.Cells.new.Goals as goal

pub vacant-requires : goal.vacant-requires
vacant-requires g c = opening_kept g.T.Carried.fits c.args.key c.args.chairs c.args.cells c.as_slice.result.now (omega arith) (c.as_slice.ensures.value ∙ c.in_ok-words.ensures.items_if_clones_equal (λ y h. h))
