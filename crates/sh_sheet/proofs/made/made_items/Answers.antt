use Rattle.std.proofs.Common.{rules, arith}
use Rattle.sh_sheet.{proofs.MadeLemmas.{made_more, number_first, number_more}}
use Rattle.sh_sheet.proofs.made.made_items.Goals as goal

pub loop-place-init : goal.loop-place-init
loop-place-init c = (c.in_ok-items.ensures.items, number_first c.args.seed, omega (arith, c.in_ok-items.ensures.len, c.in_ok-items.ensures.capacity))

pub loop-place-preserved : goal.loop-place-preserved
loop-place-preserved c = search (rules, made_more, number_more)
