use Rattle.std.proofs.Common.{rules}
use Rattle.std.{proofs.{Common.{◌*◌, ◌∙◌, take, ap, arith}, lemmas.{List.{take-replicate}}}, specs.Prelude.{◌%◌}}
use Rattle.sh_bulk.proofs.FillLemmas.{zeros_more}
use Rattle.sh_bulk.proofs.building.zeros.Goals as goal

pub loop-init : goal.loop-init
loop-init c = c.in_ok-words.ensures.items

pub loop-preserved : goal.loop-preserved
loop-preserved c = zeros_more (c.loop.counter * 4096) 4096 _ _ _ _ c.loop.invariant (c.deref.ensures.value ∙ c.in_ok-block.ensures.items_if_clones_equal (λ y e. e)) (omega arith) c.in_ok-extend_from_slice.ensures.items

pub returns : goal.returns
returns c =
    let rest = c.args.count % 4096 in
    zeros_more (c.loop.counter * 4096) rest _ _ _ _ c.loop.invariant (ap (take rest) (c.deref-2.ensures.value ∙ c.in_ok-block.ensures.items_if_clones_equal (λ y e. e)) ∙ take-replicate rest 4096 0 (omega arith)) (omega arith) c.in_ok-extend_from_slice-2.ensures.items
