use Rattle.std.proofs.Common.{◌+◌, ◌∙◌, get_or, arith}
use Rattle.sh_image.proofs.FillLemmas.{entry_here, filled_more, filled_all}
use Rattle.sh_image.proofs.read_leaf.fill.Goals as goal

pub loop-index-preserved : goal.loop-index-preserved
loop-index-preserved c =
    let p = c.args.cfg.now.parts in
    let ws = c.args.words.now in
    let at = c.entry_at-at.result in
    filled_more p ws c.args.image.now c.loop-index.index _ _ _ (omega arith) (λ d. (λ t. record { version = get_or ws at 0; key = get_or ws (at + 1) 0; value = c.value_of.ensures t }) ∙ entry_here p ws c.loop-index.index at c.value_words-count.result d (omega arith) c.entry_at-at.ensures c.value_words-count.ensures) c.loop-index.invariant c.set.ensures

pub returns : goal.returns
returns c = filled_all c.args.cfg.now.parts c.args.words.now c.args.image.now c.loop-index.index _ (omega arith) c.loop-index.invariant
