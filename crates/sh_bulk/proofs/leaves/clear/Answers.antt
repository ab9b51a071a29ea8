use Rattle.sh_bulk.proofs.leaves.clear.Goals as goal

pub returns : goal.returns
returns c = c.fill.ensures.after (λ y e. e)
