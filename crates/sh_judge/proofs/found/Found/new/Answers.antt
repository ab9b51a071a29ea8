use Rattle.sh_judge.proofs.FoundLemmas.{has_none}
use Rattle.sh_judge.proofs.found.Found.new.Goals as goal

pub returns-clause-least : goal.returns-clause-least
returns-clause-least c = rw c.new.ensures.items (has_none _ (c.in_ok-ends.ensures.items_if_clones_equal (λ y h. h)))
