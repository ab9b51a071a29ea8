use Rattle.sh_edit.proofs.EntryLemmas.{rewritten_placed_once, rewritten_removed_once}
use Rattle.sh_edit.proofs.laws.edits_keep_keys_apart.Goals as goal

pub returns-clause-placed : goal.returns-clause-placed
returns-clause-placed c = λ a i key value once. rewritten_placed_once a i once key value

pub returns-clause-removed : goal.returns-clause-removed
returns-clause-removed c = λ a i zeros once. rewritten_removed_once a i once zeros
