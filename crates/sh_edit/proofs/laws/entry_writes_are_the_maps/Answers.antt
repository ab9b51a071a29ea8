use Rattle.sh_edit.proofs.EntryLemmas.{entry_placed_once, entry_removed_once, entry_placed, entry_removed, entry_lawful, entry_written}
use Rattle.sh_edit.proofs.laws.entry_writes_are_the_maps.Goals as goal

pub returns-clause-placed : goal.returns-clause-placed
returns-clause-placed c = entry_placed

pub returns-clause-removed : goal.returns-clause-removed
returns-clause-removed c = entry_removed

pub returns-clause-once_placed : goal.returns-clause-once_placed
returns-clause-once_placed c = λ a i e once. entry_placed_once a i once e

pub returns-clause-once_removed : goal.returns-clause-once_removed
returns-clause-once_removed c = λ a i e once. entry_removed_once a i once e

pub returns-clause-lawful : goal.returns-clause-lawful
returns-clause-lawful c = entry_lawful

pub returns-clause-words : goal.returns-clause-words
returns-clause-words c = entry_written
