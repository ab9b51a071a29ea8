use Rattle.sh_client.proofs.GiveLemmas.{entry_stores, entry_words_are, leaf_stores, leaf_words_are}
use Rattle.sh_client.proofs.laws.updates_store_their_words.Goals as goal

pub returns-clause-entry : goal.returns-clause-entry
returns-clause-entry c = entry_stores

pub returns-clause-entry_size : goal.returns-clause-entry_size
returns-clause-entry_size c = entry_words_are

pub returns-clause-leaf : goal.returns-clause-leaf
returns-clause-leaf c = leaf_stores

pub returns-clause-leaf_size : goal.returns-clause-leaf_size
returns-clause-leaf_size c = leaf_words_are
