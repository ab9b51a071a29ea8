use Rattle.std.proofs.{Common.{rules}, lemmas.Slice.{drop-put_mid, overwrites}}
use Rattle.sh_world.proofs.columns.write_words.Goals as goal

pub returns-clause-written : goal.returns-clause-written
returns-clause-written c = search (rules, overwrites, drop-put_mid)
