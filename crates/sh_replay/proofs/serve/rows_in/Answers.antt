use Rattle.std.proofs.Common.{subst}
use Rattle.sh_replay.{specs.Served.{HasEnded}, proofs.ServeLemmas.{rows_of_words}}
use Rattle.sh_replay.proofs.serve.rows_in.Goals as goal

pub returns-in-Done : goal.returns-in-Done
returns-in-Done c = rw c.in-Done.is (rows_of_words c.args.world.now _ _ c.pairs_in.result (c.keeps_the_laws.ensures.lawful, c.keeps_the_laws.ensures.running) (subst (HasEnded c.args.world.now) c.in-Done.is c.requires.ended) c.setting.ensures c.words.ensures c.pairs_in.ensures)
