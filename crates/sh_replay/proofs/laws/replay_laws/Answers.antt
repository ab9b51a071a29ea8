use Rattle.sh_replay.proofs.OutputLemmas.{done_items, done_lines}
use Rattle.sh_replay.proofs.laws.replay_laws.Goals as goal

pub returns-clause-each : goal.returns-clause-each
returns-clause-each c calls ended = done_items 1 calls ended

pub returns-clause-lines : goal.returns-clause-lines
returns-clause-lines c calls ended = done_lines 1 calls ended
