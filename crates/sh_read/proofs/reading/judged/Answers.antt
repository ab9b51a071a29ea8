use Rattle.std.proofs.Common.{rules}
use Rattle.sh_read.proofs.{JudgingLemmas.{judged_by, seen_once}, KeptLemmas.{found_seen}}
use Rattle.sh_read.proofs.reading.judged.Goals as goal

pub returns-clause-progress : goal.returns-clause-progress
returns-clause-progress c = search (rules, found_seen, seen_once, judged_by)

pub returns-clause-image : goal.returns-clause-image
returns-clause-image c = search (rules, found_seen, seen_once, judged_by)
