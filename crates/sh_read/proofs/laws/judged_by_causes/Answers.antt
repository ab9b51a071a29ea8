use Rattle.sh_read.proofs.{CauseLemmas.{answered_by, image_spelled}, JudgingLemmas.{judged_by, seen_once}}
use Rattle.sh_read.proofs.laws.judged_by_causes.Goals as goal

pub returns-clause-cause : goal.returns-clause-cause
returns-clause-cause c = λ words. judged_by c.args.cfg.now.parts words c.args.cfg.now.lawful.ranged.value_words.0

pub returns-clause-once : goal.returns-clause-once
returns-clause-once c = λ words. seen_once c.args.cfg.now.parts words c.args.cfg.now.lawful.ranged.value_words.0

pub returns-clause-answer : goal.returns-clause-answer
returns-clause-answer c = λ words. answered_by c.args.cfg.now.parts words c.args.cfg.now.lawful.ranged.value_words.0

pub returns-clause-image : goal.returns-clause-image
returns-clause-image c = image_spelled c.args.cfg.now.parts c.args.cfg.now.lawful.ranged.value_words.0
