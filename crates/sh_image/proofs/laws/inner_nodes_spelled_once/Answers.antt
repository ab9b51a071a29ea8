use Rattle.sh_image.proofs.InnerLemmas.{inner_in-inner_words, inner_spelled_one, length-inner_words}
use Rattle.sh_image.proofs.laws.inner_nodes_spelled_once.Goals as goal

pub returns-clause-read_back : goal.returns-clause-read_back
returns-clause-read_back c = inner_in-inner_words c.args.cfg.now.parts

pub returns-clause-spelled_once : goal.returns-clause-spelled_once
returns-clause-spelled_once c = inner_spelled_one c.args.cfg.now.parts

pub returns-clause-as_long : goal.returns-clause-as_long
returns-clause-as_long c = λ a h. length-inner_words c.args.cfg.now.parts a c.args.cfg.now.lawful.ranged.value_words.0 h.count.1
