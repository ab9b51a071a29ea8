use Rattle.std.proofs.Common.{ap, sym, ◌∙◌}
use Rattle.sh_image.{specs.Leaf.{leaf_words}, proofs.LeafLemmas.{leaf_in-leaf_words, length-leaf_words, spelled_one, values_of}}
use Rattle.sh_image.proofs.laws.leaves_spelled_once.Goals as goal

pub returns-clause-read_back : goal.returns-clause-read_back
returns-clause-read_back c = λ a h. leaf_in-leaf_words c.args.cfg.now.parts a h.count (values_of c.args.cfg.now.parts _ _ _ h.entries)

pub returns-clause-spelled_once : goal.returns-clause-spelled_once
returns-clause-spelled_once c = λ ws a s. spelled_one c.args.cfg.now.parts ws a s

pub returns-clause-written_back : goal.returns-clause-written_back
returns-clause-written_back c = λ ws a s. ap leaf_words (spelled_one c.args.cfg.now.parts ws a s) ∙ sym s.words

pub returns-clause-as_long : goal.returns-clause-as_long
returns-clause-as_long c = λ a h. length-leaf_words c.args.cfg.now.parts a h.count (values_of c.args.cfg.now.parts _ _ _ h.entries)
