use Rattle.sh_image.proofs.{LeafLemmas.{values_of}, NodeLemmas.{one_answer, seen_image, odd_spells_none, spelled_twice, read_again, length-words_of}}
use Rattle.sh_image.proofs.laws.nodes_have_one_answer.Goals as goal

pub returns-clause-one : goal.returns-clause-one
returns-clause-one c = λ ws. one_answer c.args.cfg.now.parts ws c.args.cfg.now.lawful.ranged.value_words.0

pub returns-clause-seen : goal.returns-clause-seen
returns-clause-seen c = λ ws. seen_image c.args.cfg.now.parts ws c.args.cfg.now.lawful.ranged.value_words.0

pub returns-clause-odd : goal.returns-clause-odd
returns-clause-odd c = λ ws. odd_spells_none c.args.cfg.now.parts ws c.args.cfg.now.lawful.ranged.value_words.0

pub returns-clause-spelled_once : goal.returns-clause-spelled_once
returns-clause-spelled_once c = λ ws. spelled_twice c.args.cfg.now.parts ws c.args.cfg.now.lawful.ranged.value_words.0

pub returns-clause-read_again : goal.returns-clause-read_again
returns-clause-read_again c = read_again c.args.cfg.now.parts c.args.cfg.now.lawful.ranged.value_words.0

pub returns-clause-as_long : goal.returns-clause-as_long
returns-clause-as_long c = length-words_of c.args.cfg.now.parts c.args.cfg.now.lawful.ranged.value_words.0

pub returns-clause-writable : goal.returns-clause-writable
returns-clause-writable c = λ a h. (h.count, values_of c.args.cfg.now.parts _ _ _ h.entries)
