use Rattle.sh_image.proofs.UntornLemmas.{untorn_spelled, seen_spelled, untorn_inner, seen_inner}
use Rattle.sh_image.proofs.laws.causes_shut_each_other_out.Goals as goal

pub returns-clause-untorn : goal.returns-clause-untorn
returns-clause-untorn c = untorn_spelled c.args.cfg.now.parts

pub returns-clause-leaf : goal.returns-clause-leaf
returns-clause-leaf c = seen_spelled c.args.cfg.now.parts

pub returns-clause-untorn_inner : goal.returns-clause-untorn_inner
returns-clause-untorn_inner c = λ ws a s. untorn_inner c.args.cfg.now.parts ws a c.args.cfg.now.lawful.ranged.value_words.0 s

pub returns-clause-inner : goal.returns-clause-inner
returns-clause-inner c = λ ws a seen s h. seen_inner c.args.cfg.now.parts ws a seen c.args.cfg.now.lawful.ranged.value_words.0 s h
