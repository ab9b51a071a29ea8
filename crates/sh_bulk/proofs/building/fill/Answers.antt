use Rattle.std.proofs.Common.{rules, ◌*◌, ◌∙◌, replicate, ap, arith}
use Rattle.sh_base.specs.Setting.{node_size, nodes}
use Rattle.sh_bulk.proofs.FillLemmas.{blank_front, blank_rest, front_at, pool_is}
use Rattle.sh_bulk.proofs.building.fill.Goals as goal

pub split_at_mut-front-requires : goal.split_at_mut-front-requires
split_at_mut-front-requires g c = omega (arith, front_at c.args.cfg.now.parts c.parts.result c.all_locks.result c.args.words.now c.parts.ensures c.all_locks.ensures c.requires.blank)

pub put_front-requires : goal.put_front-requires
put_front-requires g c =
    let p = c.args.cfg.now.parts in
    let at = front_at c.args.cfg.now.parts c.parts.result c.all_locks.result c.args.words.now c.parts.ensures c.all_locks.ensures c.requires.blank in
    c.split_at_mut-front.ensures.front ∙ (blank_front _ (nodes p * node_size p) _ c.args.words.now c.requires.blank (omega (arith, at, pool_is p)) ∙ ap (λ k. replicate k 0) at.0)

pub fill_nodes-requires-clause-blank : goal.fill_nodes-requires-clause-blank
fill_nodes-requires-clause-blank g c h2 within = search (rules, front_at, blank_rest, pool_is)
