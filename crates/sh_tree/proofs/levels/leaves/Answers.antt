use Rattle.std.proofs.{Common.{◌≡◌, ◌∙◌, ◌-◌, ap, length, get_or, map, arith}, lemmas.List.{get_or_read, length-map}}
use Rattle.sh_tree.{specs.{Lists.{first_of}, Tree.{leaves_of}}, proofs.ChainLemmas.{leaf_chain, few_leaves, all_nodes, first_leaf}}
use Rattle.sh_tree.proofs.levels.leaves.Goals as goal

pub returns-clause-leaves : goal.returns-clause-leaves
returns-clause-leaves c = λ levels h.
    let p = c.args.cfg.now.parts in
    let at = c.len-count.result - 1 in
    let firsts : c.in_ok-firsts.firsts.items ≡ map first_of levels = c.in_ok-firsts.ensures.firsts levels h in
    let long : length c.in_ok-firsts.firsts.items ≡ length levels = ap length firsts ∙ length-map levels first_of in
    let is = get_or_read c.in_ok-firsts.firsts.items at _ (omega (arith, c.len-count.ensures, c.in_ok-firsts.firsts.ok.0, c.if-count-eq0.false)) c.index.ensures 0 in
    c.level_from.ensures.level 0 (leaves_of levels) (leaf_chain p c.args.words.now levels h.lawful).0
    (omega (arith, few_leaves p c.args.words.now levels, all_nodes p c.args.words.now levels h))
    (is ∙ ap (λ l. get_or l at 0) firsts ∙ first_leaf p c.args.words.now levels at (omega (arith, c.len-count.ensures, c.in_ok-firsts.firsts.ok.0, c.if-count-eq0.false, long)))
