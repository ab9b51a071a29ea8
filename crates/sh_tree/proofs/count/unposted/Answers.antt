use Rattle.std.proofs.{Common.{◌≡◌, ◌∙◌, ◌<◌, ◌+◌, ◌-◌, [], get_or, ap, length, map, arith}, lemmas.List.{get_or-map, length-map}}
use Rattle.sh_tree.{specs.{Lists.{first_of}, Tree.{children_of}}, proofs.{ChainLemmas.{all_nodes, top_chain}, CountLemmas.{left_few, left_more, level_at, level_few, all_counted}}}
use Rattle.sh_base.proofs.LayoutLemmas.{nodes_small}
use Rattle.sh_tree.proofs.count.unposted.Goals as goal

pub loop-first-preserved : goal.loop-first-preserved
loop-first-preserved c = λ levels h.
    let p = c.args.cfg.now.parts in
    let words = c.args.words.now in
    let i = c.loop-first.first-index in
    let firsts : c.deref-first-items.result.now ≡ map first_of levels = c.deref-first-items.ensures.value ∙ c.in_ok-firsts.ensures.firsts levels h in
    let inside : i < length levels = omega (arith, c.loop-first-test.true, ap length firsts, length-map levels first_of) in
    let few = all_nodes p words levels h in
    let level : c.in_ok-level.level.items ≡ get_or levels i [] =
    c.in_ok-level.ensures.level 0 (get_or levels i []) (top_chain p words _ _ (level_at p words levels i h.lawful inside)) (omega (arith, few, level_few p words levels i))
    (ap (λ l. get_or l i 0) firsts ∙ get_or-map first_of levels i [] 0 inside) in
    let so_far = c.loop-first.invariant levels h in
    let next = left_more p words levels i c.loop-first.named c.pairs_of_level-named.result c.loop-first.count _ c.in_ok-level.level.items h.lawful inside level
    (λ above below k. c.pairs_of_level-named.ensures above below (rw c.deref.ensures.value k) ∙ ap (λ l. length (children_of p words l)) c.deref.ensures.value) so_far in
    let count : c.saturating_add-count.result ≡ c.loop-first.count + (length c.in_ok-level.level.items - c.loop-first.named) =
    grind (arith, c.saturating_add-count.ensures, c.saturating_sub.ensures, c.len.ensures, c.in_ok-level.level.ok.0, next, left_few p words 1 levels, few, (nodes_small p c.args.cfg.now.lawful).1) in
    rw count next

pub returns : goal.returns
returns c = λ levels h.
    let p = c.args.cfg.now.parts in
    let firsts : c.deref-first-items.result.now ≡ map first_of levels = c.deref-first-items.ensures.value ∙ c.in_ok-firsts.ensures.firsts levels h in
    all_counted p c.args.words.now levels c.loop-first.first-index c.loop-first.named c.loop-first.count h (omega (arith, c.loop-first-test.false, ap length firsts, length-map levels first_of)) (c.loop-first.invariant levels h)
