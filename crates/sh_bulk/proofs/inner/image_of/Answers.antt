use Rattle.std.proofs.Common.{rules, ◌≡◌, ◌+◌, ◌-◌, ◌*◌, ◌∙◌, ◌++◌, ◌∷◌, [], ap, sym, length, map, arith}
use Rattle.std.{specs.List.{range_with_len}, proofs.lemmas.List.FromFn.{length-map-range_with_len, map-range_with_len_more}}
use Rattle.sh_bulk.{specs.{Nodes.{inner_of, pair_to}}, proofs.{LevelLemmas.{over}, ShapeLemmas.{child_begins}}}
use Rattle.sh_bulk.proofs.inner.image_of.Goals as goal

pub overflow_mul-from : goal.overflow_mul-from
overflow_mul-from c = omega (arith, c.inner_fill-fill.ensures.high, over _ _ _ c.args.j _ c.args.cfg.now.lawful c.requires.room c.requires.level c.requires.node c.inner_fill-fill.ensures.fill)

pub overflow_add-from : goal.overflow_add-from
overflow_add-from c = omega (arith, c.inner_fill-fill.ensures.high, over _ _ _ c.args.j _ c.args.cfg.now.lawful c.requires.room c.requires.level c.requires.node c.inner_fill-fill.ensures.fill)

pub overflow_add-below : goal.overflow_add-below
overflow_add-below c = omega (arith, c.inner_fill-fill.ensures.high, over _ _ _ c.args.j _ c.args.cfg.now.lawful c.requires.room c.requires.level c.requires.node c.inner_fill-fill.ensures.fill)

pub overflow_cast-below : goal.overflow_cast-below
overflow_cast-below c = omega (arith, c.inner_fill-fill.ensures.high, over _ _ _ c.args.j _ c.args.cfg.now.lawful c.requires.room c.requires.level c.requires.node c.inner_fill-fill.ensures.fill)

pub head_of-image-requires-clause-to : goal.head_of-image-requires-clause-to
head_of-image-requires-clause-to c = search (rules, over)

pub push-requires : goal.push-requires
push-requires c = search (rules, length-map-range_with_len)

pub loop-i-preserved : goal.loop-i-preserved
loop-i-preserved c =
    let p = c.args.cfg.now.parts in
    let rows = c.args.rows.now in
    let l = c.args.below in
    let from = c.args.j * c.inner_fill-fill.result in
    let i = c.loop-i.i in
    let same : l.first + i ≡ Rattle.sh_bulk.specs.Shape.first_in p (length rows) l.number + i = ap (λ f. f + i) c.requires.level.first_is in
    let here : from + (i - from) ≡ i = omega arith in
    let count : i - from + 1 ≡ i + 1 - from = omega arith in
    let pairs = ap (λ m. map (pair_to p rows l.number) (range_with_len from m)) (sym count) ∙ map-range_with_len_more (pair_to p rows l.number) from (i - from) i here in
    c.push.ensures ∙ ((λ t. record (c.loop-i.invariant t) { pairs = (c.loop-i.invariant t).pairs ++ record { separator = c.low_of.ensures t; child = same t } ∷ [] }) ∙ (λ t. record (inner_of p rows l.number c.args.j) { pairs = sym pairs t }))

pub returns : goal.returns
returns c = search (rules, child_begins)
