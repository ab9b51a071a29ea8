use Rattle.std.proofs.Common.{rules, ◌≡◌, suc, ◌+◌, ◌∙◌, [], ap, sym, refl, arith}
use Rattle.sh_bulk.{specs.Nodes.{low_in, next_in, taken_by}, proofs.{LevelLemmas.{inner_next, inner_last, over}, RowLemmas.{high_last, high_more, next_last, next_more}}}
use Rattle.sh_bulk.proofs.inner.head_of.Goals as goal

pub low_of-low-requires-clause-node : goal.low_of-low-requires-clause-node
low_of-low-requires-clause-node c = omega (arith, c.requires.from, over _ _ _ c.args.j _ c.args.cfg.now.lawful c.requires.room c.requires.level c.requires.node refl)

pub overflow_add-level : goal.overflow_add-level
overflow_add-level c = omega (arith, over _ _ _ c.args.j _ c.args.cfg.now.lawful c.requires.room c.requires.level c.requires.node refl)

pub overflow_add-next : goal.overflow_add-next
overflow_add-next c = omega (arith, over _ _ _ c.args.j _ c.args.cfg.now.lawful c.requires.room c.requires.level c.requires.node refl)

pub overflow_add-next-then-to-below : goal.overflow_add-next-then-to-below
overflow_add-next-then-to-below c = omega (arith, over _ _ _ c.args.j _ c.args.cfg.now.lawful c.requires.room c.requires.level c.requires.node refl)

pub overflow_add-next-then-to-below-2 : goal.overflow_add-next-then-to-below-2
overflow_add-next-then-to-below-2 c = omega (arith, over _ _ _ c.args.j _ c.args.cfg.now.lawful c.requires.room c.requires.level c.requires.node refl)

pub overflow_cast-next : goal.overflow_cast-next
overflow_cast-next c = omega (arith, over _ _ _ c.args.j _ c.args.cfg.now.lawful c.requires.room c.requires.level c.requires.node refl)

pub returns-then-to-below : goal.returns-then-to-below
returns-then-to-below c =
    let p = c.args.cfg.now.parts in
    let rows = c.args.rows.now in
    let l = c.args.below in
    let j = c.args.j in
    let (at, more) = inner_next p c.args.cfg.now.lawful rows l.number j c.args.to (c.requires.to ∙ ap (λ k. k + taken_by p rows l.number j) c.requires.from) (omega (arith, c.if-to-below.true, c.requires.level.count_is)) in
    let level : l.number + 1 ≡ suc l.number = omega arith in
    let low = c.low_of-low.ensures ∙ ap (low_in p rows l.number) c.requires.from in
    let high = c.low_of.ensures ∙ (ap (low_in p rows l.number) at ∙ sym (high_more p rows (suc l.number) j more)) in
    let next : l.first + l.count + (j + 1) ≡ next_in p rows (suc l.number) j = omega (arith, c.requires.level.first_is, c.requires.level.count_is, next_more p rows (suc l.number) j more) in
    c.new.ensures ∙ (λ t. record { version = 0; level = level t; low = low t; high = high t; next = next t; pairs = [] })

pub returns-else-to-below : goal.returns-else-to-below
returns-else-to-below c =
    let p = c.args.cfg.now.parts in
    let rows = c.args.rows.now in
    let l = c.args.below in
    let j = c.args.j in
    let last = inner_last p c.args.cfg.now.lawful rows l.number j c.args.to c.requires.node (c.requires.to ∙ ap (λ k. k + taken_by p rows l.number j) c.requires.from) (omega (arith, c.if-to-below.false, c.requires.level.count_is)) in
    let level : l.number + 1 ≡ suc l.number = omega arith in
    let low = c.low_of-low.ensures ∙ ap (low_in p rows l.number) c.requires.from in
    let high = sym (high_last p rows (suc l.number) j last) in
    let next = sym (next_last p rows (suc l.number) j last) in
    c.new-else-to-below.ensures ∙ (λ t. record { version = 0; level = level t; low = low t; high = high t; next = next t; pairs = [] })
