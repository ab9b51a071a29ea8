use Rattle.std.proofs.Common.{◌-◌, arith, subst}
use Rattle.sh_pool.specs.{Cards.{IsNoteOf}, Passes.{PoolTable}}
use Rattle.std.specs.Prelude.{Option}
use Rattle.sh_fleet.{specs.Wants.{wants_of}, proofs.BoardLemmas.{chain_next, lying_long, lying_set, named_place, next_long, noted_for, stays_noted}, proofs.HeardLemmas.{place_within}}
use Rattle.sh_fleet.proofs.board.lay_chain.Goals as goal

pub index_mut-requires : goal.index_mut-requires
index_mut-requires g c =
    let h = c.loop.invariant in
    let below = place_within (wants_of g.N.Naming.items) (c.loop.link - 1) h.2.want (named_place (wants_of g.N.Naming.items) c.loop.link h.2.want c.if-link-eq0.false h.2.names) in
    omega (arith, below, lying_long g.N.Naming.laid (wants_of g.N.Naming.items) c.loop.notes.items h.3, c.loop.notes.ok.0)

pub next_of-link-requires : goal.next_of-link-requires
next_of-link-requires g c =
    let h = c.loop.invariant in
    let below = place_within (wants_of g.N.Naming.items) (c.loop.link - 1) h.2.want (named_place (wants_of g.N.Naming.items) c.loop.link h.2.want c.if-link-eq0.false h.2.names) in
    omega (arith, below, next_long (wants_of g.N.Naming.items) (wants_of g.N.Naming.items) c.args.next.now c.requires.next)

pub loop-preserved : goal.loop-preserved
loop-preserved g c =
    let h = c.loop.invariant in
    let noted = c.note.ensures.noted in
    let of = subst (λ (o : Option PoolTable). IsNoteOf o c.note.result) c.requires.laid c.note.ensures.of.1 in
    let place = named_place (wants_of g.N.Naming.items) c.loop.link h.2.want c.if-link-eq0.false h.2.names in
    (c.note.ensures.of.0, stays_noted _ _ _ _ h.1 noted, rw c.next_of-link.ensures (chain_next _ _ c.loop.link 0 _ _ _ h.2 c.if-link-eq0.false c.requires.next noted), lying_set _ _ _ (c.loop.link - 1) h.2.want _ h.3 place (noted_for _ h.2.want _ _ _ h.2.maker noted of))
