use Rattle.std.proofs.Common.{◌∙◌, arith, inr, refl, subst, sym}
use Rattle.sh_fleet.{specs.{Boards.{want_at, MayLie}, Wants.{wants_of}}, proofs.BoardLemmas.{after_place, item_within, lying_at, lying_long, lying_set, note_taken}, proofs.HeardLemmas.{place_within}}
use Rattle.sh_fleet.proofs.board.Board.take.Goals as goal

pub index-place-requires : goal.index-place-requires
index-place-requires g c = omega (arith, item_within _ _ _ _ _ c.self.invariant c.args.at _ refl (inr c.requires), c.self.inside.links.ok.0)

pub index_mut-requires : goal.index_mut-requires
index_mut-requires g c =
    let place = after_place _ _ _ _ _ c.self.invariant c.args.at c.index-place.result.now c.index-place.ensures c.requires in
    omega (arith, place_within (wants_of g.N.Naming.items) c.index-place.result.now (want_at g.N.Naming.items c.args.at) place, lying_long g.N.Naming.laid (wants_of g.N.Naming.items) c.self.inside.notes.items c.self.invariant.lying, c.self.inside.notes.ok.0)

pub invariant_of-self : goal.invariant_of-self
invariant_of-self g c =
    let h = c.self.invariant in
    let place = after_place _ _ _ _ _ h c.args.at c.index-place.result.now c.index-place.ensures c.requires in
    record { links_are = h.links_are; next_are = h.next_are; lying = lying_set _ _ _ c.index-place.result.now _ _ h.lying place (subst (MayLie g.N.Naming.laid (want_at g.N.Naming.items c.args.at)) (sym c.replace.ensures.after) tt) }

pub returns : goal.returns
returns g c =
    let h = c.self.invariant in
    let place = after_place _ _ _ _ _ h c.args.at c.index-place.result.now c.index-place.ensures c.requires in
    let there = lying_at _ _ _ c.index-place.result.now _ c.index_mut.result.now h.lying place in
    note_taken g.N.Naming.laid _ _ (subst (MayLie g.N.Naming.laid (want_at g.N.Naming.items c.args.at)) (sym (c.replace.ensures.value ∙ c.index_mut.ensures.value)) there)
