use Rattle.std.{proofs.Common.{rules, ◌≡◌, ◌∙◌, ◌++◌, ◌∷◌, [], ℕ, true, List, drop, length, ap, sym, subst}, specs.List.{AllByRecursion}}
use Rattle.sh_map.specs.declared.log.Entry.{Entry}
use Rattle.sh_client.{specs.Rests.{is_resting}, proofs.WithinLemmas.{root_within}}
use Rattle.sh_pool_rule.specs.{declared.view.{Card.{Card}, PassView.{PassView}}, Views.{longer, Begins}, Rights.{card_view, learnt_view}}
use Rattle.sh_pool.{specs.{Cards.{HasLearnt}, Passes.{pass_actor, tale_of, Standing}}, proofs.{SettledLemmas.{learnt_keeps, of_last, settled, settled_so}, Steps.{standing}}}
use Rattle.sh_pool.proofs.state.Pass.learn_by.Goals as goal

pub learn_as-requires-clause-table : goal.learn_as-requires-clause-table
learn_as-requires-clause-table g c = search (rules, standing, root_within)

pub invariant_of-self : goal.invariant_of-self
invariant_of-self g c =
    let p : Standing = standing c.self.inside.seat.table_id c.self.inside.client c.self.inside.begun c.self.inside.seat.me.0 c.self.inside.chair in
    let rest : is_resting p.client ≡ true = subst (λ (s : Standing). is_resting s.client ≡ true) (sym c.self.view_is) c.requires.rests in
    let actor : g.A.TurnOf.actor ≡ pass_actor p = subst (λ (s : Standing). g.A.TurnOf.actor ≡ pass_actor s) (sym c.self.view_is) c.requires.actor in
    let tale : g.A.TurnOf.tale ≡ tale_of p (length p.chair.view.calls) = subst (λ (s : Standing). g.A.TurnOf.tale ≡ tale_of s (length s.chair.view.calls)) (sym c.self.view_is) c.requires.tale in
    let e = c.learn_as.ensures.seat in
    let s : List Entry = longer p.view.seen c.args.note.card.saw in
    let cs : List Card = p.view.cards ++ record c.args.note.card { seen = length s } ∷ [] in
    let view : c.learn_as.new.seat.me.0 ≡ (settled p s cs).view = ap (λ (m : PassView × List (ℕ × Unit {0})). m.0) e.1 ∙ (λ i. learnt_view (actor i) (tale i) p.view (card_view c.args.note.card)) in
    let k = settled_so p s cs c.learn_as.new.seat.table_id c.learn_as.new.seat.me.0 (learnt_keeps p c.args.note.card.saw cs c.self.invariant.1 rest) e.0 view in
    (ap (λ (m : PassView × List (ℕ × Unit {0})). m.1) e.1 ∙ c.self.invariant.0, k.pass, c.self.invariant.2)

pub returns-clause-learnt : goal.returns-clause-learnt
returns-clause-learnt g c =
    let p : Standing = standing c.self.inside.seat.table_id c.self.inside.client c.self.inside.begun c.self.inside.seat.me.0 c.self.inside.chair in
    let rest : is_resting p.client ≡ true = subst (λ (s : Standing). is_resting s.client ≡ true) (sym c.self.view_is) c.requires.rests in
    let actor : g.A.TurnOf.actor ≡ pass_actor p = subst (λ (s : Standing). g.A.TurnOf.actor ≡ pass_actor s) (sym c.self.view_is) c.requires.actor in
    let tale : g.A.TurnOf.tale ≡ tale_of p (length p.chair.view.calls) = subst (λ (s : Standing). g.A.TurnOf.tale ≡ tale_of s (length s.chair.view.calls)) (sym c.self.view_is) c.requires.tale in
    let e = c.learn_as.ensures.seat in
    let s : List Entry = longer p.view.seen c.args.note.card.saw in
    let cs : List Card = p.view.cards ++ record c.args.note.card { seen = length s } ∷ [] in
    let view : c.learn_as.new.seat.me.0 ≡ (settled p s cs).view = ap (λ (m : PassView × List (ℕ × Unit {0})). m.0) e.1 ∙ (λ i. learnt_view (actor i) (tale i) p.view (card_view c.args.note.card)) in
    let k = settled_so p s cs c.learn_as.new.seat.table_id c.learn_as.new.seat.me.0 (learnt_keeps p c.args.note.card.saw cs c.self.invariant.1 rest) e.0 view in
    let told = subst (λ (v : PassView). AllByRecursion (λ (x : Card). Begins x.saw v.seen) v.cards) view c.learn_as.ensures.told in
    let q : Standing = standing c.learn_as.new.seat.table_id p.client p.begun c.learn_as.new.seat.me.0 p.chair in
    subst (λ (x : Standing). HasLearnt c.args.note.card x q) c.self.view_is record {
      kept = k;
      before = (drop (length p.view.seen) c.args.note.card.saw, ap (λ (v : PassView). v.seen) view);
      told = subst (λ (v : PassView). Begins c.args.note.card.saw v.seen) (sym view) (of_last (λ (x : Card). Begins x.saw s) p.view.cards record c.args.note.card { seen = length s } told);
      cards = ap (λ (v : PassView). v.cards) view ∙ (λ i. p.view.cards ++ record c.args.note.card { seen = length (sym view i).seen } ∷ []);
    }
