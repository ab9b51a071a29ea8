use Rattle.std.proofs.{Common.{subst, sym, ◌∙◌, ◌+◌, take}, lemmas.{Bool.{false≢true}, List.{take_all}}}
use Rattle.sh_map.{specs.Tables.{AreOwned}, proofs.{OwnerLemmas.{owned_none, owned_set, owned_kept}, owners.owned_places.Goals.{then-owns_below, else-owns_below}}}
use Rattle.sh_map.proofs.owners.owned_places.Goals as goal

pub loop-done-init : goal.loop-done-init
loop-done-init c = owned_none c.args.len _ (c.in_ok-owned.ensures.items_if_clones_equal (λ y h. h))

pub loop-done-preserved : goal.loop-done-preserved
loop-done-preserved c =
    let dones = c.args.dones.now in
    let at = c.loop-done.done-index in
    elim c.if-owns_below.branch [
      | then-owns_below w ↦
          let owns = c.owns_below.ensures.0 w.if-owns_below.true in
          subst (λ v. AreOwned c.args.len (take (at + 1) dones) v.items) (sym w.owned-is) (owned_set c.args.len dones at c.done-item.result c.loop-done-test.true c.done-item.is c.loop-done.owned.items c.loop-done.invariant owns.0 owns.1)
      | else-owns_below w ↦ subst (λ v. AreOwned c.args.len (take (at + 1) dones) v.items) (sym w.owned-is) (owned_kept c.args.len dones at c.done-item.result c.loop-done-test.true c.done-item.is c.loop-done.owned.items c.loop-done.invariant (λ makes small. false≢true (sym w.if-owns_below.false ∙ c.owns_below.ensures.1 (makes, small))))
    ]

pub returns : goal.returns
returns c = subst (λ l. AreOwned c.args.len l c.loop-done.owned.items) (take_all _ c.args.dones.now c.loop-done-test.false) c.loop-done.invariant
