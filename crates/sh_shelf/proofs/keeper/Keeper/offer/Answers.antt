use Rattle.std.proofs.Common.{refl, ◌≡◌, ◌++◌, ◌∷◌, []}
use Rattle.sh_shelf.proofs.KeeperLemmas.{keeper_push, pending_push}
use Rattle.sh_shelf.proofs.keeper.Keeper.offer.Goals.{After-drop-self-inside}
use Rattle.sh_shelf.proofs.keeper.Keeper.offer.Goals as goal

-- all offers, with the new one
longer : (c : After-drop-self-inside) → c.add.new.self ≡ record c.self.inside.front { log = c.self.inside.front.log ++ c.of-route.result ∷ [] }
longer c = rw (c.if-not-add.ensures, c.again-front.ensures) refl

pub invariant_of-self-2 : goal.invariant_of-self-2
invariant_of-self-2 c =
    let i = c.self.inside in
    (rw (c.push_back_reserved.ensures.items, c.reserve.ensures.items, c.new.ensures, c.again.ensures, longer c) (keeper_push _ i.front _ _ i.waiting.items c.of-route.result c.self.invariant.0), c.self.invariant.1)

pub returns : goal.returns
returns c =
    let i = c.self.inside in
    rw (← c.self.view_is, c.push_back_reserved.ensures.items, c.reserve.ensures.items, c.new.ensures, c.again.ensures, longer c, pending_push i.head i.front i.writer.desk.shown.value _ i.waiting.items c.of-route.result, c.of-route.ensures) refl
