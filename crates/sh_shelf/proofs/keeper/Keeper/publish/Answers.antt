use Rattle.std.proofs.Common.{◌∙◌, ap}
use Rattle.sh_shelf.proofs.KeeperLemmas.{fits}
use Rattle.sh_shelf.proofs.keeper.Keeper.publish.Goals as goal

pub rise-requires : goal.rise-requires
rise-requires g c = fits c.self.inside.writer.desk.shown.value _ _ _ _ _ (ap (λ d. d.shown.value) c.hand_over.ensures.desk) c.put_up-published.ensures.1 c.self.invariant.1.reserved (c.rows.ensures ∙ ap (λ x. x.rows) c.published.ensures)
