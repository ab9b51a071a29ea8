use Rattle.std.proofs.Common.{ap, sym, subst}
use Rattle.sh_feed.{specs.{declared.view.View.{View}, Jobs.{MayFollow}, Feeds.{Giving}}, proofs.Steps.{gives, moments}}
use Rattle.sh_feed.proofs.desk.Desk.give.Goals as goal

pub push_as-requires-clause-rule : goal.push_as-requires-clause-rule
push_as-requires-clause-rule g c =
    let is = c.giver.invariant.1 in
    let may = subst (λ (q : Giving). MayFollow q.setup 1 q.gave c.args.job) (sym c.giver.view_is) c.requires.follows in
    (gives _ _ _ _ (ap (λ (v : View). v.gives) is) (ap (λ (v : View). v.parts) is) may, moments _ _)
