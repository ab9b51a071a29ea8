use Rattle.std.proofs.Common.{◌∙◌, ap, arith, sym}
use Rattle.sh_feed.{specs.{declared.view.View.{View}, Views.{tokens_of}, Feeds.{Giving}}, proofs.Steps.{ends}}
use Rattle.sh_feed.proofs.feed.Feed.gather.Goals as goal

pub learn_as-requires-clause-rule : goal.learn_as-requires-clause-rule
learn_as-requires-clause-rule c =
    let e = c.take_in-pass.ensures.1 in
    let parts = ap (λ (v : View). v.parts) e in
    let setup = ap (λ (v : View). v.setup) e in
    let all = parts ∙ sym c.requires.all ∙ ap (λ (q : Giving). tokens_of q.setup) (sym c.giver.view_is) ∙ ap tokens_of (sym setup) in
    ends _ _ all (omega (arith, parts)) (ap (λ (v : View). v.gives) e) (ap (λ (v : View). v.took) e)
