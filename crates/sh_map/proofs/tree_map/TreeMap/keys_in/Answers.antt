use Rattle.std.{proofs.Common.{ap, sym, subst, ◌≡◌, ◌∙◌, ◌++◌, ◌≤◌, ◌<◌}, specs.{Prelude.{All, Contains, IsSome}, Map.{keys_of}}}
use Rattle.sh_map.{specs.Map.{get}, proofs.TreeLemmas.{keys_more, keys_all, keys_within, keys_each, tree_get}}
use Rattle.sh_map.proofs.tree_map.TreeMap.keys_in.Goals as goal

pub loop-key-init : goal.loop-key-init
loop-key-init c = ap (λ l. l ++ keys_of c.into_iter-key-iterator.result) c.new-keys.ensures.items

pub loop-key-preserved : goal.loop-key-preserved
loop-key-preserved c = rw c.in_ok-push.ensures.items (keys_more c.loop-key.keys.items c.loop-key.key-iterator c.next.new.self _ _ c.loop-key.invariant c.in-Some.ensures.steps)

pub returns-clause-within : goal.returns-clause-within
returns-clause-within c =
    let part = c.range-key-items.result in
    let are : c.loop-key.keys.items ≡ keys_of part = keys_all c.loop-key.keys.items c.loop-key.key-iterator _ c.loop-key.invariant c.in-None.ensures.steps.0 ∙ ap keys_of c.into_iter-key-iterator.ensures.into_iter_gives in
    subst (λ l. All (λ key. (c.args.low ≤ key) × (key < c.args.upto)) l) (sym are) (keys_within c.self.inside.tree c.args.low c.args.upto part (λ k d lt. ((c.range-key-items.ensures.in_range tt).0 k d lt).0))

pub returns-clause-each : goal.returns-clause-each
returns-clause-each c = λ key above below some.
    let part = c.range-key-items.result in
    let are : c.loop-key.keys.items ≡ keys_of part = keys_all c.loop-key.keys.items c.loop-key.key-iterator _ c.loop-key.invariant c.in-None.ensures.steps.0 ∙ ap keys_of c.into_iter-key-iterator.ensures.into_iter_gives in
    let stands = subst IsSome (ap (λ m. get m key) (sym c.self.view_is) ∙ tree_get c.self.inside.tree key) some in
    subst (λ l. Contains l key) (sym are) (keys_each c.self.inside.tree c.args.low c.args.upto part (c.range-key-items.ensures.between tt) key above below stands)
