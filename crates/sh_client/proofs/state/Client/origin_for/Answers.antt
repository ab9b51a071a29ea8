use Rattle.std.{proofs.Common.{◌≡◌, sym, subst}, specs.Prelude.{Some}}
use Rattle.sh_base.specs.Setting.{IsNode}
use Rattle.sh_image.specs.Inner.{IsInner}
use Rattle.sh_descend.proofs.ChildLemmas.{child_is_node}
use Rattle.sh_cache.{specs.Cached.{found}, proofs.FindLemmas.{covers_fences, found_covers, found_has}}
use Rattle.sh_client.specs.Machine.{Machine}
use Rattle.sh_client.proofs.state.Client.origin_for.Goals as goal

pub returns-in-Some-clause-node : goal.returns-in-Some-clause-node
returns-in-Some-clause-node c =
    let row = c.in-Some.row.now in
    let rows = c.self.inside.cache.rows in
    let is : found rows c.args.key ≡ Some row = sym c.in-Some.ensures.row in
    let inner : IsInner c.self.inside.cfg.parts row = found_has (IsInner c.self.inside.cfg.parts) rows c.args.key row is c.self.invariant.cached_fit in
    subst (λ (m : Machine). IsNode m.setting c.child.result) c.self.view_is (rw c.child.ensures (child_is_node row c.args.key inner (covers_fences row c.args.key (found_covers rows c.args.key row is)).0))
