use Rattle.std.proofs.Common.{◌≡◌, ℕ, sym, subst}
use Rattle.sh_client.{specs.{Feeds.{fed_by}, Wants.{want_of}}, proofs.CachedLemmas.{fed_keeps}}
use Rattle.sh_client.specs.declared.state.Want.TheVariants as want
use Rattle.sh_pool.{specs.Passes.{Standing}, proofs.{Steps.{standing, seated}, Locals.{count_pass}}}
use Rattle.sh_pool.proofs.state.Pass.count.Goals as goal

pub invariant_of-self : goal.invariant_of-self
invariant_of-self c =
    let p : Standing = standing c.self.inside.seat.table_id c.self.inside.client c.self.inside.begun c.self.inside.seat.me.0 c.self.inside.chair in
    let wants : want_of p.client ≡ want.Waiting c.args.lock = subst (λ (s : Standing). want_of s.client ≡ want.Waiting c.args.lock) (sym c.self.view_is) c.requires.wants in
    let count : ℕ = c.waiting-count.result in
    let keeps = fed_keeps p.client count in
    let t = seated p.table (fed_by p.client count) c.fed.new.self p.begun p.view c.waiting-count.new.chair p.client c.self.inside.compute c.fed.ensures
    (count_pass p c.waiting-count.new.chair c.args.lock count c.self.invariant.1 wants c.waiting-count.ensures.counted) keeps c.self.invariant.2 in
    (c.self.invariant.0, t.0, t.1)
