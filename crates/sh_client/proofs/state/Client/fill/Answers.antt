use Rattle.std.proofs.Common.{◌<◌, ◌∙◌, ap, sym, subst, arith}
use Rattle.sh_base.specs.declared.config.ConfigParts.{ConfigParts}
use Rattle.sh_alloc.specs.Spares.{without_lowest}
use Rattle.sh_client.{specs.Machine.{Machine}, proofs.ImageLemmas.{chunk_is_in, spare_left}}
use Rattle.sh_client.proofs.state.Client.fill.Goals as goal

pub fill-requires-clause-low : goal.fill-requires-clause-low
fill-requires-clause-low c = (chunk_is_in c.self.inside.cfg.parts c.self.inside.cfg.lawful c.args.server c.args.chunk _ _ (subst (λ (m : Machine). c.args.server < m.setting.servers) (sym c.self.view_is) c.requires.server) (subst (λ (m : Machine). c.args.chunk < m.setting.chunks) (sym c.self.view_is) c.requires.chunk) c.first_node-first.ensures (ap (λ (p : ConfigParts). p.chunk_nodes) c.parts.ensures)).0

pub fill-requires-clause-high : goal.fill-requires-clause-high
fill-requires-clause-high c =
    let h = chunk_is_in c.self.inside.cfg.parts c.self.inside.cfg.lawful c.args.server c.args.chunk _ _ (subst (λ (m : Machine). c.args.server < m.setting.servers) (sym c.self.view_is) c.requires.server) (subst (λ (m : Machine). c.args.chunk < m.setting.chunks) (sym c.self.view_is) c.requires.chunk) c.first_node-first.ensures (ap (λ (p : ConfigParts). p.chunk_nodes) c.parts.ensures) in
    omega (arith, h.1, h.3)

pub invariant_of-self : goal.invariant_of-self
invariant_of-self c =
    let h = chunk_is_in c.self.inside.cfg.parts c.self.inside.cfg.lawful c.args.server c.args.chunk _ _ (subst (λ (m : Machine). c.args.server < m.setting.servers) (sym c.self.view_is) c.requires.server) (subst (λ (m : Machine). c.args.chunk < m.setting.chunks) (sym c.self.view_is) c.requires.chunk) c.first_node-first.ensures (ap (λ (p : ConfigParts). p.chunk_nodes) c.parts.ensures) in
    record {
      one_setting = c.self.invariant.one_setting;
      rows_fit = c.self.invariant.rows_fit;
      cached_fit = c.self.invariant.cached_fit;
      seat_is = c.self.invariant.seat_is;
      in_range = c.self.invariant.in_range;
      spares = spare_left c.self.inside.cfg.parts _ _ _ h.0 h.1 h.2 (c.take-lowest.ensures.rest ∙ ap without_lowest c.fill.ensures);
      sound = tt;
      keeps_lock = tt;
    }

pub returns-clause-node : goal.returns-clause-node
returns-clause-node c =
    let h = chunk_is_in c.self.inside.cfg.parts c.self.inside.cfg.lawful c.args.server c.args.chunk _ _ (subst (λ (m : Machine). c.args.server < m.setting.servers) (sym c.self.view_is) c.requires.server) (subst (λ (m : Machine). c.args.chunk < m.setting.chunks) (sym c.self.view_is) c.requires.chunk) c.first_node-first.ensures (ap (λ (p : ConfigParts). p.chunk_nodes) c.parts.ensures) in
    record { first = h.0; last = omega (arith, h.1, h.2) }
