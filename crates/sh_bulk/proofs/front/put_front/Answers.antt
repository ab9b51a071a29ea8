use Rattle.std.proofs.Common.{ap, arith}
use Rattle.sh_base.specs.{declared.config.ConfigParts.{ConfigParts}, Setting.{first_node_word}}
use Rattle.sh_bulk.{specs.Words.{drawn_of}, proofs.LevelLemmas.{counter_more}}
use Rattle.sh_bulk.proofs.front.put_front.Goals as goal

pub loop-server-preserved : goal.loop-server-preserved
loop-server-preserved c = counter_more (drawn_of c.args.cfg.now.parts c.args.need) c.args.need (first_node_word c.args.cfg.now.parts) c.loop-server.server _ c.loop-server.out c.drawn_of.ensures (omega (arith, ap (λ (q : ConfigParts). q.servers) c.parts-servers.ensures)) c.loop-server.invariant
