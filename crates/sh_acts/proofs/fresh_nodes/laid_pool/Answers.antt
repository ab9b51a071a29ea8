use Rattle.sh_acts.{specs.Counters.{IsAmong}, proofs.Own.{bounded_begin, laid_ground}}
use Rattle.sh_acts.proofs.fresh_nodes.laid_pool.Goals as goal

pub returns-clause-scene : goal.returns-clause-scene
returns-clause-scene c = λ words laid. laid_ground c.args.cfg.now.parts c.args.cfg.now.lawful words laid

pub returns-clause-bounded : goal.returns-clause-bounded
returns-clause-bounded c = λ limit seats counter wants le. bounded_begin limit seats counter (λ i. IsAmong i wants) le
