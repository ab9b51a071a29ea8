use Rattle.sh_state.specs.TreeState.{Seat}
use Rattle.std.proofs.Common.{◌≢◌}
use Rattle.sh_readers.proofs.Known.{known_on, known_begin, known_load}
use Rattle.sh_readers.proofs.reads_know.Goals as goal

pub returns-clause-begin : goal.returns-clause-begin
returns-clause-begin c = λ words s n level low first blank g e since long. known_begin c.args.cfg.now.parts c.args.cfg.now.lawful words s g n level low first blank e since long

pub returns-clause-load : goal.returns-clause-load
returns-clause-load c = λ words s n level low first at got g e k. known_load c.args.cfg.now.parts c.args.cfg.now.lawful words s g n level low first at got e k

pub returns-clause-act : goal.returns-clause-act
returns-clause-act c = λ words now s t seat n level low first from got g h ch e k. known_on c.args.cfg.now.parts c.args.cfg.now.lawful (λ o. o ≢ Seat seat) words now s t g h ch n level low first from got e k

pub returns-clause-handover : goal.returns-clause-handover
returns-clause-handover c = λ words s t giver taker n level low first from got g h ch e k. known_on c.args.cfg.now.parts c.args.cfg.now.lawful (λ o. (o ≢ giver) × (o ≢ taker)) words words s t g h ch n level low first from got e k
