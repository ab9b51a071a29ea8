use Rattle.sh_judged.proofs.Outputs.{seats_there, writes_lawful}
use Rattle.sh_judged.proofs.replay_judged.Goals as goal

pub keeps_the_laws-requires : goal.keeps_the_laws-requires
keeps_the_laws-requires g c = seats_there _ _ _ _ _ _ _ _ _ _ _ c.in-Ok.ensures

pub returns-in-Ok-clause-lawful : goal.returns-in-Ok-clause-lawful
returns-in-Ok-clause-lawful g c = writes_lawful _ _ _ _ _ _ _ _ _ _ _ c.in-Ok.ensures c.keeps_the_laws.ensures.running
