use Rattle.sh_read.proofs.MemoryLaw.{memory_law}
use Rattle.sh_read.proofs.laws.read_law.Goals as goal

pub returns : goal.returns
returns c level n memories moments history = memory_law c.args.cfg.now.parts level n memories moments history
