use Rattle.sh_judged.proofs.Outputs.{output_lawful, read_words}
use Rattle.sh_judged.proofs.output_is_lawful.Goals as goal

pub returns : goal.returns
returns c o left rest before now s turns events rows run none told served = output_lawful o s turns served.items events rows run served.served (read_words o left rest before now served.items none served.are) none told
