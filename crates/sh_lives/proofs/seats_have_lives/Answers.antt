use Rattle.sh_lives.proofs.Runs.{lives}
use Rattle.sh_lives.proofs.seats_have_lives.Goals as goal

pub returns-clause-lives : goal.returns-clause-lives
returns-clause-lives c = lives
