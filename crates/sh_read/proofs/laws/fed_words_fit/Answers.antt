use Rattle.sh_read.proofs.PlaceLemmas.{fits_first, fits_more, in_place-all}
use Rattle.sh_read.proofs.laws.fed_words_fit.Goals as goal

pub returns-clause-begin : goal.returns-clause-begin
returns-clause-begin c = fits_first c.args.cfg.now.parts

pub returns-clause-load : goal.returns-clause-load
returns-clause-load c = λ level stood s w loaded at m. fits_more c.args.cfg.now.parts level stood s w m loaded at

pub returns-clause-all : goal.returns-clause-all
returns-clause-all c = in_place-all c.args.cfg.now.parts
