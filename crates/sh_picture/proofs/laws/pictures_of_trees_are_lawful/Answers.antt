use Rattle.sh_picture.proofs.LawLemmas.{lawful_verdict, parts_again, words_again}
use Rattle.sh_picture.proofs.laws.pictures_of_trees_are_lawful.Goals as goal

pub returns-clause-parts : goal.returns-clause-parts
returns-clause-parts c = parts_again

pub returns-clause-words : goal.returns-clause-words
returns-clause-words c = words_again

pub returns-clause-lawful : goal.returns-clause-lawful
returns-clause-lawful c = λ p words levels verdict setting long small idle tree h. lawful_verdict p words levels setting long small idle tree verdict h
