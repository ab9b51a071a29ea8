use Rattle.std.proofs.lemmas.List.{take-append-drop}
use Rattle.sh_edit.{specs.Pairing.{pairs_with}, proofs.RiseLemmas.{kept, with_lawful, middle_within, left_inner_lawful, right_inner_lawful, root_lawful}}
use Rattle.sh_edit.proofs.laws.inner_nodes_keep_their_pairs.Goals as goal

pub returns-clause-kept : goal.returns-clause-kept
returns-clause-kept c = λ a new. kept a.pairs new

pub returns-clause-halves : goal.returns-clause-halves
returns-clause-halves c = λ count right a new. take-append-drop count (pairs_with a.pairs new)

pub returns-clause-lawful : goal.returns-clause-lawful
returns-clause-lawful c = λ p a new h room ok version. with_lawful p a new h room ok.fresh ok.low ok.high ok.child version

pub returns-clause-separator : goal.returns-clause-separator
returns-clause-separator c = λ p a new h full ok. middle_within p a new h full ok.fresh ok.low ok.high

pub returns-clause-lawful_halves : goal.returns-clause-lawful_halves
returns-clause-lawful_halves c = λ p a new right h full ok word version one node. (left_inner_lawful p a new h full ok.fresh ok.low ok.high right ok.child version one node word, right_inner_lawful p a new h full ok.fresh ok.low ok.high ok.child)

pub returns-clause-lawful_root : goal.returns-clause-lawful_root
returns-clause-lawful_root c = root_lawful
