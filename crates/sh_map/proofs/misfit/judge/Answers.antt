use Rattle.std.proofs.lemmas.Option.{MatchOption-at_none}
use Rattle.sh_map.proofs.LawfulLemmas.{lawful_from}
use Rattle.sh_map.proofs.misfit.judge.Goals as goal

pub returns-in-None : goal.returns-in-None
returns-in-None c =
    lawful_from _ _
    (MatchOption-at_none _ _ c.in_default.is c.in_ok-at.ensures)
    (MatchOption-at_none _ _ c.in_default-2.is c.in_ok-n.ensures)
    (MatchOption-at_none _ _ c.in_default-3.is c.in_ok-n-2.ensures)
    (MatchOption-at_none _ _ c.in-None.is c.in_ok-n-3.ensures)
