-- The line of what is found.
use Rattle.std.specs.{Prelude.{ℕ, List, ◌++◌, codes}, Fmt.{decimal}}
use Rattle.sh_map.specs.declared.misfit.Misfit.{Misfit}
use Rattle.sh_map.specs.declared.misfit.Misfit.TheVariants as misfit
use Rattle.sh_judge.specs.declared.finding.Finding.{Finding}
use Rattle.sh_judge.specs.declared.finding.Finding.TheVariants as finding

-- a misfit's word, and what it is about: an entry's place, or a call's number
abbrev pub misfit_rest : Misfit → List ℕ
misfit_rest (misfit.Entry at) = codes "entry," ++ (decimal at ++ codes "\n")
misfit_rest (misfit.Reply n) = codes "reply," ++ (decimal n ++ codes "\n")
misfit_rest (misfit.Row n) = codes "row," ++ (decimal n ++ codes "\n")
misfit_rest (misfit.Order n) = codes "order," ++ (decimal n ++ codes "\n")

abbrev pub finding_line : Finding → List ℕ
finding_line (finding.Lawful calls entries) = codes "lawful," ++ (decimal calls ++ (codes "," ++ (decimal entries ++ codes "\n")))
finding_line (finding.Line at) = codes "line," ++ (decimal at ++ codes "\n")
finding_line (finding.Place at) = codes "place," ++ (decimal at ++ codes "\n")
finding_line (finding.Misfit m) = codes "misfit," ++ misfit_rest m
finding_line (finding.Map line) = codes "map," ++ (decimal line ++ codes "\n")
finding_line finding.End = codes "end\n"
