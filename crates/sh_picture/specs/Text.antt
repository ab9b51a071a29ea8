-- The lines of a verdict. Each ends with a line feed; numbers are decimal, without leading zeros.
use Rattle.std.specs.{Prelude.{ℕ, Bool, List, [], ◌++◌, codes, length, if◌then◌else◌}, Fmt.{decimal}}
use Rattle.sh_map.specs.declared.book.Row.{Row}
use Rattle.sh_text.specs.Text.{map_lines, sum_of}
use Rattle.sh_picture.specs.declared.{place.FirstPlace.{FirstPlace, TheVariants.{Short, Magic, Setting, Length, Zero, Lock, Root, Chain, Pair, Twice}}, verdict.Verdict.{Verdict}}
use Rattle.sh_picture.specs.declared.verdict.Verdict.TheVariants.{Lawful, Refused}

-- the line of a place
abbrev pub place_line : FirstPlace → List ℕ
place_line Short = codes "refused,short\n"
place_line (Magic at) = codes "refused,magic," ++ (decimal at ++ codes "\n")
place_line (Setting fault) = codes "refused,setting\n"
place_line (Length len) = codes "refused,length\n"
place_line Zero = codes "refused,zero\n"
place_line (Lock lock) = codes "refused,lock," ++ (decimal lock ++ codes "\n")
place_line Root = codes "refused,root\n"
place_line (Chain level node) = codes "refused,chain," ++ ((decimal level ++ codes ",") ++ (decimal node ++ codes "\n"))
place_line (Pair node index) = codes "refused,pair," ++ ((decimal node ++ codes ",") ++ (decimal index ++ codes "\n"))
place_line (Twice node key) = codes "refused,twice," ++ ((decimal node ++ codes ",") ++ (decimal key ++ codes "\n"))

-- the line of a lawful picture: how many keys there are, and the sum of all words of their values
unfoldable pub lawful_line : (keys total : ℕ) → List ℕ
lawful_line keys total = codes "lawful," ++ ((decimal keys ++ codes ",") ++ (decimal total ++ codes "\n"))

abbrev pub verdict_text : (asked : Bool) → Verdict → List ℕ
verdict_text asked (Lawful cfg pairs) = map_lines asked pairs ++ lawful_line (length pairs) (sum_of pairs)
verdict_text asked (Refused place) = place_line place
