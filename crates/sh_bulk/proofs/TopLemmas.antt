-- What a building leaves.
use Rattle.std.proofs.Common.{rules, ◌≡◌, ◌≤◌, ℕ, List, Option, length}
use Rattle.sh_base.specs.{declared.config.ConfigParts.{ConfigParts}, Setting.{nodes, IsSetting}}
use Rattle.sh_map.specs.declared.book.Row.{Row}
use Rattle.sh_port.specs.{Port.{AppendsFront}, Intake.{TookAll}}
use Rattle.sh_text.specs.{Write.{CauseOf}, declared.write.WriteError.{WriteError, TheVariants.{NoMemory}}}
use Rattle.sh_bulk.{specs.{Fault.{AreGood}, Nodes.{HaveValues}, Shape.{need_of}, Sheet.{rows_of, Good}, Order.{Asked}, Top.{built_text, most_rows, unwritten, Built, HasBuilt}}, proofs.HoldLemmas.{holds}}

-- what was read and built
pub has_built : {left rest : Option (List ℕ)} {before now : ℕ} {bytes lent : List ℕ} {rows given : List Row} (p : ConfigParts) → IsSetting p → TookAll left rest before now bytes → lent ≡ bytes → rows_of p lent ≡ Good rows
    → AreGood rows → HaveValues p rows → length rows ≤ most_rows → given ≡ rows → need_of p (length given) ≤ nodes p → HasBuilt p left rest before now rows
has_built h0 = search (rules, holds)
