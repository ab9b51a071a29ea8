-- A lawful setting's numbers.
use Rattle.sh_base.specs.declared.config.{ConfigParts.{ConfigParts}, Config.{Config}}

abbrev pub parts_of : Config → ConfigParts
parts_of c = c.parts
