use Rattle.std.proofs.Common.{◌≡◌, ◌<◌, ◌^◌, drop}
use Rattle.sh_sheet.specs.Number.{are_digits, value_from}
use Rattle.sh_judge.proofs.number.wide.Given as goal

abbrev pub invariant-loop-byte : goal.invariant-loop-byte
invariant-loop-byte l = (are_digits l.text ≡ are_digits (drop l.byte-index l.text)) × (value_from 0 l.text ≡ value_from l.value (drop l.byte-index l.text)) × (l.value < 2 ^ 128)
