use Rattle.std.{proofs.Common.{◌≡◌, length, take}, specs.List.{range_with_len}}
use Rattle.sh_sheet.proofs.made.value_from.Given as goal

abbrev pub invariant-loop-place : goal.invariant-loop-place
invariant-loop-place l = (length l.words ≡ 8) × (take l.place l.words ≡ range_with_len l.first l.place)
