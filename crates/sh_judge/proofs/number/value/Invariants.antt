use Rattle.std.proofs.Common.{◌≡◌, ◌≤◌, ◌-◌, length, take, option_map}
use Rattle.sh_judge.{specs.Fields.{text_parts}, proofs.Numbers.{IsCut}}
use Rattle.sh_judge.proofs.number.value.Given as goal

abbrev pub invariant-parts : goal.invariant-parts
invariant-parts l = (l.at ≤ l.count) × (length l.words ≡ 8) × IsCut l.text (take l.at l.words) l.at (text_parts 58 (option_map (λ b. b.now) l.rest))

abbrev pub decreases-parts : goal.decreases-parts
decreases-parts l = l.count - l.at
