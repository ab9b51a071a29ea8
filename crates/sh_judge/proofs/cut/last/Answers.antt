use Rattle.std.proofs.Common.{ap, option_map}
use Rattle.sh_judge.proofs.Parts.{not_last}
use Rattle.sh_judge.proofs.cut.last.Goals as goal

pub returns-in-Some : goal.returns-in-Some
returns-in-Some c = not_last c.args.code c.in_ok-piece.piece.part.now c.in-Some.field-0.now _ _ c.in_ok-piece.ensures (ap (option_map (λ b. b.now)) c.in-Some.is)
