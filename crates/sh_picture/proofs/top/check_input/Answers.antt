use Rattle.std.proofs.Common.{subst, List, ℕ}
use Rattle.sh_picture.{specs.Verdict.{VerdictOf}, proofs.TopLemmas.{ended_well}}
use Rattle.sh_picture.proofs.top.check_input.Goals as goal

pub returns-in-Ok-write_verdict : goal.returns-in-Ok-write_verdict
returns-in-Ok-write_verdict g c =
    rw c.told.ensures (ended_well c.in-Ok-check.verdict c.args.asked _ _ _ _ _ _ _ _ (record {
      bytes = c.in-Ok.bytes.items;
      took = c.in-Ok.ensures;
      verdict_is = subst (λ (bytes : List ℕ). VerdictOf bytes c.in-Ok-check.verdict) c.deref.ensures.value c.in-Ok-check.ensures;
    }) (record { written = c.in-Ok-write_verdict.ensures.ok; count = c.in-Ok-write_verdict.ensures.cause }))
