use Rattle.sh_readers.proofs.HandLemmas.{right_named, down_named, down_inner, here_is, never_restart}
use Rattle.sh_readers.proofs.hops.hops_lead_on.Goals as goal

pub returns-clause-right : goal.returns-clause-right
returns-clause-right c = λ s level low key target r image h from past e. right_named s level low key target image h from r past e

pub returns-clause-down : goal.returns-clause-down
returns-clause-down c = λ s level low key target child image h from e.
    let b = down_inner s level low key target image h from child e in
    let n = down_named s level low key target image h from b.0 child b.1 e in
    (b.0, b.1, n.0, n.1)

pub returns-clause-here : goal.returns-clause-here
returns-clause-here c = λ s level low key target image h from e. here_is s level low key target image h from e

pub returns-clause-restart : goal.returns-clause-restart
returns-clause-restart c = λ s level low key target image h from le e. never_restart s level low key target image h from le e
