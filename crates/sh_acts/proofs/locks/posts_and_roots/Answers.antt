use Rattle.std.proofs.Common.{ℕ, List, sym, subst, ◌∙◌}
use Rattle.sh_base.specs.Places.{Root}
use Rattle.sh_state.specs.{Ground.{Ground}, Change.{Change}}
use Rattle.sh_acts.{specs.Acts.{grown}, proofs.{Holds.{skip_act, taller, root_act}, Events.{exchanged, not_exchanged}}}
use Rattle.sh_acts.proofs.locks.posts_and_roots.Goals as goal

pub returns-clause-skipped : goal.returns-clause-skipped
returns-clause-skipped c = λ words s seat n level low g e some mine. skip_act c.args.cfg.now.parts words s g seat n level low e some mine

pub returns-clause-level : goal.returns-clause-level
returns-clause-level c = λ words s seat n g e. taller c.args.cfg.now.parts words s g n seat e

pub returns-clause-grown : goal.returns-clause-grown
returns-clause-grown c = λ words s seat root n child separator g at link some past mine fresh is.
    let p = c.args.cfg.now.parts in
    let t = grown s root child in
    subst (λ (now : List ℕ). Change p seat s t × Ground p now t) (sym (exchanged words _ n root (g.shows.each Root tt ∙ at))) (root_act p words s g seat root n child separator c.args.cfg.now.lawful at link some past mine fresh is)

pub returns-clause-lost : goal.returns-clause-lost
returns-clause-lost c = λ words s n root g ne. not_exchanged words _ n root (λ e. ne (sym (g.shows.each Root tt) ∙ e))
