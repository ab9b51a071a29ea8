use Rattle.std.proofs.Common.{◌≤◌, subst, ◌∙◌}
use Rattle.sh_base.specs.{Layout.{lock_of}, Places.{Node}}
use Rattle.sh_read.specs.Moments.{word}
use Rattle.sh_state.{specs.{TreeState.{writing_of}, Nodes.{Orderly}}, proofs.Scenes.{moment_of}}
use Rattle.sh_acts.proofs.Holds.{writer_held, writer_writes, go_act}
use Rattle.sh_acts.proofs.locks.writes_go_on.Goals as goal

pub returns-clause-moment : goal.returns-clause-moment
returns-clause-moment c = λ words s n level low g e. moment_of c.args.cfg.now.parts words s c.args.cfg.now.lawful g n level low e

pub returns-clause-begins : goal.returns-clause-begins
returns-clause-begins c = λ words s seat depth n level low offset word v g link e go.
    let p = c.args.cfg.now.parts in
    let lock = lock_of p n in
    let bound : depth ≤ p.bound = subst (Orderly p s lock) e (g.orderly lock) in
    go_act p words s g seat depth n level low _ v offset word link (writer_held p (s.hold lock) seat depth n e) bound go

pub returns-clause-goes_on : goal.returns-clause-goes_on
returns-clause-goes_on c = λ words s seat depth n level low offset word w v g link e go.
    let p = c.args.cfg.now.parts in
    let lock = lock_of p n in
    let order = subst (Orderly p s lock) e (g.orderly lock) in
    go_act p words s g seat depth n level low w v offset word link (writer_writes p (s.hold lock) seat depth n w e) order.0 go

pub returns-clause-stands : goal.returns-clause-stands
returns-clause-stands c = λ words s n level low depth offset owner g link e lt. g.shows.each (Node n offset) ((g.sits n level low link).real, lt) ∙ (λ z. word c.args.cfg.now.parts (s.node n) (writing_of n (e z)) offset)
