use Rattle.std.proofs.Common.{ℕ, List, sym, subst, ◌∙◌}
use Rattle.sh_base.specs.Places.{Lock}
use Rattle.sh_state.specs.{TreeState.{Held, Seat, hold_word}, Ground.{Ground}, Change.{Change}}
use Rattle.sh_acts.{specs.Acts.{with_hold}, proofs.{Holds.{take_act, free_act, hand_act}, Events.{exchanged, not_exchanged, free_lock, held_lock}}}
use Rattle.sh_acts.proofs.locks.locks_change_hands.Goals as goal

pub returns-clause-free : goal.returns-clause-free
returns-clause-free c = free_lock c.args.cfg.now.parts

pub returns-clause-taken : goal.returns-clause-taken
returns-clause-taken c = λ words s seat lock g lt e.
    let p = c.args.cfg.now.parts in
    let t = with_hold s lock (Held (Seat seat) 0) in
    let here = g.shows.each (Lock lock) lt ∙ (λ z. hold_word p (e z)) in
    subst (λ (now : List ℕ). Change p seat s t × Ground p now t) (sym (exchanged words _ 0 _ here)) (take_act p words s g seat lock lt e)

pub returns-clause-missed : goal.returns-clause-missed
returns-clause-missed c = λ words s lock new g lt ne. not_exchanged words _ 0 new (held_lock c.args.cfg.now.parts words s lock g lt ne)

pub returns-clause-given_back : goal.returns-clause-given_back
returns-clause-given_back c = λ words s seat lock depth g lt e. free_act c.args.cfg.now.parts words s g seat lock depth lt e

pub returns-clause-handed : goal.returns-clause-handed
returns-clause-handed c = λ words s lock depth now from to g e same le. hand_act c.args.cfg.now.parts words s g lock depth now from to e same le
