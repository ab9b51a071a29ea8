use Rattle.std.proofs.Common.{◌∙◌, ap, arith, subst}
use Rattle.sh_base.specs.Setting.{pool_words}
use Rattle.sh_client.{specs.{Machine.{Machine}, Sound.{KeepsLock}}, proofs.WithinLemmas.{lock_within}}
use Rattle.sh_client.proofs.state.Client.grab_step.Goals as goal

pub bounds-words-at : goal.bounds-words-at
bounds-words-at c =
    let p = c.self.inside.cfg.parts in
    let size = ap (λ (m : Machine). pool_words m.setting) c.self.view_is in
    let kept = subst (KeepsLock p c.self.inside.lock) (ap (λ (m : Machine). m.phase) c.self.view_is ∙ c.requires.phase) c.self.invariant.keeps_lock in
    omega (arith, c.requires.pool, size, c.lock_word-at.ensures, lock_within p c.self.inside.lock kept.1)
