use Rattle.std.proofs.Common.{ℕ, ◌+◌, ◌*◌, ◌<◌, sym, subst}
use Rattle.std.proofs.{lemmas.Nat.{mul-add-lt}, Math.Nat.{mul_comm}}
use Rattle.sh_base.specs.{declared.config.ConfigParts.{ConfigParts}, Parts.{parts_of}, Setting.{all_locks}}
use Rattle.sh_pool.proofs.local.cell_at.Goals as goal

pub returns-clause-within : goal.returns-clause-within
returns-clause-within c =
    let p : ConfigParts = parts_of c.args.cfg.now in
    subst (λ (q : ConfigParts). c.args.lock * q.computes + c.args.compute < all_locks p * p.computes) (sym c.parts.ensures)
    (subst (λ (n : ℕ). c.args.lock * p.computes + c.args.compute < n) (mul_comm p.computes (all_locks p)) (mul-add-lt c.args.lock p.computes c.args.compute (all_locks p) c.requires.lock c.requires.compute))
