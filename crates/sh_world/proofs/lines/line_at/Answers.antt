use Rattle.std.proofs.Common.{◌<◌, ap}
use Rattle.sh_base.specs.{declared.config.ConfigParts.{ConfigParts}, Setting.{all_locks}}
use Rattle.sh_world.proofs.QueueLemmas.{row_within, compute_within}
use Rattle.sh_world.proofs.lines.line_at.Goals as goal

pub returns-clause-within : goal.returns-clause-within
returns-clause-within c =
    let p = c.args.cfg.now.parts in
    let computes = ap (λ (q : ConfigParts). q.computes) c.parts.ensures in
    let lt : c.compute_of.result < p.computes = rw c.compute_of.ensures (compute_within p c.args.cfg.now.lawful c.args.seat c.requires.seat) in
    rw computes (row_within (all_locks p) p.computes c.args.lock c.compute_of.result c.requires.lock lt)
