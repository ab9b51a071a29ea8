use Rattle.std.proofs.Common.{◌≡◌, ◌+◌, ◌<◌, ℕ, suc, length, map}
use Rattle.sh_base.specs.Setting.{nodes}
use Rattle.sh_picture.specs.{Tree.{LevelLeads}, Marks.{AreUnder}}
use Rattle.sh_picture.proofs.pairs.first_astray.Given as goal

abbrev pub invariant-loop-depth : goal.invariant-loop-depth
invariant-loop-depth l = record { under : AreUnder l.depth l.marks; long : length l.marks ≡ nodes l.cfg.parts + 1; lead : (d : ℕ) → suc d < l.depth → LevelLeads l.cfg.parts l.words (map (λ v. v.items) l.levels) d }
