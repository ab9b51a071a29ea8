use Rattle.std.proofs.Common.{◌≡◌, false}
use Rattle.sh_base.specs.Parts.{parts_of}
use Rattle.sh_client.specs.Rests.{is_resting}
use Rattle.sh_pool.specs.Pools.{IsOfPool}
use Rattle.sh_pool.proofs.tests.turns_of.Given as goal

abbrev pub invariant-loop-n : goal.invariant-loop-n
invariant-loop-n l = IsOfPool l.pool l.pass × (is_resting l.pass.client ≡ false) × (l.pass.client.setting ≡ parts_of l.cfg)
