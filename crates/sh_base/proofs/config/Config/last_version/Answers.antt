use Rattle.std.proofs.{Common.{◌-◌, ap, arith}, lemmas.Nat.{one_shl}}
use Rattle.sh_base.proofs.config.Config.last_version.Goals as goal

pub returns : goal.returns
returns c = ap (λ n. n - 1) (one_shl c.args.self.now.parts.bits 64 (omega (arith, c.args.self.now.lawful.ranged.bits.1)))
