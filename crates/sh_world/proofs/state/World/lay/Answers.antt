use Rattle.std.proofs.Common.{ap, arith}
use Rattle.sh_world.{specs.Columns.{Listed}, proofs.GiveLemmas.{open_world}}
use Rattle.sh_world.proofs.state.World.lay.Goals as goal

pub invariant_of-self : goal.invariant_of-self
invariant_of-self c =
    let p = c.args.cfg.now.parts in
    open_world p c.args.cfg.now.lawful c.in_ok-words.words.items c.in_ok-words.ensures _ _ _
    (λ z. record { setting = p; words = c.in_ok-words.words.items; log = c.in_ok-log.ensures.items z; seats = c.in_ok-seats.ensures z; calls = (c.new.ensures z).calls; lines = c.in_ok-lines.ensures z })
    (omega (arith, c.in_ok-log.ensures.exact))
    (ap (λ (l : Listed). l.setting) c.new.ensures)
