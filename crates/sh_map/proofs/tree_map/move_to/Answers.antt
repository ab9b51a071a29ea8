use Rattle.std.proofs.Common.{ap, ◌∙◌, ◌-◌, take, drop}
use Rattle.sh_map.{specs.Log.{map_from}, proofs.LogLemmas.{map_at_on, ok_weaker}}
use Rattle.sh_map.proofs.tree_map.move_to.Goals as goal

pub returns : goal.returns
returns c = ok_weaker (λ is. is ∙ ap (λ m. map_from m (take (c.args.to - c.args.from) (drop c.args.from c.args.log.now))) c.requires.here ∙ map_at_on c.args.log.now c.args.from c.args.to c.if-to-from.false) c.apply_all-2.result c.apply_all-2.ensures
