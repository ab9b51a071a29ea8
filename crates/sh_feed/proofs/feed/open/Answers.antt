use Rattle.std.proofs.Common.{arith, ap}
use Rattle.sh_feed.{specs.Views.{tokens_of}, proofs.Steps.{opens}}
use Rattle.sh_feed.proofs.feed.open.Goals as goal

pub another-requires-clause-rule : goal.another-requires-clause-rule
another-requires-clause-rule g c = opens _ _ _ c.requires.pass.1 (let e = ap tokens_of c.requires.setup in omega (arith, e))
