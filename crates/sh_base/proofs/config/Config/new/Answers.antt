use Rattle.std.proofs.Common.{rules, sym, ◌∙◌}
use Rattle.sh_base.{proofs.FaultLemmas.{fault_stays, ranged_from_none, size_decides}}
use Rattle.sh_base.proofs.config.Config.new.Goals as goal

pub returns-in-Some : goal.returns-in-Some
returns-in-Some c = fault_stays c.args.parts _ _ (sym c.first_outside.ensures ∙ c.in-Some.is)

pub pool_words-words-requires : goal.pool_words-words-requires
pool_words-words-requires c = ranged_from_none c.args.parts (sym c.first_outside.ensures ∙ c.in_default.is)

pub returns-then-words-gt4194304 : goal.returns-then-words-gt4194304
returns-then-words-gt4194304 c = search (rules, ranged_from_none, size_decides)

pub invariant_of-result : goal.invariant_of-result
invariant_of-result c = search (rules, ranged_from_none)

pub returns : goal.returns
returns c = search (rules, ranged_from_none, size_decides)
