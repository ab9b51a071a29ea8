use Rattle.sh_decide.proofs.deciding.update.Goals as goal

pub returns-in-Del-clause-allows : goal.returns-in-Del-clause-allows
returns-in-Del-clause-allows c = c.del.ensures.allows c.args.call.now
