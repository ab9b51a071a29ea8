use Rattle.std.proofs.Common.{rules}
use Rattle.sh_judge.proofs.ReadLemmas.{line_refused, line_taken}
use Rattle.sh_judge.proofs.read.read_text.Goals as goal

pub returns-then-not-branch-clause-read : goal.returns-then-not-branch-clause-read
returns-then-not-branch-clause-read c = line_refused _ c.args.words _ _ c.lines.lines _ c.in-Some.next.rest.now _ _ c.lines.invariant.0 c.in-Some.ensures.parts c.in_ok-take_line.ensures.taken c.if-not-branch.true

pub lines-preserved : goal.lines-preserved
lines-preserved c = search (rules, line_taken)
