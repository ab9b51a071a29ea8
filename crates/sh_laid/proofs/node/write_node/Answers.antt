use Rattle.std.proofs.{Common.{rules, sym, ◌∙◌, arith}, lemmas.{Grind.{same_number_lists}, List.{length-set}}}
use Rattle.sh_base.{proofs.LayoutLemmas.{length_part, node_word_high, part_word}}
use Rattle.sh_laid.proofs.NodeLemmas.{body_of, body_is, steps_of, stored_more, others_more}
use Rattle.sh_laid.proofs.node.write_node.Goals as goal

pub bounds-words-at : goal.bounds-words-at
bounds-words-at c = search (rules, body_is, body_of, steps_of, node_word_high)

pub loop-step-preserved : goal.loop-step-preserved
loop-step-preserved c = search (rules, body_is, body_of, steps_of, node_word_high, length-set, stored_more, others_more)

pub returns-clause-here : goal.returns-clause-here
returns-clause-here c =
    let p = c.args.cfg.now.parts in
    let long = length_part p c.loop-step.words c.args.node c.requires.node (omega (arith, c.requires.pool, c.loop-step.invariant.0)) in
    let steps = steps_of p c.args.node _ c.node-plan.result c.node-plan.ensures in
    same_number_lists _ _ (long ∙ sym c.requires.part) (λ o below.
    part_word p c.loop-step.words c.args.node o (omega (arith, long))
    ∙ c.loop-step.invariant.1 o (omega (arith, long, steps, c.loop-step-test.false, c.steps-step-end.ensures)))
