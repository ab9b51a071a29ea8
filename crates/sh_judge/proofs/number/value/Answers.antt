use Rattle.std.proofs.{Common.{rules, arith, ◌∙◌}, lemmas.List.{length-set, take_more_set}}
use Rattle.sh_judge.proofs.Numbers.{cut_more, too_many_parts}
use Rattle.sh_judge.proofs.number.value.Goals as goal

pub returns-then-at-count : goal.returns-then-at-count
returns-then-at-count c = search (rules, too_many_parts)

pub parts-preserved : goal.parts-preserved
parts-preserved c =
    let was = rw c.in-Some.is at c.parts.invariant.2 in (
      omega arith,
      length-set c.parts.words c.parts.at c.in_ok-words.field-0 ∙ c.parts.invariant.1,
      rw (take_more_set c.parts.words c.parts.at c.in_ok-words.field-0 (omega arith))
          (cut_more _ _ c.cut.result.0.now _ _ _ _ was c.cut.ensures c.in_ok-words.ensures),
    )
