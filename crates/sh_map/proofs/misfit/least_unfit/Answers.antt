use Rattle.std.proofs.{Common.{ℕ, ◌+◌, List, Option, take, sym, subst, ◌∙◌}, lemmas.{Bool.{false≢true}, List.{take_all}}}
use Rattle.sh_map.{specs.{declared.book.Done.{Done}, Judge.{FitsRule}}, proofs.{JudgeLemmas.{SoFar, kept_at, more_fit, more_unfit}, misfit.least_unfit.Goals.{then-not-index, else-not-index}}}
use Rattle.sh_map.proofs.misfit.least_unfit.Goals as goal

pub loop-at-preserved : goal.loop-at-preserved
loop-at-preserved c =
    let Fits = FitsRule c.args.rule c.args.log.now in
    let dones = c.args.dones.now in
    let at = c.loop-at.at in
    let done = c.index-dones-at.result in
    let SoFarNow : Option ℕ → Type 0 = λ least. SoFar Fits (take (at + 1) dones) least in
    let told = kept_at Fits dones c.in_ok-kept.kept.items at done c.index.result.now c.in_ok-kept.ensures c.loop-at-test.true c.index-dones-at.is c.index.ensures in
    elim c.if-not-index.branch [
      | then-not-index w ↦ subst SoFarNow (sym w.least-is) (more_unfit Fits dones at done c.loop-at-test.true c.index-dones-at.is c.loop-at.least w.least_with.result c.loop-at.invariant (λ fits. false≢true (sym w.if-not-index.true ∙ told.1 fits)) w.least_with.ensures)
      | else-not-index w ↦ subst SoFarNow (sym w.least-is) (more_fit Fits dones at done c.loop-at-test.true c.index-dones-at.is c.loop-at.least c.loop-at.invariant (told.0 w.if-not-index.false))
    ]

pub returns : goal.returns
returns c = subst (λ (l : List Done). SoFar (FitsRule c.args.rule c.args.log.now) l c.loop-at.least) (take_all c.loop-at.at c.args.dones.now c.loop-at-test.false) c.loop-at.invariant
