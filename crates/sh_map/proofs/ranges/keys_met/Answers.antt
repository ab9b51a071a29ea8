use Rattle.std.proofs.{Common.{subst, sym, ap, ◌∙◌, ◌+◌, take}, lemmas.{Bool.{false≢true}, List.{take_all}}}
use Rattle.sh_map.{specs.Tables.{AreMet, given_value}, proofs.{RangeLemmas.{met_none, met_more, met_same}, ranges.keys_met.Goals.{then-same+in_ok-insert, else-same}}}
use Rattle.sh_map.proofs.ranges.keys_met.Goals as goal

pub loop-entry-init : goal.loop-entry-init
loop-entry-init c = met_none c.args.rows.now _ c.new-met.ensures.empty

pub loop-entry-preserved : goal.loop-entry-preserved
loop-entry-preserved c =
    let log = c.args.entries.now in
    let rows = c.args.rows.now in
    let at = c.loop-entry.entry-index in
    let e = c.entry-item.result in
    elim c.if-same.branch [
      | then-same+in_ok-insert w ↦ subst (λ met. AreMet (take (at + 1) log) rows met) (sym w.met-is) (met_more log at e c.loop-entry-test.true c.entry-item.is rows c.loop-entry.met c.loop-entry.invariant c.key-key.result _ c.key-key.ensures (sym c.left.ensures ∙ c.same.ensures.0 w.if-same.true ∙ c.value_in.ensures) w.in_ok-insert.ensures.updates)
      | else-same w ↦ subst (λ met. AreMet (take (at + 1) log) rows met) (sym w.met-is) (met_same log at e c.loop-entry-test.true c.entry-item.is rows c.loop-entry.met c.loop-entry.invariant (λ is. false≢true (sym w.if-same.false ∙ c.same.ensures.1 (c.left.ensures ∙ is ∙ ap (given_value rows) (sym c.key-key.ensures) ∙ sym c.value_in.ensures))))
    ]

pub returns : goal.returns
returns c = subst (λ l. AreMet l c.args.rows.now c.loop-entry.met) (take_all _ c.args.entries.now c.loop-entry-test.false) c.loop-entry.invariant
