use Rattle.std.proofs.Common.{[], refl, sym, subst, arith}
use mathlib.Core.Bool.{false≢true}
use Rattle.sh_image.{specs.{declared.leaf.LeafEntry.{LeafEntry}, Leaf.{IsEntry}}, proofs.FillLemmas.{entry_here, rules_more, spelled_many}}
use Rattle.sh_image.proofs.read_leaf.are_entries.Goals as goal

pub returns-then-not-is_entry : goal.returns-then-not-is_entry
returns-then-not-is_entry c =
    let p = c.args.cfg.now.parts in
    let ws = c.args.words.now in
    let none : LeafEntry = record { version = 0; key = 0; value = [] } in (
      λ t. absurd (false≢true t),
      λ all. c.if-not-is_entry.ensures.1 (subst (IsEntry p c.args.low c.args.high) (sym (entry_here p ws c.loop-index.index c.entry_at-at.result c.value_words-count.result none (omega arith) c.entry_at-at.ensures c.value_words-count.ensures)) (all c.loop-index.index none (omega (arith, spelled_many p ws)))),
    )

pub loop-index-preserved : goal.loop-index-preserved
loop-index-preserved c =
    let p = c.args.cfg.now.parts in
    let ws = c.args.words.now in
    rules_more p ws c.args.low c.args.high c.loop-index.index _ (λ d. entry_here p ws c.loop-index.index c.entry_at-at.result c.value_words-count.result d (omega arith) c.entry_at-at.ensures c.value_words-count.ensures) (c.if-not-is_entry.ensures.0 refl) c.loop-index.invariant

pub returns : goal.returns
returns c = (λ t k d b. c.loop-index.invariant k d (omega (arith, spelled_many c.args.cfg.now.parts c.args.words.now)), λ all. refl)
