use Rattle.std.proofs.Common.{◌∙◌, ◌≡◌, get_or, sym, subst, true, false, arith}
use Rattle.sh_base.specs.Parts.{parts_of}
use Rattle.sh_image.specs.Inner.{no_pair}
use Rattle.sh_tree.specs.Tree.{IsChildIn}
use Rattle.sh_picture.{specs.Marks.{PairLeads}, proofs.LookLemmas.{good_more, pair_is}}
use Rattle.sh_picture.proofs.pairs.first_of_pairs.Goals as goal

pub returns-then-not-leads : goal.returns-then-not-leads
returns-then-not-leads c = λ below m.
    let p = parts_of c.args.cfg.now in
    let is : get_or c.args.image.now.pairs c.loop-index.index no_pair ≡ c.pair.result = pair_is p c.args.words.now below c.args.image.now.pairs c.loop-index.index c.pair.result c.pair.ensures in
    record {
      below = omega (arith, c.loop-index-test.true, c.pairs-index-end.ensures.pairs);
      before = c.loop-index.invariant below m;
      here = λ good. absurd (let bad : true ≡ false = sym ((c.leads.ensures below m).1 (subst (IsChildIn p c.args.words.now below) is good)) ∙ c.if-not-leads.true in cc);
    }

pub loop-index-preserved : goal.loop-index-preserved
loop-index-preserved c = λ below m.
    let p = parts_of c.args.cfg.now in
    let is : get_or c.args.image.now.pairs c.loop-index.index no_pair ≡ c.pair.result = pair_is p c.args.words.now below c.args.image.now.pairs c.loop-index.index c.pair.result c.pair.ensures in
    good_more (PairLeads p c.args.words.now below c.args.image.now.pairs) c.loop-index.index (c.loop-index.invariant below m) (subst (IsChildIn p c.args.words.now below) (sym is) ((c.leads.ensures below m).0 c.if-not-leads.false))

pub returns : goal.returns
returns c = λ below m i lt. c.loop-index.invariant below m i (omega (arith, lt, c.loop-index-test.false, c.pairs-index-end.ensures.pairs))
