use Rattle.std.{proofs.{Common.{rules, ◌≡◌, ◌∙◌, ◌-◌, ℕ, suc, List, Vec, Global, length, map, sym, subst, arith}, lemmas.List.{length-map}}}
use Rattle.sh_base.specs.{Parts.{parts_of}}
use Rattle.sh_picture.{specs.{Walk.{root_of}, Marks.{AreInner}}, proofs.LookLemmas.{astray_of, item_is, lead_on, walked_inner, walked_nodes}}
use Rattle.sh_picture.proofs.pairs.first_astray.Goals as goal

abbrev items : Vec ℕ Global → List ℕ
items v = v.items

long : (levels : List (Vec ℕ Global)) → length (map items levels) ≡ length levels
long levels = length-map levels items

pub first_below-requires-clause-inner : goal.first_below-requires-clause-inner
first_below-requires-clause-inner c =
    let p = parts_of c.args.cfg.now in
    let levels = c.args.levels.now in
    let at = item_is levels (c.loop-depth.depth - 1) c.index-levels-depth.result (omega (arith, c.loop-depth-test.true, c.loop-depth.auto.depth)) c.index-levels-depth.is in
    let is = c.deref.ensures.value ∙ at in
    subst (AreInner p c.args.words.now) (sym is) (walked_inner p c.args.words.now (map items levels) (root_of c.args.words.now) c.requires.walked.comes_to (map items levels) c.requires.walked.down (c.loop-depth.depth - 1) (omega (arith, c.loop-depth-test.true, c.loop-depth.auto.depth, long levels)))

pub first_below-requires-clause-below : goal.first_below-requires-clause-below
first_below-requires-clause-below c = search (rules, item_is, walked_nodes, long)

pub returns-in-Some : goal.returns-in-Some
returns-in-Some c = search (rules, item_is, astray_of, long)

pub loop-depth-preserved : goal.loop-depth-preserved
loop-depth-preserved c =
    let p = parts_of c.args.cfg.now in
    let levels = c.args.levels.now in
    let d = c.loop-depth.depth - 1 in
    let above = item_is levels d c.index-levels-depth.result (omega (arith, c.loop-depth-test.true, c.loop-depth.auto.depth)) c.index-levels-depth.is in
    let below = item_is levels c.loop-depth.depth c.index-levels-depth-in-loop-depth.result c.loop-depth-test.true c.index-levels-depth-in-loop-depth.is in
    let next : suc d ≡ c.loop-depth.depth = omega (arith, c.loop-depth.auto.depth) in
    record {
      under = c.in_default.ensures.under;
      long = c.in_default.ensures.long ∙ c.loop-depth.invariant.long;
      lead = lead_on p c.args.words.now (map items levels) c.loop-depth.depth d next c.loop-depth.invariant.lead _ _ (c.deref-in-loop-depth.ensures.value ∙ below) (c.deref.ensures.value ∙ above) c.in_default.ensures.found;
    }

pub returns : goal.returns
returns c = λ d lt. c.loop-depth.invariant.lead d (omega (arith, lt, c.loop-depth-test.false, long c.args.levels.now))
