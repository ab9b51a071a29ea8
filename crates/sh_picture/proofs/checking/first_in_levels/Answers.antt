use Rattle.std.proofs.{Common.{rules, ◌≡◌, ◌-◌, ◌≤◌, ℕ, List, Vec, Global, length, map, get_or, sym, subst, arith}, lemmas.List.{length-map}}
use Rattle.sh_base.specs.Parts.{parts_of}
use Rattle.sh_tree.specs.Tree.{leaves_of}
use Rattle.sh_picture.{specs.{Walk.{root_of}, Tree.{AllOnce, IsFirstTwice}, Marks.{AreLeaves}}, proofs.{LookLemmas.{item_is, last_is, walked_leaves}, TreeLemmas.{walked_tree}}}
use Rattle.sh_picture.proofs.checking.first_in_levels.Goals as goal

abbrev items : Vec ℕ Global → List ℕ
items v = v.items

-- the last of the levels is the leaves'
at_last : (levels : List (Vec ℕ Global)) (v : Vec ℕ Global) (ns : List ℕ) (n : ℕ) → length (map items levels) ≡ n → 1 ≤ n → v ≡ get_or levels (length levels - 1) v → ns ≡ v.items → ns ≡ leaves_of (map items levels)
at_last levels v ns n long some is value = search (rules, length-map, item_is, last_is)

pub first_twice-requires-clause-leaves : goal.first_twice-requires-clause-leaves
first_twice-requires-clause-leaves c =
    let p = parts_of c.args.cfg.now in
    let levels = c.args.levels.now in
    let is = at_last levels c.index-levels-count.result c.deref.result.now _ c.requires.walked.top (omega arith) c.index-levels-count.is c.deref.ensures.value in
    subst (AreLeaves p c.args.words.now) (sym is) (walked_leaves p c.args.words.now (map items levels) (root_of c.args.words.now) c.requires.walked.comes_to (map items levels) c.requires.walked.down)

pub returns-in-Some-first_twice : goal.returns-in-Some-first_twice
returns-in-Some-first_twice c =
    let p = parts_of c.args.cfg.now in
    let levels = c.args.levels.now in
    let is = at_last levels c.index-levels-count.result c.deref.result.now _ c.requires.walked.top (omega arith) c.index-levels-count.is c.deref.ensures.value in
    (c.requires.root, (map items levels, c.requires.walked, c.in_default.ensures, subst (λ (ns : List ℕ). IsFirstTwice p c.args.words.now ns c.in-Some-first_twice.found.0 c.in-Some-first_twice.found.1) is c.in-Some-first_twice.ensures))

pub returns : goal.returns
returns c =
    let p = parts_of c.args.cfg.now in
    let levels = c.args.levels.now in
    let is = at_last levels c.index-levels-count.result c.deref.result.now _ c.requires.walked.top (omega arith) c.index-levels-count.is c.deref.ensures.value in
    record {
      levels = map items levels;
      tree = walked_tree p c.args.words.now (map items levels) c.requires.root c.requires.walked c.in_default.ensures (subst (AllOnce p c.args.words.now) is c.in_default-first_twice.ensures);
    }
