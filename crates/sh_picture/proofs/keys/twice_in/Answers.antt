use Rattle.std.proofs.Common.{◌≡◌, ◌∙◌, ℕ, List, ap, subst, sym}
use Rattle.sh_base.specs.Parts.{parts_of}
use Rattle.sh_image.{specs.{Entries.{keys_of}, Leaf.{Leaf, Spells}}, proofs.UntornLemmas.{seen_spelled}}
use Rattle.sh_tree.{specs.Nodes.{leaf_at}, proofs.HoldLemmas.{leaf_read, part_is}}
use Rattle.sh_picture.specs.Marks.{TwiceBy}
use Rattle.sh_picture.proofs.keys.twice_in.Goals as goal

pub returns-in-Leaf : goal.returns-in-Leaf
returns-in-Leaf c =
    let p = parts_of c.args.cfg.now in
    let a : Leaf = leaf_at p c.args.words.now c.args.node in
    let is : c.in-Leaf.leaf ≡ a = leaf_read p c.args.words.now c.args.node c.node_word-at.result c.node_size.result a c.in-Leaf.leaf c.node_word-at.ensures c.node_size.ensures c.in-Leaf.ensures c.requires.leaf in
    subst (λ (ks : List ℕ). TwiceBy ks c.least_twice.result) (c.keys.ensures.keys ∙ ap (λ (b : Leaf). keys_of b.entries) is) c.least_twice.ensures

pub returns-in_default : goal.returns-in_default
returns-in_default c =
    let p = parts_of c.args.cfg.now in
    let part = part_is p c.args.words.now c.args.node c.node_word-at.result c.node_size.result c.node_word-at.ensures c.node_size.ensures in
    absurd (c.in_default.not-Leaf (leaf_at p c.args.words.now c.args.node) (seen_spelled p _ (leaf_at p c.args.words.now c.args.node) c.read_image.result (subst (λ (ws : List ℕ). Spells p ws (leaf_at p c.args.words.now c.args.node)) (sym part) c.requires.leaf) c.read_image.ensures))
