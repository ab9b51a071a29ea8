use Rattle.std.{proofs.Common.{rules, ℕ, List, subst, sym, arith}}
use Rattle.sh_base.specs.Parts.{parts_of}
use Rattle.sh_image.{specs.Inner.{SpellsInner}, proofs.{InnerLemmas.{inner_spelled_one}, UntornLemmas.{seen_inner}}}
use Rattle.sh_tree.{specs.Nodes.{inner_at}, proofs.HoldLemmas.{part_is}}
use Rattle.sh_picture.proofs.pairs.first_in_node.Goals as goal

pub returns-in-Inner : goal.returns-in-Inner
returns-in-Inner c = search (rules, part_is, inner_spelled_one)

pub returns-in_default : goal.returns-in_default
returns-in_default c =
    let p = parts_of c.args.cfg.now in
    let part = part_is p c.args.words.now c.args.node c.node_word-at.result c.node_size.result c.node_word-at.ensures c.node_size.ensures in
    absurd (c.in_default.not-Inner (inner_at p c.args.words.now c.args.node) (seen_inner p _ (inner_at p c.args.words.now c.args.node) c.read_image.result (omega (arith, c.args.cfg.now.lawful.ranged.value_words)) (subst (λ (ws : List ℕ). SpellsInner p ws (inner_at p c.args.words.now c.args.node)) (sym part) c.requires.inner) c.read_image.ensures))
