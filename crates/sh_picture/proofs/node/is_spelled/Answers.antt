use Rattle.std.proofs.Common.{List, ℕ, refl, subst, arith}
use Rattle.sh_base.specs.Parts.{parts_of}
use Rattle.sh_image.specs.{declared.inner.Image.TheVariants.{Leaf as LeafImage, Inner as InnerImage}, Leaf.{Spells}, Inner.{SpellsInner}, Seen.{SeenBy}}
use Rattle.sh_tree.proofs.HoldLemmas.{part_is}
use Rattle.sh_picture.proofs.NodeLemmas.{not_seen}
use Rattle.sh_picture.proofs.node.is_spelled.Goals as goal

pub returns-in-Leaf : goal.returns-in-Leaf
returns-in-Leaf c =
    let p = parts_of c.args.cfg.now in
    let part = part_is p c.args.words.now c.args.node c.node_word-at.result c.node_size.result c.node_word-at.ensures c.node_size.ensures in (
      λ _. record {
        node = record { first = omega (arith, c.if-node-eq0.false); last = omega (arith, c.if-node-from.false, c.from.ensures, c.nodes.ensures) };
        image = LeafImage c.in-Leaf.field-0;
        spelled = subst (λ (ws : List ℕ). Spells p ws c.in-Leaf.field-0) part c.in-Leaf.ensures;
      },
      λ _. refl,
    )

pub returns-in-Inner : goal.returns-in-Inner
returns-in-Inner c =
    let p = parts_of c.args.cfg.now in
    let part = part_is p c.args.words.now c.args.node c.node_word-at.result c.node_size.result c.node_word-at.ensures c.node_size.ensures in (
      λ _. record {
        node = record { first = omega (arith, c.if-node-eq0.false); last = omega (arith, c.if-node-from.false, c.from.ensures, c.nodes.ensures) };
        image = InnerImage c.in-Inner.field-0;
        spelled = subst (λ (ws : List ℕ). SpellsInner p ws c.in-Inner.field-0) part c.in-Inner.ensures;
      },
      λ _. refl,
    )

pub returns-in_default : goal.returns-in_default
returns-in_default c =
    let p = parts_of c.args.cfg.now in
    let part = part_is p c.args.words.now c.args.node c.node_word-at.result c.node_size.result c.node_word-at.ensures c.node_size.ensures in
    (λ e. absurd (cc), λ h. absurd (not_seen p c.args.words.now c.args.node c.read_image.result (omega (arith, c.args.cfg.now.lawful.ranged.value_words)) (subst (λ (ws : List ℕ). SeenBy p ws c.read_image.result) part c.read_image.ensures) c.in_default.not-Leaf c.in_default.not-Inner h))
