-- A node that spells an image: what its words say then.
use Rattle.std.proofs.Common.{rules, ◌≡◌, ◌≢◌, ◌↔◌, ℕ, ◌-◌, ◌^◌, ◌<◌, ◌≤◌, List, get_or, drop, arith}
use Rattle.sh_base.specs.{declared.config.ConfigParts.{ConfigParts}, Setting.{nodes, IsNode}, Layout.{node_part}}
use Rattle.sh_image.specs.{declared.{inner.Image.{Image, TheVariants.{Leaf as LeafImage, Inner as InnerImage}}, read.Seen.{Seen, TheVariants.{Leaf as LeafSeen, Inner as InnerSeen}}}, Seen.{SeenBy}}
use Rattle.sh_image.{specs.{Leaf.{Leaf}, Inner.{Inner}}, proofs.InnerLemmas.{child_of, inner_spelled, inner_spelled_one, length-pairs_in}}
use Rattle.sh_image.proofs.{LeafLemmas.{spelled_one}, UntornLemmas.{seen_spelled, seen_inner}}
use Rattle.sh_tree.specs.Nodes.{NodeIn, leaf_at, inner_at, low_at, high_at, next_at}
use Rattle.sh_picture.specs.Walk.{first_child, level_at, IsSpelled}

-- what every image says of its node
pub record IsFit (p : ConfigParts) (words : List ℕ) (n : ℕ) : Type 0 where
  pub fences : low_at p words n < high_at p words n
  pub next : next_at p words n ≤ nodes p
  pub end : (next_at p words n ≡ 0) ↔ (high_at p words n ≡ 2 ^ 64 - 1)

module _ (p : ConfigParts) (words : List ℕ) (n : ℕ) where
  fit : (image : Image) → NodeIn p words n image → IsFit p words n
  fit image h = search (rules, spelled_one, inner_spelled)

  pub spelled_fit : IsSpelled p words n → IsFit p words n
  spelled_fit h = fit h.image h.spelled

  leaf_is : (image : Image) → NodeIn p words n image → level_at p words n ≡ 0 → NodeIn p words n (LeafImage (leaf_at p words n))
  leaf_is image h zero_level = search (rules, spelled_one, inner_spelled)

  pub spelled_leaf : IsSpelled p words n → level_at p words n ≡ 0 → NodeIn p words n (LeafImage (leaf_at p words n))
  spelled_leaf h zero_level = leaf_is h.image h.spelled zero_level

  inner_is : (image : Image) → NodeIn p words n image → level_at p words n ≢ 0 → NodeIn p words n (InnerImage (inner_at p words n))
  inner_is image h some = search (rules, inner_spelled_one)

  pub spelled_inner : IsSpelled p words n → level_at p words n ≢ 0 → NodeIn p words n (InnerImage (inner_at p words n))
  spelled_inner h some = inner_is h.image h.spelled some

  -- the first child of a node above the leaves is a node, and the node's level is below the number of nodes
  pub child_inside : IsSpelled p words n → level_at p words n ≢ 0 → IsNode p (first_child p words n) × (level_at p words n < nodes p)
  child_inside h some =
      let s = spelled_inner h some in
      let lawful = s.lawful in
      let child = child_of (node_part p words n) p (get_or (node_part p words n) 5 0) 0 (omega (arith, length-pairs_in (get_or (node_part p words n) 5 0) (drop 6 (node_part p words n)), lawful.count)) lawful.children in
      (record { first = child.0; last = child.1 }, lawful.level.1)

  -- what a reader saw
  not_read : (seen : Seen) → 1 ≤ p.value_words → SeenBy p (node_part p words n) seen → ((a : Leaf) → seen ≡ LeafSeen a → ⊥) → ((a : Inner) → seen ≡ InnerSeen a → ⊥) → (image : Image) → NodeIn p words n image → ⊥
  not_read seen some by no_leaf no_inner image h = search (rules, seen_spelled, seen_inner)

  pub not_seen : (seen : Seen) → 1 ≤ p.value_words → SeenBy p (node_part p words n) seen → ((a : Leaf) → seen ≡ LeafSeen a → ⊥) → ((a : Inner) → seen ≡ InnerSeen a → ⊥) → IsSpelled p words n → ⊥
  not_seen seen some by no_leaf no_inner h = not_read seen some by no_leaf no_inner h.image h.spelled
