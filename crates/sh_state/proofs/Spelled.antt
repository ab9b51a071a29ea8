-- Words of a leaf or an inner node, as nodes that stand.
use Rattle.std.proofs.Common.{◌≡◌, ◌≢◌, ℕ, ◌<◌, ◌≤◌, List, length, sym, subst}
use Rattle.sh_base.specs.{declared.config.ConfigParts.{ConfigParts}, Setting.{node_size}}
use Rattle.sh_map.specs.{declared.log.Entry.{Entry}, Map.{get}, Log.{map_of}}
use Rattle.sh_image.specs.{Leaf.{Leaf, IsLeaf, leaf_in, leaf_words, Spells}, Inner.{Inner, IsInner, inner_in, inner_words, SpellsInner}}
use Rattle.sh_image.proofs.{LeafLemmas.{spelled_one, values_of, length-leaf_words}, InnerLemmas.{inner_spelled_one, length-inner_words}}
use Rattle.sh_edit.specs.Held.{held, HasKeysOnce}
use Rattle.sh_state.specs.{TreeState.{TreeState}, Nodes.{LeadDown, IsStandingLeaf, IsStandingInner}}

module _ (p : ConfigParts) where
  pub leaf_is : (ws : List ℕ) (a : Leaf) → ws ≡ leaf_words a → IsLeaf p a → leaf_in p ws ≡ a
  leaf_is ws a e lawful = spelled_one p ws a record { words = e; lawful = lawful }

  pub leaf_long : (a : Leaf) → IsLeaf p a → length (leaf_words a) ≡ node_size p
  leaf_long a h = length-leaf_words p a h.count (values_of p a.low a.high a.entries h.entries)

  pub leaf_stands : (log : List Entry) (ws : List ℕ) (a : Leaf) → ws ≡ leaf_words a → IsLeaf p a → HasKeysOnce a.entries → ((key : ℕ) → key ≢ 0 → a.low ≤ key → key < a.high → held a.entries key ≡ get (map_of log) key) → IsStandingLeaf p log ws
  leaf_stands log ws a e lawful once map =
      let is : leaf_in p ws ≡ a = leaf_is ws a e lawful in
      record {
        spells = subst (Spells p ws) (sym is) record { words = e; lawful = lawful };
        once = subst (λ (x : Leaf). HasKeysOnce x.entries) (sym is) once;
        map = λ key nz lo hi. subst (λ (x : Leaf). held x.entries key ≡ get (map_of log) key) (sym is) (map key nz (subst (λ (x : Leaf). x.low ≤ key) is lo) (subst (λ (x : Leaf). key < x.high) is hi));
      }

  pub inner_is : (ws : List ℕ) (a : Inner) → ws ≡ inner_words p a → IsInner p a → inner_in ws ≡ a
  inner_is ws a e lawful = inner_spelled_one p ws a record { words = e; lawful = lawful }

  pub inner_long : (a : Inner) → 1 ≤ p.value_words → IsInner p a → length (inner_words p a) ≡ node_size p
  inner_long a some h = length-inner_words p a some h.count.1

  pub inner_stands : (s : TreeState) (l : ℕ) (ws : List ℕ) (a : Inner) → ws ≡ inner_words p a → IsInner p a → LeadDown s l a.pairs → IsStandingInner p s l ws
  inner_stands s l ws a e lawful down =
      let is : inner_in ws ≡ a = inner_is ws a e lawful in
      record {
        spells = subst (SpellsInner p ws) (sym is) record { words = e; lawful = lawful };
        children = subst (λ (x : Inner). LeadDown s l x.pairs) (sym is) down;
      }
