-- All that holds of the words in memory at each moment, whoever the clients are.
use Rattle.std.specs.Prelude.{◌≡◌, ◌≢◌, ◌⊎◌, ℕ, suc, ◌+◌, ◌-◌, ◌^◌, ◌<◌, ◌≤◌, List, length, None}
use Rattle.sh_base.specs.{declared.config.ConfigParts.{ConfigParts}, Setting.{node_size, IsNode}, Layout.{first_node}}
use Rattle.sh_map.specs.{Map.{get}, Log.{map_of, IsLegal}}
use Rattle.sh_state.specs.{TreeState.{Undrawn, Fresh, Linked, Posted, TreeState, shown, Shows}, Nodes.{IsLinked, LeadsTo, standing_pairs, Sits, AreApart, Orderly}}

-- a node of a server's chunk
pub record IsInChunk (p : ConfigParts) (server chunk n : ℕ) : Type 0 where
  pub from : first_node p server chunk ≤ n
  pub below : n < first_node p server chunk + p.chunk_nodes

-- a node has a parent: one of the level above leads to it
pub record HasParent (s : TreeState) (level n : ℕ) : Type 0 where
  pub parent : ℕ
  pub low : ℕ
  pub linked : s.class parent ≡ Linked (suc level) low
  pub leads : LeadsTo (standing_pairs (s.node parent)) n

-- The words show the scene. Each linked node sits in its level; two of a level are apart. The root is the first node of
-- the top level. A chunk's nodes are undrawn up to its draw. A posted node is the first of its level or has a parent, and
-- no other node is either. The log's map has keys alone: neither 0 nor the greatest word.
pub record Ground (p : ConfigParts) (words : List ℕ) (s : TreeState) : Type 0 where
  pub shows : Shows p words (shown p s)
  pub long : (n : ℕ) → length (s.node n) ≡ node_size p
  pub orderly : (lock : ℕ) → Orderly p s lock (s.hold lock)
  pub sits : (n level low : ℕ) → s.class n ≡ Linked level low → Sits p s n level low
  pub apart : (m n level low_m low_n : ℕ) → s.class m ≡ Linked level low_m → s.class n ≡ Linked level low_n → m ≢ n → AreApart s m n low_m low_n
  pub own : (n seat : ℕ) → s.class n ≡ Fresh seat → IsNode p n
  pub undrawn : (server chunk n : ℕ) → server < p.servers → chunk < p.chunks → s.counter server ≤ chunk → IsInChunk p server chunk n → s.class n ≡ Undrawn
  pub root : s.class s.root ≡ Linked s.height 0
  pub heights : (n level low : ℕ) → s.class n ≡ Linked level low → level ≤ s.height
  pub outside : (n : ℕ) → IsLinked (s.class n) ⊎ (s.post n ≡ Posted)
  pub firsts : (n level : ℕ) → s.class n ≡ Linked level 0 → s.post n ≡ Posted
  pub children : (parent level low n : ℕ) → s.class parent ≡ Linked (suc level) low → LeadsTo (standing_pairs (s.node parent)) n → s.post n ≡ Posted
  pub posted : (n level low : ℕ) → s.class n ≡ Linked level low → s.post n ≡ Posted → (low ≡ 0) ⊎ HasParent s level n
  pub legal : IsLegal s.log
  pub bare : (key : ℕ) → (key ≡ 0) ⊎ (2 ^ 64 - 1 ≤ key) → get (map_of s.log) key ≡ None
