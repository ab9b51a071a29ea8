-- What the words in memory hold while no WRITE of a linked node is under way.
use Rattle.std.specs.{Prelude.{◌≡◌, ◌↔◌, ℕ, ◌+◌, if◌then◌else◌, Bool, true, false, List, [], ◌∷◌}, List.{concat}}
use Rattle.sh_base.specs.declared.config.ConfigParts.{ConfigParts}
use Rattle.sh_map.specs.Log.{map_of}
use Rattle.sh_tree.specs.{Lists.{is_in}, Tree.{IsTree, map_in, unposted_in}}
use Rattle.sh_read.specs.Moments.{Idle}
use Rattle.sh_state.specs.{TreeState.{Linked, ParentLink, Posted, Pending, Skipped, TreeState, writing}, Nodes.{IsLinked}}

abbrev pub IsAtRest : ConfigParts → TreeState → Type 0
IsAtRest p s = (n level low : ℕ) → s.class n ≡ Linked level low → writing p s n ≡ Idle

abbrev pub is_posted : ParentLink → Bool
is_posted Posted = true
is_posted (Pending seat) = false
is_posted (Skipped seat) = false

-- how many of some nodes aren't posted
abbrev pub unposted : TreeState → List ℕ → ℕ
unposted s [] = 0
unposted s (n ∷ ns) = if is_posted (s.post n) then unposted s ns else unposted s ns + 1

-- The words hold a tree, whose nodes are the linked ones. Its map is the log's. Its unposted nodes are those that the
-- scene counts so: to be posted still, or skipped.
pub record HoldsTree (p : ConfigParts) (words : List ℕ) (s : TreeState) : Type 0 where
  pub levels : List (List ℕ)
  pub tree : IsTree p words levels
  pub linked : (n : ℕ) → (is_in (concat levels) n ≡ true) ↔ IsLinked (s.class n)
  pub map : map_in p words levels ≡ map_of s.log
  pub unposted_are : unposted_in p words levels ≡ unposted s (concat levels)
