-- What the walks of the code come to.
use Rattle.std.specs.Prelude.{◌≢◌, ℕ, List, map}
use Rattle.sh_base.specs.declared.config.ConfigParts.{ConfigParts}
use Rattle.sh_picture.specs.{Walk.{IsAlong, IsLevel, IsSoundNode, IsUnsound, IsWalked}, declared.walked.{LevelWalk.{LevelWalk}, Walk.{Walk}}}
use Rattle.sh_picture.specs.declared.walked.LevelWalk.TheVariants as level_walk
use Rattle.sh_picture.specs.declared.walked.Walk.TheVariants as whole_walk

-- the walk along a level comes to this number, which is neither sound nor 0
pub record StopsAt (p : ConfigParts) (words : List ℕ) (level first number : ℕ) : Type 0 where
  pub before : List ℕ
  pub low : ℕ
  pub along : IsAlong p words level first 0 before number low
  pub some : number ≢ 0
  pub unsound : IsSoundNode p words level low number → ⊥

abbrev pub LevelWalked : ConfigParts → List ℕ → (level first : ℕ) → LevelWalk → Type 0
LevelWalked p words level first (level_walk.Whole nodes) = IsLevel p words level first nodes.items
LevelWalked p words level first (level_walk.Unsound node) = StopsAt p words level first node

abbrev pub Walked : ConfigParts → List ℕ → Walk → Type 0
Walked p words (whole_walk.Whole levels) = IsWalked p words (map (λ nodes. nodes.items) levels.items)
Walked p words (whole_walk.Unsound level node) = IsUnsound p words level node
