-- What one store of a WRITE does to a node.
use Rattle.std.specs.Prelude.{◌≡◌, ◌≢◌, ℕ, ◌<◌, List, length, slice_index}
use Rattle.sh_base.specs.{declared.config.ConfigParts.{ConfigParts}, Setting.{node_size}}
use Rattle.sh_read.specs.Moments.{Writing, Idle, IsWriting, Next, word}

-- A store of the word x at an offset begins a WRITE or goes on with it: w was under way, and v is. The node stands as it
-- did.
pub record GoesOn (p : ConfigParts) (level : ℕ) (node : List ℕ) (w v : Writing) (offset x : ℕ) : Type 0 where
  pub next : Next p node w node v
  pub stores : IsWriting p level node v
  pub within : offset < node_size p
  pub here : word p node v offset ≡ x
  pub others : (o : ℕ) → o < node_size p → o ≢ offset → word p node w o ≡ word p node v o

-- A store of the word x at an offset ends the WRITE w. The image stands from now on.
pub record Ends (p : ConfigParts) (node : List ℕ) (w : Writing) (image : List ℕ) (offset x : ℕ) : Type 0 where
  pub next : Next p node w image Idle
  pub long : length image ≡ node_size p
  pub within : offset < node_size p
  pub here : slice_index image offset ≡ x
  pub others : (o : ℕ) → o < node_size p → o ≢ offset → word p node w o ≡ slice_index image o
