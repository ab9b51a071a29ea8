-- The scene of a laid pool.
use Rattle.std.specs.Prelude.{ℕ, if◌then◌else◌, [], replicate}
use Rattle.sh_base.specs.{declared.config.ConfigParts.{ConfigParts}, Setting.{node_size}}
use Rattle.sh_image.specs.{Leaf.{leaf_words}, Laid.{blank_leaf}}
use Rattle.sh_state.specs.TreeState.{Class, Undrawn, Reserved, Linked, Posted, Nobody, TreeState, put}
use Rattle.sh_acts.specs.Acts.{in_chunk}

-- node 1 is linked, the other nodes of its chunk are never used, and no other node is drawn
abbrev pub laid_class : ConfigParts → ℕ → Class
laid_class p = put (λ n. if in_chunk p 0 0 n then Reserved else Undrawn) 1 (Linked 0 0)

-- no chunk of a server was drawn
abbrev pub none_drawn : ℕ → ℕ
none_drawn server = 0

abbrev pub laid_scene : ConfigParts → TreeState
laid_scene p = record { node = put (λ n. replicate (node_size p) 0) 1 (leaf_words (blank_leaf p)); class = laid_class p; post = λ n. Posted; hold = λ lock. Nobody; counter = put none_drawn 0 1; root = 1; height = 0; log = [] }
