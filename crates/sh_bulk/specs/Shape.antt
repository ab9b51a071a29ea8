-- The shape of a tree that is built at once: how many nodes each level has. Levels are counted from the leaves, as 0, up.
use Rattle.std.specs.Prelude.{ℕ, zero, suc, ◌+◌, ◌*◌, ◌/◌, ◌%◌, ◌==◌, min, max, if◌then◌else◌}
use Rattle.sh_base.specs.declared.config.ConfigParts.{ConfigParts}

-- n / d, rounded up
unfoldable pub div_up : ℕ → ℕ → ℕ
div_up n d = n / d + min 1 (n % d)

-- the rows of a leaf: three quarters of its entries
unfoldable pub leaf_fill : ConfigParts → ℕ
leaf_fill p = 3 * p.leaf / 4

-- the children of an inner node: three quarters of its pairs
unfoldable pub inner_fill : ConfigParts → ℕ
inner_fill p = 3 * p.leaf / 2

-- how many nodes a level has, for n rows; without rows there is one leaf
abbrev pub count_in : ConfigParts → (n level : ℕ) → ℕ
count_in p n zero = max 1 (div_up n (leaf_fill p))
count_in p n (suc level) = div_up (count_in p n level) (inner_fill p)

-- the number of a level's first node: nodes are numbered from 1, level by level from the leaves
abbrev pub first_in : ConfigParts → (n level : ℕ) → ℕ
first_in p n zero = 1
first_in p n (suc level) = first_in p n level + count_in p n level

-- the first level from this one on that has one node, among so many
abbrev pub height_from : ConfigParts → (n turns level : ℕ) → ℕ
height_from p n zero level = level
height_from p n (suc turns) level = if count_in p n level == 1 then level else height_from p n turns (suc level)

-- the top level, that of the root: the first that has one node. There are no more levels than leaves.
unfoldable pub height_of : ConfigParts → ℕ → ℕ
height_of p n = height_from p n (count_in p n 0) 0

-- how many nodes there are, which is the number of the root
abbrev pub need_of : ConfigParts → ℕ → ℕ
need_of p n = first_in p n (height_of p n)

-- how many rows lie between the first rows of a node of a level and of the next one
abbrev pub span_in : ConfigParts → (level : ℕ) → ℕ
span_in p zero = leaf_fill p
span_in p (suc level) = inner_fill p * span_in p level
