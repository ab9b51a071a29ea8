-- Spare nodes: a range of numbers, taken from its low end.
use Rattle.std.specs.Prelude.{ℕ, ◌≡◌, ◌+◌, ◌-◌, ◌<◌, ◌≤◌, ◌==◌, if◌then◌else◌, Option, Some, None}
use Rattle.sh_alloc.specs.declared.state.{NodeRange.{NodeRange}, Spare.{Spare}}

abbrev pub range_of : Spare → NodeRange
range_of spare = spare.range

-- count nodes, from first on
abbrev pub nodes_from : (first count : ℕ) → NodeRange
nodes_from first count = record { first = first; count = count }

abbrev pub no_nodes : NodeRange
no_nodes = nodes_from 1 0

-- n is one of the nodes
abbrev pub IsSpare : NodeRange → ℕ → Type 0
IsSpare r n = (r.first ≤ n) × (n < r.first + r.count)

-- the lowest node; none where there is no node
abbrev pub lowest : NodeRange → Option ℕ
lowest r = if r.count == 0 then None else Some r.first

-- the nodes without the lowest
abbrev pub without_lowest : NodeRange → NodeRange
without_lowest r = if r.count == 0 then r else nodes_from (r.first + 1) (r.count - 1)

-- a node may be put back where its number is the one below the lowest's, as that of the last node taken is
abbrev pub MayPutBack : ℕ → NodeRange → Type 0
MayPutBack n r = (1 ≤ n) × (n + 1 ≡ r.first)

-- the nodes with a new lowest one
abbrev pub with_lowest : ℕ → NodeRange → NodeRange
with_lowest n r = nodes_from n (r.count + 1)
