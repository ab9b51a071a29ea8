-- Which number of a setting is refused.
use Rattle.std.specs.Prelude.{ℕ, ◌&&◌, nat_le, if◌then◌else◌, Option, Some, None}
use Rattle.sh_base.specs.declared.config.{ConfigParts.{ConfigParts}, ConfigFault.{ConfigFault}}
use Rattle.sh_base.specs.{declared.config.ConfigFault.TheVariants.{Servers, Chunks, ChunkNodes, Locks, Leaf, Computes, Seats, Bound, Bits, Rows, Cached, ValueWords, TooLarge}, Setting.{pool_words}}

-- the fault where n is outside its range, else what is tested next
unfoldable pub outside : ℕ → ℕ → ℕ → ConfigFault → Option ConfigFault → Option ConfigFault
outside n low high fault next = if nat_le low n && nat_le n high then next else Some fault

-- the first number that is out of its range, in the order of the fields, else what is tested next
unfoldable pub first_outside : ConfigParts → Option ConfigFault → Option ConfigFault
first_outside p next =
    outside p.servers 1 8 (Servers p.servers)
    (outside p.chunks 1 4096 (Chunks p.chunks)
    (outside p.chunk_nodes 1 256 (ChunkNodes p.chunk_nodes)
    (outside p.locks 1 1024 (Locks p.locks)
    (outside p.leaf 4 64 (Leaf p.leaf)
    (outside p.computes 1 8 (Computes p.computes)
    (outside p.seats 1 8 (Seats p.seats)
    (outside p.bound 0 64 (Bound p.bound)
    (outside p.bits 4 48 (Bits p.bits)
    (outside p.rows 1 4096 (Rows p.rows)
    (outside p.cached 0 256 (Cached p.cached)
    (outside p.value_words 1 8 (ValueWords p.value_words) next)))))))))))

-- why a setting is refused, where it is: a number out of its range, and then a pool that is too large
abbrev pub fault_of : ConfigParts → Option ConfigFault
fault_of p = first_outside p (outside (pool_words p) 0 4194304 (TooLarge (pool_words p)) None)
