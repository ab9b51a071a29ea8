-- A setting: its numbers, their limits, and what follows from them.
use Rattle.std.specs.Prelude.{ℕ, ◌+◌, ◌-◌, ◌*◌, ◌^◌, ◌≤◌}
use Rattle.sh_base.specs.declared.config.ConfigParts.{ConfigParts}

-- how many nodes the pool has; they are numbered from 1
abbrev pub nodes : ConfigParts → ℕ
nodes p = p.servers * p.chunks * p.chunk_nodes

-- how many locks the pool has; they are numbered from 0
abbrev pub all_locks : ConfigParts → ℕ
all_locks p = p.servers * p.locks

-- how many seats there are; they are numbered from 0
abbrev pub all_seats : ConfigParts → ℕ
all_seats p = p.computes * p.seats

-- the words of a leaf's entry: its front version, key, value and rear version
unfoldable pub entry_size : ConfigParts → ℕ
entry_size p = 3 + p.value_words

-- the words of a node: six of a header, the entries, and the rear version
unfoldable pub node_size : ConfigParts → ℕ
node_size p = 7 + entry_size p * p.leaf

-- the first word behind the root, the counters and the locks
abbrev pub first_node_word : ConfigParts → ℕ
first_node_word p = 2 + p.servers + all_locks p

-- how many words the pool has
unfoldable pub pool_words : ConfigParts → ℕ
pool_words p = first_node_word p + nodes p * node_size p

-- the last version of a node, and of an entry
abbrev pub last_version : ConfigParts → ℕ
last_version p = 2 ^ p.bits - 1

abbrev pub last_entry_version : ℕ
last_entry_version = 15

-- each number lies in its range
pub record IsRanged (p : ConfigParts) : Type 0 where
  pub servers : (1 ≤ p.servers) × (p.servers ≤ 8)
  pub chunks : (1 ≤ p.chunks) × (p.chunks ≤ 4096)
  pub chunk_nodes : (1 ≤ p.chunk_nodes) × (p.chunk_nodes ≤ 256)
  pub locks : (1 ≤ p.locks) × (p.locks ≤ 1024)
  pub leaf : (4 ≤ p.leaf) × (p.leaf ≤ 64)
  pub computes : (1 ≤ p.computes) × (p.computes ≤ 8)
  pub seats : (1 ≤ p.seats) × (p.seats ≤ 8)
  pub bound : (0 ≤ p.bound) × (p.bound ≤ 64)
  pub bits : (4 ≤ p.bits) × (p.bits ≤ 48)
  pub rows : (1 ≤ p.rows) × (p.rows ≤ 4096)
  pub cached : (0 ≤ p.cached) × (p.cached ≤ 256)
  pub value_words : (1 ≤ p.value_words) × (p.value_words ≤ 8)

-- a lawful setting: its numbers lie in their ranges, and the pool isn't too large
pub record IsSetting (p : ConfigParts) : Type 0 where
  pub ranged : IsRanged p
  pub size : pool_words p ≤ 4194304

-- a node of the setting
pub record IsNode (p : ConfigParts) (n : ℕ) : Type 0 where
  pub first : 1 ≤ n
  pub last : n ≤ nodes p

-- the setting where none is given: 4096 nodes of 71 words on two servers
abbrev pub default_parts : ConfigParts
default_parts = record { servers = 2; chunks = 64; chunk_nodes = 32; locks = 64; leaf = 16; computes = 2; seats = 4; bound = 4; bits = 32; rows = 256; cached = 16; value_words = 1 }
