-- Where each thing of a pool lies, in words from its start, and each part of a node, in words from the node's first.
use Rattle.std.specs.Prelude.{ℕ, ◌+◌, ◌-◌, ◌*◌, ◌/◌, ◌%◌, List, take, drop}
use Rattle.sh_base.specs.{declared.config.ConfigParts.{ConfigParts}, Setting.{entry_size, node_size, first_node_word}}

-- word 0 is the pool's own; word 1 names the root node
abbrev pub root_word : ℕ
root_word = 1

-- the chunk counter of a server
abbrev pub counter_word : ConfigParts → ℕ → ℕ
counter_word p server = 2 + server

-- a lock word
abbrev pub lock_word : ConfigParts → ℕ → ℕ
lock_word p lock = 2 + p.servers + lock

-- the first word of a node
unfoldable pub node_word : ConfigParts → ℕ → ℕ
node_word p n = first_node_word p + (n - 1) * node_size p

-- the server that a node stands on
unfoldable pub server_of : ConfigParts → ℕ → ℕ
server_of p n = (n - 1) / (p.chunks * p.chunk_nodes)

-- the lock of a node, which stands on the same server
unfoldable pub lock_of : ConfigParts → ℕ → ℕ
lock_of p n = server_of p n * p.locks + ((n - 1) % (p.chunks * p.chunk_nodes)) % p.locks

-- the first node of a server's chunk
unfoldable pub first_node : ConfigParts → ℕ → ℕ → ℕ
first_node p server chunk = (server * p.chunks + chunk) * p.chunk_nodes + 1

-- the compute server of a seat
unfoldable pub compute_of : ConfigParts → ℕ → ℕ
compute_of p seat = seat / p.seats

-- the offset of an entry in its leaf: of its front version, and of its rear version
unfoldable pub entry_at : ConfigParts → ℕ → ℕ
entry_at p i = 6 + entry_size p * i

abbrev pub entry_rear_at : ConfigParts → ℕ → ℕ
entry_rear_at p i = entry_at p i + (2 + p.value_words)

-- the offset of a node's rear version
unfoldable pub rear_at : ConfigParts → ℕ
rear_at p = 6 + entry_size p * p.leaf

-- the words of a node, by offset
abbrev pub node_part : ConfigParts → List ℕ → ℕ → List ℕ
node_part p words n = take (node_size p) (drop (node_word p n) words)

-- the words of an entry, in the words of its node
abbrev pub entry_part : ConfigParts → List ℕ → ℕ → List ℕ
entry_part p part i = take (entry_size p) (drop (entry_at p i) part)
