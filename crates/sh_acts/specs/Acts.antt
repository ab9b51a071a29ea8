-- The scene after an act.
use Rattle.std.specs.Prelude.{ℕ, suc, ◌+◌, ◌&&◌, if◌then◌else◌, nat_le, nat_lt, Bool, List, ◌++◌, slice_set}
use Rattle.sh_base.specs.{declared.config.ConfigParts.{ConfigParts}, Layout.{lock_of, first_node}}
use Rattle.sh_map.specs.declared.log.Entry.{Entry}
use Rattle.sh_state.specs.TreeState.{Class, Fresh, Linked, ParentLink, Posted, Skipped, Seat, LockState, Held, TreeState, put}

-- a lock has another holder, or its holder's WRITE went on
abbrev pub with_hold : TreeState → (lock : ℕ) → LockState → TreeState
with_hold s lock x = record s { hold = put s.hold lock x }

-- a word of a seat's own node is stored
abbrev pub filled : TreeState → (n offset word : ℕ) → TreeState
filled s n offset word = record s { node = put s.node n (slice_set (s.node n) offset word) }

-- whether a node is of the chunk
abbrev pub in_chunk : ConfigParts → (server chunk n : ℕ) → Bool
in_chunk p server chunk n = nat_le (first_node p server chunk) n && nat_lt n (first_node p server chunk + p.chunk_nodes)

-- a server's counter is counted on
abbrev pub counted : TreeState → (server : ℕ) → TreeState
counted s server = record s { counter = put s.counter server (s.counter server + 1) }

-- a chunk is drawn: its nodes are the seat's own
abbrev pub drawn : ConfigParts → TreeState → (server seat : ℕ) → TreeState
drawn p s server seat = record s { class = λ n. if in_chunk p server (s.counter server) n then Fresh seat else s.class n; counter = put s.counter server (s.counter server + 1) }

-- the post of a node is skipped
abbrev pub skipped : TreeState → (n seat : ℕ) → TreeState
skipped s n seat = record s { post = put s.post n (Skipped seat) }

-- The last store of a WRITE: its image stands, and what is linked, posted and logged may change with it.
abbrev pub ended : ConfigParts → TreeState → (n seat depth : ℕ) → List ℕ → (class : ℕ → Class) → (post : ℕ → ParentLink) → List Entry → TreeState
ended p s n seat depth image class post more = record { node = put s.node n image; class = class; post = post; hold = put s.hold (lock_of p n) (Held (Seat seat) depth); counter = s.counter; root = s.root; height = s.height; log = s.log ++ more }

-- the node r is hung in above the root, and the node n is posted by it
abbrev pub grown : TreeState → (r n : ℕ) → TreeState
grown s r n = record s { class = put s.class r (Linked (suc s.height) 0); post = put s.post n Posted; root = r; height = suc s.height }
