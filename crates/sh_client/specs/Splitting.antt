-- How a client gets a fresh node, and what it writes to it: the right half of a split, or a new root.
use Rattle.std.specs.Prelude.{ℕ, ◌+◌, ◌==◌, if◌then◌else◌, Option, Some, None}
use Rattle.sh_base.specs.{Setting.{node_size}, Layout.{first_node}}
use Rattle.sh_map.specs.declared.call.Reply.TheVariants as reply
use Rattle.sh_image.specs.{Leaf.{Leaf, leaf_words}, Inner.{Inner, inner_words}, declared.inner.Image.{Image, TheVariants.{Leaf as LeafImage, Inner as InnerImage}}}
use Rattle.sh_edit.specs.{Splitting.{left_half, right_half, separator_of}, Pairing.{left_inner, middle_of, right_inner, root_over}}
use Rattle.sh_alloc.specs.{declared.state.ChunkWant.{ChunkWant}, Spares.{lowest, nodes_from, with_lowest, without_lowest}, Walks.{walk_fed, walk_start, walk_wants}}
use Rattle.sh_alloc.specs.declared.state.ChunkWant.TheVariants as chunk
use Rattle.sh_read.specs.Reads.{accepted}
use Rattle.sh_decide.specs.{declared.state.{Posting.{Posting}, Aim.{Aim, TheVariants.{Own, Gathers, Posts}}}, Aims.{written_key, written_value, post_of}}
use Rattle.sh_client.specs.declared.state.{Then.{Then, TheVariants.{Ends, Starts}}, Write.{Write, TheVariants.{Nothing, LeftLeaf, LeftInner}}, Giving.{Giving}, Need.{Need}}
use Rattle.sh_client.specs.declared.state.{Need.TheVariants.{ToSplit, ToGrow}, Filling.{Filling, TheVariants.{RightHalf, NewRoot}}, Phase.TheVariants.{Root, Seek, Fill, Waiting, Swap, Ended}}
use Rattle.sh_client.specs.{Machine.{Machine, to, answering, sparing, skipped_spent}, Bodies.{pair_of}}

-- the walk over the counters begins
abbrev pub walking : Machine → Machine
walking m = record m { registers = record m.registers { walk = walk_start m.setting m.seat } }

-- the lock of a node is to be given back, with nothing written or behind a write
abbrev pub giving_of : (node : ℕ) → Write → Then → Giving
giving_of node write after = record { node = node; write = write; after = after }

-- both halves of a leaf, of which the right one is for the fresh node
abbrev pub halved_leaf : Machine → (depth fresh : ℕ) → Leaf → Machine
halved_leaf m depth fresh a =
    let key = written_key m.registers.call in
    let value = written_value m.setting m.registers.call in
    let posting = post_of (separator_of a.entries key value) fresh 1 in
    let registers = record m.registers { reply = reply.None; body = leaf_words (left_half a key value fresh); fresh_words = leaf_words (right_half a key value) } in
    record m { registers = registers; phase = Fill fresh 0 (RightHalf depth (giving_of m.registers.reads.node LeftLeaf (Starts (Posts posting)))) }

-- and of an inner node
abbrev pub halved_inner : Machine → Posting → (depth fresh : ℕ) → Inner → Machine
halved_inner m post depth fresh a =
    let new = pair_of post in
    let count = m.setting.leaf in
    let posting = post_of (middle_of count a.pairs new) fresh (a.level + 1) in
    let registers = record m.registers { body = inner_words m.setting (left_inner count a new fresh); fresh_words = inner_words m.setting (right_inner count a new) } in
    record m { registers = registers; phase = Fill fresh 0 (RightHalf depth (giving_of m.registers.reads.node LeftInner (Starts (Posts posting)))) }

-- a leaf is split for a put, and an inner node for a post; else the descent starts again
abbrev pub halved : Machine → Aim → (depth fresh : ℕ) → Image → Machine
halved m Own depth fresh (LeafImage a) = halved_leaf m depth fresh a
halved m (Posts post) depth fresh (InnerImage a) = halved_inner m post depth fresh a
halved m aim depth fresh image = to m (Waiting depth (giving_of m.registers.reads.node Nothing (Starts aim)))

-- the image of the READ is split with the fresh node
abbrev pub halved_by : Machine → Aim → (depth fresh : ℕ) → Option Image → Machine
halved_by m aim depth fresh (Some image) = halved m aim depth fresh image
halved_by m aim depth fresh None = to m (Waiting depth (giving_of m.registers.reads.node Nothing (Starts aim)))

-- a new root stands ready for the fresh node
abbrev pub raised : Machine → Posting → (root fresh : ℕ) → Machine
raised m post root fresh =
    let registers = record m.registers { fresh_words = inner_words m.setting (root_over post.level root post.separator post.node) } in
    record m { registers = registers; phase = Fill fresh 0 (NewRoot post root) }

-- with a fresh node the split or the new root goes on
abbrev pub with_fresh : Machine → (fresh : ℕ) → Need → Machine
with_fresh m fresh (ToSplit aim depth) = halved_by m aim depth fresh (accepted m.setting m.registers.reads)
with_fresh m fresh (ToGrow post root) = raised m post root fresh

-- the lowest spare node is taken, and where there is none a chunk is looked for
abbrev pub needing : Machine → Need → Option ℕ → Machine
needing m need (Some fresh) = with_fresh (sparing m (without_lowest m.registers.spare)) fresh need
needing m need None = to (walking m) (Seek need)

abbrev pub needs : Machine → Need → Machine
needs m need = needing m need (lowest m.registers.spare)

-- the root is a level too low for the post: a new one goes over it
abbrev pub root_grown : Machine → Aim → (root : ℕ) → Machine
root_grown m Own root = to m (Root Own)
root_grown m (Gathers place) root = to m (Root (Gathers place))
root_grown m (Posts post) root = needs m (ToGrow post root)

-- a chunk was found: its nodes are spare, but the lowest, which is taken at once
abbrev pub chunk_taken : Machine → (server chunk : ℕ) → Machine
chunk_taken m server chunk = sparing m (without_lowest (nodes_from (first_node m.setting server chunk) m.setting.chunk_nodes))

-- all chunks are spent: a put is full, and a post is skipped
abbrev pub all_spent : Machine → Need → Machine
all_spent m (ToSplit Own depth) = to (answering m reply.Full) (Waiting depth (giving_of m.registers.reads.node Nothing Ends))
all_spent m (ToSplit (Gathers place) depth) = to (answering m reply.Full) (Waiting depth (giving_of m.registers.reads.node Nothing Ends))
all_spent m (ToSplit (Posts post) depth) = to (skipped_spent m) (Waiting depth (giving_of m.registers.reads.node Nothing Ends))
all_spent m (ToGrow post root) = to (skipped_spent m) Ended

-- the walk goes on, has found a chunk, or has found that all are spent
abbrev pub sought_by : Machine → Need → ChunkWant → Machine
sought_by m need (chunk.Event e) = to m (Seek need)
sought_by m need (chunk.Got server chunk) = with_fresh (chunk_taken m server chunk) (first_node m.setting server chunk) need
sought_by m need chunk.AllSpent = all_spent m need

-- the walk is fed a word
abbrev pub walked : Machine → (word : ℕ) → Machine
walked m word = record m { registers = record m.registers { walk = walk_fed m.setting m.registers.walk word } }

abbrev pub sought : Machine → Need → (word : ℕ) → Machine
sought m need word = sought_by (walked m word) need (walk_wants m.setting (walk_fed m.setting m.registers.walk word))

-- behind the last word of a right half its node's lock is given back, and behind that of a new root the root word is exchanged
abbrev pub fill_done : Machine → (fresh : ℕ) → Filling → Machine
fill_done m fresh (RightHalf depth giving) = to m (Waiting depth giving)
fill_done m fresh (NewRoot post root) = to m (Swap post root fresh)

-- a word of the fresh node is stored
abbrev pub filled : Machine → (fresh done : ℕ) → Filling → Machine
filled m fresh done filling = if done + 1 == node_size m.setting then fill_done m fresh filling else to m (Fill fresh (done + 1) filling)

-- The exchange found this root. Where it isn't the old one the new root's node is spare again, and the post starts again.
abbrev pub swapped : Machine → Posting → (root fresh word : ℕ) → Machine
swapped m post root fresh word =
    if word == root then to m Ended else to (sparing m (with_lowest fresh m.registers.spare)) (Root (Posts post))
