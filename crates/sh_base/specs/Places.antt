-- What a word of the pool belongs to, and where it lies.
use Rattle.std.specs.Prelude.{◌≡◌, ◌≢◌, ℕ, ◌+◌, ◌-◌, ◌<◌, ◌≤◌, List, slice_index, slice_set}
use Rattle.sh_base.specs.{declared.config.ConfigParts.{ConfigParts}, Setting.{all_locks, entry_size, node_size, pool_words, IsNode}}
use Rattle.sh_base.specs.Layout.{root_word, counter_word, lock_word, node_word, entry_at, rear_at, node_part, entry_part}

pub data Site : Type 0 where
  Own : Site
  Root : Site
  Counter : (server : ℕ) → Site
  Lock : (lock : ℕ) → Site
  Node : (n offset : ℕ) → Site

abbrev pub address : ConfigParts → Site → ℕ
address p Own = 0
address p Root = root_word
address p (Counter server) = counter_word p server
address p (Lock lock) = lock_word p lock
address p (Node n offset) = node_word p n + offset

-- a place of this setting
abbrev pub IsSite : ConfigParts → Site → Type 0
IsSite p Own = Unit {0}
IsSite p Root = Unit {0}
IsSite p (Counter server) = server < p.servers
IsSite p (Lock lock) = lock < all_locks p
IsSite p (Node n offset) = IsNode p n × (offset < node_size p)

-- Places lie in the pool, each at an address of its own, and each word of the pool is a place.
pub record ArePlacesApart (p : ConfigParts) : Type 0 where
  pub within : (a : Site) → IsSite p a → address p a < pool_words p
  pub apart : (a b : Site) → IsSite p a → IsSite p b → address p a ≡ address p b → a ≡ b
  pub whole : (i : ℕ) → i < pool_words p → (a : Site) × IsSite p a × (address p a ≡ i)

-- a place that is no word of a node
abbrev pub IsBelowNodes : Site → Type 0
IsBelowNodes (Node n offset) = ⊥
IsBelowNodes a = Unit {0}

-- an offset in a node that is a word of entry i
pub record IsInEntry (p : ConfigParts) (i offset : ℕ) : Type 0 where
  pub from : entry_at p i ≤ offset
  pub below : offset < entry_at p i + entry_size p

-- A store of one word changes no other place; of the nodes it changes the one that it is in, and there the word at its
-- offset alone; and of a leaf's entries the one that it is in, and there the word at its offset alone.
pub record StoresKeepApart (p : ConfigParts) : Type 0 where
  pub place : (words : List ℕ) (a b : Site) (word : ℕ) → IsSite p a → IsSite p b → a ≢ b → slice_index (slice_set words (address p a) word) (address p b) ≡ slice_index words (address p b)
  pub node : (words : List ℕ) (n m offset word : ℕ) → IsNode p n → IsNode p m → n ≢ m → offset < node_size p → node_part p (slice_set words (node_word p m + offset) word) n ≡ node_part p words n
  pub below : (words : List ℕ) (a : Site) (n word : ℕ) → IsSite p a → IsBelowNodes a → node_part p (slice_set words (address p a) word) n ≡ node_part p words n
  pub own : (words : List ℕ) (n offset word : ℕ) → offset < node_size p → node_part p (slice_set words (node_word p n + offset) word) n ≡ slice_set (node_part p words n) offset word
  pub entry : (part : List ℕ) (i j offset word : ℕ) → IsInEntry p i offset → j ≢ i → entry_part p (slice_set part offset word) j ≡ entry_part p part j
  pub own_entry : (part : List ℕ) (i offset word : ℕ) → IsInEntry p i offset → entry_part p (slice_set part offset word) i ≡ slice_set (entry_part p part i) (offset - entry_at p i) word
  pub header : (part : List ℕ) (i offset word : ℕ) → offset < 6 → entry_part p (slice_set part offset word) i ≡ entry_part p part i
  pub rear : (part : List ℕ) (i word : ℕ) → i < p.leaf → entry_part p (slice_set part (rear_at p) word) i ≡ entry_part p part i
