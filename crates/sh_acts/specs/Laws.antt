-- The laws of acts: what each leaves of the tree and to the others, one law for each.
use Rattle.std.specs.Prelude.{◌≡◌, ◌≢◌, ◌+◌, ◌<◌, ◌≤◌, ℕ, List, ◌-◌, ◌^◌, suc, slice_index, ◌*◌, [], ◌∷◌, length, slice_set}
use Rattle.sh_base.specs.{Setting.{all_seats, node_size, all_locks, nodes, last_version}, Layout.{counter_word, node_word, root_word, lock_word, lock_of, compute_of, entry_at, entry_rear_at, rear_at}}
use Rattle.sh_base.specs.{Memory.{apply}, declared.{event.Event.TheVariants.{Store, Add, Exchange}, config.ConfigParts.{ConfigParts}}}
use Rattle.sh_state.specs.{TreeState.{TreeState, Fresh, Nobody, Held, Writes, Seat, Owner, owner_word, writing, Linked, Pending, Posted, put}, Ground.{Ground, IsInChunk}, Change.{Change, ChangeFor}}
use Rattle.sh_state.specs.Nodes.{standing_entries, standing_pairs}
use Rattle.sh_acts.specs.{Acts.{filled, counted, drawn, with_hold, skipped, grown, ended}, Counters.{Bounded, IsAmong}, Laid.{laid_scene}, Stores.{GoesOn}, Images.{patched, IsEntryOf, IsPairOf}}
use Rattle.sh_image.specs.{Laid.{AreLaid}, Inner.{inner_words, Inner, IsInner, inner_in}, declared.{leaf.LeafEntry.{LeafEntry}, inner.Pair.{Pair}}, Entries.{entry_words}}
use Rattle.sh_image.specs.Leaf.{Leaf, IsEntry, IsLeaf, leaf_in, leaf_words}
use Rattle.sh_edit.specs.{Pairing.{root_over, with_pair, middle_of, left_inner, right_inner, IsNewSeparator}, Held.{key_at, map_of_entries, HasKeysOnce}, Placing.{IsFirstWith, LacksKey}}
use Rattle.sh_edit.specs.Splitting.{left_half, right_half, separator_of, IsSplit}
use Rattle.sh_read.specs.Moments.{IsNodeMoment, Writing, Idle, Whole, One, IsVersioned, IsWriting}
use Rattle.sh_map.specs.{declared.log.{Change.TheVariants.{Put}, Entry.{Entry}}, Map.{put as put_key, del}, Log.{changed}}

-- ---- own nodes
abbrev pub OwnNodesFill : ConfigParts → Type 0
OwnNodesFill p = (words : List ℕ) (s : TreeState) (seat n offset word : ℕ) → Ground p words s → s.class n ≡ Fresh seat → offset < node_size p → Change p seat s (filled s n offset word) × Ground p (apply words (Store (node_word p n + offset) word)) (filled s n offset word)

abbrev pub ChunksAreDrawn : ConfigParts → Type 0
ChunksAreDrawn p = (words : List ℕ) (s : TreeState) (seat server : ℕ) → Ground p words s → server < p.servers → s.counter server < p.chunks → Change p seat s (drawn p s server seat) × Ground p (apply words (Add (counter_word p server))) (drawn p s server seat)

abbrev pub DrawnNodesAreOwn : ConfigParts → Type 0
DrawnNodesAreOwn p = (s : TreeState) (seat server n : ℕ) → IsInChunk p server (s.counter server) n → (drawn p s server seat).class n ≡ Fresh seat

abbrev pub SpentCountersCount : ConfigParts → Type 0
SpentCountersCount p = (words : List ℕ) (s : TreeState) (seat server : ℕ) → Ground p words s → server < p.servers → s.counter server ≤ p.chunks + all_seats p → Change p seat s (counted s server) × Ground p (apply words (Add (counter_word p server))) (counted s server)

abbrev pub CountersAreBounded : Type 0
CountersAreBounded = (limit seats counter : ℕ) (wants : List ℕ) → Bounded limit seats counter (λ i. IsAmong i wants) → counter ≤ limit + seats

abbrev pub FoundBelowIsBounded : Type 0
FoundBelowIsBounded = (limit seats counter seat : ℕ) (wants now : List ℕ) → Bounded limit seats counter (λ i. IsAmong i wants) → counter < limit → ((j : ℕ) → j ≢ seat → IsAmong j now → IsAmong j wants) → Bounded limit seats counter (λ i. IsAmong i now)

abbrev pub RaisedIsBounded : Type 0
RaisedIsBounded = (limit seats counter seat : ℕ) (wants now : List ℕ) → Bounded limit seats counter (λ i. IsAmong i wants) → seat < seats → IsAmong seat wants → (IsAmong seat now → ⊥) → ((j : ℕ) → j ≢ seat → IsAmong j now → IsAmong j wants) → Bounded limit seats (counter + 1) (λ i. IsAmong i now)

-- ---- laid pool
abbrev pub LaidPoolsHaveScenes : ConfigParts → Type 0
LaidPoolsHaveScenes p = (words : List ℕ) → AreLaid p words → Ground p words (laid_scene p)

abbrev pub BoundedBegins : Type 0
BoundedBegins = (limit seats counter : ℕ) (wants : List ℕ) → counter ≤ limit → Bounded limit seats counter (λ i. IsAmong i wants)

-- ---- locks change hands
abbrev pub ZeroLocksAreFree : ConfigParts → Type 0
ZeroLocksAreFree p = (words : List ℕ) (s : TreeState) (lock : ℕ) → Ground p words s → lock < all_locks p → slice_index words (lock_word p lock) ≡ 0 → s.hold lock ≡ Nobody

abbrev pub FreeLocksAreTaken : ConfigParts → Type 0
FreeLocksAreTaken p = (words : List ℕ) (s : TreeState) (seat lock : ℕ) → Ground p words s → lock < all_locks p → s.hold lock ≡ Nobody → Change p seat s (with_hold s lock (Held (Seat seat) 0)) × Ground p (apply words (Exchange (lock_word p lock) 0 (compute_of p seat + 1))) (with_hold s lock (Held (Seat seat) 0))

abbrev pub HeldLocksAreMissed : ConfigParts → Type 0
HeldLocksAreMissed p = (words : List ℕ) (s : TreeState) (lock new : ℕ) → Ground p words s → lock < all_locks p → s.hold lock ≢ Nobody → apply words (Exchange (lock_word p lock) 0 new) ≡ words

abbrev pub LocksAreGivenBack : ConfigParts → Type 0
LocksAreGivenBack p = (words : List ℕ) (s : TreeState) (seat lock depth : ℕ) → Ground p words s → lock < all_locks p → s.hold lock ≡ Held (Seat seat) depth → Change p seat s (with_hold s lock Nobody) × Ground p (apply words (Store (lock_word p lock) 0)) (with_hold s lock Nobody)

abbrev pub RightsAreHanded : ConfigParts → Type 0
RightsAreHanded p = (words : List ℕ) (s : TreeState) (lock depth now : ℕ) (from to : Owner) → Ground p words s → s.hold lock ≡ Held from depth → owner_word p from ≡ owner_word p to → now ≤ p.bound → ChangeFor p (λ o. (o ≢ from) × (o ≢ to)) s (with_hold s lock (Held to now)) × Ground p words (with_hold s lock (Held to now))

-- ---- writes go on
abbrev pub LinkedNodesHaveMoments : ConfigParts → Type 0
LinkedNodesHaveMoments p = (words : List ℕ) (s : TreeState) (n level low : ℕ) → Ground p words s → s.class n ≡ Linked level low → IsNodeMoment p level (s.node n) (writing p s n)

abbrev pub HeldNodesStand : ConfigParts → Type 0
HeldNodesStand p = (words : List ℕ) (s : TreeState) (n level low depth offset : ℕ) (owner : Owner) → Ground p words s → s.class n ≡ Linked level low → s.hold (lock_of p n) ≡ Held owner depth → offset < node_size p → slice_index words (node_word p n + offset) ≡ slice_index (s.node n) offset

abbrev pub WritesBegin : ConfigParts → Type 0
WritesBegin p = (words : List ℕ) (s : TreeState) (seat depth n level low offset word : ℕ) (v : Writing) → Ground p words s → s.class n ≡ Linked level low → s.hold (lock_of p n) ≡ Held (Seat seat) depth → GoesOn p level (s.node n) Idle v offset word → Change p seat s (with_hold s (lock_of p n) (Writes seat depth n v)) × Ground p (apply words (Store (node_word p n + offset) word)) (with_hold s (lock_of p n) (Writes seat depth n v))

abbrev pub WritesGoOn : ConfigParts → Type 0
WritesGoOn p = (words : List ℕ) (s : TreeState) (seat depth n level low offset word : ℕ) (w v : Writing) → Ground p words s → s.class n ≡ Linked level low → s.hold (lock_of p n) ≡ Writes seat depth n w → GoesOn p level (s.node n) w v offset word → Change p seat s (with_hold s (lock_of p n) (Writes seat depth n v)) × Ground p (apply words (Store (node_word p n + offset) word)) (with_hold s (lock_of p n) (Writes seat depth n v))

-- ---- posts and roots
abbrev pub PostsAreSkipped : ConfigParts → Type 0
PostsAreSkipped p = (words : List ℕ) (s : TreeState) (seat n level low : ℕ) → Ground p words s → s.class n ≡ Linked level low → 0 < low → s.post n ≡ Pending seat → Change p seat s (skipped s n seat) × Ground p words (skipped s n seat)

abbrev pub LevelsAreFewer : ConfigParts → Type 0
LevelsAreFewer p = (words : List ℕ) (s : TreeState) (seat n : ℕ) → Ground p words s → s.class n ≡ Fresh seat → s.height + 1 < nodes p

abbrev pub RootsAreExchanged : ConfigParts → Type 0
RootsAreExchanged p = (words : List ℕ) (s : TreeState) (seat root n child separator : ℕ) → Ground p words s → s.root ≡ n → s.class child ≡ Linked s.height separator → 0 < separator → separator < 2 ^ 64 - 1 → s.post child ≡ Pending seat → s.class root ≡ Fresh seat → s.node root ≡ inner_words p (root_over (suc s.height) n separator child) → Change p seat s (grown s root child) × Ground p (apply words (Exchange root_word n root)) (grown s root child)

abbrev pub OtherRootsAreMissed : ConfigParts → Type 0
OtherRootsAreMissed p = (words : List ℕ) (s : TreeState) (n root : ℕ) → Ground p words s → s.root ≢ n → apply words (Exchange root_word n root) ≡ words

-- ---- writes rise
abbrev pub LeavesAreVersioned : ConfigParts → Type 0
LeavesAreVersioned p = (a : Leaf) → IsLeaf p a → IsVersioned p 0 (leaf_words a)

abbrev pub InnersAreVersioned : ConfigParts → Type 0
InnersAreVersioned p = (level : ℕ) (a : Inner) → IsInner p a → IsVersioned p (suc level) (inner_words p a)

abbrev pub NodeWritesBegin : ConfigParts → Type 0
NodeWritesBegin p = (level : ℕ) (node new : List ℕ) → IsVersioned p level new → slice_index node 0 < slice_index new 0 → GoesOn p level node Idle (Whole new 1) 0 (slice_index new 0)

abbrev pub NodeWritesGoOn : ConfigParts → Type 0
NodeWritesGoOn p = (level done : ℕ) (node new : List ℕ) → IsWriting p level node (Whole new done) → done < rear_at p → GoesOn p level node (Whole new done) (Whole new (done + 1)) done (slice_index new done)

abbrev pub EntryWritesBegin : ConfigParts → Type 0
EntryWritesBegin p = (i : ℕ) (node new : List ℕ) → i < p.leaf → slice_index node (entry_at p i) < slice_index new 0 → slice_index new (2 + p.value_words) ≡ slice_index new 0 → GoesOn p 0 node Idle (One i new 1) (entry_at p i) (slice_index new 0)

abbrev pub EntryWritesGoOn : ConfigParts → Type 0
EntryWritesGoOn p = (i done : ℕ) (node new : List ℕ) → IsWriting p 0 node (One i new done) → done < 2 + p.value_words → GoesOn p 0 node (One i new done) (One i new (done + 1)) (entry_at p i + done) (slice_index new done)

-- ---- entries change
abbrev pub EntryOverIsPut : Type 0
EntryOverIsPut = (es : List LeafEntry) (i : ℕ) (x : LeafEntry) → x.key ≢ 0 → IsFirstWith es x.key i → map_of_entries (slice_set es i x) ≡ put_key (map_of_entries es) x.key x.value

abbrev pub NewEntryIsPut : Type 0
NewEntryIsPut = (es : List LeafEntry) (i : ℕ) (x : LeafEntry) → x.key ≢ 0 → LacksKey es x.key → IsFirstWith es 0 i → map_of_entries (slice_set es i x) ≡ put_key (map_of_entries es) x.key x.value

abbrev pub EmptiedEntryIsDel : Type 0
EmptiedEntryIsDel = (es : List LeafEntry) (i key : ℕ) (x : LeafEntry) → x.key ≡ 0 → key ≢ 0 → HasKeysOnce es → IsFirstWith es key i → map_of_entries (slice_set es i x) ≡ del (map_of_entries es) key

abbrev pub KeysStayOnce : Type 0
KeysStayOnce = (es : List LeafEntry) (i : ℕ) (x : LeafEntry) → i < length es → HasKeysOnce es → ((j : ℕ) → j < length es → j ≢ i → key_at es j ≡ x.key → x.key ≡ 0) → HasKeysOnce (slice_set es i x)

-- ---- leaf writes end
abbrev pub EntryWritesEnd : ConfigParts → Type 0
EntryWritesEnd p = (words : List ℕ) (s : TreeState) (seat depth n low i : ℕ) (entry : Entry) (x : LeafEntry) → Ground p words s → IsEntryOf s seat n low entry → i < p.leaf → s.hold (lock_of p n) ≡ Writes seat depth n (One i (entry_words x) (2 + p.value_words)) → IsEntry p (slice_index (s.node n) 2) (slice_index (s.node n) 3) x → HasKeysOnce (slice_set (standing_entries p (s.node n)) i x) → map_of_entries (slice_set (standing_entries p (s.node n)) i x) ≡ changed (map_of_entries (standing_entries p (s.node n))) entry.change → Change p seat s (ended p s n seat depth (patched (s.node n) (entry_at p i) (entry_words x)) s.class s.post (entry ∷ [])) × Ground p (apply words (Store (node_word p n + entry_rear_at p i) (slice_index (entry_words x) (2 + p.value_words)))) (ended p s n seat depth (patched (s.node n) (entry_at p i) (entry_words x)) s.class s.post (entry ∷ []))

abbrev pub LeafWritesEnd : ConfigParts → Type 0
LeafWritesEnd p = (words : List ℕ) (s : TreeState) (seat depth n low : ℕ) (entry : Entry) (a : Leaf) → Ground p words s → IsEntryOf s seat n low entry → s.hold (lock_of p n) ≡ Writes seat depth n (Whole (leaf_words a) (rear_at p)) → IsLeaf p a → a.low ≡ slice_index (s.node n) 2 → a.high ≡ slice_index (s.node n) 3 → a.next ≡ slice_index (s.node n) 4 → HasKeysOnce a.entries → map_of_entries a.entries ≡ changed (map_of_entries (standing_entries p (s.node n))) entry.change → Change p seat s (ended p s n seat depth (leaf_words a) s.class s.post (entry ∷ [])) × Ground p (apply words (Store (node_word p n + rear_at p) (slice_index (leaf_words a) (rear_at p)))) (ended p s n seat depth (leaf_words a) s.class s.post (entry ∷ []))

abbrev pub LeafSplitsEnd : ConfigParts → Type 0
LeafSplitsEnd p = (words : List ℕ) (s : TreeState) (seat depth n low r key : ℕ) (value : List ℕ) (entry : Entry) (a : Leaf) → Ground p words s → IsEntryOf s seat n low entry → a ≡ leaf_in p (s.node n) → entry.change ≡ Put key value → s.hold (lock_of p n) ≡ Writes seat depth n (Whole (leaf_words (left_half a key value r)) (rear_at p)) → s.class r ≡ Fresh seat → s.node r ≡ leaf_words (right_half a key value) → IsSplit a key → length value ≡ p.value_words → a.version < last_version p → Change p seat s (ended p s n seat depth (leaf_words (left_half a key value r)) (put s.class r (Linked 0 (separator_of a.entries key value))) (put s.post r (Pending seat)) (entry ∷ [])) × Ground p (apply words (Store (node_word p n + rear_at p) (slice_index (leaf_words (left_half a key value r)) (rear_at p)))) (ended p s n seat depth (leaf_words (left_half a key value r)) (put s.class r (Linked 0 (separator_of a.entries key value))) (put s.post r (Pending seat)) (entry ∷ []))

-- ---- inner writes end
abbrev pub LevelAndFenceNameOne : ConfigParts → Type 0
LevelAndFenceNameOne p = (words : List ℕ) (s : TreeState) (m n level low : ℕ) → Ground p words s → s.class m ≡ Linked level low → s.class n ≡ Linked level low → m ≡ n

abbrev pub PostedSeparatorsAreNew : ConfigParts → Type 0
PostedSeparatorsAreNew p = (words : List ℕ) (s : TreeState) (seat n level low : ℕ) (x : Pair) → Ground p words s → IsPairOf s seat n level low x → IsNewSeparator (standing_pairs (s.node n)) x.separator

abbrev pub PairWritesEnd : ConfigParts → Type 0
PairWritesEnd p = (words : List ℕ) (s : TreeState) (seat depth n level low : ℕ) (x : Pair) (a : Inner) → Ground p words s → IsPairOf s seat n level low x → a ≡ inner_in (s.node n) → s.hold (lock_of p n) ≡ Writes seat depth n (Whole (inner_words p (with_pair a x)) (rear_at p)) → length a.pairs < 2 * p.leaf → a.version < last_version p → Change p seat s (ended p s n seat depth (inner_words p (with_pair a x)) s.class (put s.post x.child Posted) []) × Ground p (apply words (Store (node_word p n + rear_at p) (slice_index (inner_words p (with_pair a x)) (rear_at p)))) (ended p s n seat depth (inner_words p (with_pair a x)) s.class (put s.post x.child Posted) [])

abbrev pub InnerSplitsEnd : ConfigParts → Type 0
InnerSplitsEnd p = (words : List ℕ) (s : TreeState) (seat depth n level low r : ℕ) (x : Pair) (a : Inner) → Ground p words s → IsPairOf s seat n level low x → a ≡ inner_in (s.node n) → s.hold (lock_of p n) ≡ Writes seat depth n (Whole (inner_words p (left_inner p.leaf a x r)) (rear_at p)) → s.class r ≡ Fresh seat → s.node r ≡ inner_words p (right_inner p.leaf a x) → length a.pairs ≡ 2 * p.leaf → a.version < last_version p → Change p seat s (ended p s n seat depth (inner_words p (left_inner p.leaf a x r)) (put s.class r (Linked (suc level) (middle_of p.leaf a.pairs x))) (put (put s.post x.child Posted) r (Pending seat)) []) × Ground p (apply words (Store (node_word p n + rear_at p) (slice_index (inner_words p (left_inner p.leaf a x r)) (rear_at p)))) (ended p s n seat depth (inner_words p (left_inner p.leaf a x r)) (put s.class r (Linked (suc level) (middle_of p.leaf a.pairs x))) (put (put s.post x.child Posted) r (Pending seat)) [])

-- ---- orders that break
abbrev pub EarlyUnlockBreaks : ConfigParts → Type 0
EarlyUnlockBreaks p = (words : List ℕ) (s : TreeState) (seat depth n level low : ℕ) (new : List ℕ) → Ground p words s → s.class n ≡ Linked level low → s.hold (lock_of p n) ≡ Writes seat depth n (Whole new 1) → slice_index (s.node n) 0 < slice_index new 0 → Ground p (apply words (Store (lock_word p (lock_of p n)) 0)) (with_hold s (lock_of p n) Nobody) → ⊥

abbrev pub RearFirstBreaks : ConfigParts → Type 0
RearFirstBreaks p = (level : ℕ) (node new : List ℕ) → IsVersioned p level node → IsVersioned p level new → slice_index node 0 < slice_index new 0 → GoesOn p level node Idle (Whole new 1) (rear_at p) (slice_index new (rear_at p)) → ⊥

abbrev pub UnwrittenHalfBreaks : ConfigParts → Type 0
UnwrittenHalfBreaks p = (words now : List ℕ) (s : TreeState) (seat depth n r separator : ℕ) (image : List ℕ) (more : List Entry) → Ground p words s → r ≢ n → slice_index (s.node r) 2 ≢ separator → Ground p now (ended p s n seat depth image (put s.class r (Linked 0 separator)) (put s.post r (Pending seat)) more) → ⊥

abbrev pub KeptNumberBreaks : ConfigParts → Type 0
KeptNumberBreaks p = (words now : List ℕ) (s : TreeState) (seat depth n level low r : ℕ) (image : List ℕ) (more : List Entry) → Ground p words s → s.class n ≡ Linked level low → s.class r ≡ Fresh seat → slice_index image 4 ≡ r → Ground p now (ended p s n seat depth image s.class (put s.post r (Pending seat)) more) → ⊥
