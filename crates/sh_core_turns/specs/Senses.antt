-- The senseless cases: turns in which a client makes nothing of the word that it is fed, and starts again. They are said by
-- the client alone; no client of a pool comes to one.
use Rattle.std.specs.Prelude.{◌≡◌, ℕ, ◌&&◌, not, if◌then◌else◌, Bool, true, false, List, [], ◌∷◌, Option, Some, None}
use Rattle.sh_base.specs.{declared.{config.ConfigParts.{ConfigParts}, event.Event.{Event}}, Memory.{found_by}}
use Rattle.sh_map.specs.declared.{call.Call.{Call, TheVariants.{Range}}, log.Entry.{Entry as LogEntry}, book.Row.{Row}}
use Rattle.sh_image.specs.{Leaf.{Leaf}, declared.inner.Image.{Image, TheVariants.{Leaf as LeafImage, Inner as InnerImage}}}
use Rattle.sh_alloc.specs.{declared.state.ChunkWant.{ChunkWant}, Walks.{walk_fed, walk_wants}}
use Rattle.sh_alloc.specs.declared.state.ChunkWant.TheVariants as chunk
use Rattle.sh_read.specs.{declared.state.Progress.{Progress, TheVariants.{More, Accepted, Again, Odd}}, Reads.{accepted, progress_of, read_fed}}
use Rattle.sh_descend.specs.{Descent.{hop_of}, declared.Hop.{Hop, TheVariants.{Here, Right, Down, Restart}}}
use Rattle.sh_decide.specs.{declared.state.Aim.{Aim, TheVariants.{Own, Gathers, Posts}}, Aims.{aimed_key, end_of, is_node, takes_lock, target}, Leaves.{are_keys_once}, Deciding.{has_separator}}
use Rattle.sh_decide.specs.Ways.{is_below}
use Rattle.sh_client.specs.declared.state.{Need.{Need, TheVariants.{ToSplit}}, Phase.{Phase, TheVariants.{Root, Read, ReadLocked, Seek, Waiting}}, Then.{Then, TheVariants.{Starts}}, Write.{Write}}
use Rattle.sh_client.specs.{declared.state.Write.TheVariants.{Nothing}, Machine.{Machine}, Ranges.{is_whole, rows_with}, Wants.{want_of}, Feeds.{fed_by}}
use Rattle.sh_client.specs.declared.state.Want.TheVariants as want
use Rattle.sh_core.specs.{Actors.{Actor}, Core.{Inv}}

-- ---- an image that was READ without a lock

-- a range is to go on behind the leaf's rows, to a number that names no node
abbrev pub strays_beyond : ConfigParts → Call → List Row → (place : ℕ) → Leaf → Bool
strays_beyond p call rows place a = if is_whole p.rows (end_of call) a.high (rows_with p call place (LeafImage a) rows) then false else not (is_node p a.next)

abbrev pub is_range : Call → Bool
is_range (Range low high) = true
is_range call = false

-- it is an inner node, where a get or a range looks for its leaf; or a range strays behind it, or gathers no rows
abbrev pub lacks_answer : ConfigParts → Call → List Row → Aim → Image → Bool
lacks_answer p call rows (Gathers place) (LeafImage a) = strays_beyond p call rows place a
lacks_answer p call rows (Posts post) (LeafImage a) = false
lacks_answer p call rows Own (LeafImage a) = is_range call
lacks_answer p call rows aim (InnerImage a) = not (takes_lock call aim)

-- its hop is Restart, or to a number that names no node
abbrev pub strays_by : ConfigParts → Call → List Row → Aim → Image → Hop → Bool
strays_by p call rows aim image Here = lacks_answer p call rows aim image
strays_by p call rows aim image (Right next) = not (is_node p next)
strays_by p call rows aim image (Down child) = not (is_node p child)
strays_by p call rows aim image Restart = true

-- no hop is asked of the root that a new root goes over
abbrev pub strays : ConfigParts → Call → List Row → Aim → (top : Bool) → Image → Bool
strays p call rows aim top image = if top && is_below aim image then false else strays_by p call rows aim image (hop_of image (aimed_key call aim) (target aim))

-- ---- an image that was READ under its lock

-- it is an inner node where an update looks for its leaf, or a leaf where a post looks for an inner node; a range has none
abbrev pub is_other_kind : Aim → Image → Bool
is_other_kind Own (LeafImage a) = false
is_other_kind Own (InnerImage a) = true
is_other_kind (Gathers place) image = true
is_other_kind (Posts post) (LeafImage a) = true
is_other_kind (Posts post) (InnerImage a) = false

-- it covers the key, and is of the other kind, or has a key twice, or has the separator of the post already
abbrev pub is_wrong_here : Aim → Image → Bool
is_wrong_here Own (LeafImage a) = not (are_keys_once a.entries)
is_wrong_here (Posts post) (InnerImage a) = has_separator a.pairs post.separator
is_wrong_here aim image = is_other_kind aim image

-- or its hop is down, or Restart, or to a number that names no node
abbrev pub is_wrong_by : ConfigParts → Aim → Image → Hop → Bool
is_wrong_by p aim image Here = is_wrong_here aim image
is_wrong_by p aim image (Right next) = not (is_node p next)
is_wrong_by p aim image (Down child) = true
is_wrong_by p aim image Restart = true

abbrev pub is_wrong : ConfigParts → Call → Aim → Image → Bool
is_wrong p call aim image = is_wrong_by p aim image (hop_of image (aimed_key call aim) (target aim))

-- ---- a turn

-- the image of a READ; there has to be one
abbrev pub of_image : (senseless : Image → Bool) → Option Image → Bool
of_image senseless (Some image) = senseless image
of_image senseless None = true

-- what a READ comes to: the words spell no node, or else it is as these say where they are torn and where they spell one
abbrev pub of_read : (torn whole : Bool) → Progress → Bool
of_read torn whole More = false
of_read torn whole Accepted = whole
of_read torn whole (Again rear front) = torn
of_read torn whole Odd = true

-- a walk that found a chunk: the node in hand is to be split
abbrev pub of_walk : (split : Bool) → ChunkWant → Bool
of_walk split (chunk.Got server chunk) = split
of_walk split want = false

-- the node in hand is to be split, and is of the other kind
abbrev pub splits_other_kind : Machine → Need → Bool
splits_other_kind m (ToSplit aim depth) = of_image (λ (x : Image). is_other_kind aim x) (accepted m.setting m.registers.reads)
splits_other_kind m need = false

-- Fed this word, a client does so: at the root word with a number that names no node; in a READ, which under a lock may
-- not be torn either; and with a chunk for the split of a node of the other kind.
abbrev pub is_senseless_in : Machine → (word : ℕ) → Phase → Bool
is_senseless_in m word (Root aim) = not (is_node m.setting word)
is_senseless_in m word (Read aim top) = of_read false (of_image (λ (x : Image). strays m.setting m.registers.call m.registers.rows aim top x) (accepted m.setting (read_fed m.setting m.registers.reads word))) (progress_of m.setting m.registers.reads word)
is_senseless_in m word (ReadLocked aim depth) = of_read true (of_image (λ (x : Image). is_wrong m.setting m.registers.call aim x) (accepted m.setting (read_fed m.setting m.registers.reads word))) (progress_of m.setting m.registers.reads word)
is_senseless_in m word (Seek need) = of_walk (splits_other_kind m need) (walk_wants m.setting (walk_fed m.setting m.registers.walk word))
is_senseless_in m word phase = false

abbrev pub is_senseless : Machine → (word : ℕ) → Bool
is_senseless m word = is_senseless_in m word m.phase

-- ---- what a client does then

abbrev pub is_at_root : Phase → Bool
is_at_root (Root aim) = true
is_at_root phase = false

-- its lock is given back with nothing written, and its descent or its post starts again
abbrev pub starts_unwritten : Write → Then → Bool
starts_unwritten Nothing (Starts aim) = true
starts_unwritten write after = false

abbrev pub gives_back : Phase → Bool
gives_back (Waiting depth giving) = starts_unwritten giving.write giving.after
gives_back phase = false

-- or its READ under the lock begins again
abbrev pub is_none : List ℕ → Bool
is_none [] = true
is_none (x ∷ loaded) = false

abbrev pub leaves_off : Phase → (loaded : List ℕ) → Bool
leaves_off (ReadLocked aim depth) loaded = is_none loaded
leaves_off phase loaded = gives_back phase

-- Behind one of these turns a client is at the root word, or on its way there, or at the begin of its READ.
abbrev pub starts_again : Phase → Machine → Bool
starts_again (Root aim) m = is_at_root m.phase
starts_again (Read aim top) m = is_at_root m.phase
starts_again (ReadLocked aim depth) m = leaves_off m.phase m.registers.reads.loaded
starts_again (Seek need) m = gives_back m.phase
starts_again phase m = false

-- only an update and a post take a lock
abbrev pub IsMade : Call → Phase → Type 0
IsMade call (ReadLocked aim depth) = takes_lock call aim ≡ true
IsMade call phase = Unit {0}

-- a client starts again in the senseless cases, and in no other
abbrev pub AreAllCases : Type 0
AreAllCases = (m : Machine) (word : ℕ) → IsMade m.registers.call m.phase → is_senseless m word ≡ starts_again m.phase (fed_by m word)

-- What a wanted event finds is never senseless, whatever the order of the clients' turns.
abbrev pub NeverSenseless : ConfigParts → Type 1
NeverSenseless p = (words : List ℕ) (log : List LogEntry) (Has : ℕ → Actor → Type 0) (Out : ℕ → ℕ → ℕ → Type 0) (seat : ℕ) (a : Actor) (e : Event) → Inv p words log Has Out → Has seat a → want_of a.client ≡ want.Event e
    → is_senseless a.client (found_by words e) ≡ false
