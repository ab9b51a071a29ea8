-- A READ of a node, fed its words one at a time from the last to the first.
use Rattle.std.specs.Prelude.{ℕ, ◌+◌, ◌-◌, if◌then◌else◌, nat_lt, List, [], ◌∷◌, ◌++◌, length, replicate, Option, Some, None}
use Rattle.sh_base.specs.{declared.config.ConfigParts.{ConfigParts}, Setting.{node_size}, Layout.{node_word}}
use Rattle.sh_image.specs.declared.{inner.Image.{Image, TheVariants.{Leaf as LeafImage, Inner as InnerImage}}, read.Seen.{Seen}}
use Rattle.sh_image.specs.declared.read.Seen.TheVariants.{Leaf as LeafSeen, Inner as InnerSeen, Torn, TornEntry, Odd as OddSeen}
use Rattle.sh_read.specs.{declared.state.Progress.{Progress, TheVariants.{More, Accepted, Again, Odd}}, Judging.{seen_of}}

-- the node that is read, and its last words that are loaded, in their order
pub record Reads : Type 0 where
  pub node : ℕ
  pub loaded : List ℕ

abbrev pub reads_with : (node : ℕ) (loaded : List ℕ) → Reads
reads_with node loaded = record { node = node; loaded = loaded }

-- a READ of a setting
pub record Reader : Type 0 where
  pub setting : ConfigParts
  pub reads : Reads

-- nothing is loaded yet
abbrev pub reads_start : (node : ℕ) → Reads
reads_start node = reads_with node []

-- the address of the word in front of those that are loaded, where there is one
abbrev pub wanted : ConfigParts → Reads → Option ℕ
wanted p r = if nat_lt (length r.loaded) (node_size p) then Some (node_word p r.node + (node_size p - 1 - length r.loaded)) else None

-- what is answered to all the words of a node
abbrev pub answer_to : Seen → Progress
answer_to (LeafSeen a) = Accepted
answer_to (InnerSeen a) = Accepted
answer_to (Torn rear front) = Again rear front
answer_to (TornEntry index rear front) = Again rear front
answer_to OddSeen = Odd

-- the READ behind that answer: words that are torn are loaded again, from the node's last one on
abbrev pub reads_left : Seen → Reads → Reads
reads_left (LeafSeen a) r = r
reads_left (InnerSeen a) r = r
reads_left (Torn rear front) r = reads_start r.node
reads_left (TornEntry index rear front) r = reads_start r.node
reads_left OddSeen r = r

-- the answer, and the READ behind it, of words that are loaded: they are judged where they are all
abbrev pub progress_with : ConfigParts → List ℕ → Progress
progress_with p words = if nat_lt (length words) (node_size p) then More else answer_to (seen_of p words)

abbrev pub judged : ConfigParts → Reads → Reads
judged p r = if nat_lt (length r.loaded) (node_size p) then r else reads_left (seen_of p r.loaded) r

-- a READ is fed the word that it wanted: the answer, and the READ behind it
abbrev pub progress_of : ConfigParts → Reads → (word : ℕ) → Progress
progress_of p r word = progress_with p (word ∷ r.loaded)

abbrev pub read_fed : ConfigParts → Reads → (word : ℕ) → Reads
read_fed p r word = judged p (reads_with r.node (word ∷ r.loaded))

-- the image of the node whose words are loaded, where they were accepted
abbrev pub image_in : Seen → Option Image
image_in (LeafSeen a) = Some (LeafImage a)
image_in (InnerSeen a) = Some (InnerImage a)
image_in (Torn rear front) = None
image_in (TornEntry index rear front) = None
image_in OddSeen = None

abbrev pub accepted : ConfigParts → Reads → Option Image
accepted p r = if nat_lt (length r.loaded) (node_size p) then None else image_in (seen_of p r.loaded)

-- how many words are left to load, from the node's first one on
abbrev pub left_in : ConfigParts → List ℕ → ℕ
left_in p loaded = node_size p - length loaded

-- the words that are loaded, each in its place in the node, and 0 in front of them
abbrev pub in_place : ConfigParts → List ℕ → List ℕ
in_place p loaded = replicate (left_in p loaded) 0 ++ loaded
