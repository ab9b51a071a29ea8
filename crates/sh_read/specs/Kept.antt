-- What a READ keeps of its words.
use Rattle.std.specs.Prelude.{◌≡◌, ℕ, ◌≤◌, ◌==◌, if◌then◌else◌, List, take, drop, length, slice_index, Option, Some, None}
use Rattle.sh_base.specs.{declared.config.ConfigParts.{ConfigParts}, Setting.{node_size, IsNode}, Layout.{node_word}}
use Rattle.sh_image.specs.declared.{inner.Image.{Image}, read.Found.{Found, TheVariants.{Node, Torn, TornEntry, Odd as FoundOdd}}}
use Rattle.sh_read.specs.{declared.state.Progress.{Progress, TheVariants.{More, Accepted, Again, Odd}}, Reads.{Reader, reads_with, accepted}}

-- the node's words behind the first ones, which are left to load
abbrev pub loaded_in : ConfigParts → (left : ℕ) → List ℕ → List ℕ
loaded_in p left words = drop left (take (node_size p) words)

abbrev pub reader_of : ConfigParts → (node left : ℕ) → List ℕ → Reader
reader_of p node left words = record { setting = p; reads = reads_with node (loaded_in p left words) }

-- how many words are left to load behind an answer
abbrev pub left_after : Progress → (size : ℕ) → ℕ
left_after (Again rear front) size = size
left_after More size = 0
left_after Accepted size = 0
left_after Odd size = 0

-- what is answered to what was found in all the words
abbrev pub kept_answer : Found → Progress
kept_answer Node = Accepted
kept_answer (Torn rear front) = Again rear front
kept_answer (TornEntry index rear front) = Again rear front
kept_answer FoundOdd = Odd

-- the image of a node, by its level
abbrev pub image_at : (level : ℕ) (leaf inner : Image) → Image
image_at level leaf inner = if level == 0 then leaf else inner

-- this is the image, where there is one
abbrev pub KeepsImage : Option Image → Image → Type 0
KeepsImage (Some a) image = image ≡ a
KeepsImage None image = Unit {0}

-- the address of the node, the room, and, where all words are loaded, the image of those that were accepted
pub record IsKeptRead (p : ConfigParts) (node first left : ℕ) (words : List ℕ) (leaf inner : Image) : Type 0 where
  pub here : IsNode p node
  pub address : first ≡ node_word p node
  pub within : left ≤ node_size p
  pub room : length words ≡ 711
  pub found : left ≡ 0 → KeepsImage (accepted p (reads_with node (loaded_in p left words))) (image_at (slice_index words 1) leaf inner)
