-- What an image answers to a call, and what is stored of it before its lock is given back.
use Rattle.std.specs.Prelude.{ℕ, ◌+◌, List, []}
use Rattle.sh_base.specs.declared.config.ConfigParts.{ConfigParts}
use Rattle.sh_map.specs.declared.call.{Call.{Call}, Reply.{Reply}}
use Rattle.sh_map.specs.declared.call.Reply.TheVariants as reply
use Rattle.sh_image.specs.{declared.{leaf.LeafEntry.{LeafEntry}, inner.{Pair.{Pair}, Image.{Image}}}, Entries.{entry_words}, Leaf.{Leaf, leaf_words}, Inner.{inner_words}}
use Rattle.sh_image.specs.declared.inner.Image.TheVariants.{Leaf as LeafImage, Inner as InnerImage}
use Rattle.sh_edit.specs.{Rewriting.{rewritten}, Pairing.{with_pair}}
use Rattle.sh_decide.specs.{declared.state.{Posting.{Posting}, Aim.{Aim, TheVariants.{Own, Gathers, Posts}}}, Aims.{call_key, written_key, written_value}, Leaves.{leaf_answer, version_at}}

-- an image's answer to the call; an inner node has no entries
abbrev pub answer_in : Call → Image → Reply
answer_in call (LeafImage a) = leaf_answer a.entries (call_key call)
answer_in call (InnerImage a) = reply.None

-- the pair that a post adds
abbrev pub pair_of : Posting → Pair
pair_of post = record { separator = post.separator; child = post.node }

-- an update's entry, with a version more
abbrev pub entry_left : ConfigParts → Call → Leaf → (index : ℕ) → LeafEntry
entry_left p call a index = record { version = version_at a.entries index + 1; key = written_key call; value = written_value p call }

-- what is stored: the entry alone, the rewritten leaf, or the inner node with the pair; of the other kind of node nothing
abbrev pub entry_body : ConfigParts → Call → (index : ℕ) → Image → List ℕ
entry_body p call index (LeafImage a) = entry_words (entry_left p call a index)
entry_body p call index (InnerImage a) = []

abbrev pub leaf_body : ConfigParts → Call → (index : ℕ) → Image → List ℕ
leaf_body p call index (LeafImage a) = leaf_words (rewritten a index (written_key call) (written_value p call))
leaf_body p call index (InnerImage a) = []

abbrev pub inner_body : ConfigParts → Aim → Image → List ℕ
inner_body p (Posts post) (InnerImage a) = inner_words p (with_pair a (pair_of post))
inner_body p (Posts post) (LeafImage a) = []
inner_body p Own image = []
inner_body p (Gathers place) image = []
