-- What a READ answers to all the words of its node, each answer by its cause.
use Rattle.std.specs.Prelude.{◌⊎◌, ℕ, List}
use Rattle.sh_base.specs.declared.config.ConfigParts.{ConfigParts}
use Rattle.sh_image.specs.declared.{inner.Image.{Image}}
use Rattle.sh_image.specs.{declared.read.Seen.TheVariants.{Torn, TornEntry, Odd as OddSeen}, Seen.{SeenBy}, Node.{seen_as}}
use Rattle.sh_read.specs.declared.state.Progress.{Progress, TheVariants.{More, Accepted, Again, Odd}}

-- The words spell a node; the node's two versions differ, or those of the first such entry; or neither.
abbrev pub AnsweredBy : ConfigParts → List ℕ → Progress → Type 0
AnsweredBy p words More = ⊥
AnsweredBy p words Accepted = (image : Image) × SeenBy p words (seen_as image)
AnsweredBy p words (Again rear front) = SeenBy p words (Torn rear front) ⊎ ((index : ℕ) × SeenBy p words (TornEntry index rear front))
AnsweredBy p words Odd = SeenBy p words OddSeen
