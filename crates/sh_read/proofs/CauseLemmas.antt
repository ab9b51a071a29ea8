-- A READ's answers by their causes.
use Rattle.std.{proofs.Common.{rules, ◌≡◌, ℕ, ◌≤◌, Bool, true, false, List, length, subst, sym, inl, inr, arith}, specs.Prelude.{if◌then◌else◌, Option, Some, None}}
use Rattle.sh_logic.proofs.Tests.{not_less_test}
use Rattle.sh_base.specs.{declared.config.ConfigParts.{ConfigParts}, Setting.{node_size}}
use Rattle.sh_image.specs.declared.{inner.Image.{Image, TheVariants.{Leaf as LeafImage, Inner as InnerImage}}, read.Seen.{Seen}}
use Rattle.sh_image.specs.{declared.read.Seen.TheVariants.{Leaf as LeafSeen, Inner as InnerSeen, Torn, TornEntry, Odd as OddSeen}, Seen.{SeenBy}, Node.{seen_as}}
use Rattle.sh_read.specs.{declared.state.Progress.TheVariants.{More}, Judging.{seen_of}, Reads.{Reads, accepted, answer_to, image_in, progress_with}, Causes.{AnsweredBy}}
use Rattle.sh_read.proofs.JudgingLemmas.{judged_by}

module _ (p : ConfigParts) (words : List ℕ) where
  answered : (seen : Seen) → SeenBy p words seen → AnsweredBy p words (answer_to seen)
  answered (LeafSeen a) h = (LeafImage a, h)
  answered (InnerSeen a) h = (InnerImage a, h)
  answered (Torn rear front) h = inl h
  answered (TornEntry index rear front) h = inr (index, h)
  answered OddSeen h = h

  pub answered_by : 1 ≤ p.value_words → length words ≡ node_size p → AnsweredBy p words (progress_with p words)
  answered_by some long = subst (λ b. AnsweredBy p words (if b then More else answer_to (seen_of p words))) (sym (not_less_test (length words) (node_size p) (omega (arith, long)))) (answered (seen_of p words) (judged_by p words some long))

-- the image is the one that was seen
abbrev is_there : Option Image → Bool
is_there None = false
is_there (Some image) = true

abbrev given : Image → Option Image → Image
given other None = other
given other (Some image) = image

seen_image : (seen : Seen) (image : Image) → image_in seen ≡ Some image → seen ≡ seen_as image
seen_image seen image h = search rules

pub image_spelled : (p : ConfigParts) → 1 ≤ p.value_words → (r : Reads) (image : Image) → length r.loaded ≤ node_size p → accepted p r ≡ Some image → SeenBy p r.loaded (seen_as image)
image_spelled p some r image few h = search (rules, seen_image, judged_by)
