-- The laws of READs, hops and ranges: what a READ knows and has found, where hops lead, and what ranges gather.
use Rattle.std.specs.Prelude.{◌≡◌, ◌≢◌, ◌+◌, ◌≤◌, ℕ, suc, List, [], ◌∷◌, ◌++◌, length, slice_index, slice_set, ◌-◌, ◌<◌, ◌^◌, Some}
use Rattle.sh_base.specs.{Setting.{node_size}, Layout.{node_word, rear_at}, declared.config.ConfigParts.{ConfigParts}}
use Rattle.sh_map.specs.{declared.{log.Entry.{Entry}, book.Row.{Row}}, Book.{AnswersRange}}
use Rattle.sh_image.specs.{declared.{leaf.LeafEntry.{LeafEntry}, read.Seen.TheVariants.{Odd}, inner.Image.{Image, TheVariants.{Leaf as LeafImage, Inner as InnerImage}}}, Seen.{IsUntorn, SeenBy}}
use Rattle.sh_image.specs.{Leaf.{leaf_in}, Inner.{Inner, inner_in}}
use Rattle.sh_edit.specs.Ranging.{end_in, taken, upto_of}
use Rattle.sh_state.specs.{Nodes.{low_in, high_in}, TreeState.{TreeState, Linked, Owner, writing}, Ground.{Ground}, Change.{Change, ChangeFor}}
use Rattle.sh_readers.specs.{Points.{IsReadLeaf}, Knows.{fed_from, IsFed, IsKnown}, Hand.{IsNamed, IsImageOf, AreRowsOf}, Ranges.{IsGathered, HeldSince, IsDone, IsBehind}}
use Rattle.sh_cache.specs.Cached.{kept, forgotten, FoundBy}
use Rattle.sh_descend.specs.{declared.Hop.TheVariants.{Here, Right, Down, Restart}, Descent.{hop_of, high_of}}

-- ---- reads know
abbrev pub ReadsBeginKnowing : ConfigParts → Type 0
ReadsBeginKnowing p = (words : List ℕ) (s : TreeState) (n level low first : ℕ) (blank : List ℕ) → Ground p words s → s.class n ≡ Linked level low → first ≤ length s.log → length blank ≡ node_size p → IsKnown p s.log first level (s.node n) (writing p s n) (rear_at p) (slice_set blank (rear_at p) (slice_index words (node_word p n + rear_at p)))

abbrev pub LoadsAddKnowledge : ConfigParts → Type 0
LoadsAddKnowledge p = (words : List ℕ) (s : TreeState) (n level low first at : ℕ) (got : List ℕ) → Ground p words s → s.class n ≡ Linked level low → IsKnown p s.log first level (s.node n) (writing p s n) (at + 1) got → IsKnown p s.log first level (s.node n) (writing p s n) at (slice_set got at (slice_index words (node_word p n + at)))

abbrev pub ActsKeepKnowledge : ConfigParts → Type 0
ActsKeepKnowledge p = (words now : List ℕ) (s t : TreeState) (seat n level low first from : ℕ) (got : List ℕ) → Ground p words s → Ground p now t → Change p seat s t → s.class n ≡ Linked level low → IsKnown p s.log first level (s.node n) (writing p s n) from got → IsKnown p t.log first level (t.node n) (writing p t n) from got

abbrev pub HandoversKeepKnowledge : ConfigParts → Type 0
HandoversKeepKnowledge p = (words : List ℕ) (s t : TreeState) (giver taker : Owner) (n level low first from : ℕ) (got : List ℕ) → Ground p words s → Ground p words t → ChangeFor p (λ o. (o ≢ giver) × (o ≢ taker)) s t → s.class n ≡ Linked level low → IsKnown p s.log first level (s.node n) (writing p s n) from got → IsKnown p t.log first level (t.node n) (writing p t n) from got

-- ---- accepted reads
abbrev pub LeafReadsAreRight : ConfigParts → Type 0
LeafReadsAreRight p = (words : List ℕ) (s : TreeState) (n low first : ℕ) (got : List ℕ) → Ground p words s → s.class n ≡ Linked 0 low → IsKnown p s.log first 0 (s.node n) (writing p s n) 0 got → slice_index got 0 ≡ slice_index words (node_word p n + 0) → IsUntorn p got → IsReadLeaf p s.log first (s.node n) got

abbrev pub InnerReadsStand : ConfigParts → Type 0
InnerReadsStand p = (words : List ℕ) (s : TreeState) (n level low first : ℕ) (got : List ℕ) → Ground p words s → s.class n ≡ Linked (suc level) low → IsKnown p s.log first (suc level) (s.node n) (writing p s n) 0 got → slice_index got 0 ≡ slice_index words (node_word p n + 0) → slice_index got 0 ≡ slice_index got (rear_at p) → got ≡ s.node n

abbrev pub ReadsAreNeverOdd : ConfigParts → Type 0
ReadsAreNeverOdd p = (words : List ℕ) (s : TreeState) (n level low first : ℕ) (got : List ℕ) → Ground p words s → s.class n ≡ Linked level low → IsKnown p s.log first level (s.node n) (writing p s n) 0 got → slice_index got 0 ≡ slice_index words (node_word p n + 0) → SeenBy p got Odd → ⊥

-- ---- fed reads
abbrev pub FedReadsBegin : ConfigParts → Type 0
FedReadsBegin p = (words : List ℕ) (s : TreeState) (n level low first : ℕ) → Ground p words s → s.class n ≡ Linked level low → first ≤ length s.log → IsFed p s.log first level (s.node n) (writing p s n) (slice_index words (node_word p n + rear_at p) ∷ [])

abbrev pub FedReadsGoOn : ConfigParts → Type 0
FedReadsGoOn p = (words : List ℕ) (s : TreeState) (n level low first at : ℕ) (fed : List ℕ) → Ground p words s → s.class n ≡ Linked level low → fed_from p fed ≡ at + 1 → IsFed p s.log first level (s.node n) (writing p s n) fed → IsFed p s.log first level (s.node n) (writing p s n) (slice_index words (node_word p n + at) ∷ fed)

abbrev pub FedLeavesAreRight : ConfigParts → Type 0
FedLeavesAreRight p = (words : List ℕ) (s : TreeState) (n low first : ℕ) (fed : List ℕ) → Ground p words s → s.class n ≡ Linked 0 low → length fed ≡ node_size p → IsFed p s.log first 0 (s.node n) (writing p s n) fed → slice_index fed 0 ≡ slice_index words (node_word p n + 0) → IsUntorn p fed → IsReadLeaf p s.log first (s.node n) fed

abbrev pub FedInnersStand : ConfigParts → Type 0
FedInnersStand p = (words : List ℕ) (s : TreeState) (n level low first : ℕ) (fed : List ℕ) → Ground p words s → s.class n ≡ Linked (suc level) low → length fed ≡ node_size p → IsFed p s.log first (suc level) (s.node n) (writing p s n) fed → slice_index fed 0 ≡ slice_index words (node_word p n + 0) → slice_index fed 0 ≡ slice_index fed (rear_at p) → fed ≡ s.node n

abbrev pub FedReadsAreNeverOdd : ConfigParts → Type 0
FedReadsAreNeverOdd p = (words : List ℕ) (s : TreeState) (n level low first : ℕ) (fed : List ℕ) → Ground p words s → s.class n ≡ Linked level low → length fed ≡ node_size p → IsFed p s.log first level (s.node n) (writing p s n) fed → slice_index fed 0 ≡ slice_index words (node_word p n + 0) → SeenBy p fed Odd → ⊥

-- ---- images in hand
abbrev pub LeafImagesAreInHand : ConfigParts → Type 0
LeafImagesAreInHand p = (words : List ℕ) (s : TreeState) (n low first : ℕ) (got : List ℕ) → Ground p words s → s.class n ≡ Linked 0 low → IsReadLeaf p s.log first (s.node n) got → IsImageOf s 0 low (LeafImage (leaf_in p got))

abbrev pub InnerImagesAreInHand : ConfigParts → Type 0
InnerImagesAreInHand p = (words : List ℕ) (s : TreeState) (n level low : ℕ) → Ground p words s → s.class n ≡ Linked (suc level) low → IsImageOf s (suc level) low (InnerImage (inner_in (s.node n)))

abbrev pub RootIsInHand : ConfigParts → Type 0
RootIsInHand p = (words : List ℕ) (s : TreeState) (key : ℕ) → Ground p words s → IsNamed s s.height s.root key

abbrev pub ImagesStayInHand : ConfigParts → Type 0
ImagesStayInHand p = (s t : TreeState) (seat level low : ℕ) (image : Image) → Change p seat s t → IsImageOf s level low image → IsImageOf t level low image

abbrev pub NamesStayInHand : ConfigParts → Type 0
NamesStayInHand p = (s t : TreeState) (seat level n key : ℕ) → Change p seat s t → IsNamed s level n key → IsNamed t level n key

-- ---- hops lead on
abbrev pub RightHopsLeadOn : Type 0
RightHopsLeadOn = (s : TreeState) (level low key target r : ℕ) (image : Image) → IsImageOf s level low image → low ≤ key → key < 2 ^ 64 - 1 → hop_of image key target ≡ Right r → IsNamed s level r key

abbrev pub DownHopsLeadOn : Type 0
DownHopsLeadOn = (s : TreeState) (level low key target child : ℕ) (image : Image) → IsImageOf s level low image → low ≤ key → hop_of image key target ≡ Down child → (below : ℕ) × (level ≡ suc below) × IsNamed s below child key × (target ≤ below)

abbrev pub HereIsTheLevel : Type 0
HereIsTheLevel = (s : TreeState) (level low key target : ℕ) (image : Image) → IsImageOf s level low image → low ≤ key → hop_of image key target ≡ Here → (level ≡ target) × (key < high_of image)

abbrev pub NoHopRestarts : Type 0
NoHopRestarts = (s : TreeState) (level low key target : ℕ) (image : Image) → IsImageOf s level low image → low ≤ key → target ≤ level → hop_of image key target ≢ Restart

-- ---- rows in hand
abbrev pub RowsStayInHand : ConfigParts → Type 0
RowsStayInHand p = (s t : TreeState) (seat : ℕ) (rows : List Inner) → Change p seat s t → AreRowsOf s rows → AreRowsOf t rows

abbrev pub KeptRowsAreInHand : Type 0
KeptRowsAreInHand = (s : TreeState) (room low : ℕ) (rows : List Inner) (row : Inner) → IsImageOf s 1 low (InnerImage row) → AreRowsOf s rows → AreRowsOf s (kept room rows row)

abbrev pub ForgottenRowsLeaveOthers : Type 0
ForgottenRowsLeaveOthers = (s : TreeState) (low : ℕ) (rows : List Inner) → AreRowsOf s rows → AreRowsOf s (forgotten rows low)

abbrev pub FoundRowsCoverTheKey : Type 0
FoundRowsCoverTheKey = (s : TreeState) (key : ℕ) (rows : List Inner) (row : Inner) → AreRowsOf s rows → FoundBy rows key (Some row) → IsImageOf s 1 row.low (InnerImage row) × (row.low ≤ key) × (key < row.high)

abbrev pub RowsLeadToLeaves : Type 0
RowsLeadToLeaves = (s : TreeState) (key child : ℕ) (row : Inner) → IsImageOf s 1 row.low (InnerImage row) → row.low ≤ key → hop_of (InnerImage row) key 0 ≡ Down child → IsNamed s 0 child key

-- ---- ranges
abbrev pub RangesBegin : Type 0
RangesBegin = (log : List Entry) (first low : ℕ) → IsGathered log first low low []

abbrev pub GatheredRowsStay : Type 0
GatheredRowsStay = (log more : List Entry) (first low place : ℕ) (rows : List Row) → IsGathered log first low place rows → IsGathered (log ++ more) first low place rows

abbrev pub ReadLeavesHeldSince : ConfigParts → Type 0
ReadLeavesHeldSince p = (log : List Entry) (first low high : ℕ) (standing got : List ℕ) → IsReadLeaf p log first standing got → 1 ≤ low → low_in got ≤ low → high ≤ high_in got → HeldSince log first low high (leaf_in p got).entries

abbrev pub LeavesAreGathered : Type 0
LeavesAreGathered = (log : List Entry) (first low place leaf_high high most : ℕ) (es : List LeafEntry) (rows : List Row) → IsGathered log first low place rows → place ≤ leaf_high → place ≤ high → length rows < most → HeldSince log first place (end_in leaf_high high) es → IsBehind log first low leaf_high high most (rows ++ taken es (end_in leaf_high high) (most - length rows) place)

abbrev pub GatheredRowsAreFew : Type 0
GatheredRowsAreFew = (log : List Entry) (first low place : ℕ) (rows : List Row) → IsGathered log first low place rows → low + length rows ≤ place

abbrev pub DoneRangesAreAnswered : Type 0
DoneRangesAreAnswered = (log : List Entry) (first low high most : ℕ) (rows : List Row) → IsDone log first low high most rows → (low ≤ upto_of most high rows) × (upto_of most high rows ≤ high) × AnswersRange log first (length log) low (upto_of most high rows) rows
