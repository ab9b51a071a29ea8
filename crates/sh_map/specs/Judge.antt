-- Where a book breaks a rule, and which break is the first.
use Rattle.std.specs.Prelude.{◌≡◌, ◌⊎◌, ℕ, ◌<◌, ◌≤◌, List, [], length, take, slice_get, All, Any, Some}
use Rattle.sh_map.specs.declared.{call.{Call.{Call, TheVariants.{Range}}, Reply.{Reply}}, log.Entry.{Entry}, book.Done.{Done}, misfit.{Misfit.{Misfit}, Rule.{Rule}}, sweep.Part.{Part}}
use Rattle.sh_map.specs.{Log.{map_at, IsNext}, Book.{AnswersRange, AnswersAt, IsOwn, IsLastOfSeat, IsLater}}
use Rattle.sh_map.specs.declared.call.Reply.TheVariants as reply
use Rattle.sh_map.specs.declared.misfit.Misfit.TheVariants as misfit
use Rattle.sh_map.specs.declared.misfit.Rule.TheVariants as rule
use Rattle.sh_map.specs.declared.sweep.Part.TheVariants as part

-- the entry at place i fits the map of the entries before it, and it is a finished call's own or its seat's last
abbrev pub FitsEntry : List Entry → List Done → ℕ → Type 0
FitsEntry log dones i = ((e : Entry) → slice_get log i ≡ Some e → IsNext (map_at log i) e) × (Any (IsOwn i) dones ⊎ IsLastOfSeat log i)

-- what must hold of a call and its reply, but for the rows of a range
abbrev pub AnswersAside : List Entry → Done → Call → Reply → Type 0
AnswersAside log d (Range low high) (reply.Rows upto) = (low ≤ upto) × (upto ≤ high)
AnswersAside log d asked answer = AnswersAt log d asked answer

-- what must hold of the rows of a range
abbrev pub RowsAnswer : List Entry → Done → Call → Reply → Type 0
RowsAnswer log d (Range low high) (reply.Rows upto) = (d.point ≤ length log) × AnswersRange log d.first d.point low upto d.rows
RowsAnswer log d asked answer = Unit {0}

-- a finished call follows one before it, in number and in its seat's order
pub record FollowsOnSeat (x d : Done) : Type 0 where
  pub number : x.n < d.n
  pub order : IsLater x d

-- Three rules of a finished call d behind those before it: it is answered at its point, but for rows; its rows answer;
-- it begins no later than its point, and follows the others.
abbrev pub FitsReply : List Entry → List Done → Done → Type 0
FitsReply log before d = (d.point ≤ length log) × AnswersAside log d d.call d.reply

abbrev pub FitsRows : List Entry → List Done → Done → Type 0
FitsRows log before d = RowsAnswer log d d.call d.reply

abbrev pub FitsOrder : List Done → Done → Type 0
FitsOrder before d = (d.first ≤ d.point) × All (λ x. FollowsOnSeat x d) before

-- a part of an answer, and the point by whose map it is judged
abbrev pub FitsPart : Part → List Entry → Done → Type 0
FitsPart part.Reply log d = FitsReply log [] d
FitsPart part.Rows log d = FitsRows log [] d

-- a part of an answer of which nothing is asked: the rows of a call that is no range
abbrev pub AsksNothing : Part → Call → Type 0
AsksNothing part.Reply asked = ⊥
AsksNothing part.Rows (Range low high) = ⊥
AsksNothing part.Rows asked = Unit {0}

abbrev pub point_for : Part → Done → ℕ
point_for part.Reply d = d.point
point_for part.Rows d = d.first

-- the rule of each kind
abbrev pub FitsRule : Rule → List Entry → List Done → Done → Type 0
FitsRule rule.Reply log before d = FitsReply log before d
FitsRule rule.Rows log before d = FitsRows log before d
FitsRule rule.Order log before d = FitsOrder before d

-- each finished call keeps a rule
abbrev pub AllFit : (List Done → Done → Type 0) → List Done → Type 0
AllFit Fits dones = (i : ℕ) (d : Done) → slice_get dones i ≡ Some d → Fits (take i dones) d

-- n is the least number of a finished call that breaks the rule
pub record IsLeastUnfit (Fits : List Done → Done → Type 0) (dones : List Done) (n : ℕ) : Type 0 where
  pub some : (i : ℕ) × (d : Done) × (slice_get dones i ≡ Some d) × (d.n ≡ n) × (Fits (take i dones) d → ⊥)
  pub least : (i : ℕ) (d : Done) → slice_get dones i ≡ Some d → (Fits (take i dones) d → ⊥) → n ≤ d.n

abbrev pub AllEntriesFit : List Entry → List Done → Type 0
AllEntriesFit log dones = (i : ℕ) → i < length log → FitsEntry log dones i

-- the first misfit: an entry's, then a reply's, then a range's rows, then the order
abbrev pub IsFirstMisfit : List Entry → List Done → Misfit → Type 0
IsFirstMisfit log dones (misfit.Entry at) = (at < length log) × (FitsEntry log dones at → ⊥) × ((i : ℕ) → i < at → FitsEntry log dones i)
IsFirstMisfit log dones (misfit.Reply n) = AllEntriesFit log dones × IsLeastUnfit (FitsReply log) dones n
IsFirstMisfit log dones (misfit.Row n) = AllEntriesFit log dones × AllFit (FitsReply log) dones × IsLeastUnfit (FitsRows log) dones n
IsFirstMisfit log dones (misfit.Order n) = AllEntriesFit log dones × AllFit (FitsReply log) dones × AllFit (FitsRows log) dones × IsLeastUnfit FitsOrder dones n
