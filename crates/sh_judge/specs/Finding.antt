-- What is found of a printed replay.
use Rattle.std.specs.{Prelude.{◌≡◌, ◌≢◌, ◌⊎◌, ℕ, ◌+◌, ◌-◌, List, [], length, take, Some}, List.{slice_get}}
use Rattle.sh_map.specs.{declared.{book.Row.{Row}, log.Entry.{Entry}}, Log.{map_of}, Book.{IsLawful}, Judge.{IsFirstMisfit}}
use Rattle.sh_text.specs.Text.{sum_of}
use Rattle.sh_judge.specs.{declared.{found.End.{End}, finding.Finding.{Finding}}, Places.{ArePlaced, IsLeastUnplaced, log_of}, Trees.{map_rows}}
use Rattle.sh_judge.specs.Reading.{Reading, AllTold, Astray, LinesTold, made_end, reading_of}
use Rattle.sh_judge.specs.declared.finding.Finding.TheVariants as finding

-- the keys and values of the map of a log, by rising keys
abbrev pub log_rows : List Entry → List Row
log_rows log = map_rows (map_of log)

-- the least place at which two lists are unlike: their items differ, or only one of them has an item there
pub record AreUnlikeAt {X : Type 0} (xs ys : List X) (i : ℕ) : Type 0 where
  pub here : slice_get xs i ≢ slice_get ys i
  pub before : take i xs ≡ take i ys

-- the numbers that a last line has to have
abbrev pub end_for : LinesTold → List Row → End
end_for t rows = made_end (length t.dones) (length rows) (sum_of rows)

-- each place is taken once, and the book of the log and the calls is lawful
pub record HasLawfulBook (t : LinesTold) : Type 0 where
  pub placed : ArePlaced t.dones
  pub lawful : IsLawful (log_of t.dones) t.dones

-- no line of the map is there, or they are these rows
abbrev pub HasMap : LinesTold → List Row → Type 0
HasMap t rows = (t.maps ≡ []) ⊎ (t.maps ≡ rows)

-- lines of the map are there, and of so many lines this is the first that isn't one of these rows, or the last line where
-- a row is wanting
pub record IsWrongMap (t : LinesTold) (rows : List Row) (lines line : ℕ) : Type 0 where
  pub place : ℕ
  pub some : t.maps ≢ []
  pub unlike : AreUnlikeAt t.maps rows place
  pub number : line ≡ lines - length t.maps + place

-- what is found of so many lines that tell this
abbrev pub IsFoundIn : LinesTold → (lines : ℕ) → Finding → Type 0
IsFoundIn t lines (finding.Lawful calls count) =
    HasLawfulBook t × HasMap t (log_rows (log_of t.dones)) × (t.end ≡ Some (end_for t (log_rows (log_of t.dones)))) × (calls ≡ length t.dones) × (count ≡ length (log_of t.dones))
IsFoundIn t lines (finding.Line at) = ⊥
IsFoundIn t lines (finding.Place at) = IsLeastUnplaced t.dones at
IsFoundIn t lines (finding.Misfit misfit) = ArePlaced t.dones × IsFirstMisfit (log_of t.dones) t.dones misfit
IsFoundIn t lines (finding.Map line) = HasLawfulBook t × IsWrongMap t (log_rows (log_of t.dones)) lines line
IsFoundIn t lines finding.End = HasLawfulBook t × HasMap t (log_rows (log_of t.dones)) × (t.end ≢ Some (end_for t (log_rows (log_of t.dones))))

-- what is found of a reading
abbrev pub IsFoundOf : Reading → Finding → Type 0
IsFoundOf (AllTold t lines) found = IsFoundIn t lines found
IsFoundOf (Astray line) (finding.Line at) = at ≡ line
IsFoundOf (Astray line) found = ⊥

-- What is found of a text whose values have so many words. The causes stand in this order, and just one holds: a line
-- isn't in its place; a place isn't the point of just one updating call; the book has a misfit; a line of the map isn't
-- the map's; the last line's numbers differ; none of these.
unfoldable pub IsFinding : (words : ℕ) → List ℕ → Finding → Type 0
IsFinding words text found = IsFoundOf (reading_of words text) found
