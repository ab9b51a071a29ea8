-- What the afters of a sheet want of the notes of their marks: whose they are, and how much they carry.
use Rattle.std.specs.Prelude.{ℕ, Bool, true, false, ◌+◌, ◌==◌, if◌then◌else◌, List, [], ◌∷◌, ◌++◌}
use Rattle.sh_sheet.specs.{declared.item.Item.{Item, TheVariants.{Ask, Mark, After, Turn}}, Marks.{at_place}}

-- a note of this seat, behind so many of its calls and of the notes that it has learnt
pub record Want : Type 0 where
  pub seat : ℕ
  pub calls : ℕ
  pub learnt : ℕ

-- Behind some items: how many calls and how many afters each seat has had, and what the note of each mark carries.
pub record Tally : Type 0 where
  pub calls : ℕ → ℕ
  pub learnt : ℕ → ℕ
  pub marks : ℕ → Want

-- a note that the seat makes here
abbrev pub stand : Tally → (seat : ℕ) → Want
stand t seat = record { seat = seat; calls = t.calls seat; learnt = t.learnt seat }

abbrev pub no_tally : Tally
no_tally = record { calls = λ seat. 0; learnt = λ seat. 0; marks = λ n. record { seat = 0; calls = 0; learnt = 0 } }

abbrev pub counted : Tally → Item → Tally
counted t (Ask seat call) = record t { calls = at_place t.calls seat (t.calls seat + 1) }
counted t (Mark seat n) = record t { marks = at_place t.marks n (stand t seat) }
counted t (After seat n) = record t { learnt = at_place t.learnt seat (t.learnt seat + 1) }
counted t (Turn seat count) = t

abbrev pub tally_from : Tally → List Item → Tally
tally_from t [] = t
tally_from t (x ∷ items) = tally_from (counted t x) items

-- an item is an after
abbrev pub is_after : Item → Bool
is_after (After seat n) = true
is_after other = false

-- what the afters among the items want, in their order
abbrev pub wants_one : Tally → Item → List Want
wants_one t (After seat n) = t.marks n ∷ []
wants_one t other = []

abbrev pub wants_from : Tally → List Item → List Want
wants_from t [] = []
wants_from t (x ∷ items) = wants_one t x ++ wants_from (counted t x) items

abbrev pub wants_of : List Item → List Want
wants_of items = wants_from no_tally items

-- what an after wants, and how many calls of its own seat come before it
pub record Heed : Type 0 where
  pub want : Want
  pub behind : ℕ

-- the afters of one seat
abbrev pub heeds_one : (seat : ℕ) → Tally → Item → List Heed
heeds_one seat t (After k n) = if k == seat then record { want = t.marks n; behind = t.calls k } ∷ [] else []
heeds_one seat t other = []

abbrev pub heeds_from : (seat : ℕ) → Tally → List Item → List Heed
heeds_from seat t [] = []
heeds_from seat t (x ∷ items) = heeds_one seat t x ++ heeds_from seat (counted t x) items

abbrev pub heeds_of : (seat : ℕ) → List Item → List Heed
heeds_of seat items = heeds_from seat no_tally items
