-- The clocks that are made of a sheet's rows, one row after another.
use Rattle.std.specs.Prelude.{◌≡◌, ◌<◌, ℕ, List, [], ◌∷◌, get_or, replicate, length, Option, Some, None}
use Rattle.std.specs.{List.{fold}, Ordering.{nat_cmp}, BTreeMap.{BTreeMap}}
use Rattle.std.specs.BTreeMap as tree
use Rattle.sh_sheet.specs.{declared.item.Item.{Item}, Marks.{behind, nothing, stops_of, Before, Stop}}
use Rattle.sh_replay.specs.declared.marks.{Clock.{Clock}, AfterRow.{AfterRow}}

-- the clock counts what comes before
abbrev pub Agrees : Clock → (ℕ → ℕ) → Type 0
Agrees clock counts = (of : ℕ) → of < 64 → get_or clock.counts of 0 ≡ counts of

abbrev pub AgreesAt : Option Clock → (ℕ → ℕ) → Type 0
AgreesAt None counts = (of : ℕ) → of < 64 → 0 ≡ counts of
AgreesAt (Some clock) counts = Agrees clock counts

-- the rows are these afters
abbrev pub AreRows : List AfterRow → List Stop → Type 0
AreRows [] stops = stops ≡ []
AreRows (r ∷ rows) [] = ⊥
AreRows (r ∷ rows) (x ∷ stops) = (r.seat ≡ x.seat) × Agrees r.clock x.counts × AreRows rows stops

abbrev pub no_clock : Clock
no_clock = record { counts = replicate 64 0 }

abbrev pub before : List Item → Before
before items = fold behind nothing items

-- What was found behind these items.
pub record IsFound (items : List Item) (rows : List AfterRow) (seats : List Clock) (marks : BTreeMap ℕ Clock) : Type 0 where
  pub long : length seats ≡ 64
  pub clocks : (seat : ℕ) → seat < 64 → Agrees (get_or seats seat no_clock) ((before items).seats seat)
  pub marks_are : (n : ℕ) → AgreesAt (tree.get nat_cmp marks n) ((before items).marks n)
  pub rows_are : AreRows rows (stops_of items)
