-- The marks and afters of a sheet: how many calls of each seat come before. A mark is passed when its seat's earlier calls
-- have ended and the marks of its seat's earlier afters are passed. So it waits for calls: its seat's earlier ones, and those
-- for which the marks of these afters wait. They are the first so many of each seat, and a seat's calls end in their order:
-- where the greatest of these numbers of a seat have ended, all of them have. An after names an earlier mark, so the numbers
-- of that are known when its row comes.
use Rattle.std.specs.{Prelude.{ℕ, ◌+◌, ◌==◌, ◌&&◌, nat_le, if◌then◌else◌, not, Bool, List, [], ◌∷◌}, List.{list_all, list_any, range_with_len}}
use Rattle.sh_sheet.specs.declared.item.Item.{Item, TheVariants.{Ask, Mark, After, Turn}}

-- Behind some items: how many calls of each seat come before the next call of a seat, and before a mark.
pub record Before : Type 0 where
  pub seats : (seat : ℕ) → (of : ℕ) → ℕ
  pub marks : (mark : ℕ) → (of : ℕ) → ℕ

abbrev pub nothing : Before
nothing = record { seats = λ seat of. 0; marks = λ mark of. 0 }

-- the same but at one place
abbrev pub at_place : {A : Type 0} → (ℕ → A) → (place : ℕ) → A → (ℕ → A)
at_place f place a = λ x. if x == place then a else f x

abbrev pub greater : ℕ → ℕ → ℕ
greater a b = if nat_le a b then b else a

-- Behind one item more. What comes before a mark is what comes before its seat's next call there; behind an after comes what
-- came before it, and what comes before its mark.
abbrev pub behind : Before → Item → Before
behind b (Ask seat call) = record b { seats = at_place b.seats seat (at_place (b.seats seat) seat (b.seats seat seat + 1)) }
behind b (Mark seat n) = record b { marks = at_place b.marks n (b.seats seat) }
behind b (After seat n) = record b { seats = at_place b.seats seat (λ of. greater (b.seats seat of) (b.marks n of)) }
behind b (Turn seat count) = b

-- An after: its seat, and how many calls of each seat come before the seat's calls behind it.
pub record Stop : Type 0 where
  pub seat : ℕ
  pub counts : (of : ℕ) → ℕ

-- the afters behind such items
abbrev pub stops_from : Before → List Item → List Stop
stops_from b [] = []
stops_from b (Ask seat call ∷ items) = stops_from (behind b (Ask seat call)) items
stops_from b (Mark seat n ∷ items) = stops_from (behind b (Mark seat n)) items
stops_from b (After seat n ∷ items) = record { seat = seat; counts = (behind b (After seat n)).seats seat } ∷ stops_from (behind b (After seat n)) items
stops_from b (Turn seat count ∷ items) = stops_from b items

abbrev pub stops_of : List Item → List Stop
stops_of items = stops_from nothing items

-- ---- where seats stand

-- Where so many calls of each seat have ended, all calls have that come before those behind an after of these seats.
abbrev pub is_passed : (ended : ℕ → ℕ) → (seats : ℕ) → Stop → Bool
is_passed ended seats x = list_all (λ of. nat_le (x.counts of) (ended of)) (range_with_len 0 seats)

-- the seat stands before this after: its calls before it have ended, and one that comes before the others hasn't
abbrev pub stops_at : (ended : ℕ → ℕ) → (seats seat : ℕ) → Stop → Bool
stops_at ended seats seat x = (x.seat == seat) && nat_le (x.counts seat) (ended seat) && not (is_passed ended seats x)

-- the seat is held back: it stands before an after
abbrev pub is_held : List Item → (ended : ℕ → ℕ) → (seats seat : ℕ) → Bool
is_held items ended seats seat = list_any (stops_at ended seats seat) (stops_of items)
