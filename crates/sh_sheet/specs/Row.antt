-- What one row of a sheet says.
use Rattle.std.specs.Prelude.{ℕ, ◌==◌, ◌-◌, ◌^◌, Bool, true, false, not, ◌&&◌, nat_le, nat_lt, List, [], ◌∷◌, length, codes, Option, Some, None, option_map, Result, Ok, Err, if◌then◌else◌}
use Rattle.std.specs.{List.{list_any, slice_split}, Str.{bytes_eq}}
use Rattle.sh_base.specs.{declared.config.ConfigParts.{ConfigParts}, Setting.{all_seats}}
use Rattle.sh_map.specs.declared.call.Call.TheVariants.{Get, Put, Del, Range}
use Rattle.sh_sheet.specs.{Number.{number_of}, declared.{status.RowCause.{RowCause, TheVariants.{FieldCount, BadOp, TurnNotHere, BadNumber, BadSeat, BadKey, BadBounds, BadMark}}, item.Mode.{Mode}}}
use Rattle.sh_sheet.specs.declared.{item.{Mode.TheVariants.{Run, Feed}, Item.{Item}}, deed.{Op.{Op}, Deed.{Deed, TheVariants.{Ask, Mark, After, Turn}}}}
use Rattle.sh_sheet.specs.declared.item.Item.TheVariants as item
use Rattle.sh_sheet.specs.declared.deed.Op.TheVariants as op

-- the operation that a field names, if it names one
abbrev pub op_of : List ℕ → Option Op
op_of text =
    if bytes_eq text (codes "put") then Some op.Put
    else if bytes_eq text (codes "get") then Some op.Get
    else if bytes_eq text (codes "del") then Some op.Del
    else if bytes_eq text (codes "range") then Some op.Range
    else if bytes_eq text (codes "mark") then Some op.Mark
    else if bytes_eq text (codes "after") then Some op.After
    else if bytes_eq text (codes "turn") then Some op.Turn
    else None

-- turns are for a replay alone; a feed has neither marks nor afters
abbrev pub is_here : Mode → Op → Bool
is_here Run op.Turn = false
is_here Feed op.Mark = false
is_here Feed op.After = false
is_here Feed op.Turn = false
is_here mode o = true

-- why an operation isn't here: a feed knows no other
abbrev pub not_here : Mode → RowCause
not_here Feed = BadOp
not_here mode = TurnNotHere

-- the seat that a field says, if it says one; a feed's calls have none, and the field is empty
abbrev pub seat_in : Mode → List ℕ → Option ℕ
seat_in Feed text = if length text == 0 then Some 0 else None
seat_in mode text = number_of text

-- the parts of a text between its colons
abbrev pub colon_parts : List ℕ → List (List ℕ)
colon_parts text = slice_split (λ b. b == 58) text

-- a number, and the numbers behind it
abbrev pub joined : Option ℕ → Option (List ℕ) → Option (List ℕ)
joined (Some n) (Some ns) = Some (n ∷ ns)
joined n ns = None

-- the numbers of these parts, if each is one
abbrev pub numbers_of : List (List ℕ) → Option (List ℕ)
numbers_of [] = Some []
numbers_of (part ∷ parts) = joined (number_of part) (numbers_of parts)

-- the value of so many words that a field says, if it says one: its words as numbers, joined by colons
abbrev pub value_in : ℕ → List ℕ → Option (List ℕ)
value_in count text = if length (colon_parts text) == count then numbers_of (colon_parts text) else None

-- with an empty field b, this
abbrev pub if_empty : List ℕ → Deed → Option Deed
if_empty b deed = if length b == 0 then Some deed else None

-- what an operation asks for with the number a and the field b, if b is as it has to be: the value of a put, the high
-- of a range, and else empty
abbrev pub deed_of : ℕ → Op → ℕ → List ℕ → Option Deed
deed_of words op.Put a b = option_map (λ value. Ask (Put a value)) (value_in words b)
deed_of words op.Get a b = if_empty b (Ask (Get a))
deed_of words op.Del a b = if_empty b (Ask (Del a))
deed_of words op.Range a b = option_map (λ high. Ask (Range a high)) (number_of b)
deed_of words op.Mark a b = if_empty b (Mark a)
deed_of words op.After a b = if_empty b (After a)
deed_of words op.Turn a b = if_empty b (Turn a)

-- a number from 1 to 2^64-2
abbrev pub is_key : ℕ → Bool
is_key n = nat_le 1 n && nat_lt n (2 ^ 64 - 1)

-- the key of a put, get or del, or the low of a range, is a key
abbrev pub has_key : Deed → Bool
has_key (Ask (Put key value)) = is_key key
has_key (Ask (Get key)) = is_key key
has_key (Ask (Del key)) = is_key key
has_key (Ask (Range low high)) = is_key low
has_key deed = true

-- the high of a range isn't below its low
abbrev pub has_bounds : Deed → Bool
has_bounds (Ask (Range low high)) = nat_le low high
has_bounds deed = true

-- a mark has this number
abbrev pub is_marked : List ℕ → ℕ → Bool
is_marked marks n = list_any (λ m. n == m) marks

-- behind mark rows of these numbers, a mark is new, and an after names one of them
abbrev pub has_mark : List ℕ → Deed → Bool
has_mark marks (Mark n) = not (is_marked marks n)
has_mark marks (After n) = is_marked marks n
has_mark marks deed = true

-- what a seat asks for
abbrev pub by_seat : ℕ → Deed → Item
by_seat seat (Ask call) = item.Ask seat call
by_seat seat (Mark n) = item.Mark seat n
by_seat seat (After n) = item.After seat n
by_seat seat (Turn n) = item.Turn seat n

-- what is there is taken on, else the row is refused
abbrev pub or_cause : {A B : Type 0} → Option A → RowCause → (A → Result B RowCause) → Result B RowCause
or_cause None why next = Err why
or_cause (Some x) why next = next x

-- where the test holds it goes on, else the row is refused
abbrev pub tested : {B : Type 0} → Bool → RowCause → Result B RowCause → Result B RowCause
tested holds why next = if holds then next else Err why

-- The item of a row behind mark rows of these numbers, or the first test that the row fails.
abbrev pub item_in : ConfigParts → Mode → List ℕ → List (List ℕ) → Result Item RowCause
item_in p mode marks (first ∷ second ∷ a ∷ b ∷ []) =
    or_cause (op_of first) BadOp (λ o.
    tested (is_here mode o) (not_here mode) (
    or_cause (seat_in mode second) BadNumber (λ seat.
    or_cause (number_of a) BadNumber (λ n.
    or_cause (deed_of p.value_words o n b) BadNumber (λ deed.
    tested (nat_lt seat (all_seats p)) BadSeat (
    tested (has_key deed) BadKey (
    tested (has_bounds deed) BadBounds (
    tested (has_mark marks deed) BadMark (
    Ok (by_seat seat deed))))))))))
item_in p mode marks fields = Err FieldCount

-- a row with exactly the fields op, seat, a, b
abbrev pub is_heading : List (List ℕ) → Bool
is_heading (first ∷ second ∷ a ∷ b ∷ []) = bytes_eq first (codes "op") && bytes_eq second (codes "seat") && bytes_eq a (codes "a") && bytes_eq b (codes "b")
is_heading fields = false
