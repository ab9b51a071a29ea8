-- The items of a sheet are lawful.
use Rattle.std.proofs.Common.{rules, ℕ, ◌≡◌, ◌+◌, ◌<◌, ◌^◌, Bool, true, false, not, List, [], ◌∷◌, ◌++◌, length, Option, Some, None, Ok, option_map, refl, sym, ap, subst, ◌∙◌, ⊎_elim, arith}
use Rattle.std.{specs.{Prelude.{All, Result, if◌then◌else◌, nat_lt}, List.{Contains}}, proofs.lemmas.{Bool.{eqb-true, Decides.{nat_tests}}, Cmp.{nat_eq_equiv}, List.{take-append-le}}}
use Rattle.std.proofs.{Math.Seq.{take-append_seam}, lemmas.{List.Elements.{All-nil, All-push}, Map.Views.{Contains-from_any, list_any-from_Contains}, Option.{cond_some, same_Some, slice_get_within}}}
use Rattle.sh_logic.proofs.Lists.{slice_get-push_back}
use Rattle.sh_base.specs.{Setting.{all_seats}, declared.config.ConfigParts.{ConfigParts}}
use Rattle.sh_map.specs.{declared.call.Call.TheVariants.{Get, Put, Del, Range}, Calls.{IsKey}}
use Rattle.sh_sheet.specs.Number.{number_of}
use Rattle.sh_sheet.specs.Row.{joined, numbers_of, value_in, if_empty, is_key, is_here, is_marked, not_here, seat_in, has_key, has_bounds, has_mark, op_of, deed_of, by_seat, or_cause, tested, item_in, is_heading}
use Rattle.sh_sheet.specs.{Sheet.{Reading, Items, Refused, marks_in, row_then, rows_from, rows_in, IsLawfulItem, IsLawfulMark, AreMarksLawful}, declared.status.RowCause.{RowCause}}
use Rattle.sh_sheet.specs.declared.{status.RowCause.TheVariants.{BadOp, BadNumber, BadSeat, BadKey, BadBounds, BadMark}, item.{Mode.{Mode}, Item.{Item}}, deed.{Op.{Op}, Deed.{Deed}}}
use Rattle.sh_sheet.specs.declared.deed.Deed.TheVariants.{Ask, Mark, After, Turn}
use Rattle.sh_sheet.specs.declared.deed.Op.TheVariants as op

then_some : {A : Type 0} (b : Bool) (o : Option A) (y : A) → (if b then o else None) ≡ Some y → (b ≡ true) × (o ≡ Some y)
then_some h0 o y e = search rules

mapped_some : {A B : Type 0} (f : A → B) (o : Option A) (y : B) → option_map f o ≡ Some y → (x : A) × (o ≡ Some x) × (f x ≡ y)
mapped_some f h1 y e = search (rules, same_Some)

length-joined : (o : Option ℕ) (os : Option (List ℕ)) (ns : List ℕ) (k : ℕ) → ((ms : List ℕ) → os ≡ Some ms → length ms ≡ k) → joined o os ≡ Some ns → length ns ≡ k + 1
length-joined o os ns k h e = search (rules, same_Some)

length-numbers_of : (parts : List (List ℕ)) (ns : List ℕ) → numbers_of parts ≡ Some ns → length ns ≡ length parts
length-numbers_of [] ns e = ap length (sym (same_Some _ _ e))
length-numbers_of (part ∷ parts) ns e = length-joined (number_of part) (numbers_of parts) ns (length parts) (length-numbers_of parts) e ∙ omega arith

-- a value has as many words as it is to have
pub length-value_in : (count : ℕ) (text ns : List ℕ) → value_in count text ≡ Some ns → length ns ≡ count
length-value_in count text ns e = search (rules, then_some, length-numbers_of)

-- an item of the setting, and lawful behind these marks
record IsLawful (p : ConfigParts) (marks : List ℕ) (item : Item) : Type 0 where
  asks : IsLawfulItem p item
  mark : IsLawfulMark marks item

number_fits : (text : List ℕ) (n : ℕ) → number_of text ≡ Some n → n < 2 ^ 64
number_fits text n e = grind (arith, nat_tests)

key_is : (n : ℕ) → is_key n ≡ true → IsKey n
key_is n e = grind (arith, nat_tests)

-- what a put has behind its key, and a range behind its low
Fits : ConfigParts → Deed → Type 0
Fits p (Ask (Put key value)) = length value ≡ p.value_words
Fits p (Ask (Range low high)) = high < 2 ^ 64
Fits p deed = Unit {0}

if_empty_fits : (p : ConfigParts) (b : List ℕ) (one deed : Deed) → Fits p one → if_empty b one ≡ Some deed → Fits p deed
if_empty_fits p b one deed fits e = subst (Fits p) (cond_some _ _ _ e).1 fits

deed_fits : (p : ConfigParts) (o : Op) (a : ℕ) (b : List ℕ) (deed : Deed) → deed_of p.value_words o a b ≡ Some deed → Fits p deed
unfolding Fits
deed_fits p op.Put a b deed e =
    let (value, at_value, made) = mapped_some _ _ _ e in
    subst (Fits p) made (length-value_in p.value_words b value at_value)
deed_fits p op.Get a b deed e = if_empty_fits p b _ deed tt e
deed_fits p op.Del a b deed e = if_empty_fits p b _ deed tt e
deed_fits p op.Range a b deed e =
    let (high, at_high, made) = mapped_some _ _ _ e in
    subst (Fits p) made (number_fits b high at_high)
deed_fits p op.Mark a b deed e = if_empty_fits p b _ deed tt e
deed_fits p op.After a b deed e = if_empty_fits p b _ deed tt e
deed_fits p op.Turn a b deed e = if_empty_fits p b _ deed tt e

marked : (marks : List ℕ) (n : ℕ) → is_marked marks n ≡ true → Contains marks n
marked marks n e = Contains-from_any eqb-true n marks e

not_marked : (marks : List ℕ) (n : ℕ) → not (is_marked marks n) ≡ true → Contains marks n → ⊥
not_marked marks n e has = let is : is_marked marks n ≡ true = list_any-from_Contains nat_eq_equiv n marks has in cc

deed_lawful : (p : ConfigParts) (marks : List ℕ) (seat : ℕ) (deed : Deed) → Fits p deed → seat < all_seats p → has_key deed ≡ true → has_bounds deed ≡ true → has_mark marks deed ≡ true
    → IsLawful p marks (by_seat seat deed)
unfolding Fits
deed_lawful p marks seat (Ask (Get key)) fits is_seat keyed bounds mark = record { asks = (is_seat, key_is key keyed); mark = tt }
deed_lawful p marks seat (Ask (Put key value)) fits is_seat keyed bounds mark = record { asks = (is_seat, (key_is key keyed, fits)); mark = tt }
deed_lawful p marks seat (Ask (Del key)) fits is_seat keyed bounds mark = record { asks = (is_seat, key_is key keyed); mark = tt }
deed_lawful p marks seat (Ask (Range low high)) fits is_seat keyed bounds mark = record { asks = (is_seat, (key_is low keyed, grind (arith, nat_tests), omega arith)); mark = tt }
deed_lawful p marks seat (Mark n) fits is_seat keyed bounds mark = record { asks = is_seat; mark = not_marked marks n mark }
deed_lawful p marks seat (After n) fits is_seat keyed bounds mark = record { asks = is_seat; mark = marked marks n mark }
deed_lawful p marks seat (Turn n) fits is_seat keyed bounds mark = record { asks = is_seat; mark = tt }

given_ok : {A B : Type 0} (o : Option A) (why : RowCause) (next : A → Result B RowCause) (y : B) → or_cause o why next ≡ Ok y → (x : A) × (o ≡ Some x) × (next x ≡ Ok y)
given_ok h0 why next y e = search rules

tested_ok : {B : Type 0} (holds : Bool) (why : RowCause) (next : Result B RowCause) (y : B) → tested holds why next ≡ Ok y → (holds ≡ true) × (next ≡ Ok y)
tested_ok h0 why next y e = search rules

ok_is : {B : Type 0} (x y : B) (r : Result B RowCause) → r ≡ Ok x → r ≡ Ok y → x ≡ y
ok_is x y r e f = cc

-- behind the numbers of a row
behind_deed : ConfigParts → List ℕ → ℕ → Deed → Result Item RowCause
behind_deed p marks seat deed =
    tested (nat_lt seat (all_seats p)) BadSeat (
    tested (has_key deed) BadKey (
    tested (has_bounds deed) BadBounds (
    tested (has_mark marks deed) BadMark (
    Ok (by_seat seat deed)))))

behind_deed_lawful : (p : ConfigParts) (marks : List ℕ) (seat : ℕ) (deed : Deed) (item : Item) → Fits p deed → behind_deed p marks seat deed ≡ Ok item → IsLawful p marks item
unfolding behind_deed
behind_deed_lawful p marks seat deed item fits e =
    let made : Result Item RowCause = Ok (by_seat seat deed) in
    let last : Result Item RowCause = tested (has_mark marks deed) BadMark made in
    let next : Result Item RowCause = tested (has_bounds deed) BadBounds last in
    let (seated, e1) = tested_ok (nat_lt seat (all_seats p)) BadSeat (tested (has_key deed) BadKey next) item e in
    let (keyed, e2) = tested_ok (has_key deed) BadKey next item e1 in
    let (bounds, e3) = tested_ok (has_bounds deed) BadBounds last item e2 in
    let (mark, e4) = tested_ok (has_mark marks deed) BadMark made item e3 in
    let below : seat < all_seats p = grind (arith, nat_tests) in
    subst (IsLawful p marks) (ok_is (by_seat seat deed) item made refl e4) (deed_lawful p marks seat deed fits below keyed bounds mark)

row_lawful : (p : ConfigParts) (mode : Mode) (marks : List ℕ) (row : List (List ℕ)) (item : Item) → item_in p mode marks row ≡ Ok item → IsLawful p marks item
unfolding behind_deed
row_lawful p mode marks [] item e = cc
row_lawful p mode marks (first ∷ []) item e = cc
row_lawful p mode marks (first ∷ second ∷ []) item e = cc
row_lawful p mode marks (first ∷ second ∷ a ∷ []) item e = cc
row_lawful p mode marks (first ∷ second ∷ a ∷ b ∷ []) item e =
    let last : Op → ℕ → ℕ → Result Item RowCause = λ o seat n. or_cause (deed_of p.value_words o n b) BadNumber (behind_deed p marks seat) in
    let next : Op → ℕ → Result Item RowCause = λ o seat. or_cause (number_of a) BadNumber (last o seat) in
    let numbers : Op → Result Item RowCause = λ o. or_cause (seat_in mode second) BadNumber (next o) in
    let (o, is_op, e1) = given_ok (op_of first) BadOp (λ o. tested (is_here mode o) (not_here mode) (numbers o)) item e in
    let (here, e2) = tested_ok (is_here mode o) (not_here mode) (numbers o) item e1 in
    let (seat, is_seat, e3) = given_ok (seat_in mode second) BadNumber (next o) item e2 in
    let (n, is_number, e4) = given_ok (number_of a) BadNumber (last o seat) item e3 in
    let (deed, is_deed, e5) = given_ok (deed_of p.value_words o n b) BadNumber (behind_deed p marks seat) item e4 in
    behind_deed_lawful p marks seat deed item (deed_fits p o n b deed is_deed) e5
row_lawful p mode marks (first ∷ second ∷ a ∷ b ∷ c ∷ fields) item e = cc

-- items of the setting, with lawful marks
pub record AreLawful (p : ConfigParts) (found : List Item) : Type 0 where
  pub each : All (IsLawfulItem p) found
  pub marks : AreMarksLawful found

marks_push : (found : List Item) (item : Item) → AreMarksLawful found → IsLawfulMark (marks_in found) item → AreMarksLawful (found ++ item ∷ [])
marks_push found item was here i x at = ⊎_elim
    (λ e. rw (take-append-le i found (item ∷ []) (omega (arith, slice_get_within found i x e))) (was i x e))
    (λ e. rw (e.0, take-append_seam found (item ∷ []), ← e.1) here)
    (slice_get-push_back found item x i at)

push_lawful : (p : ConfigParts) (found : List Item) (item : Item) → AreLawful p found → IsLawful p (marks_in found) item → AreLawful p (found ++ item ∷ [])
push_lawful p found item was here = record { each = All-push (IsLawfulItem p) found item was.each here.asks; marks = marks_push found item was.marks here.mark }

-- the items of a reading, if it has some
items_of : Reading → List Item
items_of (Items heading found) = found
items_of (Refused row why) = []

same_items : (h k : Bool) (xs ys : List Item) → Items h xs ≡ Items k ys → xs ≡ ys
unfolding items_of
same_items h k xs ys e = ap items_of e

row_then_lawful : (p : ConfigParts) (h k : Bool) (i : ℕ) (r : Result Item RowCause) (next : Item → Reading) (all : List Item)
    → ((item : Item) → r ≡ Ok item → next item ≡ Items k all → AreLawful p all) → row_then h i r next ≡ Items k all → AreLawful p all
row_then_lawful p h k i r next all more e = search rules

rows_from_lawful : (p : ConfigParts) (mode : Mode) (h k : Bool) (found : List Item) (rows : List (List (List ℕ))) (all : List Item) → AreLawful p found → rows_from p mode h found rows ≡ Items k all → AreLawful p all
rows_from_lawful p mode h k found [] all was e = subst (AreLawful p) (same_items h k found all e) was
rows_from_lawful p mode h k found (row ∷ rows) all was e =
    row_then_lawful p h k (length found) (item_in p mode (marks_in found) row) (λ item. rows_from p mode h (found ++ item ∷ []) rows) all
    (λ item is more. rows_from_lawful p mode h k (found ++ item ∷ []) rows all (push_lawful p found item was (row_lawful p mode (marks_in found) row item is)) more) e

none_lawful : (p : ConfigParts) → AreLawful p []
none_lawful p = record { each = All-nil (IsLawfulItem p); marks = λ i item at. cc }

either_lawful : (p : ConfigParts) (mode : Mode) (b k : Bool) (all rows : List (List (List ℕ))) (found : List Item) → (if b then rows_from p mode true [] rows else rows_from p mode false [] all) ≡ Items k found → AreLawful p found
either_lawful p mode b k all rows found e = search (rules, rows_from_lawful, none_lawful)

-- the items of a sheet are lawful
pub rows_lawful : (p : ConfigParts) (mode : Mode) (k : Bool) (rows : List (List (List ℕ))) (found : List Item) → rows_in p mode rows ≡ Items k found → AreLawful p found
rows_lawful p mode k [] found e = rows_from_lawful p mode false k [] [] found (none_lawful p) e
rows_lawful p mode k (row ∷ rows) found e = either_lawful p mode (is_heading row) k (row ∷ rows) rows found e
