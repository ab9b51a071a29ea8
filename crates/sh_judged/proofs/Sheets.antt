-- The words of a sheet's values are below 2^64.
use Rattle.std.proofs.{Common.{rules, ℕ, ◌≡◌, ◌<◌, ◌^◌, Bool, true, false, List, [], ◌∷◌, ◌++◌, length, Option, Some, None, Ok, Err, option_map, subst}}
use Rattle.std.specs.{Prelude.{Result, ◌==◌, codes, if◌then◌else◌, nat_lt}, List.{AllByRecursion}, Str.{bytes_eq}}
use Rattle.sh_logic.proofs.Lists.{all_join}
use Rattle.sh_base.specs.{Setting.{all_seats}, declared.config.ConfigParts.{ConfigParts}}
use Rattle.sh_map.specs.declared.call.Call.{Call, TheVariants.{Put}}
use Rattle.sh_sheet.specs.Number.{number_of}
use Rattle.sh_sheet.specs.Row.{by_seat, colon_parts, deed_of, has_bounds, has_key, has_mark, is_heading, is_here, item_in, not_here, seat_in, joined, numbers_of, op_of, or_cause, tested, value_in}
use Rattle.sh_sheet.specs.{Sheet.{Reading, Items, Refused, marks_in, row_then, rows_from, rows_in}, declared.{status.RowCause.{RowCause}, item.{Mode.{Mode}, Item.{Item}}}}
use Rattle.sh_sheet.specs.declared.status.RowCause.TheVariants.{BadOp, BadNumber, BadSeat, BadKey, BadBounds, BadMark}
use Rattle.sh_sheet.specs.declared.item.Item.TheVariants as item

-- the words of a put's value
abbrev pub HasWords : Call → Type 0
HasWords (Put key value) = AllByRecursion (λ w. w < 2 ^ 64) value
HasWords call = Unit {0}

abbrev pub AsksWords : Item → Type 0
AsksWords (item.Ask seat call) = HasWords call
AsksWords other = Unit {0}

-- what is there has it
abbrev If : {X : Type 0} → Option X → (X → Type 0) → Type 0
If None P = Unit {0}
If (Some x) P = P x

abbrev IfGiven : Result Item RowCause → Type 0
IfGiven (Ok x) = AsksWords x
IfGiven (Err why) = Unit {0}

joined_small : (n : Option ℕ) (ns : Option (List ℕ)) → If n (λ m. m < 2 ^ 64) → If ns (AllByRecursion (λ m. m < 2 ^ 64)) → If (joined n ns) (AllByRecursion (λ m. m < 2 ^ 64))
joined_small n ns a b = search rules

numbers_small : (parts : List (List ℕ)) → If (numbers_of parts) (AllByRecursion (λ n. n < 2 ^ 64))
numbers_small [] = tt
numbers_small (part ∷ parts) = joined_small (number_of part) (numbers_of parts) (search rules) (numbers_small parts)

module _ {X : Type 0} (P : X → Type 0) where
  one_of : (t : Bool) (x : X) (o : Option X) → P x → If o P → If (if t then Some x else o) P
  one_of t x o h more = search rules

  made_of : {A : Type 0} (Q : A → Type 0) (f : A → X) (o : Option A) → If o Q → ((a : A) → Q a → P (f a)) → If (option_map f o) P
  made_of h0 f h2 h more = search rules

value_small : (t : Bool) (o : Option (List ℕ)) → If o (AllByRecursion (λ n. n < 2 ^ 64)) → If (if t then o else None) (AllByRecursion (λ n. n < 2 ^ 64))
value_small t o h = search rules

one_of_all : {X : Type 0} (P : X → Type 0) (a b c d e f g : Bool) (p q r s t u v : X) → P p → P q → P r → P s → P t → P u → P v
    → If (if a then Some p else if b then Some q else if c then Some r else if d then Some s else if e then Some t else if f then Some u else if g then Some v else None) P
one_of_all h0 a b c d e f g p q r s t u v hp hq hr hs ht hu hv = search (rules, one_of)

-- whatever operation it is
op_words : (words : ℕ) (text : List ℕ) → If (op_of text) (λ o. (seat a : ℕ) (b : List ℕ) → If (deed_of words o a b) (λ d. AsksWords (by_seat seat d)))
op_words words text =
    one_of_all (λ o. (seat a : ℕ) (b : List ℕ) → If (deed_of words o a b) (λ d. AsksWords (by_seat seat d))) (bytes_eq text (codes "put")) (bytes_eq text (codes "get")) (bytes_eq text (codes "del")) (bytes_eq text (codes "range"))
    (bytes_eq text (codes "mark")) (bytes_eq text (codes "after")) (bytes_eq text (codes "turn")) _ _ _ _ _ _ _
    (λ seat a b. made_of (λ d. AsksWords (by_seat seat d)) (AllByRecursion (λ n. n < 2 ^ 64)) _ (value_in words b) (value_small _ (numbers_of (colon_parts b)) (numbers_small (colon_parts b))) (λ value h. h))
    (λ seat a b. one_of (λ d. AsksWords (by_seat seat d)) (length b == 0) _ None tt tt)
    (λ seat a b. one_of (λ d. AsksWords (by_seat seat d)) (length b == 0) _ None tt tt)
    (λ seat a b. made_of (λ d. AsksWords (by_seat seat d)) (λ n. Unit {0}) _ (number_of b) (search rules) (λ high h. tt))
    (λ seat a b. one_of (λ d. AsksWords (by_seat seat d)) (length b == 0) _ None tt tt)
    (λ seat a b. one_of (λ d. AsksWords (by_seat seat d)) (length b == 0) _ None tt tt)
    (λ seat a b. one_of (λ d. AsksWords (by_seat seat d)) (length b == 0) _ None tt tt)

given : {A : Type 0} (P : A → Type 0) (o : Option A) (why : RowCause) (next : A → Result Item RowCause) → If o P → ((x : A) → P x → IfGiven (next x)) → IfGiven (or_cause o why next)
given h0 h1 why next h more = search rules

passed : (t : Bool) (why : RowCause) (next : Result Item RowCause) → IfGiven next → IfGiven (tested t why next)
passed t why next h = search rules

any_said : (o : Option ℕ) → If o (λ x. Unit {0})
any_said o = search rules

row_words : (p : ConfigParts) (mode : Mode) (marks : List ℕ) (row : List (List ℕ)) → IfGiven (item_in p mode marks row)
row_words p mode marks (first ∷ second ∷ a ∷ b ∷ []) =
    given (λ o. (seat a : ℕ) (b : List ℕ) → If (deed_of p.value_words o a b) (λ d. AsksWords (by_seat seat d))) (op_of first) BadOp _ (op_words p.value_words first) (λ o asks. passed (is_here mode o) (not_here mode) _
    (given (λ x. Unit {0}) (seat_in mode second) BadNumber _ (any_said (seat_in mode second)) (λ seat h.
    given (λ x. Unit {0}) (number_of a) BadNumber _ (search rules) (λ n h.
    given (λ d. AsksWords (by_seat seat d)) (deed_of p.value_words o n b) BadNumber _ (asks seat n b) (λ d h.
    passed (nat_lt seat (all_seats p)) BadSeat _ (passed (has_key d) BadKey _ (passed (has_bounds d) BadBounds _ (passed (has_mark marks d) BadMark _ h))))))))
row_words p mode marks fields = tt

abbrev AllAsk : Reading → Type 0
AllAsk (Items heading found) = AllByRecursion AsksWords found
AllAsk (Refused row why) = Unit {0}

then_words : (heading : Bool) (i : ℕ) (r : Result Item RowCause) (next : Item → Reading) → IfGiven r → ((x : Item) → AsksWords x → AllAsk (next x)) → AllAsk (row_then heading i r next)
then_words heading i r next h more = search rules

rows_words : (p : ConfigParts) (mode : Mode) (heading : Bool) (found : List Item) (rows : List (List (List ℕ))) → AllByRecursion AsksWords found → AllAsk (rows_from p mode heading found rows)
rows_words p mode heading found [] h = h
rows_words p mode heading found (row ∷ rows) h =
    then_words heading (length found) (item_in p mode (marks_in found) row) _ (row_words p mode (marks_in found) row) (λ x w. rows_words p mode heading (found ++ x ∷ []) rows (all_join AsksWords found (x ∷ []) h (w, tt)))

all_words : (p : ConfigParts) (mode : Mode) (rows : List (List (List ℕ))) → AllAsk (rows_in p mode rows)
all_words p mode [] = tt
all_words p mode (row ∷ rows) = by (is_heading row) where
  by : (t : Bool) → AllAsk (if t then rows_from p mode true [] rows else rows_from p mode false [] (row ∷ rows))
  by true = rows_words p mode true [] rows tt
  by false = rows_words p mode false [] (row ∷ rows) tt

-- the items of a sheet ask for values of words
pub items_words : (p : ConfigParts) (mode : Mode) (rows : List (List (List ℕ))) (heading : Bool) (found : List Item) → rows_in p mode rows ≡ Items heading found → AllByRecursion AsksWords found
items_words p mode rows heading found is = subst AllAsk is (all_words p mode rows)
