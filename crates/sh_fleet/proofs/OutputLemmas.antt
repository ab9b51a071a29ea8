-- The lines of the items, one after another, and what the finished calls have to do with them.
use Rattle.std.{proofs.{Math.Dec.{eqb-suc-suc, eqb-suc-zero, eqb-zero-suc}, Common.{arith, refl, ℕ, zero, suc, ◌≡◌, ◌<◌, ◌+◌, List, [], ◌∷◌, ◌++◌, length, take, drop, get_or, Option, Some, None, sym, ap, ◌∙◌, append_assoc, subst}, lemmas.{List.{append-nil, drop_more, drop-drop, Elements.{All-head, All-tail}, Sums.{sum_by-cons}}, Option.{get_or_from_slice_get, slice_get_within}}}, specs.{Io.KnownBytes.{Appends}, List.{flat_map, sum_by}, Prelude.{slice_get, ◌==◌, if◌then◌else◌, set, All, replicate}}}
use Rattle.sh_port.{specs.Port.{AppendsFront}, proofs.{Bytes.{appends_more}, Fronts.{front_more}}}
use Rattle.sh_map.specs.declared.call.Call.{Call}
use Rattle.sh_sheet.specs.{declared.item.Item.{Item, TheVariants.{Ask, Mark, After, Turn}}, Sheet.{item_calls}}
use Rattle.sh_text.specs.Text.{call_line, row_line}
use Rattle.sh_text.specs.declared.points.Points.TheVariants as points
use Rattle.sh_fleet.specs.declared.{answers.{Answer.{Answer}, Answers.{Answers}}, cursor.Cursor.{Cursor}}
use Rattle.sh_fleet.specs.Output.{behind_first, item_behind, item_lines, lines_from, number_behind, told_lines}
use Rattle.sh_fleet.specs.{Sharing.{answers_in, rows_told, told, told_by, Told}, Served.{HasItsRows}, Telling.{at_first, behind, behind_answer, cursor, rest_at, rest_by, AreAt, IsAt}}

-- What was written, and what is still to be written of the whole.
pub record Telling (held after : Option (List ℕ)) (whole rest : List ℕ) : Type 0 where
  pub front : List ℕ
  pub written : Appends held after front
  pub whole_is : whole ≡ front ++ rest

module _ (held mid after : Option (List ℕ)) (whole part rest : List ℕ) (t : Telling held mid whole (part ++ rest)) where
  pub tell_more : Appends mid after part → Telling held after whole rest
  tell_more h = record { front = t.front ++ part; written = appends_more held mid after t.front part t.written h; whole_is = t.whole_is ∙ sym (append_assoc t.front part rest) }

  pub tell_front : AppendsFront mid after part → AppendsFront held after whole
  tell_front h = front_more held mid after t.front part rest whole t.whole_is t.written h

pub tell_end : (held after : Option (List ℕ)) (whole : List ℕ) → Telling held after whole [] → Appends held after whole
tell_end held after whole t = subst (Appends held after) (sym (t.whole_is ∙ append-nil t.front)) t.written

-- the list from a place on, where there is an element, and where there is none
pub drop_some : {X : Type 0} (xs : List X) (i : ℕ) (x : X) → slice_get xs i ≡ Some x → drop i xs ≡ x ∷ drop (i + 1) xs
drop_some xs i x here = drop_more xs i x (slice_get_within xs i x here) ∙ ap (λ y. y ∷ drop (i + 1) xs) (get_or_from_slice_get xs i x x here)

pub drop_none : {X : Type 0} (xs : List X) (i : ℕ) → slice_get xs i ≡ None → drop i xs ≡ []
drop_none [] zero past = refl
drop_none [] (suc i) past = refl
drop_none (x ∷ xs) zero past = absurd (cc)
drop_none (x ∷ xs) (suc i) past = drop_none xs i past

module _ (a : Answers) (c : Cursor) where
  module _ (x : Answer) (here : slice_get a.replies.items c.reply ≡ Some x) where
    -- the next answer, and those behind it
    pub rest_some : rest_at a c ≡ told x.reply (take x.rows (drop c.row a.rows.items)) ∷ rest_at a (cursor (c.reply + 1) (c.row + x.rows))
    rest_some = ap (λ xs. answers_in xs (drop c.row a.rows.items)) (drop_some a.replies.items c.reply x here) ∙ ap (λ rows. told x.reply (take x.rows (drop c.row a.rows.items)) ∷ answers_in (drop (c.reply + 1) a.replies.items) rows) (drop-drop x.rows c.row a.rows.items)

    told_next : rows_told (drop c.reply a.replies.items) ≡ x.rows + rows_told (drop (c.reply + 1) a.replies.items)
    told_next = ap rows_told (drop_some a.replies.items c.reply x here) ∙ sum_by-cons (λ (y : Answer). y.rows) x (drop (c.reply + 1) a.replies.items)

    pub at_some : IsAt a c → IsAt a (cursor (c.reply + 1) (c.row + x.rows))
    at_some at = omega (arith, at, told_next)

    -- the lines of a call that is told it
    pub told_is : (n seat : ℕ) (call : Call) → told_lines n seat call (rest_at a c) ≡ call_line points.Hidden (record { n = n; seat = seat; call = call; reply = x.reply; first = 0; point = 0 }) ++ flat_map (row_line n) (take x.rows (drop c.row a.rows.items))
    told_is n seat call = ap (told_lines n seat call) rest_some

  pub rest_none : slice_get a.replies.items c.reply ≡ None → rest_at a c ≡ []
  rest_none past = ap (λ xs. answers_in xs (drop c.row a.rows.items)) (drop_none a.replies.items c.reply past)

-- behind the next answer, where there is one, the others are to be told
behind_is : (a : Answers) (c : Cursor) (o : Option Answer) → slice_get a.replies.items c.reply ≡ o → IsAt a c → (rest_at a (behind_answer c o) ≡ drop 1 (rest_at a c)) × IsAt a (behind_answer c o)
behind_is a c None past at = (rest_none a c past ∙ ap (drop 1) (sym (rest_none a c past)), at)
behind_is a c (Some x) here at = (ap (drop 1) (sym (rest_some a c x here)), at_some a c x here at)

-- the seats are as many as their cursors
pub same_long : (answers : List Answers) (cs : List Cursor) → AreAt answers cs → length cs ≡ length answers
same_long [] [] at = refl
same_long [] (c ∷ cs) at = absurd at
same_long (a ∷ more) [] at = absurd at
same_long (a ∷ more) (c ∷ cs) at = ap suc (same_long more cs at.1)

module _ (a : Answers) where
  -- each seat is at its cursor
  pub at_seat : (answers : List Answers) (cs : List Cursor) (seat : ℕ) → seat < length answers → a ≡ get_or answers seat a → AreAt answers cs → IsAt a (get_or cs seat at_first) × (rest_by answers cs seat ≡ rest_at a (get_or cs seat at_first))
  at_seat [] cs seat lt is at = absurd (omega (arith, lt))
  at_seat (b ∷ more) [] seat lt is at = absurd at
  at_seat (b ∷ more) (d ∷ cs) zero lt is at = rw is (at.0, refl)
  at_seat (b ∷ more) (d ∷ cs) (suc seat) lt is at = at_seat more cs seat (omega (arith, lt)) is at.1

  -- one seat goes on behind its next answer
  pub at_set : (answers : List Answers) (cs : List Cursor) (seat : ℕ) → seat < length answers → a ≡ get_or answers seat a → AreAt answers cs → AreAt answers (set cs seat (behind a (get_or cs seat at_first)))
  at_set [] cs seat lt is at = absurd (omega (arith, lt))
  at_set (b ∷ more) [] seat lt is at = absurd at
  at_set (b ∷ more) (d ∷ cs) zero lt is at = rw is ((behind_is b d _ refl at.0).1, at.1)
  at_set (b ∷ more) (d ∷ cs) (suc seat) lt is at = (at.0, at_set more cs seat (omega (arith, lt)) is at.1)

  pub rest_set : (answers : List Answers) (cs : List Cursor) (seat : ℕ) → seat < length answers → a ≡ get_or answers seat a → AreAt answers cs → (k : ℕ) → rest_by answers (set cs seat (behind a (get_or cs seat at_first))) k ≡ behind_first seat (rest_by answers cs) k
  rest_set [] cs seat lt is at k = absurd (omega (arith, lt))
  rest_set (b ∷ more) [] seat lt is at k = absurd at
  rest_set (b ∷ more) (d ∷ cs) zero lt is at zero = rw is (behind_is b d _ refl at.0).0
  rest_set (b ∷ more) (d ∷ cs) zero lt is at (suc k) = rw (eqb-zero-suc k) refl
  rest_set (b ∷ more) (d ∷ cs) (suc seat) lt is at zero = rw (eqb-suc-zero seat) refl
  rest_set (b ∷ more) (d ∷ cs) (suc seat) lt is at (suc k) = rw (eqb-suc-suc seat k) (rest_set more cs seat (omega (arith, lt)) is at.1 k)

-- the lines are told by what each seat has to tell
item_same : (n : ℕ) (item : Item) (f g : ℕ → List Told) → ((k : ℕ) → f k ≡ g k) → (item_lines n item f ≡ item_lines n item g) × ((k : ℕ) → item_behind item f k ≡ item_behind item g k)
item_same n (Ask seat call) f g same = (ap (told_lines n seat call) (same seat), λ k. ap (λ ts. if seat == k then drop 1 ts else ts) (same k))
item_same n (Mark seat number) f g same = (refl, same)
item_same n (After seat number) f g same = (refl, same)
item_same n (Turn seat count) f g same = (refl, same)

pub lines_same : (n : ℕ) (items : List Item) (f g : ℕ → List Told) → ((k : ℕ) → f k ≡ g k) → lines_from n items f ≡ lines_from n items g
lines_same n [] f g same = refl
lines_same n (item ∷ items) f g same =
    let here = item_same n item f g same in
    ap (λ t. t ++ lines_from (number_behind n item) items (item_behind item f)) here.0 ∙ ap (λ t. item_lines n item g ++ t) (lines_same (number_behind n item) items (item_behind item f) (item_behind item g) here.1)

number_calls : (n : ℕ) (item : Item) → number_behind n item ≡ n + item_calls item
number_calls n (Ask seat call) = refl
number_calls n (Mark seat number) = omega arith
number_calls n (After seat number) = omega arith
number_calls n (Turn seat count) = omega arith

module _ (items : List Item) (i : ℕ) (item : Item) (here : slice_get items i ≡ Some item) (n : ℕ) where
  pub next_lines : (of behind : ℕ → List Told) → ((k : ℕ) → behind k ≡ item_behind item of k) → lines_from n (drop i items) of ≡ item_lines n item of ++ lines_from (number_behind n item) (drop (i + 1) items) behind
  next_lines of behind same =
      ap (λ xs. lines_from n xs of) (drop_some items i item here) ∙ ap (λ t. item_lines n item of ++ t) (sym (lines_same (number_behind n item) (drop (i + 1) items) behind (item_behind item of) same))

  pub next_number : n + sum_by item_calls (drop i items) ≡ number_behind n item + sum_by item_calls (drop (i + 1) items)
  next_number = omega (arith, number_calls n item, ap (sum_by item_calls) (drop_some items i item here) ∙ sum_by-cons item_calls item (drop (i + 1) items))

first_told : (a : Answers) (more : List Answers) → ((k : ℕ) → rest_by more (replicate (length more) at_first) k ≡ told_by more k) → (k : ℕ) → rest_by (a ∷ more) (replicate (length (a ∷ more)) at_first) k ≡ told_by (a ∷ more) k
first_told a more rest zero = refl
first_told a more rest (suc k) = rest k

-- nothing was told yet
pub none_told : (answers : List Answers) → All HasItsRows answers → AreAt answers (replicate (length answers) at_first) × ((k : ℕ) → rest_by answers (replicate (length answers) at_first) k ≡ told_by answers k)
none_told [] all = (tt, λ k. refl)
none_told (a ∷ more) all =
    let rest = none_told more (All-tail HasItsRows a more all) in
    ((omega (arith, All-head HasItsRows a more all), rest.0), first_told a more rest.1)
