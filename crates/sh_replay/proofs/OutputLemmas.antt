-- The lines of calls, one after another.
use Rattle.std.proofs.Common.{rules, ◌≡◌, ◌<◌, ◌≤◌, Bool, ℕ, ◌+◌, true, false, List, [], ◌∷◌, ◌++◌, map, length, take, drop, get_or, Option, Some, refl, sym, ap, ◌∙◌, append_assoc, arith}
use Rattle.std.{proofs.lemmas.List.{append-nil, drop_more, length-take-le, take-append-drop, take_more, Concat.{flat_map-append}, Folds.{list_all_at, list_all_more}}, specs.List.{flat_map, fold}}
use Rattle.std.proofs.lemmas.{List.Sums.{fold-append, sum_by_more}, Option.{get_or_from_slice_get, slice_get_within}, Bool.{and_parts}}
use Rattle.std.specs.Prelude.{◌&&◌, if◌then◌else◌, is_some, slice_get}
use Rattle.sh_map.specs.declared.{call.{Call.{Call}, Reply.{Reply}}, book.{Done.{Done}, Row.{Row}}}
use Rattle.sh_port.{specs.Port.{AppendsFront}, proofs.Bytes.{appends_none}}
use Rattle.sh_text.{specs.{Text.{calls_text, row_line}, Counts.{counts_of, no_counts, with_answer, with_part, with_rows}, declared.counts.Counts.{Counts}}, proofs.Fronts.{front_more, part_at}}
use Rattle.sh_text.specs.declared.points.Points.TheVariants as points
use Rattle.sh_world.specs.States.{Given, done_in, dones_from, dones_of}
use Rattle.sh_replay.specs.{Course.{have_ended}, Output.{count_ended, counted, ended_by, lines_from, text_with, total}, Served.{item_of}}
use Rattle.sh_sheet.specs.Sheet.{done_item}

-- a front of the first part is one of the whole
pub front_of_first : (a b : Option (List ℕ)) (first second : List ℕ) → AppendsFront a b first → AppendsFront a b (first ++ second)
front_of_first a b first second f = front_more a a b [] first second (first ++ second) refl (appends_none a) f

lines_append : (n : ℕ) (xs ys : List Given) → lines_from n (xs ++ ys) ≡ lines_from n xs ++ lines_from (n + length xs) ys
lines_append n [] ys = ap (λ k. lines_from k ys) (omega arith)
lines_append n (x ∷ xs) ys =
    let next : n + 1 + length xs ≡ n + length (x ∷ xs) = omega arith in
    ap (λ t. text_with n x x.reply ++ t) (lines_append (n + 1) xs ys ∙ ap (λ k. lines_from (n + 1) xs ++ lines_from k ys) next) ∙ sym (append_assoc (text_with n x x.reply) (lines_from (n + 1) xs) (lines_from (n + length (x ∷ xs)) ys))

module _ (calls : List Given) (i : ℕ) (g : Given) (n : ℕ) (below : i < length calls) (is : get_or calls i g ≡ g) (number : n ≡ i + 1) where
  place : 1 + length (take i calls) ≡ n
  place = omega (arith, length-take-le i calls (omega (arith, below)), number)

  -- the lines before a call's, its own, and those behind it
  pub lines_at : lines_from 1 calls ≡ lines_from 1 (take i calls) ++ (text_with n g g.reply ++ lines_from (n + 1) (drop (i + 1) calls))
  lines_at = ap (lines_from 1) (sym (take-append-drop i calls)) ∙ lines_append 1 (take i calls) (drop i calls) ∙ ap (λ k. lines_from 1 (take i calls) ++ lines_from k (drop i calls)) place ∙ ap (λ l. lines_from 1 (take i calls) ++ lines_from n l) (drop_more calls i g below ∙ ap (λ x. x ∷ drop (i + 1) calls) is)

  -- one line more
  pub lines_more : lines_from 1 (take (i + 1) calls) ≡ lines_from 1 (take i calls) ++ text_with n g g.reply
  lines_more = ap (lines_from 1) (take_more calls i g below ∙ ap (λ x. take i calls ++ x ∷ []) is) ∙ lines_append 1 (take i calls) (g ∷ []) ∙ ap (λ k. lines_from 1 (take i calls) ++ lines_from k (g ∷ [])) place ∙ ap (λ t. lines_from 1 (take i calls) ++ t) (append-nil (text_with n g g.reply))

-- the rows' lines before a row's, its own, and those behind it
pub row_line_at : (n : ℕ) (rows : List Row) (i : ℕ) (r : Row) → slice_get rows i ≡ Some r → flat_map (row_line n) rows ≡ flat_map (row_line n) (take i rows) ++ (row_line n r ++ flat_map (row_line n) (drop (i + 1) rows))
row_line_at n rows i r here = part_at (row_line n) rows i r (slice_get_within rows i r here) ∙ ap (λ x. flat_map (row_line n) (take i rows) ++ (row_line n x ++ flat_map (row_line n) (drop (i + 1) rows))) (get_or_from_slice_get rows i r r here)

-- one row's line more
pub row_line_more : (n : ℕ) (rows : List Row) (i : ℕ) (r : Row) → slice_get rows i ≡ Some r → flat_map (row_line n) (take (i + 1) rows) ≡ flat_map (row_line n) (take i rows) ++ row_line n r
row_line_more n rows i r here =
    ap (flat_map (row_line n)) (take_more rows i r (slice_get_within rows i r here) ∙ ap (λ x. take i rows ++ x ∷ []) (get_or_from_slice_get rows i r r here))
    ∙ flat_map-append (row_line n) (take i rows) (r ∷ []) ∙ ap (λ t. flat_map (row_line n) (take i rows) ++ t) (append-nil (row_line n r))

-- ---- whether a call has ended

one_at_most : (b : Bool) → (if b then 1 else 0) ≤ 1
one_at_most b = search rules

module _ (calls : List Given) (i : ℕ) (g : Given) (here : slice_get calls i ≡ Some g) where
  below : i < length calls
  below = slice_get_within calls i g here

  same : get_or calls i g ≡ g
  same = get_or_from_slice_get calls i g g here

  pub ended_more : have_ended (take i calls) ≡ true → is_some g.reply ≡ true → have_ended (take (i + 1) calls) ≡ true
  ended_more so e = list_all_more (λ (x : Given). is_some x.reply) calls i g below ∙ (λ t. so t && (ap (λ (x : Given). is_some x.reply) same ∙ e) t)

  pub open_there : is_some g.reply ≡ false → have_ended calls ≡ false
  open_there e = list_all_at (λ (x : Given). is_some x.reply) calls i g below (ap (λ (x : Given). is_some x.reply) same ∙ e)

  -- one more is counted
  pub count_more : (count r : ℕ) → count ≡ count_ended (take i calls) → count ≤ i → r ≡ ended_by g → (count + r ≡ count_ended (take (i + 1) calls)) × (count + r ≤ i + 1)
  count_more count r so le is = search (rules, sum_by_more, below, same, one_at_most)

-- ---- how many were answered in which way

dones_append : (n : ℕ) (xs ys : List Given) → dones_from n (xs ++ ys) ≡ dones_from n xs ++ dones_from (n + length xs) ys
dones_append n [] ys = ap (λ k. dones_from k ys) (omega arith)
dones_append n (x ∷ xs) ys =
    let next : n + 1 + length xs ≡ n + length (x ∷ xs) = omega arith in
    ap (λ t. done_in n x x.reply ++ t) (dones_append (n + 1) xs ys ∙ ap (λ k. dones_from (n + 1) xs ++ dones_from k ys) next) ∙ sym (append_assoc (done_in n x x.reply) (dones_from (n + 1) xs) (dones_from (n + length (x ∷ xs)) ys))

abbrev count_one : Counts → Done → Counts
count_one c d = with_answer c d.call d.reply

count_done : (c : Counts) (n : ℕ) (g : Given) (o : Option Reply) → fold count_one c (done_in n g o ++ []) ≡ counted c g.call o
count_done c n g o = search rules

counts_more : (calls : List Given) (i : ℕ) (g : Given) → slice_get calls i ≡ Some g → counts_of (dones_of (take (i + 1) calls)) ≡ counted (counts_of (dones_of (take i calls))) g.call g.reply
counts_more calls i g here =
    let next : take (i + 1) calls ≡ take i calls ++ g ∷ [] = take_more calls i g (slice_get_within calls i g here) ∙ ap (λ x. take i calls ++ x ∷ []) (get_or_from_slice_get calls i g g here) in
    let n = 1 + length (take i calls) in
    ap (fold count_one no_counts) (ap dones_of next ∙ dones_append 1 (take i calls) (g ∷ [])) ∙ fold-append count_one no_counts (dones_of (take i calls)) (done_in n g g.reply ++ []) ∙ count_done (counts_of (dones_of (take i calls))) n g g.reply

one_range : (b : Bool) (c : Counts) → total (if b then with_part c else with_rows c) ≡ total c + 1
one_range b c = search rules

-- each answer is counted once
one_total : (c : Counts) (call : Call) (r : Reply) → total (with_answer c call r) ≡ total c + 1
one_total c call r = search (rules, one_range)

counted_total : (c : Counts) (call : Call) (o : Option Reply) → total (counted c call o) ≤ total c + 1
counted_total c call o = search (rules, one_total)

-- one call more is counted
pub counts_step : (calls : List Given) (i : ℕ) (g : Given) (old new : Counts) → slice_get calls i ≡ Some g → new ≡ counted old g.call g.reply → old ≡ counts_of (dones_of (take i calls)) → total old ≤ i → (new ≡ counts_of (dones_of (take (i + 1) calls))) × (total new ≤ i + 1)
counts_step calls i g old new here is so few = search (rules, counts_more, counted_total)

-- ---- where every call has ended

item_head : (n : ℕ) (g : Given) (o : Option Reply) (ds : List Done) → is_some o ≡ true → map done_item (done_in n g o ++ ds) ≡ item_of g ∷ map done_item ds
item_head n g o ds e = search rules

pub done_items : (n : ℕ) (calls : List Given) → have_ended calls ≡ true → map done_item (dones_from n calls) ≡ map item_of calls
done_items n [] e = refl
done_items n (g ∷ calls) e =
    item_head n g g.reply (dones_from (n + 1) calls) ((and_parts (is_some g.reply) (have_ended calls) e).0)
    ∙ ap (λ l. item_of g ∷ l) (done_items (n + 1) calls ((and_parts (is_some g.reply) (have_ended calls) e).1))

text_head : (n : ℕ) (g : Given) (o : Option Reply) (ds : List Done) → is_some o ≡ true → text_with n g o ++ calls_text points.Shown ds ≡ calls_text points.Shown (done_in n g o ++ ds)
text_head n g o ds e = search rules

pub done_lines : (n : ℕ) (calls : List Given) → have_ended calls ≡ true → lines_from n calls ≡ calls_text points.Shown (dones_from n calls)
done_lines n [] e = refl
done_lines n (g ∷ calls) e =
    ap (λ t. text_with n g g.reply ++ t) (done_lines (n + 1) calls ((and_parts (is_some g.reply) (have_ended calls) e).1))
    ∙ text_head n g g.reply (dones_from (n + 1) calls) ((and_parts (is_some g.reply) (have_ended calls) e).0)
