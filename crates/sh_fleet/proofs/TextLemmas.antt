-- The lines of the answers are those of the finished calls.
use Rattle.std.{proofs.{Math.Dec.{eqb-suc-suc}, Common.{arith, refl, ℕ, zero, suc, ◌≡◌, ◌≢◌, ◌+◌, Bool, true, false, List, [], ◌∷◌, ◌++◌, map, length, drop, get_or, sym, ap, ◌∙◌, subst, add-one}, lemmas.List.{length-map, Sums.{sum_by-cons}}}, specs.{List.{sum_by}, Prelude.{◌==◌, if◌then◌else◌, filter}}}
use Rattle.sh_map.specs.declared.book.{Done.{Done}, Row.{Row}}
use Rattle.sh_port.proofs.Fronts.{some_last}
use Rattle.sh_sheet.specs.{declared.item.Item.{Item, TheVariants.{Ask, Mark, After, Turn}}, Sheet.{done_item, is_call, item_calls}}
use Rattle.sh_text.specs.Text.{call_line, call_text, calls_text, end_line, end_lines, map_lines, sum_of}
use Rattle.sh_text.specs.declared.points.Points.TheVariants as points
use Rattle.sh_core_says.specs.Books.{calls_by}
use Rattle.sh_fleet.{specs.{Sharing.{told_of, Told}, Served.{AreNumbered}}, proofs.OutputLemmas.{lines_same}}
use Rattle.sh_fleet.specs.Output.{behind_first, lines_from, text_from, text_of, told_lines}

-- without points the text of a call doesn't depend on them
one_text : (n : ℕ) (d : Done) (ts : List Told) → d.n ≡ n → told_lines n d.seat d.call (told_of d ∷ ts) ≡ call_text points.Hidden d
unfolding call_line
one_text n d ts is = rw (sym is) refl

itself : (n : ℕ) → (n == n) ≡ true
itself zero = refl
itself (suc n) = eqb-suc-suc n n ∙ itself n

module _ (d : Done) (dones : List Done) (of : ℕ → List Told) (all : (k : ℕ) → of k ≡ map told_of (calls_by k (d ∷ dones))) where
  first_told : of d.seat ≡ told_of d ∷ map told_of (calls_by d.seat dones)
  first_told = all d.seat ∙ ap (λ b. map told_of (if b then d ∷ calls_by d.seat dones else calls_by d.seat dones)) (itself d.seat)

  by_flag : (k : ℕ) (b : Bool) (ts : List Told) → ts ≡ map told_of (if b then d ∷ calls_by k dones else calls_by k dones) → (if b then drop 1 ts else ts) ≡ map told_of (calls_by k dones)
  by_flag k true ts is = ap (drop 1) is
  by_flag k false ts is = is

  rest_told : (k : ℕ) → behind_first d.seat of k ≡ map told_of (calls_by k dones)
  rest_told k = by_flag k (d.seat == k) (of k) (all k)

  one_more : (n : ℕ) (items : List Item) → d.n ≡ n → lines_from (n + 1) items (behind_first d.seat of) ≡ calls_text points.Hidden dones → lines_from n (done_item d ∷ items) of ≡ calls_text points.Hidden (d ∷ dones)
  one_more n items is rest =
      ap (λ ts. told_lines n d.seat d.call ts ++ lines_from (n + 1) items (behind_first d.seat of)) first_told
      ∙ ap (λ t. t ++ lines_from (n + 1) items (behind_first d.seat of)) (one_text n d (map told_of (calls_by d.seat dones)) is)
      ∙ ap (λ t. call_text points.Hidden d ++ t) rest

-- the items' lines are those of the finished calls
pub done_text : (n : ℕ) (items : List Item) (dones : List Done) (of : ℕ → List Told) → map done_item dones ≡ filter is_call items → AreNumbered n dones → ((k : ℕ) → of k ≡ map told_of (calls_by k dones)) → lines_from n items of ≡ calls_text points.Hidden dones
done_text n [] [] of calls numbers all = refl
done_text n [] (d ∷ dones) of calls numbers all = absurd (cc)
done_text n (Ask seat call ∷ items) [] of calls numbers all = absurd (cc)
done_text n (Ask seat call ∷ items) (d ∷ dones) of calls numbers all =
    let head : done_item d ≡ Ask seat call = ap (λ l. get_or l 0 (done_item d)) calls in
    let next = subst (λ m. AreNumbered m dones) (sym (add-one n)) numbers.1 in
    subst (λ item. lines_from n (item ∷ items) of ≡ calls_text points.Hidden (d ∷ dones)) head (one_more d dones of all n items numbers.0 (done_text (n + 1) items dones (behind_first d.seat of) (ap (drop 1) calls) next (rest_told d dones of all)))
done_text n (Mark seat number ∷ items) dones of calls numbers all = done_text n items dones of calls numbers all
done_text n (After seat number ∷ items) dones of calls numbers all = done_text n items dones of calls numbers all
done_text n (Turn seat count ∷ items) dones of calls numbers all = done_text n items dones of calls numbers all

calls_count : (items : List Item) → sum_by item_calls items ≡ length (filter is_call items)
calls_count [] = refl
calls_count (Ask seat call ∷ items) = sum_by-cons item_calls (Ask seat call) items ∙ omega (arith, calls_count items)
calls_count (Mark seat number ∷ items) = sum_by-cons item_calls (Mark seat number) items ∙ omega (arith, calls_count items)
calls_count (After seat number ∷ items) = sum_by-cons item_calls (After seat number) items ∙ omega (arith, calls_count items)
calls_count (Turn seat count ∷ items) = sum_by-cons item_calls (Turn seat count) items ∙ omega (arith, calls_count items)

-- the output as it is written is that of the finished calls
pub text_is : (asked : Bool) (items : List Item) (dones : List Done) (of : ℕ → List Told) (rows : List Row) → map done_item dones ≡ filter is_call items → AreNumbered 1 dones → ((k : ℕ) → of k ≡ map told_of (calls_by k dones)) → text_from asked items of rows ≡ text_of asked dones rows
unfolding text_from text_of
text_is asked items dones of rows calls numbers all =
    let count = calls_count items ∙ ap length (sym calls) ∙ length-map dones done_item in
    ap (λ t. t ++ end_lines asked (sum_by item_calls items) rows) (done_text 1 items dones of calls numbers all) ∙ ap (λ n. calls_text points.Hidden dones ++ end_lines asked n rows) count

pub text_same : (asked : Bool) (items : List Item) (f g : ℕ → List Told) (rows : List Row) → ((k : ℕ) → f k ≡ g k) → text_from asked items f rows ≡ text_from asked items g rows
unfolding text_from
text_same asked items f g rows same = ap (λ t. t ++ end_lines asked (sum_by item_calls items) rows) (lines_same 1 items f g same)

end_some : (calls keys sum : ℕ) → end_line calls keys sum ≢ []
unfolding end_line
end_some calls keys sum e = absurd (cc)

-- there is a last line
pub text_some : (asked : Bool) (items : List Item) (of : ℕ → List Told) (rows : List Row) → text_from asked items of rows ≢ []
unfolding text_from
text_some asked items of rows = some_last (lines_from 1 items of) (end_lines asked (sum_by item_calls items) rows) (some_last (map_lines asked rows) (end_line (sum_by item_calls items) (length rows) (sum_of rows)) (end_some (sum_by item_calls items) (length rows) (sum_of rows)))
