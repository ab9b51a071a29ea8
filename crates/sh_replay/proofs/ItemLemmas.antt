-- The items of a sheet, one after another.
use Rattle.std.{proofs.Common.{rules, ◌≡◌, ◌≤◌, ◌<◌, ℕ, ◌+◌, ◌-◌, ◌^◌, List, [], ◌∷◌, ◌++◌, length, take, get_or, refl, sym, ap, subst, ◌∙◌, arith}, specs.Prelude.{All, Option, Some, None}}
use Rattle.std.{specs.List.{fold, sum_by}, proofs.lemmas.List.{length-append, take_more, Sums.{fold_more, sum_by-cons, sum_by-take-le}}}
use Rattle.sh_base.specs.declared.config.ConfigParts.{ConfigParts}
use Rattle.sh_map.specs.declared.call.Call.{Call}
use Rattle.sh_sheet.specs.{declared.item.Item.{Item, TheVariants.{Ask, Mark, After, Turn}}, Sheet.{item_calls, IsLawfulItem}}
use Rattle.sh_world.specs.{States.{Place, State, fresh_call}, Turning.{give_at}}
use Rattle.sh_replay.specs.{declared.turns.TurnRow.{TurnRow}, Course.{given_by, row_asks, turn_asks}, TurnRows.{kept_asks, turn_rows}}
use Rattle.sh_replay.proofs.TurnLemmas.{give_seats, give_setting}

-- one item more
pub item_more : (f : State → Item → State) (first world after : State) (items : List Item) (i : ℕ) (item : Item) → i < length items → item ≡ get_or items i item → world ≡ fold f first (take i items) → after ≡ f world item → after ≡ fold f first (take (i + 1) items)
item_more f first world after items i item below is so e = e ∙ ap (λ (t : State). f t item) so ∙ ap (f (fold f first (take i items))) is ∙ sym (fold_more f first items i item below)

-- an item that isn't a call changes nothing
pub no_call : (s : State) (item : Item) → ((seat : ℕ) (call : Call) → item ≡ Ask seat call → ⊥) → given_by s item ≡ s
no_call s item not = search rules

-- ---- what the items leave

pub given_keeps : (s : State) (item : Item) → ((given_by s item).setting ≡ s.setting) × (length (given_by s item).seats ≡ length s.seats)
given_keeps s item = search (rules, give_setting, give_seats)

all_given_keep : (items : List Item) (s : State) → ((fold given_by s items).setting ≡ s.setting) × (length (fold given_by s items).seats ≡ length s.seats)
all_given_keep [] s = (refl, refl)
all_given_keep (i ∷ is) s = ((all_given_keep is (given_by s i)).0 ∙ (given_keeps s i).0, (all_given_keep is (given_by s i)).1 ∙ (given_keeps s i).1)

pub given_setting : (items : List Item) (s : State) → (fold given_by s items).setting ≡ s.setting
given_setting items s = (all_given_keep items s).0

pub given_seats : (items : List Item) (s : State) → length (fold given_by s items).seats ≡ length s.seats
given_seats items s = (all_given_keep items s).1

-- ---- how many calls

give_count : (s : State) (seat : ℕ) (call : Call) (o : Option Place) → length (give_at s seat call o).calls ≤ length s.calls + 1
give_count s seat call None = omega arith
give_count s seat call (Some q) =
    omega (arith, length-append s.calls (fresh_call seat call ∷ []))

given_count : (s : State) (item : Item) → length (given_by s item).calls ≤ length s.calls + item_calls item
given_count s item = search (rules, give_count)

pub given_counts : (items : List Item) (s : State) → length (fold given_by s items).calls ≤ length s.calls + sum_by item_calls items
given_counts [] s = omega arith
given_counts (i ∷ is) s = omega (arith, given_count s i, given_counts is (given_by s i), sum_by-cons item_calls i is)

pub few_given : (first world : State) (items : List Item) (i : ℕ) → world ≡ fold given_by first (take i items) → first.calls ≡ [] → sum_by item_calls items ≤ 1000000 → length world.calls < 2 ^ 32 - 1
few_given first world items i so none few = omega (arith, ap (λ (t : State). length t.calls) so, given_counts (take i items) first, ap length none, sum_by-take-le item_calls items i, few)

-- ---- items that are lawful

pub lawful_at : (p : ConfigParts) (items : List Item) (i : ℕ) (item other : Item) → All (IsLawfulItem p) items → i < length items → item ≡ get_or items i item → item ≡ other → IsLawfulItem p other
lawful_at p items i item other all below is e = subst (IsLawfulItem p) (sym is ∙ e) (all i item below)

-- ---- turn rows

rows_append : (xs ys : List Item) → turn_rows (xs ++ ys) ≡ turn_rows xs ++ turn_rows ys
rows_append [] ys = refl
rows_append (Ask seat call ∷ xs) ys = rows_append xs ys
rows_append (Mark seat n ∷ xs) ys = rows_append xs ys
rows_append (After seat n ∷ xs) ys = rows_append xs ys
rows_append (Turn seat count ∷ xs) ys = ap (λ (rs : List TurnRow). record { seat = seat; count = count } ∷ rs) (rows_append xs ys)

-- one item more
pub rows_more : (items : List Item) (i : ℕ) (item : Item) (old new : List TurnRow) → i < length items → item ≡ get_or items i item → old ≡ turn_rows (take i items) → new ≡ old ++ turn_rows (item ∷ []) → new ≡ turn_rows (take (i + 1) items)
rows_more items i item old new below is so e =
    e ∙ ap (λ (rs : List TurnRow). rs ++ turn_rows (item ∷ [])) so ∙ sym (rows_append (take i items) (item ∷ [])) ∙ ap turn_rows (ap (λ (x : Item). take i items ++ x ∷ []) is ∙ sym (take_more items i item below))

pub no_row : (old : List TurnRow) (item : Item) → ((seat count : ℕ) → item ≡ Turn seat count → ⊥) → old ≡ old ++ turn_rows (item ∷ [])
no_row old item not = search rules

-- their seats are those of the items
pub kept_are : (items : List Item) → kept_asks (turn_rows items) ≡ row_asks items
kept_are [] = refl
kept_are (Ask seat call ∷ items) = kept_are items
kept_are (Mark seat n ∷ items) = kept_are items
kept_are (After seat n ∷ items) = kept_are items
kept_are (Turn seat count ∷ items) = ap (λ xs. turn_asks seat count ++ xs) (kept_are items)
