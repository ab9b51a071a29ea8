-- The points of a lawful and closed book: each place is that of one call, and the log that they make is the book's own.
use Rattle.std.proofs.Common.{rules, ℕ, zero, suc, ◌≡◌, ◌≢◌, ◌≤◌, ◌<◌, ◌+◌, Bool, true, false, List, [], ◌∷◌, ◌++◌, length, get_or, take, add-one, Some, refl, sym, ap, ◌∙◌, arith, if◌then◌else◌}
use Rattle.std.specs.{Prelude.{All, AllPairs, Any, find, slice_get}, List.{AllByRecursion, sum_by}}
use Rattle.std.proofs.lemmas.{Bool.Decides.{nat_tests}, List.{take_all, take_more, Elements.{All-from_recursion, All-tail, recursion_from_All}}}
use Rattle.std.proofs.lemmas.{List.{Sums.{get_or-le-sum_by, sum_by-cons, sum_by-le}}, Option.{get_or_from_slice_get, slice_get_within}}
use Rattle.sh_logic.proofs.Options.{some_is}
use Rattle.sh_map.specs.{declared.{call.{Call.{Call}, Reply.{Reply}}, log.Entry.{Entry}, book.Done.{Done}}, Book.{Answers, AnswersAt, IsClosed, IsLater, IsLawful, IsOwn, made}}
use Rattle.sh_map.specs.Made.{entries_by}
use Rattle.sh_judge.specs.{Places.{ArePlaced, count_at, entry_count, entry_of, is_at, log_of, log_to, placed_entry, update_count}, Tables.{is_placed_below}}

-- an updating call's entry stands in the log at its point
record HasEntry (log : List Entry) (d : Done) : Type 0 where
  entry : Entry
  here : slice_get log d.point ≡ Some entry
  own : entries_by d.seat d.call d.reply ≡ entry ∷ []
  seat : entry.seat ≡ d.seat

entry_at : (log : List Entry) (d : Done) (call : Call) (answer : Reply) → d.call ≡ call → d.reply ≡ answer → AnswersAt log d call answer → made call answer ≡ 1 → HasEntry log d
entry_at log d call answer c r a one = search rules

count_is : (d : Done) → entry_count d ≤ 1
count_is d = search rules

pub test_at : (p : ℕ) (d : Done) → is_at p d ≡ true → (made d.call d.reply ≡ 1) × (d.point ≡ p)
test_at p d e = grind (arith, nat_tests)

pub at_test : (p : ℕ) (d : Done) → IsOwn p d → is_at p d ≡ true
at_test p d own = let one = own.0 in let same = own.1 in grind (arith, nat_tests)

abbrev one_if : Bool → ℕ
one_if t = if t then 1 else 0

head_at : (p : ℕ) (d : Done) (dones : List Done) (t : Bool) → is_at p d ≡ t → count_at p (d ∷ dones) ≡ one_if t + count_at p dones
head_at p d dones t is = sum_by-cons (λ f. one_if (is_at p f)) d dones ∙ ap (λ t. one_if t + count_at p dones) is

module _ (log : List Entry) where
  has_entry : (p : ℕ) (d : Done) → Answers log d → is_at p d ≡ true → HasEntry log d
  has_entry p d a e = entry_at log d d.call d.reply refl refl a.row (test_at p d e).0

  -- two calls of one seat aren't at one place
  apart : (p : ℕ) (d e : Done) → Answers log d → Answers log e → IsLater d e → e.first ≤ e.point → is_at p d ≡ true → is_at p e ≡ true → ⊥
  apart p d e a b later first x y = search (rules, has_entry, test_at, some_is)

  none_at : (p : ℕ) (d : Done) (dones : List Done) → is_at p d ≡ true → AllByRecursion (λ e. is_at p d ≡ true → is_at p e ≡ true → ⊥) dones → count_at p dones ≡ 0
  none_at p d [] x h = refl
  none_at p d (e ∷ dones) x h = by (is_at p e) refl (none_at p d dones x h.1) where
    by : (t : Bool) → is_at p e ≡ t → count_at p dones ≡ 0 → count_at p (e ∷ dones) ≡ 0
    by true is rest = absurd (h.0 x is)
    by false is rest = omega (arith, head_at p e dones false is, rest)

  one_at_most : (p : ℕ) (dones : List Done) → All (Answers log) dones → AllPairs IsLater dones → All (λ d. d.first ≤ d.point) dones → count_at p dones ≤ 1
  one_at_most p [] a later firsts = omega arith
  one_at_most p (d ∷ dones) a later firsts = by (is_at p d) refl (one_at_most p dones tail_a (λ i j x lt within. later (suc i) (suc j) x (omega arith) (omega arith)) tail_f) where
    tail_a : All (Answers log) dones
    tail_a = All-tail (Answers log) d dones a

    tail_f : All (λ d. d.first ≤ d.point) dones
    tail_f = All-tail (λ d. d.first ≤ d.point) d dones firsts

    others : AllByRecursion (λ e. is_at p d ≡ true → is_at p e ≡ true → ⊥) dones
    others = recursion_from_All (λ e. is_at p d ≡ true → is_at p e ≡ true → ⊥) dones (λ k x within. apart p d _ (a 0 d (omega arith)) (tail_a k x within) (later 0 (suc k) x (omega arith) (omega arith)) (tail_f k x within))

    by : (t : Bool) → is_at p d ≡ t → count_at p dones ≤ 1 → count_at p (d ∷ dones) ≤ 1
    by true is rest = omega (arith, head_at p d dones true is, none_at p d dones is others)
    by false is rest = omega (arith, head_at p d dones false is, rest)

  some_at : (p : ℕ) (dones : List Done) → Any (IsOwn p) dones → 1 ≤ count_at p dones
  some_at p dones any = search (rules, at_test, get_or-le-sum_by)

  -- ---- the log

  placed : (p : ℕ) (dones : List Done) → All (Answers log) dones → count_at p dones ≢ 0 → (e : Entry) × (slice_get log p ≡ Some e) × (placed_entry dones p ≡ e ∷ [])
  placed p [] a some = absurd (some refl)
  placed p (d ∷ dones) a some = by (is_at p d) refl (placed p dones (All-tail (Answers log) d dones a)) where
    by : (t : Bool) → is_at p d ≡ t → (count_at p dones ≢ 0 → (e : Entry) × (slice_get log p ≡ Some e) × (placed_entry dones p ≡ e ∷ [])) → (e : Entry) × (slice_get log p ≡ Some e) × (placed_entry (d ∷ dones) p ≡ e ∷ [])
    by true is rest =
        let h = has_entry p d (a 0 d (omega arith)) is in
        (h.entry, ap (slice_get log) (sym (test_at p d is).1) ∙ h.here, rw is h.own)
    by false is rest =
        let more = rest (λ none. some (omega (arith, head_at p d dones false is, none))) in
        (more.0, more.1, ap (λ t. entry_of (if t then Some d else find (is_at p) dones)) is ∙ more.2)

-- how many updating calls have a point below n
placed_below : (n : ℕ) (dones : List Done) → ℕ
placed_below n dones = sum_by (λ d. one_if (is_placed_below n d)) dones

module _ (f g h : Done → ℕ) (are : (d : Done) → f d ≡ g d + h d) where
  sums : (dones : List Done) → sum_by f dones ≡ sum_by g dones + sum_by h dones
  sums [] = refl
  sums (d ∷ dones) = omega (arith, sum_by-cons f d dones, sum_by-cons g d dones, sum_by-cons h d dones, are d, sums dones)

module _ (f g : Done → ℕ) where
  same_sums : (dones : List Done) → AllByRecursion (λ d. f d ≡ g d) dones → sum_by f dones ≡ sum_by g dones
  same_sums [] are = refl
  same_sums (d ∷ dones) are = omega (arith, sum_by-cons f d dones, sum_by-cons g d dones, are.0, same_sums dones are.1)

none_below : (d : Done) → one_if (is_placed_below 0 d) ≡ 0
none_below d = grind (arith, nat_tests)

nothing : (dones : List Done) → placed_below 0 dones ≡ 0
unfolding placed_below
nothing [] = refl
nothing (d ∷ dones) = omega (arith, sum_by-cons (λ d. one_if (is_placed_below 0 d)) d dones, none_below d, nothing dones)

all_below : (n : ℕ) (d : Done) → (entry_count d ≡ 1 → d.point < n) → entry_count d ≡ one_if (is_placed_below n d)
all_below n d within = let few = count_is d in grind (arith, nat_tests)

step : (n : ℕ) (d : Done) → one_if (is_placed_below (suc n) d) ≡ one_if (is_placed_below n d) + one_if (is_at n d)
step n d = grind (arith, nat_tests)

module _ (log : List Entry) (dones : List Done) (law : IsLawful log dones) (closed : IsClosed log dones) where
  one_each : (p : ℕ) → p < length log → count_at p dones ≡ 1
  one_each p within = omega (arith, one_at_most log p dones law.answers law.order law.firsts, some_at log p dones (closed p within))

  below : (n : ℕ) → n ≤ length log → placed_below n dones ≡ n
  unfolding placed_below
  below zero within = nothing dones
  below (suc n) within = omega (arith, sums _ _ _ (step n) dones, below n (omega arith), one_each n (omega arith))

  -- there are as many updating calls as entries
  updates : update_count dones ≡ length log
  unfolding placed_below
  updates = same_sums _ _ dones (recursion_from_All _ dones (λ k d within. all_below (length log) (get_or dones k d) (λ one. let x = get_or dones k d in let h = entry_at log x x.call x.reply refl refl (law.answers k d within).row one in slice_get_within log x.point h.entry h.here))) ∙ below (length log) (omega arith)

  pub few_entries : length log ≤ length dones
  few_entries = omega (arith, updates, sum_by-le entry_count 1 dones (All-from_recursion (λ d. entry_count d ≤ 1) dones (few dones))) where
    few : (ds : List Done) → AllByRecursion (λ d. entry_count d ≤ 1) ds
    few [] = tt
    few (d ∷ ds) = (count_is d, few ds)

  -- each place is that of one
  pub are_placed : ArePlaced dones
  are_placed p within = one_each p (omega (arith, updates))

  logged : (n : ℕ) → n ≤ length log → log_to dones n ≡ take n log
  unfolding log_to
  logged zero within = refl
  logged (suc n) within =
      let h = placed log n dones law.answers (λ none. absurd (omega (arith, one_each n (omega arith), none))) in
      ap (λ l. l ++ placed_entry dones n) (logged n (omega arith)) ∙ ap (λ l. take n log ++ l) h.2 ∙ sym (rw (← add-one n) (take_more log n h.0 (omega arith) ∙ ap (λ e. take n log ++ e ∷ []) (get_or_from_slice_get log n h.0 h.0 h.1)))

  -- and the log is theirs
  pub log_is : log_of dones ≡ log
  log_is = ap (log_to dones) updates ∙ logged (length log) (omega arith) ∙ take_all (length log) log (omega arith)
