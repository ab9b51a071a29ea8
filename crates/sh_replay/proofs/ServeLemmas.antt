-- A sheet that a laid world was given and has served.
use Rattle.std.proofs.Common.{rules, ◌≡◌, ◌≤◌, ◌<◌, ℕ, zero, suc, ◌+◌, List, [], ◌∷◌, ◌++◌, map, length, Bool, Option, Result, refl, sym, ap, subst, ◌∙◌, arith}
use Rattle.std.{specs.{Prelude.{All, IfOk, filter, true}, List.{sum_by}, FinMap.{empty, entries, len-empty, len-entries}, Ordering.{nat_cmp}}, proofs.lemmas.List.{length-map}}
use Rattle.std.proofs.lemmas.List.Sums.{sum_by-cons}
use Rattle.sh_base.specs.{declared.config.ConfigParts.{ConfigParts}, Setting.{all_seats, IsSetting}}
use Rattle.sh_map.specs.{declared.book.Row.{Row}, Book.{IsClosed}, Log.{map_of}, Map.{Map, row_pair, size}}
use Rattle.sh_sheet.specs.{declared.item.Item.{Item, TheVariants.{Ask, Mark, After, Turn}}, Sheet.{item_calls, IsLawfulItem, item_seat, is_call}}
use Rattle.sh_tree.specs.Tree.{IsTree, map_in}
use Rattle.sh_world.specs.{Laws.{IsLawfulWorld}, Running.{IsRunning}, States.{State, dones_of, fresh_from, fresh_state}, Turning.{is_idle_at, turn_of}}
use Rattle.sh_replay.specs.declared.ending.Finish.{Finish, TheVariants.{Done, Spent}}
use Rattle.sh_replay.specs.{Course.{all_asks, begun, budget_of, course, course_from, finished, goes_on, have_ended, row_asks, rounds_asks, Asking, Course, HasFinished}, Run.{IsRun}, Standing.{HasEnds}, Stopping.{Stops}}
use Rattle.sh_replay.specs.{Served.{item_of, row_of, HasEnded, HasServed, HasStopped, HoldsAll, HoldsRows, IsGiven}, declared.turns.TurnRow.{TurnRow}, TurnRows.{kept_asks, turn_rows}}
use Rattle.sh_replay.proofs.{CallLemmas.{all_given, map_size, turn_same}, EndLemmas.{all_rest, idle_ended}, ItemLemmas.{given_seats, given_setting, kept_are}, RunLemmas.{course_run, given_run}}
use Rattle.sh_replay.proofs.{TurnLemmas.{all_keep, turn_seats, turn_setting}, WaitLemmas.{has_waited, right_course, right_given, IsRight}}

-- what a world's laws give
abbrev pub IsSound : State → Type 0
IsSound s = IsLawfulWorld s × IsRunning s

-- rows are those of their pairs
rows_back : (rows : List Row) → rows ≡ map row_of (map row_pair rows)
rows_back [] = refl
rows_back (r ∷ rs) = ap (λ ts. r ∷ ts) (rows_back rs)

rows_at_rest : {E : Type 0} (s : State) (levels : List (List ℕ)) (closed : IsClosed s.log (dones_of s.calls)) (tree : IsTree s.setting s.words levels) (holds : map_in s.setting s.words levels ≡ map_of s.log) (r : Result (List Row) E) → IfOk r (λ rows. map row_pair rows ≡ entries (map_in s.setting s.words levels)) → IfOk r (HoldsAll s)
rows_at_rest s levels closed tree holds h5 h = search (rules, rows_back)

pub rows_of_words : {E : Type 0} (s : State) (p : ConfigParts) (words : List ℕ) (r : Result (List Row) E) → IsSound s → have_ended s.calls ≡ true → p ≡ s.setting → words ≡ s.words
    → ((levels : List (List ℕ)) → IsTree p words levels → IfOk r (λ rows. map row_pair rows ≡ entries (map_in p words levels))) → IfOk r (HoldsAll s)
rows_of_words s p words r sound ended setting same h =
    let idle = idle_ended s sound.1 ended in
    let rest = sound.0.rest (λ seat q here. ap is_idle_at (sym here) ∙ idle seat) in
    let here = subst (λ (q : ConfigParts). (levels : List (List ℕ)) → IsTree q s.words levels → IfOk r (λ rows. map row_pair rows ≡ entries (map_in q s.words levels))) setting
    (subst (λ (ws : List ℕ). (levels : List (List ℕ)) → IsTree p ws levels → IfOk r (λ rows. map row_pair rows ≡ entries (map_in p ws levels))) same h) in
    rows_at_rest s rest.levels (sound.0.book.closed (all_rest s sound.1 idle)) rest.tree rest.map r (here rest.levels rest.tree)

-- there are no more rows than entries of the log
pub few_rows : (s : State) (finish : Finish) (rows : List Row) → IsSound s → length s.calls ≤ 1000000 → HoldsRows s finish rows → length rows ≤ 4294967296
few_rows s (Spent turns) rows sound few h = omega (arith, ap length h)
few_rows s (Done turns) rows sound few h =
    let m : Map = map_in s.setting s.words h.levels in
    omega (arith, ap length h.rows_are, length-map (entries m) row_of, sym (len-entries m), ap size h.holds, map_size s.log empty, len-empty nat_cmp (List ℕ), sound.0.few, few)

fresh_seats : (p : ConfigParts) (seat count : ℕ) → length (fresh_from p seat count) ≡ count
fresh_seats p seat zero = refl
fresh_seats p seat (suc count) = ap suc (fresh_seats p (seat + 1) count)

pub calls_counted : (items : List Item) → length (filter is_call items) ≡ sum_by item_calls items
calls_counted [] = refl
calls_counted (Ask seat call ∷ is) = omega (arith, calls_counted is, sum_by-cons item_calls (Ask seat call) is)
calls_counted (Mark seat n ∷ is) = omega (arith, calls_counted is, sum_by-cons item_calls (Mark seat n) is)
calls_counted (After seat n ∷ is) = omega (arith, calls_counted is, sum_by-cons item_calls (After seat n) is)
calls_counted (Turn seat count ∷ is) = omega (arith, calls_counted is, sum_by-cons item_calls (Turn seat count) is)

some_seats : (p : ConfigParts) → IsSetting p → 0 < all_seats p
some_seats p h = search rules

-- the asks of the rows that were kept, and the rounds behind them, are the items' asks
pub asks_are : (items : List Item) (rows : List TurnRow) (n seats budget : ℕ) → rows ≡ turn_rows items → n ≡ seats → kept_asks rows ++ rounds_asks budget n ≡ all_asks items seats budget
asks_are items rows n seats budget are same = ap (λ l. kept_asks l ++ rounds_asks budget n) are ∙ ap (λ xs. xs ++ rounds_asks budget n) (kept_are items) ∙ ap (λ k. row_asks items ++ rounds_asks budget k) same

-- the seats of lawful items
pub all_within : (p : ConfigParts) (items : List Item) → all_seats p ≤ 64 → All (IsLawfulItem p) items → All (λ (i : Item). item_seat i < 64) items
all_within p items few all = search rules

-- rows there are, whether memory was there for them or not
pub some_rows : (s : State) (finish : Finish) → IsSound s → HasEnded s finish → (rows : List Row) × HoldsRows s finish rows
some_rows s (Spent turns) sound ended = ([], refl)
some_rows s (Done turns) sound ended =
    let idle = idle_ended s sound.1 ended in
    let rest = sound.0.rest (λ seat q here. ap is_idle_at (sym here) ∙ idle seat) in
    (map row_of (entries (map_in s.setting s.words rest.levels)), record { closed = sound.0.book.closed (all_rest s sound.1 idle); levels = rest.levels; tree = rest.tree; holds = rest.map; rows_are = refl })

-- ---- a world that was given its calls

module _ (p : ConfigParts) (items : List Item) (s : State) (g : IsGiven p items s) where
  pub seats_are : length s.seats ≡ all_seats p
  seats_are = ap (λ (x : State). length x.seats) g.is ∙ given_seats items (fresh_state p g.laid) ∙ fresh_seats p 0 (all_seats p)

  pub setting_is : s.setting ≡ p
  setting_is = ap (λ (x : State). x.setting) g.is ∙ given_setting items (fresh_state p g.laid)

  pub given_laid : IsSetting p → 0 < length s.seats
  given_laid lawful = omega (arith, seats_are, some_seats p lawful)

  run_to : (budget : ℕ) (xs : List Asking) → IsRun g.laid (course_from items s budget xs).events (course_from items s budget xs).stage.world.words
  run_to budget xs = subst (λ (x : State). IsRun g.laid (course_from items x budget xs).events (course_from items x budget xs).stage.world.words) (sym g.is) (given_run items items (fresh_state p g.laid) budget xs)

  right_to : IsRunning s → (budget : ℕ) (xs : List Asking) → IsRight items (course_from items s budget xs).stage.world
  right_to run budget xs = right_course items xs (begun s budget) (subst (IsRight items) (sym g.is) (right_given p g.laid items items (subst IsRunning g.is run)))

  module _ (can : All (IsLawfulItem p) items) where
    pub given_all : map item_of s.calls ≡ filter is_call items
    given_all = ap (λ (x : State). map item_of x.calls) g.is ∙ all_given p items (fresh_state p g.laid) can (fresh_seats p 0 (all_seats p))

    pub given_count : length s.calls ≡ sum_by item_calls items
    given_count = sym (length-map s.calls item_of) ∙ ap length given_all ∙ calls_counted items

    module _ (budget : ℕ) (budget_is : budget ≡ budget_of (length s.calls)) (after : State) (held now : Option (List ℕ)) where
      budget_same : budget ≡ budget_of (sum_by item_calls items)
      budget_same = budget_is ∙ ap budget_of given_count

      module _ (told : Bool) (finish : Finish) (h : HasEnds told budget (finished s items budget) finish after held now) where
        -- what each turn leaves, the course leaves
        keeps : {X : Type 0} (f : State → X) → ((x : State) (seat : ℕ) → f (turn_of x seat) ≡ f x) → f after ≡ f s
        keeps f each = ap f h.last ∙ all_keep items f each (all_asks items (length s.seats) budget) (begun s budget)

        on_course : finished s items budget ≡ course p g.laid items
        on_course = ap (λ n. finished s items n) budget_same ∙ ap (λ (x : State). finished x items (budget_of (sum_by item_calls items))) g.is

        calls_same : length after.calls ≡ length s.calls
        calls_same = sym (length-map after.calls item_of) ∙ ap length (keeps (λ (x : State). map item_of x.calls) turn_same) ∙ length-map s.calls item_of

        pub after_laid : IsSetting p → 0 < length after.seats
        after_laid lawful = omega (arith, keeps (λ (x : State). length x.seats) turn_seats, given_laid lawful)

        pub after_few : length s.calls ≤ 1000000 → length after.calls ≤ 1000000
        after_few few = omega (arith, calls_same, few)

        pub after_ended : HasEnded after finish
        after_ended = by finish h.ends where
          by : (f : Finish) → HasFinished budget (finished s items budget).stage f → HasEnded after f
          by (Done turns) ends = ap (λ (x : State). have_ended x.calls) h.last ∙ ends.0
          by (Spent turns) ends = tt

        pub has_served : (rows : List Row) → length s.calls ≤ 1000000 → IsRunning s → IsSound after → HoldsRows after finish rows → HasServed p items after finish (finished s items budget).events rows
        has_served rows few run sound holds =
            let few_calls : length after.calls ≤ 1000000 = omega (arith, calls_same, few) in
            record {
              laid = g.laid;
              are_laid = g.are_laid;
              last = h.last ∙ ap (λ (c : Course). c.stage.world) on_course;
              end_is = subst (λ (c : Course). HasFinished (budget_of (sum_by item_calls items)) c.stage finish) on_course (subst (λ n. HasFinished n (finished s items budget).stage finish) budget_same h.ends);
              events_are = ap (λ (c : Course). c.events) on_course;
              run = subst (λ (x : State). IsRun g.laid (finished s items budget).events x.words) (sym h.last) (run_to budget (all_asks items (length s.seats) budget));
              setting = keeps (λ (x : State). x.setting) turn_setting ∙ setting_is;
              calls = keeps (λ (x : State). map item_of x.calls) turn_same ∙ given_all;
              lawful = sound.0.book.lawful;
              causes = sound.0.causes;
              waited = has_waited items after (subst (IsRight items) (sym h.last) (right_to run budget (all_asks items (length s.seats) budget)));
              rows_are = holds;
              few_rows = few_rows after finish rows sound few_calls holds;
              few_calls = few_calls;
            }

      module _ (st : Stops items (begun s budget) (all_asks items (length s.seats) budget) after held now) where
        left : {X : Type 0} (f : State → X) → ((x : State) (seat : ℕ) → f (turn_of x seat) ≡ f x) → f after ≡ f s
        left f each = ap f st.world_is ∙ all_keep items f each (st.last ∷ []) st.before ∙ ap (λ (c : Course). f c.stage.world) st.before_is ∙ all_keep items f each st.made (begun s budget)

        pub left_laid : IsSetting p → 0 < length after.seats
        left_laid lawful = omega (arith, left (λ (x : State). length x.seats) turn_seats, given_laid lawful)

        pub has_stopped : IsRunning s → IsSound after → HasStopped p items after held now
        has_stopped run sound =
            let stops = subst (λ (x : State). Stops items (begun x (budget_of (sum_by item_calls items))) (all_asks items (length x.seats) (budget_of (sum_by item_calls items))) after held now) g.is (subst (λ n. Stops items (begun s n) (all_asks items (length s.seats) n) after held now) budget_same st) in
            let before : IsRun g.laid stops.before.events stops.before.stage.world.words = subst (λ (c : Course). IsRun g.laid c.events c.stage.world.words) (sym stops.before_is) (given_run items items (fresh_state p g.laid) (budget_of (sum_by item_calls items)) stops.made) in
            record {
              laid = g.laid;
              are_laid = g.are_laid;
              stops = stops;
              run = subst (λ (x : State). IsRun g.laid (goes_on items stops.before stops.last).events x.words) (sym stops.world_is) (course_run items (stops.last ∷ []) stops.before g.laid before);
              setting = left (λ (x : State). x.setting) turn_setting ∙ setting_is;
              calls = left (λ (x : State). map item_of x.calls) turn_same ∙ given_all;
              lawful = sound.0.book.lawful;
              causes = sound.0.causes;
              waited = has_waited items after (subst (IsRight items) (sym st.world_is) (right_course items (st.last ∷ []) st.before (subst (λ (c : Course). IsRight items c.stage.world) (sym st.before_is) (right_to run budget st.made))));
            }
