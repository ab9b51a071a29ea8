-- The rounds of a replay: idle seats may be left out, and behind as many rounds as turns may be made nothing changes.
use Rattle.std.proofs.Common.{rules, ◌≡◌, ◌≢◌, ◌⊎◌, ◌<◌, ◌≤◌, ℕ, zero, suc, ◌+◌, ◌-◌, Bool, true, false, List, [], ◌∷◌, ◌++◌, map, length, take, drop, set, get_or, Option, refl, sym, ap, subst, ◌∙◌, inl, inr, append-nil, append_assoc, arith}
use Rattle.std.{specs.{Prelude.{◌==◌, if◌then◌else◌, slice_get, All}, List.{fold, range_with_len}}, proofs.{lemmas.{Bool.{cases_lt}, List.{Folds.{fold-map}, FromFn.{get_or-range_with_len, length-range_with_len}}}, Math.Seq.{take-add}}}
use Rattle.std.proofs.lemmas.List.{drop_more, map-append, get_or-set_other, get_or-take, length-take-le, take_more, take_more_set, Sums.{fold-append, fold_push}, Elements.{All-cons, All-head, All-nil, All-tail}}
use Rattle.std.proofs.lemmas.Option.{slice_get_past}
use Rattle.sh_sheet.specs.declared.item.Item.{Item}
use Rattle.sh_world.{specs.{States.{State}, Turning.{is_idle_at}}}
use Rattle.sh_replay.{specs.{declared.{marks.Marks.{Marks}, turns.Left.{Left}}, Course.{can_turn, goes_on, round_asks, rounds_asks, takes, turned, Asking, Course, InRound, Stage}, Standing.{IsAt}, Stopping.{Stops}, Thinning.{goes_in, AllRest, IsThinned, Thins}}, proofs.{StageLemmas.{stops_before, stops_behind, stops_split}, TurnLemmas.{asks, idle_rests, idle_stays, none_taken, one_taken}}}

-- ---- one seat is asked

abbrev pub IsIdle : State → ℕ → Type 0
IsIdle s x = is_idle_at (slice_get s.seats x) ≡ true

spent_takes : (items : List Item) (r : Stage) (x : ℕ) → r.left ≡ 0 → takes items r (InRound x) ≡ false
spent_takes items r x none = search rules

cannot_take : (items : List Item) (r : Stage) (x : ℕ) → can_turn items r.world x ≡ false → takes items r (InRound x) ≡ false
cannot_take items r x none = search rules

some_left : (n : ℕ) (b c : Bool) → (n == 0) ≡ b → (if b then false else c) ≡ true → n ≢ 0
some_left n b c test e none = search rules

module _ (items : List Item) where
  pub ask_rests : (c : Course) (x : ℕ) → can_turn items c.stage.world x ≡ false → goes_in items c x ≡ c
  ask_rests c x none = none_taken items c (InRound x) (cannot_take items c.stage x none)

  asks_in : (c : Course) (x : ℕ) → (goes_in items c x ≡ c) ⊎ (((goes_in items c x).stage ≡ turned c.stage (InRound x)) × (c.stage.left ≢ 0))
  asks_in c x = search (rules, asks, some_left)

  idle_asked : (c : Course) (y x : ℕ) → IsIdle c.stage.world x → IsIdle (goes_in items c y).stage.world x
  idle_asked c y x idle = search (rules, asks_in, idle_stays)

  -- ---- some seats are asked

  pub spent_after : (xs : List ℕ) (c : Course) → c.stage.left ≡ 0 → fold (goes_in items) c xs ≡ c
  spent_after [] c none = refl
  spent_after (y ∷ ys) c none = ap (λ (t : Course). fold (goes_in items) t ys) (none_taken items c (InRound y) (spent_takes items c.stage y none)) ∙ spent_after ys c none

  left_falls : (xs : List ℕ) (c : Course) → (fold (goes_in items) c xs).stage.left ≤ c.stage.left
  left_falls [] c = omega arith
  left_falls (y ∷ ys) c = elim (asks_in c y) [
    | inl same ↦ omega (arith, left_falls ys (goes_in items c y), ap (λ (t : Course). t.stage.left) same)
    | inr turn ↦ omega (arith, left_falls ys (goes_in items c y), ap (λ (t : Stage). t.left) turn.0)
  ]

  -- where no turn was made nothing has changed, and none of them takes one
  still : (y : ℕ) (ys : List ℕ) (c : Course) → (fold (goes_in items) c (y ∷ ys)).stage.left ≡ c.stage.left → takes items c.stage (InRound y) ≡ false
  still y ys c same = by_takes (takes items c.stage (InRound y)) refl where
    by_takes : (b : Bool) → takes items c.stage (InRound y) ≡ b → takes items c.stage (InRound y) ≡ false
    by_takes false e = e
    by_takes true e =
        let less = ap (λ (t : Course). t.stage.left) (one_taken items c (InRound y) e) in
        let some = some_left c.stage.left (c.stage.left == 0) (can_turn items c.stage.world y) refl e in
        absurd (omega (arith, less, some, same, left_falls ys (goes_in items c y)))

  pub none_made : (xs : List ℕ) (c : Course) → (fold (goes_in items) c xs).stage.left ≡ c.stage.left → (fold (goes_in items) c xs ≡ c) × All (λ x. takes items c.stage (InRound x) ≡ false) xs
  none_made [] c same = (refl, All-nil (λ x. takes items c.stage (InRound x) ≡ false))
  none_made (y ∷ ys) c same =
      let none = still y ys c same in
      let here : goes_in items c y ≡ c = none_taken items c (InRound y) none in
      let rest = none_made ys c (ap (λ (t : Course). (fold (goes_in items) t ys).stage.left) (sym here) ∙ same) in
      (ap (λ (t : Course). fold (goes_in items) t ys) here ∙ rest.0, All-cons (λ x. takes items c.stage (InRound x) ≡ false) y ys none rest.1)

-- ---- idle seats are left out

pub thins_on : (s t : State) (xs ys : List ℕ) → ((x : ℕ) → IsIdle s x → IsIdle t x) → Thins s xs ys → Thins t xs ys
thins_on s t [] ys on h = h
thins_on s t (x ∷ xs) ys on (inl out) = inl (on x out.0, thins_on s t xs ys on out.1)
thins_on s t (x ∷ xs) ys on (inr kept) = inr (kept.0, kept.1, thins_on s t xs kept.0 on kept.2)

pub thins_all : (s : State) (xs : List ℕ) → Thins s xs xs
thins_all s [] = refl
thins_all s (x ∷ xs) = inr (xs, refl, thins_all s xs)

thins_nil : (s : State) (ys zs : List ℕ) → ys ≡ [] → Thins s ys zs → zs ≡ []
thins_nil s ys zs h k = search rules

thins_step : (s : State) (xs rest zs : List ℕ) (x : ℕ) → ((us : List ℕ) → Thins s rest us → Thins s xs us) → Thins s (x ∷ rest) zs → Thins s (x ∷ xs) zs
thins_step s xs rest zs x on h6 = search rules

pub thins_trans : (s : State) (xs ys zs : List ℕ) → Thins s xs ys → Thins s ys zs → Thins s xs zs
thins_trans s [] ys zs h k = thins_nil s ys zs h k
thins_trans s (x ∷ xs) ys zs (inl out) k = inl (out.0, thins_trans s xs ys zs out.1 k)
thins_trans s (x ∷ xs) ys zs (inr kept) k = thins_step s xs kept.0 zs x (λ us. thins_trans s xs kept.0 us kept.2) (subst (λ (l : List ℕ). Thins s l zs) kept.1 k)

-- one more seat, which is idle, and one that stays
pub thins_out : (s : State) (xs ys : List ℕ) (x : ℕ) → Thins s xs ys → IsIdle s x → Thins s (xs ++ x ∷ []) ys
thins_out s [] ys x h idle = inl (idle, h)
thins_out s (z ∷ xs) ys x (inl out) idle = inl (out.0, thins_out s xs ys x out.1 idle)
thins_out s (z ∷ xs) ys x (inr kept) idle = inr (kept.0, kept.1, thins_out s xs kept.0 x kept.2 idle)

pub thins_in : (s : State) (xs ys : List ℕ) (x : ℕ) → Thins s xs ys → Thins s (xs ++ x ∷ []) (ys ++ x ∷ [])
thins_in s [] ys x h = inr ([], ap (λ (l : List ℕ). l ++ x ∷ []) h, refl)
thins_in s (z ∷ xs) ys x (inl out) = inl (out.0, thins_in s xs ys x out.1)
thins_in s (z ∷ xs) ys x (inr kept) = inr (kept.0 ++ x ∷ [], ap (λ (l : List ℕ). l ++ x ∷ []) kept.1, thins_in s xs kept.0 x kept.2)

pub thins_below : (s : State) (xs ys : List ℕ) (n : ℕ) → All (λ x. x < n) xs → Thins s xs ys → All (λ x. x < n) ys
thins_below s [] ys n below h = subst (λ (l : List ℕ). All (λ x. x < n) l) (sym h) (All-nil (λ x. x < n))
thins_below s (x ∷ xs) ys n below (inl out) = thins_below s xs ys n (All-tail (λ x. x < n) x xs below) out.1
thins_below s (x ∷ xs) ys n below (inr kept) = subst (λ (l : List ℕ). All (λ x. x < n) l) (sym kept.1) (All-cons (λ x. x < n) x kept.0 (All-head (λ x. x < n) x xs below) (thins_below s xs kept.0 n (All-tail (λ x. x < n) x xs below) kept.2))

pub range_below : (a count n : ℕ) → a + count ≤ n → All (λ x. x < n) (range_with_len a count)
range_below a zero n h = All-nil (λ x. x < n)
range_below a (suc count) n h = All-cons (λ x. x < n) a (range_with_len (a + 1) count) (omega arith) (range_below (a + 1) count n (omega arith))

-- ---- rounds

rounds_append : (i j n : ℕ) → rounds_asks (i + j) n ≡ rounds_asks i n ++ rounds_asks j n
rounds_append zero j n = ap (λ k. rounds_asks k n) (omega arith)
rounds_append (suc i) j n =
    let next : suc i + j ≡ suc (i + j) = omega arith in
    ap (λ k. rounds_asks k n) next ∙ ap (λ xs. round_asks n ++ xs) (rounds_append i j n) ∙ sym (append_assoc (round_asks n) (rounds_asks i n) (rounds_asks j n))

-- one round more
next_round : (items : List Item) (first : Course) (j n : ℕ) → fold (goes_on items) first (rounds_asks (j + 1) n) ≡ fold (goes_in items) (fold (goes_on items) first (rounds_asks j n)) (range_with_len 0 n)
next_round items first j n = ap (fold (goes_on items) first) (rounds_append j 1 n) ∙ fold-append (goes_on items) first (rounds_asks j n) (rounds_asks 1 n) ∙ ap (fold (goes_on items) (fold (goes_on items) first (rounds_asks j n))) (append-nil (round_asks n)) ∙ fold-map (goes_on items) InRound (fold (goes_on items) first (rounds_asks j n)) (range_with_len 0 n)

same_rounds : (items : List Item) (c : Course) (k n : ℕ) → fold (goes_in items) c (range_with_len 0 n) ≡ c → fold (goes_on items) c (rounds_asks k n) ≡ c
same_rounds items c zero n same = refl
same_rounds items c (suc k) n same = fold-append (goes_on items) c (round_asks n) (rounds_asks k n) ∙ ap (λ (t : Course). fold (goes_on items) t (rounds_asks k n)) (fold-map (goes_on items) InRound c (range_with_len 0 n) ∙ same) ∙ same_rounds items c k n same

-- where a round changes nothing, the rounds that are left change nothing
last_here : (items : List Item) (first : Course) (j k n : ℕ) → j ≤ k → fold (goes_in items) (fold (goes_on items) first (rounds_asks j n)) (range_with_len 0 n) ≡ fold (goes_on items) first (rounds_asks j n) → fold (goes_on items) first (rounds_asks k n) ≡ fold (goes_on items) first (rounds_asks j n)
last_here items first j k n within same =
    let split : j + (k - j) ≡ k = omega (arith, within) in
    ap (λ m. fold (goes_on items) first (rounds_asks m n)) (sym split) ∙ ap (fold (goes_on items) first) (rounds_append j (k - j) n) ∙ fold-append (goes_on items) first (rounds_asks j n) (rounds_asks (k - j) n) ∙ same_rounds items (fold (goes_on items) first (rounds_asks j n)) (k - j) n same

-- ---- the code's rounds

range_step : (a n : ℕ) → range_with_len a (suc n) ≡ range_with_len a n ++ (a + n) ∷ []
range_step a zero = ap (λ x. x ∷ []) (omega arith)
range_step a (suc n) = ap (λ xs. a ∷ xs) (range_step (a + 1) n ∙ ap (λ x. range_with_len (a + 1) n ++ x ∷ []) (omega arith))

pub rising_more : (seats : List ℕ) (n : ℕ) → n < length seats → take n seats ≡ range_with_len 0 n → take (n + 1) (set seats n n) ≡ range_with_len 0 (n + 1)
rising_more seats n below h =
    let next : n + 1 ≡ suc n = omega arith in
    take_more_set seats n n below ∙ ap (λ l. l ++ n ∷ []) h ∙ sym (ap (range_with_len 0) next ∙ range_step 0 n ∙ ap (λ x. range_with_len 0 n ++ x ∷ []) (omega arith))

-- The seats that are asked are all but idle ones.
pub record AreAsked (world : State) (seats : List ℕ) (count turns : ℕ) : Type 0 where
  pub long : length seats ≡ 64
  pub within : count ≤ 64
  pub thins : turns ≢ 0 → Thins world (range_with_len 0 (length world.seats)) (take count seats)

thins_fold : (items : List Item) (xs ys : List ℕ) (c : Course) → Thins c.stage.world xs ys → fold (goes_in items) c xs ≡ fold (goes_in items) c ys
thins_fold items [] ys c h = ap (fold (goes_in items) c) (sym h)
thins_fold items (x ∷ xs) ys c (inl out) = ap (λ (t : Course). fold (goes_in items) t xs) (ask_rests items c x (idle_rests items c.stage.world x out.0)) ∙ thins_fold items xs ys c out.1
thins_fold items (x ∷ xs) ys c (inr kept) = thins_fold items xs kept.0 (goes_in items c x) (thins_on c.stage.world (goes_in items c x).stage.world xs kept.0 (λ z. idle_asked items c x z) kept.2) ∙ ap (fold (goes_in items) c) (sym kept.1)

-- and where those that are left stop, all of them stop
thins_stops : (items : List Item) (xs ys : List ℕ) (c : Course) (s : State) (held after : Option (List ℕ)) → Thins c.stage.world xs ys → Stops items c (map InRound ys) s held after → Stops items c (map InRound xs) s held after
thins_stops items [] ys c s held after h stops = subst (λ (l : List ℕ). Stops items c (map InRound l) s held after) h stops
thins_stops items (x ∷ xs) ys c s held after (inl out) stops =
    let none = ask_rests items c x (idle_rests items c.stage.world x out.0) in
    stops_behind items c (InRound x ∷ []) (map InRound xs) s held after (subst (λ (t : Course). Stops items t (map InRound xs) s held after) (sym none) (thins_stops items xs ys c s held after out.1 stops))
thins_stops items (x ∷ xs) ys c s held after (inr kept) stops = elim (stops_split items c (InRound x) (map InRound kept.0) s held after (subst (λ (l : List ℕ). Stops items c (map InRound l) s held after) kept.1 stops)) [
  | inl here ↦ here (map InRound xs)
  | inr later ↦ stops_behind items c (InRound x ∷ []) (map InRound xs) s held after (thins_stops items xs kept.0 (goes_in items c x) s held after (thins_on c.stage.world (goes_in items c x).stage.world xs kept.0 (λ z. idle_asked items c x z) kept.2) later)
]

-- where those that are left take no turn, all of them take none
thins_rest : (items : List Item) (xs ys : List ℕ) (r : Stage) → Thins r.world xs ys → All (λ x. takes items r (InRound x) ≡ false) ys → All (λ x. takes items r (InRound x) ≡ false) xs
thins_rest items [] ys r h rest = All-nil (λ x. takes items r (InRound x) ≡ false)
thins_rest items (x ∷ xs) ys r (inl out) rest = All-cons (λ y. takes items r (InRound y) ≡ false) x xs (cannot_take items r x (idle_rests items r.world x out.0)) (thins_rest items xs ys r out.1 rest)
thins_rest items (x ∷ xs) ys r (inr kept) rest =
    let all = subst (λ (l : List ℕ). All (λ y. takes items r (InRound y) ≡ false) l) kept.1 rest in
    All-cons (λ y. takes items r (InRound y) ≡ false) x xs (All-head (λ y. takes items r (InRound y) ≡ false) x kept.0 all) (thins_rest items xs kept.0 r kept.2 (All-tail (λ y. takes items r (InRound y) ≡ false) x kept.0 all))

all_rest : (items : List Item) (r : Stage) → All (λ x. takes items r (InRound x) ≡ false) (range_with_len 0 (length r.world.seats)) → AllRest items r
all_rest items r all seat = elim (cases_lt seat (length r.world.seats)) [
  | inl below ↦ let at : 0 + seat ≡ seat = omega arith in ap (λ x. takes items r (InRound x)) (sym (get_or-range_with_len 0 (length r.world.seats) seat 0 below ∙ at)) ∙ all seat 0 (omega (arith, below, length-range_with_len 0 (length r.world.seats)))
  | inr past ↦ cannot_take items r seat (idle_rests items r.world seat (ap is_idle_at (slice_get_past r.world.seats seat past)))
]

pub spent_rests : (items : List Item) (r : Stage) → r.left ≡ 0 → AllRest items r
spent_rests items r none seat = spent_takes items r seat none

-- The rounds so far, of which the first began with this course and budget. Each made a turn.
pub record RoundsSoFar (items : List Item) (told : Bool) (first : Course) (budget n : ℕ) (world : State) (marks : Marks) (turns : ℕ) (held now : Option (List ℕ)) : Type 0 where
  pub made : ℕ
  pub at : IsAt items told (fold (goes_on items) first (rounds_asks made n)) world marks turns held now
  pub room : made + turns ≤ budget

module _ (world : State) (seats : List ℕ) (count turns : ℕ) (h : AreAsked world seats count turns) (some : 0 < turns) where
  thin : Thins world (range_with_len 0 (length world.seats)) (take count seats)
  thin = h.thins (λ e. omega (arith, e, some))

  pub seats_below : All (λ x. x < length world.seats) (take count seats)
  seats_below = thins_below world (range_with_len 0 (length world.seats)) (take count seats) (length world.seats) (range_below 0 (length world.seats) (length world.seats) (omega arith)) thin

  pub asked_step : (world' : State) (seats' : List ℕ) (asked left : Left) → asked ≡ record { seats = count; turns = turns } → length world'.seats ≡ length world.seats → IsThinned world seats asked world' seats' left → AreAsked world' seats' left.seats left.turns
  asked_step world' seats' asked left is size thinned =
      let all = range_with_len 0 (length world.seats) in
      record {
        long = thinned.long ∙ h.long;
        within = omega (arith, thinned.count, ap (λ (l : Left). l.seats) is, h.within);
        thins = λ more. subst (λ (n : ℕ). Thins world' (range_with_len 0 n) (take left.seats seats')) (sym size) (thins_trans world' all (take count seats) (take left.seats seats') (thins_on world world' all (take count seats) thinned.idle thin)
            (subst (λ (l : Left). Thins world' (take l.seats seats) (take left.seats seats')) is (thinned.thins more)));
      }

  module _ (items : List Item) (told : Bool) (first : Course) (budget n : ℕ) (marks : Marks) (held now : Option (List ℕ)) (size : length world.seats ≡ n) (g : RoundsSoFar items told first budget n world marks turns held now) where
    abbrev pub so_far : Course
    so_far = fold (goes_on items) first (rounds_asks g.made n)

    thin_here : Thins so_far.stage.world (range_with_len 0 n) (take count seats)
    thin_here = subst (λ (r : Stage). Thins r.world (range_with_len 0 n) (take count seats)) g.at.stage (subst (λ (k : ℕ). Thins world (range_with_len 0 k) (take count seats)) size thin)

    round_is : fold (goes_on items) first (rounds_asks (g.made + 1) n) ≡ fold (goes_in items) so_far (take count seats)
    round_is = next_round items first g.made n ∙ thins_fold items (range_with_len 0 n) (take count seats) so_far thin_here

    pub rounds_step : (world' : State) (marks' : Marks) (turns' : ℕ) (now' : Option (List ℕ)) → IsAt items told (fold (goes_in items) so_far (take count seats)) world' marks' turns' held now' → turns' ≤ turns → turns' ≢ turns → RoundsSoFar items told first budget n world' marks' turns' held now'
    rounds_step world' marks' turns' now' at fewer less = record {
      made = g.made + 1;
      at = subst (λ (c : Course). IsAt items told c world' marks' turns' held now') (sym round_is) at;
      room = omega (arith, g.room, fewer, less);
    }

    -- a round in which no turn was made
    pub rounds_over : (world' : State) (marks' : Marks) (turns' : ℕ) (now' : Option (List ℕ)) → turns' ≡ turns → length world'.seats ≡ n → IsAt items told (fold (goes_in items) so_far (take count seats)) world' marks' turns' held now' → IsAt items told (fold (goes_on items) first (rounds_asks budget n)) world' marks' turns held now' × AllRest items (record { world = world'; left = turns })
    rounds_over world' marks' turns' now' over size' at =
        let none = none_made items (take count seats) so_far (ap (λ (r : Stage). r.left) (sym at.stage) ∙ over ∙ ap (λ (r : Stage). r.left) g.at.stage) in
        let last = last_here items first g.made budget n (omega (arith, g.room)) (thins_fold items (range_with_len 0 n) (take count seats) so_far thin_here ∙ none.0) in
        let here : record { world = world'; left = turns } ≡ so_far.stage = ap (λ k. record { world = world'; left = k }) (sym over) ∙ at.stage ∙ ap (λ (c : Course). c.stage) none.0 in (
          subst (λ (c : Course). IsAt items told c world' marks' turns held now') (none.0 ∙ sym last) (subst (λ k. IsAt items told (fold (goes_in items) so_far (take count seats)) world' marks' k held now') over at),
          subst (AllRest items) (sym here) (all_rest items so_far.stage (subst (λ k. All (λ x. takes items so_far.stage (InRound x) ≡ false) (range_with_len 0 k)) (sym (ap (λ (r : Stage). length r.world.seats) (sym here) ∙ size')) (thins_rest items (range_with_len 0 n) (take count seats) so_far.stage thin_here none.1))),
        )

    -- the rounds stop in this one
    pub rounds_stop : (s : State) (after : Option (List ℕ)) → Stops items so_far (map InRound (take count seats)) s held after → Stops items first (rounds_asks budget n) s held after
    rounds_stop s after stops =
        let whole : budget ≡ g.made + suc (budget - (g.made + 1)) = omega (arith, g.room, some) in
        let split = ap (λ k. rounds_asks k n) whole ∙ rounds_append g.made (suc (budget - (g.made + 1))) n in
        subst (λ (l : List Asking). Stops items first l s held after) (sym split) (stops_behind items first (rounds_asks g.made n) _ s held after (stops_before items so_far (round_asks n) _ s held after (thins_stops items (range_with_len 0 n) (take count seats) so_far s held after thin_here stops)))

-- behind the last turn the rounds that are left change nothing
pub rounds_spent : (items : List Item) (told : Bool) (first : Course) (budget n : ℕ) (world : State) (marks : Marks) (turns : ℕ) (held now : Option (List ℕ)) → RoundsSoFar items told first budget n world marks turns held now → turns ≡ 0 → IsAt items told (fold (goes_on items) first (rounds_asks budget n)) world marks turns held now × AllRest items (record { world = world; left = turns })
rounds_spent items told first budget n world marks turns held now g none = search (rules, last_here, spent_after, spent_rests)

-- ---- a round of the code

-- A round so far: the first i of the old seats were asked, and those that aren't idle stand in front.
pub record SoFar (old : List ℕ) (world : State) (seats : List ℕ) (kept i : ℕ) : Type 0 where
  pub rest : (k : ℕ) → i ≤ k → get_or seats k 0 ≡ get_or old k 0
  pub within : kept ≤ i
  pub thins : Thins world (take i old) (take kept seats)

module _ (old : List ℕ) (world : State) (seats : List ℕ) (kept i : ℕ) (h : SoFar old world seats kept i) where
  -- the seat that is asked next
  next : i < length old → take (i + 1) old ≡ take i old ++ get_or seats i 0 ∷ []
  next below = take_more old i 0 below ∙ ap (λ x. take i old ++ x ∷ []) (sym (h.rest i (omega arith)))

  pub asked_next : (items : List Item) (c : Course) → i < length old → fold (goes_in items) c (take (i + 1) old) ≡ goes_in items (fold (goes_in items) c (take i old)) (get_or seats i 0)
  asked_next items c below = ap (fold (goes_in items) c) (next below) ∙ fold_push (goes_in items) c (take i old) (get_or seats i 0)

  -- a round that stops at this seat
  pub round_stops : (items : List Item) (c : Course) (count : ℕ) (s : State) (held after : Option (List ℕ)) → i < count → count ≤ length old → Stops items (fold (goes_in items) c (take i old)) (InRound (get_or seats i 0) ∷ []) s held after → Stops items c (map InRound (take count old)) s held after
  round_stops items c count s held after below long stops =
      let whole : i + suc (count - (i + 1)) ≡ count = omega (arith, below) in
      let split : take count old ≡ take i old ++ get_or seats i 0 ∷ take (count - (i + 1)) (drop (i + 1) old) = sym (ap (λ n. take n old) whole) ∙ take-add i (suc (count - (i + 1))) old ∙ ap (λ l. take i old ++ take (suc (count - (i + 1))) l) (drop_more old i 0 (omega (arith, below, long)) ∙ ap (λ x. x ∷ drop (i + 1) old) (sym (h.rest i (omega arith)))) in
      subst (λ (l : List Asking). Stops items c l s held after) (sym (ap (map InRound) split ∙ map-append InRound (take i old) _))
      (stops_behind items c (map InRound (take i old)) _ s held after (subst (λ (t : Course). Stops items t (InRound (get_or seats i 0) ∷ map InRound (take (count - (i + 1)) (drop (i + 1) old))) s held after) (sym (fold-map (goes_on items) InRound c (take i old))) (stops_before items (fold (goes_in items) c (take i old)) (InRound (get_or seats i 0) ∷ []) _ s held after stops)))

  pub round_idle : (after : State) → i < length old → after ≡ world → IsIdle world (get_or seats i 0) → SoFar old after seats kept (i + 1)
  round_idle after below e idle = search (rules, next, thins_out)

  pub round_kept : (after : State) → i < length old → length seats ≡ length old → ((x : ℕ) → IsIdle world x → IsIdle after x) → SoFar old after (set seats kept (get_or seats i 0)) (kept + 1) (i + 1)
  round_kept after below long on =
      let x = get_or seats i 0 in
      let within : kept < length seats = omega (arith, h.within, below, long) in
      record {
        rest = λ k above. get_or-set_other seats kept k x 0 (λ same. absurd (omega (arith, above, same, h.within))) ∙ h.rest k (omega (arith, above));
        within = omega (arith, h.within);
        thins = subst (λ (l : List ℕ). Thins after l (take (kept + 1) (set seats kept x))) (sym (next below)) (subst (λ (l : List ℕ). Thins after (take i old ++ x ∷ []) l) (sym (take_more_set seats kept x within))
            (thins_in after (take i old) (take kept seats) x (thins_on world after (take i old) (take kept seats) on h.thins)));
      }

  pub next_below : (count n : ℕ) → i < count → count ≤ length old → All (λ x. x < n) (take count old) → get_or seats i 0 < n
  next_below count n below long all =
      let here : get_or (take count old) i 0 ≡ get_or seats i 0 = get_or-take count old i 0 below ∙ sym (h.rest i (omega arith)) in
      omega (arith, here, all i 0 (omega (arith, length-take-le count old long)))

-- where no turn may be made any more, the rest of the round changes nothing
pub round_spent : (items : List Item) (c : Course) (old : List ℕ) (i count : ℕ) → i ≤ count → (fold (goes_in items) c (take i old)).stage.left ≡ 0 → fold (goes_in items) c (take count old) ≡ fold (goes_in items) c (take i old)
round_spent items c old i count within none =
    let whole : i + (count - i) ≡ count = omega (arith, within) in
    let split : take count old ≡ take i old ++ take (count - i) (drop i old) = sym (ap (λ n. take n old) whole) ∙ take-add i (count - i) old in
    ap (fold (goes_in items) c) split ∙ fold-append (goes_in items) c (take i old) (take (count - i) (drop i old)) ∙ spent_after items (take (count - i) (drop i old)) (fold (goes_in items) c (take i old)) none
