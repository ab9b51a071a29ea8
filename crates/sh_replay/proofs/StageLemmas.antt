-- A point of a course to which a replay has come, and an event of it at which a replay stops.
use Rattle.std.proofs.Common.{rules, ◌≡◌, ◌⊎◌, ◌<◌, ◌≤◌, ℕ, ◌+◌, ◌-◌, Bool, true, false, List, [], ◌∷◌, ◌++◌, length, take, drop, get_or, Option, Result, append-nil, append_assoc, refl, sym, ap, subst, ◌∙◌, inl, inr, arith}
use Rattle.std.{specs.{Prelude.{if◌then◌else◌, OnErr}, List.{flat_map, fold}, Io.KnownBytes.{Appends}}, proofs.lemmas.{List.{drop_more, take-append-drop, take_more, Concat.{flat_map-append}, Sums.{fold-append}}}}
use Rattle.sh_port.{specs.Port.{AppendsFront}, proofs.Bytes.{appends_more, appends_none}}
use Rattle.sh_base.specs.declared.event.Event.{Event}
use Rattle.sh_sheet.specs.declared.item.Item.{Item}
use Rattle.sh_world.specs.{States.{State}, Turning.{answer_of, turn_of}}
use Rattle.sh_world.specs.declared.turn.Turn.TheVariants as turn
use Rattle.sh_replay.specs.{declared.{marks.Marks.{Marks}, turns.Outcome.{Outcome, TheVariants.{Turned}}}, Course.{begun, can_turn, found_in, goes_on, seat_of, takes, turn_asks, turned, Asking, ByRow, Course, SeatEvent, Stage}}
use Rattle.sh_replay.specs.{Output.{event_lines, line_of}, Standing.{left_after, IsAsk, IsAt, Keeps}, Stopping.{Stops}}
use Rattle.sh_replay.proofs.TurnLemmas.{none_taken, one_taken, turns_append, turns_next, turns_none, turns_split}

-- ---- a stop, among more asks

pub stops_before : (items : List Item) (c : Course) (xs ys : List Asking) (s : State) (held after : Option (List ℕ)) → Stops items c xs s held after → Stops items c (xs ++ ys) s held after
stops_before items c xs ys s held after h = search (rules, append_assoc)

pub stops_behind : (items : List Item) (c : Course) (xs ys : List Asking) (s : State) (held after : Option (List ℕ)) → Stops items (fold (goes_on items) c xs) ys s held after → Stops items c (xs ++ ys) s held after
stops_behind items c xs ys s held after h = record {
  made = xs ++ h.made;
  last = h.last;
  rest = h.rest;
  whole = ap (λ l. xs ++ l) h.whole ∙ sym (append_assoc xs h.made (h.last ∷ h.rest));
  before = h.before;
  before_is = h.before_is ∙ sym (fold-append (goes_on items) c xs h.made);
  event = h.event;
  event_is = h.event_is;
  world_is = h.world_is;
  told = h.told;
  lines = h.lines;
  front = h.front;
}

same_head : (a b : Asking) (xs ys : List Asking) → a ∷ xs ≡ b ∷ ys → a ≡ b
same_head a b xs ys e = cc

same_tail : (a b : Asking) (xs ys : List Asking) → a ∷ xs ≡ b ∷ ys → xs ≡ ys
same_tail a b xs ys e = cc

-- it is at the first, whatever comes behind, or behind it
pub stops_split : (items : List Item) (c : Course) (a : Asking) (xs : List Asking) (s : State) (held after : Option (List ℕ)) → Stops items c (a ∷ xs) s held after → ((ys : List Asking) → Stops items c (a ∷ ys) s held after) ⊎ Stops items (goes_on items c a) xs s held after
stops_split items c a xs s held after h = by_made h.made h.whole h.before_is where
  by_made : (made : List Asking) → a ∷ xs ≡ made ++ h.last ∷ h.rest → h.before ≡ fold (goes_on items) c made → ((ys : List Asking) → Stops items c (a ∷ ys) s held after) ⊎ Stops items (goes_on items c a) xs s held after
  by_made [] whole is = inl (λ ys. record { made = []; last = h.last; rest = ys; whole = ap (λ x. x ∷ ys) (same_head a h.last xs h.rest whole); before = h.before; before_is = is; event = h.event; event_is = h.event_is; world_is = h.world_is; told = h.told; lines = h.lines; front = h.front })
  by_made (b ∷ made) whole is = inr (record { made = made; last = h.last; rest = h.rest; whole = same_tail a b xs (made ++ h.last ∷ h.rest) whole; before = h.before; before_is = is ∙ ap (λ x. fold (goes_on items) (goes_on items c x) made) (sym (same_head a b xs (made ++ h.last ∷ h.rest) whole)); event = h.event; event_is = h.event_is; world_is = h.world_is; told = h.told; lines = h.lines; front = h.front })

-- ---- an ask

lines_append : (told : Bool) (xs ys : List SeatEvent) → event_lines told (xs ++ ys) ≡ event_lines told xs ++ event_lines told ys
lines_append told xs ys = search (rules, flat_map-append)

seat_is : (seat left : ℕ) (a : Asking) → IsAsk seat left a → seat_of a ≡ seat
seat_is seat left a is = search rules

takes_is : (items : List Item) (s : State) (left seat : ℕ) (a : Asking) → IsAsk seat left a → takes items (record { world = s; left = left }) a ≡ can_turn items s seat
takes_is items s left seat a is = search rules

turned_is : (s : State) (left seat : ℕ) (a : Asking) → IsAsk seat left a → turned (record { world = s; left = left }) a ≡ record { world = turn_of s seat; left = left_after Turned a left }
turned_is s left seat a is = search rules

module _ (items : List Item) (told : Bool) (c : Course) (s : State) (m : Marks) (left seat : ℕ) (a : Asking) (held now : Option (List ℕ)) (h : IsAt items told c s m left held now) (is : IsAsk seat left a) where
  takes_here : takes items c.stage a ≡ can_turn items s seat
  takes_here = ap (λ (r : Stage). takes items r a) (sym h.stage) ∙ takes_is items s left seat a is

  found_here : found_in (seat_of a) (answer_of c.stage.world (seat_of a)) ≡ found_in seat (answer_of s seat)
  found_here = ap (λ (r : Stage). found_in (seat_of a) (answer_of r.world (seat_of a))) (sym h.stage) ∙ ap (λ x. found_in x (answer_of s x)) (seat_is seat left a is)

  pub asked_rest : (new : Marks) → can_turn items s seat ≡ false → Keeps items s new → IsAt items told (goes_on items c a) s new left held now
  asked_rest new none keeps = subst (λ (t : Course). IsAt items told t s new left held now) (sym (none_taken items c a (takes_here ∙ none))) (record { keeps = keeps; stage = h.stage; lines = h.lines })

  turned_here : can_turn items s seat ≡ true → goes_on items c a ≡ record { stage = record { world = turn_of s seat; left = left_after Turned a left }; events = c.events ++ found_in seat (answer_of s seat) }
  turned_here can = search (rules, one_taken, takes_here, turned_is, found_here)

  pub asked_turn : (new : Marks) (after : Option (List ℕ)) → can_turn items s seat ≡ true → Keeps items (turn_of s seat) new → Appends now after (event_lines told (found_in seat (answer_of s seat))) → IsAt items told (goes_on items c a) (turn_of s seat) new (left_after Turned a left) held after
  asked_turn new after can keeps wrote = search (rules, turned_here, lines_append, appends_more)

  pub asked_stops : (e : Event) (found : ℕ) (after : Option (List ℕ)) → can_turn items s seat ≡ true → answer_of s seat ≡ turn.Event e found → told ≡ true → AppendsFront now after (line_of (record { seat = seat; event = e; found = found })) → Stops items c (a ∷ []) (turn_of s seat) held after
  asked_stops e found after can answer tells front = record {
    made = [];
    last = a;
    rest = [];
    whole = refl;
    before = c;
    before_is = refl;
    event = record { seat = seat; event = e; found = found };
    event_is = ap (λ t. if t then found_in (seat_of a) (answer_of c.stage.world (seat_of a)) else []) (takes_here ∙ can) ∙ found_here ∙ ap (found_in seat) answer;
    world_is = sym (ap (λ (t : Course). t.stage.world) (turned_here can));
    told = now;
    lines = subst (λ t. Appends held now (event_lines t c.events)) tells h.lines;
    front = front;
  }

-- ---- asks, one list after another

module _ {A : Type 0} (items : List Item) (f : A → List Asking) (c : Course) (xs : List A) (i : ℕ) (d : A) (below : i < length xs) where
  pub asked_more : fold (goes_on items) c (flat_map f (take (i + 1) xs)) ≡ fold (goes_on items) (fold (goes_on items) c (flat_map f (take i xs))) (f (get_or xs i d))
  asked_more = ap (λ l. fold (goes_on items) c (flat_map f l)) (take_more xs i d below) ∙ ap (fold (goes_on items) c) (flat_map-append f (take i xs) (get_or xs i d ∷ []) ∙ ap (λ ys. flat_map f (take i xs) ++ ys) (append-nil (f (get_or xs i d)))) ∙ fold-append (goes_on items) c (flat_map f (take i xs)) (f (get_or xs i d))

  pub stops_among : (s : State) (held after : Option (List ℕ)) → Stops items (fold (goes_on items) c (flat_map f (take i xs))) (f (get_or xs i d)) s held after → Stops items c (flat_map f xs) s held after
  stops_among s held after stops =
      let split = ap (flat_map f) (sym (take-append-drop i xs)) ∙ flat_map-append f (take i xs) (drop i xs) ∙ ap (λ l. flat_map f (take i xs) ++ flat_map f l) (drop_more xs i d below) in
      subst (λ (l : List Asking). Stops items c l s held after) (sym split) (stops_behind items c (flat_map f (take i xs)) _ s held after (stops_before items (fold (goes_on items) c (flat_map f (take i xs))) (f (get_or xs i d)) _ s held after stops))

-- ---- the beginning

pub no_lines : (told : Bool) (held : Option (List ℕ)) → Appends held held (event_lines told [])
no_lines told held = search (rules, appends_none)

pub begins : (items : List Item) (told : Bool) (s : State) (m : Marks) (budget : ℕ) (held : Option (List ℕ)) → Keeps items s m → IsAt items told (begun s budget) s m budget held held
begins items told s m budget held keeps = record { keeps = keeps; stage = refl; lines = no_lines told held }

left_by_row : (o : Outcome) (x left : ℕ) → left_after o (ByRow x) left ≡ left
left_by_row o x left = search rules

-- a seat that was asked by a row
pub row_asked : (items : List Item) (told : Bool) (c : Course) (s : State) (m : Marks) (left seat : ℕ) (o : Outcome) (held now : Option (List ℕ)) → IsAt items told (goes_on items c (ByRow seat)) s m (left_after o (ByRow seat) left) held now → IsAt items told (goes_on items c (ByRow seat)) s m left held now
row_asked items told c s m left seat o held now h = subst (λ n. IsAt items told (goes_on items c (ByRow seat)) s m n held now) (left_by_row o seat left) h

-- the turns of a row so far, one more, and those that are left
module _ (items : List Item) (told : Bool) (c : Course) (s : State) (m : Marks) (left seat count i : ℕ) (held now : Option (List ℕ)) where
  pub row_next : IsAt items told (goes_on items (fold (goes_on items) c (turn_asks seat i)) (ByRow seat)) s m left held now → IsAt items told (fold (goes_on items) c (turn_asks seat (i + 1))) s m left held now
  row_next h = subst (λ (t : Course). IsAt items told t s m left held now) (sym (ap (fold (goes_on items) c) (turns_next seat i) ∙ fold-append (goes_on items) c (turn_asks seat i) (ByRow seat ∷ []))) h

  -- the rest is left out, where the seat takes no turn
  pub row_rests : i ≤ count → can_turn items s seat ≡ false → IsAt items told (fold (goes_on items) c (turn_asks seat i)) s m left held now → IsAt items told (fold (goes_on items) c (turn_asks seat count)) s m left held now
  row_rests within none h =
      let whole : i + (count - i) ≡ count = omega (arith, within) in
      let split = ap (fold (goes_on items) c) (ap (turn_asks seat) (sym whole) ∙ turns_append seat i (count - i)) ∙ fold-append (goes_on items) c (turn_asks seat i) (turn_asks seat (count - i)) in
      subst (λ (t : Course). IsAt items told t s m left held now) (sym (split ∙ turns_none items (fold (goes_on items) c (turn_asks seat i)) seat (count - i) (ap (λ (r : Stage). can_turn items r.world seat) (sym h.stage) ∙ none))) h

  pub row_stops : i < count → Stops items (fold (goes_on items) c (turn_asks seat i)) (ByRow seat ∷ []) s held now → Stops items c (turn_asks seat count) s held now
  row_stops below stops = subst (λ (l : List Asking). Stops items c l s held now) (sym (turns_split seat count i below)) (stops_behind items c (turn_asks seat i) _ s held now (stops_before items (fold (goes_on items) c (turn_asks seat i)) (ByRow seat ∷ []) _ s held now stops))

-- what a result's error says, where another fact follows of it
pub on_error : {X E : Type 0} (r : Result X E) (A B : Type 0) → (A → B) → OnErr r A → OnErr r B
on_error h0 h1 h2 f h = search rules
