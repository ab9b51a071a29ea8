-- A step that a seat makes at once, inside a verb or while it waits, is the turn that its client wants.
use Rattle.std.proofs.{Common.{rules, ◌≡◌, ℕ, ◌-◌, ◌<◌, Bool, true, false, List, [], ◌++◌, length, set, take, get_or, Some, None, refl, sym, ap, ◌∙◌, subst}, lemmas.List.{append-nil, set-get_or, take_at}}
use Rattle.std.{proofs.lemmas.Option.{slice_get_read}, specs.Prelude.{◌==◌, not, if◌then◌else◌}}
use Rattle.sh_base.specs.{declared.config.ConfigParts.{ConfigParts}, Layout.{compute_of}, Memory.{found_by}, Setting.{all_locks}}
use Rattle.sh_client.{proofs.Wanting.{goes_on, look_busy, look_stays, look_wants}, specs.{Feeds.{fed_by, turned_by}, Giving.{makes}, Machine.{Machine}, Rests.{has_ended, rows_told}}}
use Rattle.sh_client.specs.{Steps.{looks_of, IsStep}, declared.state.Step.{Step}}
use Rattle.sh_map.specs.{declared.log.Entry.{Entry}, Points.{point_of}}
use Rattle.sh_world.{proofs.WorldLemmas.{called_world, event_world, is_asked, running, IsAsked}, specs.{Running.{IsWorld}, States.{Given, Place, State, actor_of, answered, line_at}}}
use Rattle.sh_world.specs.{Turning.{calls_after, going, looked_client, looked_line, place_after, resting, place_stepped, took, IsTurn}, declared.{state.Line.{Line}, turn.Turn.{Turn}}}
use Rattle.sh_client.specs.declared.state.Want.TheVariants as want

-- the setting of a seat's client is the world's
pub seat_setting : (s t : State) (room : ℕ) (kept : ConfigParts) (i : ℕ) (q : Place) → s ≡ t → IsWorld s room kept → i < length t.seats → q ≡ get_or s.seats i q → q.client.setting ≡ s.setting
seat_setting s t room kept i q e h lt read =
    let g = running s t room kept i e h lt in
    (g.0.inv.kept i (actor_of s.calls i q) (record { place = q; here = slice_get_read s.seats (length s.seats) i q refl g.2 read; actor_is = refl })).work.seated.setting_is

-- the seat that makes a step was asked, and wants its event
pub step_asked : (s t : State) (room : ℕ) (kept : ConfigParts) (i : ℕ) (q : Place) (m : Machine) (before after : List ℕ) (st : Step) → s ≡ t → IsWorld s room kept → i < length t.seats → q ≡ get_or s.seats i q → IsStep before after q.client m st → IsAsked s i room kept q (want.Event st.event)
step_asked s t room kept i q m before after st e h lt read step = search (rules, is_asked)

module _ (q : Place) (m : Machine) (before after : List ℕ) (st : Step) (step : IsStep before after q.client m st) where
  not_ended : has_ended m.phase ≡ false
  not_ended = goes_on m.phase step.busy

  step_place : (log : List Entry) → record q { client = m; seen = length log } ≡ place_after q log (makes q.client) m
  step_place log = search (rules, not_ended)

  step_calls : (cs : List Given) (log : List Entry) → cs ≡ calls_after cs q log m
  step_calls cs log = sym (ap (λ (b : Bool). if b then answered cs (q.number - 1) m.registers.reply (rows_told m) q.first (point_of log q.first q.point m.registers.call m.registers.reply) else cs) not_ended)

-- the world after it
pub step_world : (s : State) (i : ℕ) (q R x : Place) (m : Machine) (before after rest : List ℕ) (nw seen : ℕ) (st : Step) → q ≡ R → IsStep before after q.client m st → before ≡ s.words → length s.words ≡ nw → seen ≡ length s.log → x ≡ place_stepped q m seen (Some st)
    → record { setting = s.setting; words = take nw (after ++ rest); log = s.log; seats = set s.seats i x; calls = s.calls; lines = s.lines } ≡ took s i R (want.Event st.event)
step_world s i q R x m before after rest nw seen st R_is step before_is nw_is seen_is x_is =
    let fed : m ≡ fed_by q.client (found_by before st.event) = step.fed ∙ ap (fed_by q.client) step.found in
    let place = x_is ∙ ap (λ n. record q { client = m; seen = n }) seen_is ∙ step_place q m before after st step s.log ∙ ap (place_after q s.log (makes q.client)) fed in
    let calls = step_calls q m before after st step s.calls s.log ∙ ap (calls_after s.calls q s.log) fed in
    let log = sym (append-nil s.log) ∙ ap (λ (more : List Entry). s.log ++ more) (sym step.log) in
    event_world s i q R R_is st.event before after rest s.log x s.calls s.calls nw before_is refl step.words log place calls nw_is

-- where no step was made the world is as it was
pub still_is : (s t : State) (i : ℕ) (q x : Place) (before after rest : List ℕ) (nw : ℕ) → s ≡ t → q ≡ get_or s.seats i q → x ≡ q → after ≡ before → before ≡ s.words → length s.words ≡ nw
    → record { setting = s.setting; words = take nw (after ++ rest); log = s.log; seats = set s.seats i x; calls = s.calls; lines = s.lines } ≡ t
still_is s t i q x before after rest nw e read same words before_is nw_is = search (rules, take_at, set-get_or)

-- and a turn of it is one of the world before
pub still_turns : (u t new : State) (i : ℕ) (told : Turn) → u ≡ t → IsTurn u i new told → IsTurn t i new told
still_turns u t new i told e h = subst (λ (x : State). IsTurn x i new told) e h

-- ---- a look at a ticket that isn't served

-- of the seat as it was seen
pub looks_seen : (x q : Place) (lock : ℕ) → x ≡ q → Some lock ≡ looks_of x.client → looks_of q.client ≡ Some lock
looks_seen x q lock e is = ap (λ (y : Place). looks_of y.client) (sym e) ∙ sym is

is_false : (b : Bool) → true ≡ not b → b ≡ false
is_false b e = search rules

-- the seat that looks was asked, and wants a look
pub look_asked : (s t : State) (room : ℕ) (kept : ConfigParts) (i : ℕ) (q : Place) (lock : ℕ) → s ≡ t → IsWorld s room kept → i < length t.seats → q ≡ get_or s.seats i q → looks_of q.client ≡ Some lock → lock < all_locks q.client.setting → IsAsked s i room kept q (want.Look lock)
look_asked s t room kept i q lock e h lt read looks within = search (rules, look_wants, is_asked)

-- the lock is one of the world's
pub look_within : (s t : State) (room : ℕ) (kept : ConfigParts) (i : ℕ) (q : Place) (lock : ℕ) → s ≡ t → IsWorld s room kept → i < length t.seats → q ≡ get_or s.seats i q → lock < all_locks q.client.setting → lock < all_locks s.setting
look_within s t room kept i q lock e h lt read within = subst (λ (p : ConfigParts). lock < all_locks p) (seat_setting s t room kept i q e h lt read) within

module _ (q : Place) (l : Line) (lock : ℕ) (looks : looks_of q.client ≡ Some lock) (waits : true ≡ not (l.served == q.ticket)) where
  still_client : looked_client q l ≡ q.client
  still_client = ap (λ (b : Bool). if b then turned_by q.client l.left else fed_by q.client l.served) (is_false _ waits) ∙ look_stays q.client q.client.phase lock l.served looks

  still_line : looked_line q l ≡ l
  still_line = ap (λ (b : Bool). if b then record l { left = None } else l) (is_false _ waits)

  still_goes : has_ended q.client.phase ≡ false
  still_goes = look_busy q.client q.client.phase lock looks

  look_place : (log : List Entry) → record q { seen = length log } ≡ place_after q log [] (looked_client q l)
  look_place log = sym (ap (place_after q log []) still_client ∙ ap (λ (b : Bool). if b then resting q log q.client else going q log [] q.client) still_goes)

  look_calls : (cs : List Given) (log : List Entry) → cs ≡ calls_after cs q log (looked_client q l)
  look_calls cs log = sym (ap (calls_after cs q log) still_client ∙ ap (λ (b : Bool). if b then answered cs (q.number - 1) q.client.registers.reply (rows_told q.client) q.first (point_of log q.first q.point q.client.registers.call q.client.registers.reply) else cs) still_goes)

-- the world after it
pub wait_world : (s : State) (i : ℕ) (q R x : Place) (lock k : ℕ) (l : Line) (seen : ℕ) → q ≡ R → looks_of q.client ≡ Some lock → true ≡ not (l.served == q.ticket) → k ≡ line_at s.setting lock (compute_of s.setting i) → k < length s.lines → l ≡ get_or s.lines k l → seen ≡ length s.log → x ≡ record q { seen = seen }
    → record { setting = s.setting; words = s.words; log = s.log; seats = set s.seats i x; calls = s.calls; lines = s.lines } ≡ took s i R (want.Look lock)
wait_world s i q R x lock k l seen R_is looks waits k_is lt read seen_is x_is =
    let place = x_is ∙ ap (λ n. record q { seen = n }) seen_is ∙ look_place q l lock looks waits s.log in
    let lines : s.lines ≡ set s.lines k (looked_line q l) = sym (set-get_or s.lines k l) ∙ ap (set s.lines k) (sym read ∙ sym (still_line q l lock looks waits)) in
    (λ z. record { setting = s.setting; words = s.words; log = s.log; seats = set s.seats i x; calls = s.calls; lines = lines z })
    ∙ called_world s i q R R_is lock k (want.Look lock) l (looked_line q l) s.log s.calls s.calls x refl refl k_is lt read refl refl place (look_calls q l lock looks waits s.calls s.log)

-- ---- a load inside a READ

-- the world after it
pub load_world : (s : State) (i : ℕ) (q R x : Place) (m : Machine) (words : List ℕ) (seen : ℕ) (st : Step) → q ≡ R → IsStep words words q.client m st → words ≡ s.words → seen ≡ length s.log → x ≡ place_stepped q m seen (Some st)
    → record { setting = s.setting; words = s.words; log = s.log; seats = set s.seats i x; calls = s.calls; lines = s.lines } ≡ took s i R (want.Event st.event)
load_world s i q h3 x m words seen st h9 step words_is seen_is x_is = search (rules, take_at, step_world)
