-- The turns of a walk over the counters for a fresh node: what the counters are bounded by, and what the walk has passed.
use Rattle.std.proofs.Common.{rules, ◌≡◌, ◌≢◌, ℕ, ◌+◌, ◌-◌, ◌<◌, ◌≤◌, Bool, true, false, List, [], ◌++◌, get_or, set, refl, sym, ap, ◌∙◌, subst, inl, inr, arith}
use Rattle.std.{specs.Prelude.{◌%◌, ◌^◌, if◌then◌else◌, nat_lt}, proofs.{Math.Nat.{mod-lt, mod-eq_of_lt, add-mod_right}, lemmas.Bool.{cases_lt}}}
use mathlib.Core.Logic.{dite}
use native.Mathlib.Decide.{ℕ_discrete}
use Rattle.sh_base.specs.{declared.{config.ConfigParts.{ConfigParts}, event.Event.{Event, TheVariants.{Load, Add}}}, Setting.{all_seats, IsSetting}, Layout.{counter_word}, Places.{Counter}}
use Rattle.sh_base.specs.Memory.{apply, found_by}
use Rattle.sh_alloc.specs.declared.state.{Phase.{Phase as Step, TheVariants.{Loading, Adding, Found, Spent}}, Walk.{Walk}, ChunkWant.{ChunkWant}}
use Rattle.sh_alloc.specs.Walks.{walk_at, with_phase, server_at, walk_next, walk_fed_in, walk_wants_in as walk_want_in, walk_wants}
use Rattle.sh_alloc.specs.declared.state.ChunkWant.TheVariants as chunk
use Rattle.sh_state.{specs.TreeState.{Seat, TreeState}, proofs.{Puts.{put_here, put_case}, Joins.{nothing_done}}}
use Rattle.sh_acts.{specs.Counters.{Bounded}, proofs.{Events.{added}, Own.{bounded, finds_below, raises, draw_act, spent_act}}}
use Rattle.sh_client.specs.{declared.state.{Need.{Need}, Phase.{Phase, TheVariants.{Seek}}}, Machine.{Registers}, Wants.{count_of}}
use Rattle.sh_client.specs.declared.state.Want.TheVariants as want
use Rattle.sh_core.specs.{Actors.{Actor}, Fits.{AreSpent, ArePassed, IsSeeking}, Keeps.{KeepsActor}, Core.{WantsAdd, SomeAdds, Inv, Moves}}
use Rattle.sh_core.proofs.{Others.{others_add, adds_before, bounded_less, turn_to}, Frame.{actor_in, at, Before, Claim, one_log}}
use Rattle.sh_core_turns.proofs.{Standing.{is_lt, not_lt}, Needs.{Counts, Reached, counted_on, counted_rise, event_is, going, got, spent, walked_to, with_counters}}

-- each server is one of those that a walk passes once round
all_passed : (p : ConfigParts) (f : ℕ → ℕ) (w : Walk) → w.first < p.servers → p.servers ≤ w.passed + 1 → ArePassed p f w → p.chunks ≤ f (server_at p w) → AreSpent p f
all_passed p f w first last before here server lt = elim (cases_lt server w.first) [
  | inl low ↦
      let sum : w.first + (server + p.servers - w.first) ≡ server + p.servers = omega (arith, low, first) in
      at_end (server + p.servers - w.first) (omega (arith, low)) (ap (λ (k : ℕ). k % p.servers) sum ∙ add-mod_right server p.servers ∙ mod-eq_of_lt lt)
  | inr high ↦
      let sum : w.first + (server - w.first) ≡ server = omega (arith, high) in
      at_end (server - w.first) (omega (arith, lt)) (ap (λ (k : ℕ). k % p.servers) sum ∙ mod-eq_of_lt lt)
]
  where
    passed : (k : ℕ) → k < p.servers → p.chunks ≤ f ((w.first + k) % p.servers)
    passed k below = dite (ℕ_discrete k w.passed)
        (λ (e : k ≡ w.passed). subst (λ (z : ℕ). p.chunks ≤ f ((w.first + z) % p.servers)) (sym e) here)
        (λ (ne : k ≢ w.passed). before k (omega (arith, below, ne, last)))

    at_end : (k : ℕ) → k < p.servers → (w.first + k) % p.servers ≡ server → p.chunks ≤ f server
    at_end k below e = subst (λ (z : ℕ). p.chunks ≤ f z) e (passed k below)

module _ (p : ConfigParts) (ok : IsSetting p) (words : List ℕ) (Has Now : ℕ → Actor → Type 0) (Out : ℕ → ℕ → ℕ → Type 0) (seat : ℕ) (s : TreeState) (b : Before p words Has Out s) (a : Actor) (r : Registers) (need : Need) (h : Has seat (actor_in p seat a r (Seek need))) where
  abbrev ph : Phase
  ph = Seek need

  abbrev K : KeepsActor p s seat (actor_in p seat a r ph)
  K = b.kept seat (actor_in p seat a r ph) h

  -- ---- the bounds of the counters
  abbrev Bounds : (ℕ → ℕ) → Type 0
  Bounds f = (v : ℕ) → v < p.servers → Bounded p.chunks (all_seats p) (f v) (λ j. SomeAdds p Now v j)

  calms : (x : Actor) (v : ℕ) → v < p.servers → (WantsAdd p v x.client → ⊥) → Moves Has seat x Now → Bounded p.chunks (all_seats p) (s.counter v) (λ j. SomeAdds p Now v j)
  calms x v lt calm mv = bounded_less p.chunks (all_seats p) (s.counter v) (λ j. SomeAdds p Has v j) (λ j. SomeAdds p Now v j) (adds_before p Has Now seat x mv v calm) (b.bounded v lt)

  -- a counter was found below the limit, and is to be counted on
  finds : (server : ℕ) (x : Actor) → s.counter server < p.chunks → ((v : ℕ) → WantsAdd p v x.client → v ≡ server) → Moves Has seat x Now → Bounds s.counter
  finds server x below only mv v lt = search (rules, finds_below, bounded, others_add, calms)

  -- it is counted on
  raised_by : (server : ℕ) (x : Actor) → WantsAdd p server (at p seat r ph) → ((v : ℕ) → WantsAdd p v x.client → ⊥) → Moves Has seat x Now → Bounds (counted_on s server)
  raised_by server x adds calm mv v lt = put_case (λ z. Bounded p.chunks (all_seats p) z (λ j. SomeAdds p Now v j)) s.counter server (s.counter server + 1) v
      (λ e. subst (λ (z : ℕ). Bounded p.chunks (all_seats p) (s.counter z + 1) (λ j. SomeAdds p Now v j)) e
      (raises p.chunks (all_seats p) (s.counter v) (λ j. SomeAdds p Has v j) (b.bounded v lt) seat (λ j. SomeAdds p Now v j) K.work.seated.within
      (actor_in p seat a r ph, h, subst (λ (z : ℕ). WantsAdd p z (at p seat r ph)) (sym e) adds) (gone v) (λ j ne w. others_add p Has Now seat x mv v j ne w)))
      (λ ne. calms x v lt (calm v) mv)
    where
      gone : (v : ℕ) → SomeAdds p Now v seat → ⊥
      gone v w = elim (mv.back seat w.0 w.1) [
        | inl e ↦ calm v (subst (λ (y : Actor). WantsAdd p v y.client) e.1 w.2)
        | inr o ↦ o.0 refl
      ]

  -- the new invariant
  turned_to : (now : List ℕ) (f : ℕ → ℕ) (w : ChunkWant) (x : Actor) → Reached p seat s now f w x → ((v : ℕ) → s.counter v ≤ f v) → Bounds f → Moves Has seat x Now → Inv p now (s.log ++ []) Now Out
  turned_to now f w x z rise bounds mv = one_log p ok words Has Now Out seat s b now z.scene z.log
      (turn_to p Has Now seat x mv ok words now s z.scene b.ground z.act.1 z.keeps b.kept b.held b.pends b.skips b.makes Out z.act.0 (λ v. omega (arith, z.counts v, rise v))
      (λ v lt. subst (λ (c : ℕ). Bounded p.chunks (all_seats p) c (λ j. SomeAdds p Now v j)) (sym (z.counts v)) (bounds v lt)) b.given b.out)

  -- ---- the walk goes on, or ends

  -- the actor with a walk
  abbrev At : Walk → Actor
  At v = walked_to p ok words Has Out seat s b a r need h v (walk_wants p v)

  abbrev w : Walk
  w = r.walk

  abbrev n : ℕ
  n = server_at p w

  abbrev x : ℕ
  x = get_or words (counter_word p n) 0

  real : n < p.servers
  real = mod-lt (w.first + w.passed) ok.ranged.servers.0

  found : x ≡ s.counter n
  found = b.ground.shows.each (Counter n) real

  abbrev seeking : IsSeeking p s w r.spare
  seeking = K.work.fits.seeking

  here : Counts p seat s words s.counter
  here = record { act = (nothing_done p (λ o. o ≢ Seat seat) s, b.ground); rise = λ u. omega arith }

  -- the server is spent
  passes : (now : List ℕ) (f : ℕ → ℕ) (t : Bool) → nat_lt (w.passed + 1) p.servers ≡ t → Counts p seat s now f → p.chunks ≤ f n → ((y : Actor) → ((v : ℕ) → WantsAdd p v y.client → ⊥) → Moves Has seat y Now → Bounds f)
      → Moves Has seat (At (if t then walk_at w.first (w.passed + 1) Loading else with_phase w Spent)) Now → Inv p now (s.log ++ []) Now Out
  passes now f true e c high bounds mv =
      let v : Walk = walk_at w.first (w.passed + 1) Loading in
      let load : Event = Load (counter_word p (server_at p v)) in
      let on : IsSeeking p (with_counters s f) v r.spare = record {
        walk_is = record { first = seeking.walk_is.first; passed = is_lt (w.passed + 1) p.servers e; found = λ c q. cc };
        wants = tt;
        passed = λ k lt. dite (ℕ_discrete k w.passed)
            (λ (q : k ≡ w.passed). subst (λ (z : ℕ). p.chunks ≤ f ((w.first + z) % p.servers)) (sym q) high)
            (λ (ne : k ≢ w.passed). let old = seeking.passed k (omega (arith, lt, ne)) in omega (arith, old, c.rise ((w.first + k) % p.servers)));
        none = seeking.none;
      } in
      let z = going p ok words Has Out seat s b a r need h now v f load refl c on in
      turned_to now f (chunk.Event load) (At v) z c.rise (bounds (At v) (λ u q. let y = z.adds u q in cc) mv) mv
  passes now f false e c high bounds mv =
      let v : Walk = with_phase w Spent in
      let all = all_passed p f w seeking.walk_is.first (not_lt (w.passed + 1) p.servers e) (λ k lt. let old = seeking.passed k lt in omega (arith, old, c.rise ((w.first + k) % p.servers))) high in
      let z = spent p ok words Has Out seat s b a r need h now v f c all in
      turned_to now f chunk.AllSpent (At v) z c.rise (bounds (At v) (λ u q. let y = z.adds u q in cc) mv) mv

  -- its counter is loaded
  loads : (t : Bool) → nat_lt x p.chunks ≡ t → Moves Has seat (At (if t then with_phase w Adding else walk_next p w)) Now → Inv p words (s.log ++ []) Now Out
  loads true e mv =
      let v : Walk = with_phase w Adding in
      let on : IsSeeking p s v r.spare = record { walk_is = record { first = seeking.walk_is.first; passed = seeking.walk_is.passed; found = λ c q. cc }; wants = tt; passed = seeking.passed; none = seeking.none } in
      let z = going p ok words Has Out seat s b a r need h words v s.counter (Add (counter_word p n)) refl here on in
      turned_to words s.counter (chunk.Event (Add (counter_word p n))) (At v) z here.rise (finds n (At v) (omega (arith, found, is_lt x p.chunks e)) (λ u q. same_counter u (z.adds u q)) mv) mv
    where
      add_is : (y z : ℕ) → chunk.Event (Add y) ≡ chunk.Event (Add z) → y ≡ z
      add_is y z q = cc

      same_counter : (u : ℕ) → chunk.Event (Add (counter_word p n)) ≡ chunk.Event (Add (counter_word p u)) → u ≡ n
      same_counter u q = omega (arith, add_is (counter_word p n) (counter_word p u) q)
  loads false e mv = passes words s.counter (nat_lt (w.passed + 1) p.servers) refl here (omega (arith, found, not_lt x p.chunks e)) (λ y calm mv v lt. calms y v lt (calm v) mv) mv

  -- or counted on
  module _ (mine : WantsAdd p n (at p seat r ph)) where
    small : s.counter n + 1 < 2 ^ 64
    small = omega (arith, bounded p.chunks (all_seats p) (s.counter n) (λ j. SomeAdds p Has n j) (b.bounded n real), ok.ranged.chunks.1, seats_few)
      where
        seats_few : all_seats p ≤ 64
        seats_few = grind (arith, ok.ranged.computes, ok.ranged.seats)

    abbrev now : List ℕ
    now = set words (counter_word p n) (s.counter n + 1)

    word_is : apply words (Add (counter_word p n)) ≡ now
    word_is = added words (counter_word p n) (s.counter n) found small

    counts_on : (t : Bool) → nat_lt x p.chunks ≡ t → Moves Has seat (At (if t then with_phase w (Found x) else walk_next p w)) Now → Inv p now (s.log ++ []) Now Out
    counts_on true e mv =
        let v : Walk = with_phase w (Found x) in
        let z : Reached p seat s now (counted_on s n) (chunk.Got n x) (At v) = subst (λ (c : ℕ). Reached p seat s now (counted_on s n) (chunk.Got n c) (walked_to p ok words Has Out seat s b a r need h v (chunk.Got n c))) (sym found)
        (got p ok words Has Out seat s b a r need h now v n (draw_act p words s b.ground seat n real (omega (arith, found, is_lt x p.chunks e)))) in
        turned_to now (counted_on s n) (chunk.Got n x) (At v) z (counted_rise s n) (raised_by n (At v) mine (λ u q. let y = z.adds u q in cc) mv) mv
    counts_on false e mv =
        let high : p.chunks ≤ counted_on s n n = let z = put_here s.counter n (s.counter n + 1) in omega (arith, z, found, not_lt x p.chunks e) in
        passes now (counted_on s n) (nat_lt (w.passed + 1) p.servers) refl record { act = spent_act p words s b.ground seat n real; rise = counted_rise s n } high (λ y calm mv. raised_by n y mine calm mv) mv

  by_step : (k : Step) (e : Event) → w.phase ≡ k → count_of (walk_want_in p n k) ≡ want.Event e → Moves Has seat (At (walk_fed_in p w (found_by words e) k)) Now → Inv p (apply words e) (s.log ++ []) Now Out
  by_step Loading e is q mv =
      subst (λ (z : Event). Moves Has seat (At (walk_fed_in p w (found_by words z) Loading)) Now → Inv p (apply words z) (s.log ++ []) Now Out) (event_is (Load (counter_word p n)) e q) (λ mv. loads (nat_lt x p.chunks) refl mv) mv
  by_step Adding e is q mv =
      let mine : WantsAdd p n (at p seat r ph) = ap (λ (k : Step). count_of (walk_want_in p n k)) is in
      subst (λ (z : Event). Moves Has seat (At (walk_fed_in p w (found_by words z) Adding)) Now → Inv p (apply words z) (s.log ++ []) Now Out) (event_is (Add (counter_word p n)) e q)
      (λ mv. subst (λ (ws : List ℕ). Inv p ws (s.log ++ []) Now Out) (sym (word_is mine)) (counts_on mine (nat_lt x p.chunks) refl mv)) mv
  by_step (Found c) e is q mv = cc
  by_step Spent e is q mv = cc

-- the turn of the event that the walk wants
pub seek : (p : ConfigParts) (ok : IsSetting p) (words : List ℕ) (Has Now : ℕ → Actor → Type 0) (Out : ℕ → ℕ → ℕ → Type 0) (seat : ℕ) (s : TreeState) (b : Before p words Has Out s) (a : Actor) (r : Registers) (need : Need) (e : Event) → count_of (walk_wants p r.walk) ≡ want.Event e → Claim p ok words Has Now Out seat s b a r (Seek need) e
seek p ok words Has Now Out seat s b a r need e q h mv = by_step p ok words Has Now Out seat s b a r need h r.walk.phase e refl q mv
