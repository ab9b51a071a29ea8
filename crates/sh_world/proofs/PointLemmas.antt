-- The walk over the entries that were made during a call finds the least point of its reply; and what a client's call
-- answers when it has ended.
use Rattle.std.proofs.Common.{rules, ◌≡◌, ◌≢◌, ℕ, ◌+◌, ◌<◌, ◌≤◌, inl, inr, List, length, get_or, Option, refl, sym, ap, ◌∙◌, arith, ◌-◌, ◌^◌, true, false, take, drop, subst}
use Rattle.std.{proofs.lemmas.{Bool.{cases_eq, cases_lt}, List.{length-take-le, length-drop}, Option.{slice_get_read}}}
use Rattle.sh_map.{proofs.{LeastLemmas.{least_is}, LogLemmas.{changed_other, map_more, IsLegal-at}}, specs.{Log.{change_key, changed, map_at, IsLegal}, Map.{get}, declared.call.Call.{Call}}}
use Rattle.sh_map.specs.{Points.{IsLeastPoint, least_point, point_of}, declared.{call.{Reply.{Reply}}, log.Entry.{Entry}}}
use Rattle.sh_readers.specs.Points.{HadSince}
use Rattle.sh_base.specs.declared.config.ConfigParts.{ConfigParts}
use Rattle.sh_client.specs.Rests.{has_ended}
use Rattle.sh_core.specs.Actors.{point_after, seen_after}
use Rattle.sh_world.specs.{States.{Given, Place}, Turning.{place_after}, Running.{HasPoint}, Seats.{CanEnd, CanSettle}}

-- from first on, none before start has it, and from start up to here the map has the same at the key
pub record IsWalked (log : List Entry) (first key : ℕ) (had : Option (List ℕ)) (start at : ℕ) : Type 0 where
  pub from : first ≤ start
  pub upto : start ≤ at
  pub within : at ≤ length log
  pub before : (q : ℕ) → first ≤ q → q < start → get (map_at log q) key ≢ had
  pub since : (q : ℕ) → start ≤ q → q ≤ at → get (map_at log q) key ≡ get (map_at log start) key

module _ (log : List Entry) (first key : ℕ) (had : Option (List ℕ)) where
  unique : (p : ℕ) → IsLeastPoint log first key had p → p ≡ least_point log first key had
  unique p h = search (rules, least_is, cases_eq, cases_lt)

  pub begins : first ≤ length log → IsWalked log first key had first first
  begins le = record { from = omega arith; upto = omega arith; within = le; before = λ q from lt. absurd (omega (arith, from, lt)); since = λ q a b. let e : q ≡ first = omega (arith, a, b) in ap (λ (n : ℕ). get (map_at log n) key) e }

  module _ (legal : IsLegal log) (start at : ℕ) (e : Entry) (lt : at < length log) (read : e ≡ get_or log at e) (w : IsWalked log first key had start at) where
    next : map_at log (at + 1) ≡ changed (map_at log at) e.change
    next = map_more log at e lt ∙ ap (λ (x : Entry). changed (map_at log at) x.change) (sym read)

    -- an entry of another key
    pub other : key ≢ change_key e.change → IsWalked log first key had start (at + 1)
    other ne = record {
      from = w.from;
      upto = omega (arith, w.upto);
      within = omega (arith, lt);
      before = w.before;
      since = λ q a b. elim (cases_eq q (at + 1)) [
        | inl is ↦ ap (λ (n : ℕ). get (map_at log n) key) is ∙ ap (λ m. get m key) next ∙ changed_other (map_at log at) e.change key ne ∙ w.since at w.upto (omega arith)
        | inr not ↦ w.since q a (omega (arith, b, not))
      ];
    }

    -- an entry of the key tells what the map had
    tells : key ≡ change_key e.change → e.old ≡ get (map_at log start) key
    tells is = (IsLegal-at log at e legal (slice_get_read log (length log) at e refl lt read)).0 ∙ ap (get (map_at log at)) (sym is) ∙ w.since at w.upto (omega arith)

    pub passes : key ≡ change_key e.change → e.old ≢ had → IsWalked log first key had (at + 1) (at + 1)
    passes is not = record {
      from = omega (arith, w.from, w.upto);
      upto = omega arith;
      within = omega (arith, lt);
      before = λ q a b. elim (cases_lt q start) [
        | inl early ↦ w.before q a early
        | inr late ↦ λ same. not (tells is ∙ sym (w.since q late (omega (arith, b))) ∙ same)
      ];
      since = λ q a b. let e : q ≡ at + 1 = omega (arith, a, b) in ap (λ (n : ℕ). get (map_at log n) key) e;
    }

    pub finds : key ≡ change_key e.change → e.old ≡ had → start ≡ least_point log first key had
    finds is same = unique start (record { from = w.from; within = omega (arith, w.upto, lt); here = sym (tells is) ∙ same; least = w.before })

  pub ends : (start at : ℕ) → IsWalked log first key had start at → length log ≤ at → HadSince log first key had → start ≡ least_point log first key had
  ends start at w le h = search (rules, unique, cases_lt)

-- ---- what a client's call answers when it has ended, and what its seat has seen

-- an ended call can end, and is answered
pub can_end : (p : ConfigParts) (log : List Entry) (calls : List Given) (x y : Place) → x ≡ y → CanSettle p log calls y y.client → has_ended x.client.phase ≡ true → CanEnd p log calls x x.client
can_end p log calls x y e h t = subst (λ (z : Place). CanEnd p log calls z z.client) (sym e) (h (subst (λ (z : Place). has_ended z.client.phase ≡ true) e t))

-- a call goes on
pub place_going : (log more : List Entry) (x y w : Place) (seen point : ℕ) → x ≡ y → has_ended x.client.phase ≡ false → w ≡ record x { point = point } → seen ≡ seen_after more (length log) → point ≡ point_after more x.point (length log)
    → record w { seen = seen } ≡ place_after y log more y.client
place_going log more x y w seen point e t w_is s_is p_is = search rules

-- the point of a reply is a word of half the size
pub point_small : (log : List Entry) (first point : ℕ) (c : Call) (r : Reply) → HasPoint log first c r → length log < 2 ^ 32 → point < 2 ^ 32 → point_of log first point c r < 2 ^ 32
point_small log first point c r h few small = search (rules, least_is)

pub point_fits : (log : List Entry) (first point pt : ℕ) (c d : Call) (r q : Reply) → c ≡ d → r ≡ q → HasPoint log first d q → length log < 2 ^ 32 → point < 2 ^ 32 → pt ≡ point_of log first point c r → pt < 2 ^ 32
point_fits log first point pt c d r q c_is r_is h few small is = rw (is ∙ (λ z. point_of log first point (c_is z) (r_is z))) (point_small log first point d q h few small)

module _ (log : List Entry) (seen : ℕ) (within : seen ≤ length log) where
  -- what a seat has seen behind its turn, and where its entry is
  tail_seen : (more : List Entry) → length more ≡ length log - seen → length log ≤ seen + 1 → seen_after more (length (take seen log)) ≡ length log
  tail_seen more e one = search (rules, length-take-le)

  pub seen_is : length log ≤ seen + 1 → seen_after (drop seen log) (length (take seen log)) ≡ length log
  seen_is one = tail_seen (drop seen log) (length-drop seen log) one

  tail_point : (more : List Entry) (point : ℕ) → length more ≡ length log - seen → seen < length log → point_after more point (length (take seen log)) ≡ seen
  tail_point more point e lt = search (rules, length-take-le)

  pub point_made : (point : ℕ) → seen < length log → point_after (drop seen log) point (length (take seen log)) ≡ seen
  point_made point lt = tail_point (drop seen log) point (length-drop seen log) lt

  tail_stays : (more : List Entry) (point : ℕ) → length more ≡ length log - seen → length log ≤ seen → point_after more point (length (take seen log)) ≡ point
  tail_stays more point e le = search rules

  pub point_stays : (point : ℕ) → length log ≤ seen → point_after (drop seen log) point (length (take seen log)) ≡ point
  point_stays point le = tail_stays (drop seen log) point (length-drop seen log) le
