-- An actor's ended calls stay answered while it takes turns on its chair.
use Rattle.std.proofs.Common.{◌≡◌, ◌⊎◌, ℕ, ◌≤◌, List, [], ◌∷◌, length, refl, ap, sym, inl, inr, append-nil}
use Rattle.sh_base.specs.{declared.config.ConfigParts.{ConfigParts}, Layout.{compute_of, lock_of}, Setting.{IsSetting}}
use Rattle.sh_map.specs.declared.log.Entry.{Entry}
use Rattle.sh_client.specs.{Feeds.{fed_by}, Giving.{makes, made_in}, Rests.{has_ended}, Machine.{Machine}}
use Rattle.sh_core.{specs.{Actors.{Actor, actor_stepped}, Core.{Inv, Instead}}, proofs.Moves.{put_moves}}
use Rattle.sh_core_turns.proofs.LocalLaws.{part_keeps}
use Rattle.sh_core_says.{proofs.Books.{calls_are_answered}}
use Rattle.sh_pool_rule.{specs.{Rights.{IsHanding}, Untold.{OfPass, HandsOver, StaysAnswered, untold_after}}, proofs.Untold.{after_seen, becomes_seen, turn_keeps_on}}

-- a right to the lock, beside those that are out
abbrev OutToo : (Out : ℕ → ℕ → ℕ → Type 0) → (lock compute depth : ℕ) → ℕ → ℕ → ℕ → Type 0
OutToo Out lock compute depth l c d = ((l ≡ lock) × (c ≡ compute) × (d ≡ depth)) ⊎ Out l c d

pub stays : (p : ConfigParts) → IsSetting p → (words : List ℕ) (log : List Entry) (k : ℕ) (Has : ℕ → Actor → Type 0) (Out : ℕ → ℕ → ℕ → Type 0) (a : Actor) → Inv p words log Has Out → Has k a → a.seen ≤ length log → StaysAnswered p k log a
stays p ok words log k Has Out a inv h le [] may = calls_are_answered p words log Has Out k a inv h
stays p ok words log k Has Out a inv h le (OfPass u ∷ ts) may =
    let b : Actor = untold_after k log a u in
    stays p ok words log k (Instead Has k b) Out b (turn_keeps_on p ok words log Out k log ([], sym (append-nil log)) Has a u inv h le may.0) (inl (refl, refl)) (after_seen p k log a u may.0) ts may.1
stays p ok words log k Has Out a inv h le (HandsOver ∷ ts) may =
    let b : Actor = actor_stepped k a log 0 in
    let m : Machine = fed_by a.client 0 in
    let hand : IsHanding a.client = may.0 in
    let lock : ℕ = lock_of p hand.node in
    let After : ℕ → ℕ → ℕ → Type 0 = OutToo Out lock (compute_of p k) hand.depth in
    let inv' : Inv p words log (Instead Has k b) After = part_keeps p ok words log log Has (Instead Has k b) Out After k 0 a hand.node hand.depth hand.behind inv h hand.phase record { rest = []; whole = sym (append-nil log); more = le } (inl (refl, refl, refl)) (λ l c d o. o) (λ l c d o. inr o) (put_moves Has k b) in
    stays p ok words log k (Instead Has k b) After b inv' (inl (refl, refl)) (becomes_seen k a log m (makes a.client) (ap (made_in a.client) hand.phase) (has_ended m.phase)) ts may.1
