-- Tables of owners.
use Rattle.std.proofs.Common.{rules, ◌≡◌, ◌≢◌, ◌↔◌, ◌⊎◌, ℕ, ◌+◌, ◌<◌, Bool, true, false, List, [], ◌∷◌, ◌++◌, length, get_or, set, take, replicate, Option, Some, None, inl, inr, sym, ap, subst, ◌∙◌, arith, eq-eqb, length-take-le}
use Rattle.std.specs.{Prelude.{slice_get, Any, IsTrue, MatchOption, nat_eq}, Option.{option_eq}, Ordering.{nat_cmp}, Map.{lookup}, BTreeMap.{BTreeMap, is_at, Updates}}
use Rattle.std.proofs.lemmas.{Bool.{cases_lt, cases_eq, eqb-true}, List.{get_or-set_same, get_or-set_other, get_or-replicate, length-replicate, length-set}}
use Rattle.std.proofs.lemmas.Option.{slice_get_within, slice_get-get_or}
use Rattle.std.specs.BTreeMap as tree
use Rattle.sh_logic.proofs.{Options.{some_is}, Lists.{slice_get-append_left, slice_get-push_back, slice_get-push_end}}
use Rattle.sh_map.{specs.{declared.{log.Entry.{Entry}, book.Done.{Done}}, Book.{made, IsOwn, IsLastOfSeat}, Tables.{AreOwned, AreLastPlaces, IsLastPlace, HasNoPlace}}, proofs.MapLemmas.{apart_test}}
use Rattle.sh_map.proofs.WalkLemmas.{any_push, one_more}

pub owned_none : (n : ℕ) (owned : List Bool) → owned ≡ replicate n false → AreOwned n [] owned
owned_none n owned is = search (rules, length-replicate, get_or-replicate)

-- a walk over the calls, one on, which was read
module _ (n : ℕ) (dones : List Done) (at : ℕ) (d : Done) (in_range : at < length dones) (read : d ≡ get_or dones at d) (owned : List Bool) (h : AreOwned n (take at dones) owned) where
  owned_push : (new : List Bool) → length new ≡ n → ((i : ℕ) → i < n → IsTrue (get_or new i true) ↔ (Any (IsOwn i) (take at dones) ⊎ IsOwn i d)) → AreOwned n (take (at + 1) dones) new
  owned_push new long each = subst (λ (l : List Done). AreOwned n l new) (one_more dones at d in_range read) (record {
    long = long;
    each = λ i lt. (λ yes. (any_push (IsOwn i) (take at dones) d).1 ((each i lt).0 yes), λ own. (each i lt).1 ((any_push (IsOwn i) (take at dones) d).0 own));
  })

  pub owned_set : made d.call d.reply ≡ 1 → d.point < n → AreOwned n (take (at + 1) dones) (set owned d.point true)
  owned_set makes small = owned_push (set owned d.point true) (length-set owned d.point true ∙ h.long) (λ i lt. elim (cases_eq i d.point) [
    | inl same ↦ (λ _. inr (makes, sym same), λ _. ap (λ k. get_or (set owned d.point true) k true) same ∙ get_or-set_same owned d.point true true (omega (arith, h.long)))
    | inr differ ↦
        let stays : get_or (set owned d.point true) i true ≡ get_or owned i true = get_or-set_other owned d.point i true true differ in
        (λ yes. inl ((h.each i lt).0 (sym stays ∙ yes)), λ own. elim own [ inl old ↦ stays ∙ (h.each i lt).1 old | inr new ↦ absurd (differ (sym new.1)) ])
  ])

  pub owned_kept : (made d.call d.reply ≡ 1 → d.point < n → ⊥) → AreOwned n (take (at + 1) dones) owned
  owned_kept none = owned_push owned h.long (λ i lt. (λ yes. inl ((h.each i lt).0 yes), λ own. elim own [ inl old ↦ (h.each i lt).1 old | inr new ↦ absurd (none new.0 (omega (arith, new.1))) ]))

pub last_none : (lasts : BTreeMap ℕ ℕ) → lasts.entries ≡ [] → AreLastPlaces [] lasts
last_none lasts empty = record { each = λ seat. subst (λ o. MatchOption o (HasNoPlace [] seat) (λ i. IsLastPlace [] seat i)) (sym (ap (lookup (is_at (nat_cmp seat))) empty)) (λ j f is. absurd (cc)) }

module _ (log : List Entry) (e : Entry) (seat : ℕ) (differ : seat ≢ e.seat) where
  none_push : HasNoPlace log seat → HasNoPlace (log ++ e ∷ []) seat
  none_push none j f is same = search (rules, slice_get-push_back)

  last_push : (i : ℕ) → IsLastPlace log seat i → IsLastPlace (log ++ e ∷ []) seat i
  last_push i h = search (rules, slice_get-append_left, slice_get-push_back)

  place_push : (o : Option ℕ) → MatchOption o (HasNoPlace log seat) (λ i. IsLastPlace log seat i) → MatchOption o (HasNoPlace (log ++ e ∷ []) seat) (λ i. IsLastPlace (log ++ e ∷ []) seat i)
  place_push None h = none_push h
  place_push (Some i) h = last_push i h

lasts_push : (log : List Entry) (e : Entry) (old new : BTreeMap ℕ ℕ) → AreLastPlaces log old → Updates nat_cmp old new e.seat (Some (length log)) → AreLastPlaces (log ++ e ∷ []) new
lasts_push log e old new h updates = search (rules, cases_eq, slice_get-push_end, slice_get-push_back, slice_get_within, apart_test, place_push)

-- a walk over the log, one on, which was read
pub lasts_more : (log : List Entry) (at : ℕ) (e : Entry) (old new : BTreeMap ℕ ℕ) → at < length log → e ≡ get_or log at e → AreLastPlaces (take at log) old → Updates nat_cmp old new e.seat (Some at) → AreLastPlaces (take (at + 1) log) new
lasts_more log at e old new in_range read h updates =
    let len : length (take at log) ≡ at = length-take-le at log (omega arith) in
    subst (λ (l : List Entry). AreLastPlaces l new) (one_more log at e in_range read) (lasts_push (take at log) e old new h (subst (λ n. Updates nat_cmp old new e.seat (Some n)) (sym len) updates))

-- a test of a seat's last place is one of whether an entry is its last
last_decides : (log : List Entry) (at : ℕ) (e : Entry) (o : Option ℕ) → slice_get log at ≡ Some e → MatchOption o (HasNoPlace log e.seat) (λ i. IsLastPlace log e.seat i) → IsTrue (option_eq nat_eq o (Some at)) ↔ IsLastOfSeat log at
last_decides log at e o here none = search (rules, eqb-true, some_is, cases_eq, eq-eqb, cases_lt)

pub owner_decides : (log : List Entry) (dones : List Done) (owned : List Bool) (lasts : BTreeMap ℕ ℕ) (at : ℕ) (e : Entry) (o : Option ℕ) → at < length log → e ≡ get_or log at e → AreOwned (length log) dones owned → AreLastPlaces log lasts → (IsTrue (get_or owned at true) → ⊥) → o ≡ tree.get nat_cmp lasts e.seat → (b : Bool) → b ≡ option_eq nat_eq o (Some at) → IsTrue b ↔ (Any (IsOwn at) dones ⊎ IsLastOfSeat log at)
owner_decides log dones owned lasts at e o in_range read are_owned are_last free found b is = search (rules, slice_get-get_or, last_decides)
