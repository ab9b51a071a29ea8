-- The calls of a world are those that it was given, whatever turns are made; and a map has no more keys than its log has
-- entries.
use Rattle.std.proofs.Common.{rules, ◌≡◌, ◌≤◌, ℕ, zero, suc, ◌+◌, ◌-◌, Bool, cond, List, [], ◌∷◌, ◌++◌, map, length, Option, Some, refl, sym, ap, ◌∙◌, append_assoc, arith}
use Rattle.std.{specs.{Prelude.{All, filter, slice_get, if◌then◌else◌}, List.{fold}, FinMap.{contains_key, len-insert, len-remove}}, proofs.lemmas.List.{append-nil, map-append}}
use Rattle.std.{proofs.lemmas.List.Elements.{All-head, All-tail, filter-append}, specs.Cmp.{nat_cmp_total}}
use Rattle.sh_base.specs.{declared.config.ConfigParts.{ConfigParts}, Setting.{all_seats}}
use Rattle.sh_map.specs.{declared.{call.{Call.{Call}, Reply.{Reply}}, book.Row.{Row}, log.{Change.{Change}, Entry.{Entry}}}, Map.{Map, size}, Log.{changed, map_from}}
use Rattle.sh_map.specs.declared.log.Change.TheVariants as change
use Rattle.sh_client.specs.{declared.state.Want.{Want}}
use Rattle.sh_sheet.specs.{declared.item.Item.{Item, TheVariants.{Ask, Mark, After, Turn}}, Sheet.{IsLawfulItem, is_call}}
use Rattle.sh_world.specs.{States.{Given, Place, State, answered}, Turning.{give_at, took, turn_at, turn_of}}
use Rattle.sh_replay.{specs.{Course.{given_by}, Served.{item_of}}, proofs.{EndLemmas.{there_is}, ItemLemmas.{given_keeps}}}

abbrev pub items_of : State → List Item
items_of s = map item_of s.calls

answered_same : (calls : List Given) (place : ℕ) (r : Reply) (rows : List Row) (first point : ℕ) → map item_of (answered calls place r rows first point) ≡ map item_of calls
answered_same [] place r rows first point = refl
answered_same (g ∷ calls) zero r rows first point = refl
answered_same (g ∷ calls) (suc place) r rows first point = ap (λ l. item_of g ∷ l) (answered_same calls place r rows first point)

by_end : (b : Bool) (calls : List Given) (place : ℕ) (r : Reply) (rows : List Row) (first point : ℕ) → map item_of (if b then answered calls place r rows first point else calls) ≡ map item_of calls
by_end b calls place r rows first point = search (rules, answered_same)

took_same : (s : State) (seat : ℕ) (q : Place) (w : Want) → items_of (took s seat q w) ≡ items_of s
took_same s seat q w = search (rules, by_end)

turn_at_same : (s : State) (seat : ℕ) (o : Option Place) → items_of (turn_at s seat o) ≡ items_of s
turn_at_same s seat o = search (rules, took_same)

-- a turn leaves the world's calls, but for what they were answered
pub turn_same : (s : State) (seat : ℕ) → items_of (turn_of s seat) ≡ items_of s
turn_same s seat = turn_at_same s seat (slice_get s.seats seat)

-- ---- calls that are given

give_more : (s : State) (seat : ℕ) (call : Call) (o : Option Place) (q : Place) → o ≡ Some q → items_of (give_at s seat call o) ≡ items_of s ++ Ask seat call ∷ []
give_more s seat call o q e = search (rules, map-append)

given_more : (p : ConfigParts) (s : State) (item : Item) → IsLawfulItem p item → length s.seats ≡ all_seats p → items_of (given_by s item) ≡ items_of s ++ filter is_call (item ∷ [])
given_more p s (Ask seat call) can long =
    let there = there_is s.seats seat (omega (arith, can.0, long)) in
    give_more s seat call (slice_get s.seats seat) there.0 there.1
given_more p s (Mark seat n) can long = sym (append-nil (items_of s))
given_more p s (After seat n) can long = sym (append-nil (items_of s))
given_more p s (Turn seat count) can long = sym (append-nil (items_of s))

pub all_given : (p : ConfigParts) (items : List Item) (s : State) → All (IsLawfulItem p) items → length s.seats ≡ all_seats p → items_of (fold given_by s items) ≡ items_of s ++ filter is_call items
all_given p [] s can long = sym (append-nil (items_of s))
all_given p (i ∷ is) s can long =
    all_given p is (given_by s i) (All-tail (IsLawfulItem p) i is can) ((given_keeps s i).1 ∙ long)
    ∙ ap (λ l. l ++ filter is_call is) (given_more p s i (All-head (IsLawfulItem p) i is can) long)
    ∙ append_assoc (items_of s) (filter is_call (i ∷ [])) (filter is_call is)
    ∙ ap (λ l. items_of s ++ l) (sym (filter-append is_call (i ∷ []) is))

-- ---- the map's rows

one_at_most : (b : Bool) (n : ℕ) → cond b n (n + 1) ≤ n + 1
one_at_most b n = search rules

no_more : (b : Bool) (n : ℕ) → cond b (n - 1) n ≤ n + 1
no_more b n = search rules

changed_size : (m : Map) (c : Change) → size (changed m c) ≤ size m + 1
changed_size m (change.Put key value) = omega (arith, len-insert nat_cmp_total m key value, one_at_most (contains_key m key) (size m))
changed_size m (change.Del key) = omega (arith, len-remove nat_cmp_total m key, no_more (contains_key m key) (size m))

pub map_size : (log : List Entry) (m : Map) → size (map_from m log) ≤ size m + length log
map_size [] m = omega arith
map_size (e ∷ log) m = omega (arith, changed_size m e.change, map_size log (changed m e.change))
