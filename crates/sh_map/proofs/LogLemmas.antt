-- A log that gains an entry.
use Rattle.std.proofs.Common.{rules, ◌≡◌, ◌≢◌, ◌<◌, ◌+◌, ◌-◌, sym, drop, Result, ◌∙◌, ℕ, zero, suc, ◌≤◌, List, [], ◌∷◌, ◌++◌, length, get_or, take, Some, refl, ap, subst, arith}
use Rattle.std.{specs.{Prelude.{slice_get, OnOk}, FinMap.{empty}}, proofs.{Math.Seq.{take-add}, lemmas.List.{take_more, take-append-le, take_all}}}
use Rattle.sh_map.{proofs.WalkLemmas.{one_more}, specs.{declared.log.{Change.{Change}, Entry.{Entry}}, Map.{Map, get}}}
use Rattle.sh_map.{specs.Log.{change_key, changed, map_from, map_of, map_at, IsNext, IsLegalFrom, IsLegal}, proofs.MapLemmas.{get-put_other, get-del_other}}

pub map_from-append : (m : Map) (log more : List Entry) → map_from m (log ++ more) ≡ map_from (map_from m log) more
map_from-append m [] more = refl
map_from-append m (e ∷ log) more = map_from-append (changed m e.change) log more

pub map_of-push : (log : List Entry) (e : Entry) → map_of (log ++ e ∷ []) ≡ changed (map_of log) e.change
map_of-push log e = map_from-append empty log (e ∷ [])

-- earlier maps stay as they were
pub map_at-push : (log : List Entry) (e : Entry) (p : ℕ) → p ≤ length log → map_at (log ++ e ∷ []) p ≡ map_at log p
map_at-push log e p h = ap map_of (take-append-le p log (e ∷ []) h)

pub map_at-length : (log : List Entry) → map_at log (length log) ≡ map_of log
map_at-length log = ap map_of (take_all (length log) log (omega arith))

-- a change of another key leaves a key
pub changed_other : (m : Map) (change : Change) (q : ℕ) → q ≢ change_key change → get (changed m change) q ≡ get m q
changed_other m change q differ = search (rules, get-put_other, get-del_other)

legal_from-append : (m : Map) (log : List Entry) (e : Entry) → IsLegalFrom m log → IsNext (map_from m log) e → IsLegalFrom m (log ++ e ∷ [])
legal_from-append m [] e h next = (next, tt)
legal_from-append m (x ∷ log) e h next = (h.0, legal_from-append (changed m x.change) log e h.1 next)

pub IsLegal-push : (log : List Entry) (e : Entry) → IsLegal log → IsNext (map_of log) e → IsLegal (log ++ e ∷ [])
IsLegal-push log e h next = legal_from-append empty log e h next

legal_from-at : (m : Map) (log : List Entry) (i : ℕ) (e : Entry) → IsLegalFrom m log → slice_get log i ≡ Some e → IsNext (map_from m (take i log)) e
legal_from-at m [] i e h is = absurd (cc)
legal_from-at m (x ∷ log) zero e h is = let same : x ≡ e = cc in subst (IsNext m) same h.0
legal_from-at m (x ∷ log) (suc i) e h is = legal_from-at (changed m x.change) log i e h.1 is

-- each entry of a legal log fits the map before it
pub IsLegal-at : (log : List Entry) (i : ℕ) (e : Entry) → IsLegal log → slice_get log i ≡ Some e → IsNext (map_at log i) e
IsLegal-at log i e h is = legal_from-at empty log i e h is

legal_from-take : (m : Map) (log : List Entry) (i : ℕ) → IsLegalFrom m log → IsLegalFrom m (take i log)
legal_from-take m log zero h = tt
legal_from-take m [] (suc i) h = tt
legal_from-take m (x ∷ log) (suc i) h = (h.0, legal_from-take (changed m x.change) log i h.1)

pub IsLegal-take : (log : List Entry) (i : ℕ) → IsLegal log → IsLegal (take i log)
IsLegal-take log i h = legal_from-take empty log i h

pub map_more : (log : List Entry) (at : ℕ) (d : Entry) → at < length log → map_at log (at + 1) ≡ changed (map_at log at) (get_or log at d).change
map_more log at d in_range = ap map_of (take_more log at d in_range) ∙ map_of-push (take at log) (get_or log at d)

-- a map moved on from one point to another, entry by entry
pub map_from_more : (m : Map) (log : List Entry) (at : ℕ) (e : Entry) → at < length log → e ≡ get_or log at e → map_from m (take (at + 1) log) ≡ changed (map_from m (take at log)) e.change
map_from_more m log at e in_range read = ap (map_from m) (sym (one_more log at e in_range read)) ∙ map_from-append m (take at log) (e ∷ [])

pub map_at_on : (log : List Entry) (a b : ℕ) → a ≤ b → map_from (map_at log a) (take (b - a) (drop a log)) ≡ map_at log b
map_at_on log a b le =
    let end : a + (b - a) ≡ b = omega arith in
    sym (map_from-append empty (take a log) (take (b - a) (drop a log))) ∙ sym (ap map_of (take-add a (b - a) log)) ∙ ap (map_at log) end

pub ok_weaker : {T E P Q : Type 0} → (P → Q) → (r : Result T E) → OnOk r P → OnOk r Q
ok_weaker f h1 h = search rules
