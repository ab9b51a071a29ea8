-- The last entry of a key.
use Rattle.std.{proofs.Common.{rules, ◌≡◌, ◌≢◌, ◌⊎◌, ℕ, zero, suc, ◌<◌, List, [], ◌∷◌, Some, None, inl, inr, refl, sym, ap, subst, ◌∙◌, arith}, specs.{Prelude.{slice_get}, Ordering.{nat_cmp}}}
use Rattle.std.{specs.FinMap.{empty, get-empty}, proofs.lemmas.Bool.{cases_eq}}
use Rattle.sh_map.specs.{declared.{log.{Change.{Change, TheVariants.{Put, Del}}, Entry.{Entry}}, call.{Call.{Call}, Reply.{Reply}}, book.Done.{Done}}, Map.{Map, get}}
use Rattle.sh_map.{specs.{Log.{change_key, left_value, changed, map_from, map_of}, Book.{AnswersAt, Answers}, Laws.{IsLastOfKey, HasNoEntry}}, proofs.LogLemmas.{changed_other}}
use Rattle.sh_map.proofs.ReplyLemmas.{changed_here}
use Rattle.sh_map.specs.declared.call.Call.TheVariants as call

none_from : (m : Map) (log : List Entry) (key : ℕ) → HasNoEntry log key → get (map_from m log) key ≡ get m key
none_from m [] key none = refl
none_from m (x ∷ log) key none = none_from (changed m x.change) log key (λ j f is. none (suc j) f is) ∙ changed_other m x.change key (λ e. none 0 x refl (sym e))

last_from : (m : Map) (log : List Entry) (key i : ℕ) (e : Entry) → IsLastOfKey log key i e → get (map_from m log) key ≡ left_value e.change
last_from m [] key i e h = absurd (let here = h.here in cc)
last_from m (x ∷ log) key zero e h =
    let same : x ≡ e = let here = h.here in cc in
    let of_key : change_key x.change ≡ key = ap (λ (y : Entry). change_key y.change) same ∙ h.of_key in
    none_from (changed m x.change) log key (λ j f is. h.last (suc j) f (omega arith) is) ∙ ap (get (changed m x.change)) (sym of_key) ∙ changed_here m x.change ∙ ap (λ (y : Entry). left_value y.change) same
last_from m (x ∷ log) key (suc i) e h = last_from (changed m x.change) log key i e (record { here = h.here; of_key = h.of_key; last = λ j f less is. h.last (suc j) f (omega arith) is })

pub get_by_last : (log : List Entry) (key i : ℕ) (e : Entry) → IsLastOfKey log key i e → get (map_of log) key ≡ left_value e.change
get_by_last log key i e h = last_from empty log key i e h

pub get_by_none : (log : List Entry) (key : ℕ) → HasNoEntry log key → get (map_of log) key ≡ None
get_by_none log key none = none_from empty log key none ∙ get-empty nat_cmp key

pub last_or_none : (log : List Entry) (key : ℕ) → HasNoEntry log key ⊎ ((i : ℕ) × (e : Entry) × IsLastOfKey log key i e)
last_or_none [] key = inl (λ j f is. absurd (cc))
last_or_none (x ∷ log) key = elim (last_or_none log key) [
  | inr later ↦ inr (suc later.0, later.1, record { here = later.2.here; of_key = later.2.of_key; last = λ j f less is. past log key later.0 later.1 later.2 x j f less is })
  | inl none ↦ elim (cases_eq (change_key x.change) key) [
    | inl same ↦ inr (0, x, record { here = refl; of_key = same; last = λ j f less is. only log key none x j f less is })
    | inr differ ↦ inl (λ j f is. nowhere log key none x differ j f is)
  ]
]
  where
    past : (log : List Entry) (key i : ℕ) (e : Entry) → IsLastOfKey log key i e → (x : Entry) (j : ℕ) (f : Entry) → suc i < j → slice_get (x ∷ log) j ≡ Some f → change_key f.change ≢ key
    past log key i e h x zero f less is = absurd (omega arith)
    past log key i e h x (suc j) f less is = h.last j f (omega arith) is

    only : (log : List Entry) (key : ℕ) → HasNoEntry log key → (x : Entry) (j : ℕ) (f : Entry) → 0 < j → slice_get (x ∷ log) j ≡ Some f → change_key f.change ≢ key
    only log key none x zero f less is = absurd (omega arith)
    only log key none x (suc j) f less is = none j f is

    nowhere : (log : List Entry) (key : ℕ) → HasNoEntry log key → (x : Entry) → change_key x.change ≢ key → (j : ℕ) (f : Entry) → slice_get (x ∷ log) j ≡ Some f → change_key f.change ≢ key
    nowhere log key none x differ zero f is = let same : x ≡ f = cc in subst (λ (y : Entry). change_key y.change ≢ key) same differ
    nowhere log key none x differ (suc j) f is = none j f is

-- a value is left by a put, and none by a delete
pub put_left : (change : Change) (key : ℕ) (value : List ℕ) → change_key change ≡ key → left_value change ≡ Some value → change ≡ Put key value
put_left change key value of_key left = search rules

pub del_left : (change : Change) (key : ℕ) → change_key change ≡ key → left_value change ≡ None → change ≡ Del key
del_left change key of_key left = search rules

-- what a map has came from the key's last entry
pub value_from : (log : List Entry) (key : ℕ) (value : List ℕ) → get (map_of log) key ≡ Some value → (i : ℕ) × (e : Entry) × IsLastOfKey log key i e × (e.change ≡ Put key value)
value_from log key value has = elim (last_or_none log key) [
  | inl none ↦ absurd (let lacks : get (map_of log) key ≡ None = get_by_none log key none in cc)
  | inr at ↦ (at.0, at.1, at.2, put_left at.1.change key value at.2.of_key (sym (get_by_last log key at.0 at.1 at.2) ∙ has))
]

pub none_left : (log : List Entry) (key : ℕ) → get (map_of log) key ≡ None → (i : ℕ) (e : Entry) → IsLastOfKey log key i e → e.change ≡ Del key
none_left log key lacks i e h = del_left e.change key h.of_key (sym (get_by_last log key i e h) ∙ lacks)

-- what holds of a get that was answered so
pub get_answer : (log : List Entry) (d : Done) (key : ℕ) (answer : Reply) → Answers log d → d.call ≡ call.Get key → d.reply ≡ answer → AnswersAt log d (call.Get key) answer
get_answer log d key answer h asked answered = subst (λ (q : Call). AnswersAt log d q answer) asked (subst (λ (r : Reply). AnswersAt log d d.call r) answered h.row)
