-- What the getters read after the parse, by the uses.
use Rattle.std.proofs.Common.{rules, ◌≡◌, Bool, true, false, List, [], ◌∷◌, ◌++◌, map, Option, Some, None, codes, refl, ap, ap₂, sym, ◌∙◌, option_map, arith}
use Rattle.std.proofs.lemmas.Grind.{common_steps}
use Rattle.std.specs.{Prelude.{fold, if◌then◌else◌, slice_get, unwrap_or, option_and_then, find, is_some}, List.{list_all}, Str.{bytes_eq}}
use Rattle.clap.specs.{Walk.{Row, first_of, has_row, more_values, one_of, row_text, with_default}, declared.builder.value_parser.Reading.TheVariants.{AsWritten}}
use Rattle.clap.{specs.declared.parser.matches.ValueSource.TheVariants.{DefaultValue}, proofs.WalkLemmas.{both, find-map}}
use Rattle.sh_options.specs.{Holds.{flag_text}, Uses.{Names, Text, Use, after_word, has_use, is_among, said_by, said_of, spelled, uses_from, option_value, with_use}}
use Rattle.sh_options.proofs.{Rows.{at_row_none, row_for}, Steps.{flag_built, option_built}, Tables.{rules_built, same_text}}

-- ---- defaults

abbrev pub row_at : Text → List Row → Option Row
row_at id rows = find (λ (r : Row). bytes_eq r.id id) rows

abbrev pub first_some : {X : Type 0} → Option X → Option X → Option X
first_some (Some x) o = Some x
first_some None o = o

first_none : {X : Type 0} (o : Option X) → first_some o None ≡ o
first_none h0 = search rules

row_at_more : (id : Text) (rows : List Row) (r : Row) → row_at id (rows ++ r ∷ []) ≡ first_some (row_at id rows) (row_at id (r ∷ []))
row_at_more id [] r = refl
row_at_more id (x ∷ rows) r = let rest = row_at_more id rows r in grind (arith, common_steps, rest)

has_row_at : (id : Text) (rows : List Row) → has_row id rows ≡ is_some (row_at id rows)
has_row_at id [] = refl
has_row_at id (x ∷ rows) = let rest = has_row_at id rows in grind (arith, common_steps, rest)

abbrev pub default_row : Text → Row
default_row id = record { id = id; values = codes "false" ∷ []; count = None; source = Some DefaultValue; reading = AsWritten }

flag_defaulted : (rows : List Row) (f : Text) → has_row f rows ≡ false → with_default rows (flag_built f) ≡ rows ++ default_row f ∷ []
flag_defaulted rows f none = simp none (at_row_none f (more_values DefaultValue (codes "false" ∷ [])) (default_row f ∷ []) rows none)

flag_kept : (rows : List Row) (f : Text) → has_row f rows ≡ true → with_default rows (flag_built f) ≡ rows
flag_kept rows f some = simp some

option_kept : (rows : List Row) (o : Text) → with_default rows (option_built o) ≡ rows
option_kept rows o = search (rules, option_built)

options_kept : (os fs : List Text) (rows : List Row) → fold with_default rows (map option_built os ++ map flag_built fs) ≡ fold with_default rows (map flag_built fs)
options_kept [] fs rows = refl
options_kept (o ∷ os) fs rows = ap (λ rs. fold with_default rs (map option_built os ++ map flag_built fs)) (option_kept rows o) ∙ options_kept os fs rows

abbrev pub flag_row : Text → List Text → Option Row
flag_row id fs = if is_among id fs then Some (default_row id) else None

flags_row : (fs : List Text) (rows : List Row) (id : Text) → row_at id (fold with_default rows (map flag_built fs)) ≡ first_some (row_at id rows) (flag_row id fs)
flags_row [] rows id = sym (first_none (row_at id rows))
flags_row (f ∷ fs) rows id = go (has_row f rows) (bytes_eq f id) refl refl (flags_row fs (with_default rows (flag_built f)) id)
  where
    now : List Row
    now = with_default rows (flag_built f)

    Goal : Type 0
    Goal = row_at id (fold with_default now (map flag_built fs)) ≡ first_some (row_at id rows) (flag_row id (f ∷ fs))

    held : (o : Option Row) → row_at id rows ≡ o → is_some o ≡ true → row_at id now ≡ o → row_at id (fold with_default now (map flag_built fs)) ≡ first_some (row_at id now) (flag_row id fs) → Goal
    held None is some same rest = cc
    held (Some r) is some same rest = rest ∙ ap (λ o. first_some o (flag_row id fs)) same ∙ sym (ap (λ o. first_some o (flag_row id (f ∷ fs))) is)

    empty : (o : Option Row) → row_at id rows ≡ o → is_some o ≡ false → f ≡ id → row_at id now ≡ first_some o (Some (default_row f)) → bytes_eq f id ≡ true
        → row_at id (fold with_default now (map flag_built fs)) ≡ first_some (row_at id now) (flag_row id fs) → Goal
    empty (Some r) is none same found e rest = cc
    empty None is none same found e rest =
        rest ∙ ap (λ o. first_some o (flag_row id fs)) found ∙ ap (λ t. Some (default_row t)) same ∙ sym (ap (λ o. first_some o (flag_row id (f ∷ fs))) is ∙ simp e)

    go : (a b : Bool) → has_row f rows ≡ a → bytes_eq f id ≡ b → row_at id (fold with_default now (map flag_built fs)) ≡ first_some (row_at id now) (flag_row id fs) → Goal
    go true true i j rest =
        held (row_at id rows) refl (sym (has_row_at id rows) ∙ (ap (λ t. has_row t rows) (sym (same_text f id j)) ∙ i)) (ap (row_at id) (flag_kept rows f i)) rest
    go true false i j rest = rest ∙ ap (λ rs. first_some (row_at id rs) (flag_row id fs)) (flag_kept rows f i) ∙ (simp j)
    go false true i j rest =
        empty (row_at id rows) refl (sym (has_row_at id rows) ∙ (ap (λ t. has_row t rows) (sym (same_text f id j)) ∙ i)) (same_text f id j)
        (ap (row_at id) (flag_defaulted rows f i) ∙ row_at_more id rows (default_row f) ∙ (simp j)) j rest
    go false false i j rest =
        let dropped : first_some (row_at id rows) (row_at id (default_row f ∷ [])) ≡ row_at id rows = simp j (first_none (row_at id rows)) in
        rest ∙ ap (λ o. first_some o (flag_row id fs)) (ap (row_at id) (flag_defaulted rows f i) ∙ row_at_more id rows (default_row f) ∙ dropped) ∙ (simp j)

-- the row of an id at the end
pub finished_row : (n : Names) (rows : List Row) (id : Text) → row_at id (fold with_default rows (rules_built n)) ≡ first_some (row_at id rows) (flag_row id n.flags)
finished_row n rows id = ap (row_at id) (options_kept n.options n.flags rows) ∙ flags_row n.flags rows id

-- ---- by the uses

-- a use with a value is of an option, and one with none is of a flag
abbrev pub is_fit : Names → Use → Bool
is_fit n u = if is_some u.value then is_among u.name n.options else is_among u.name n.flags

fit_uses : (n : Names) (name : Text) (v : Option Text) (o : Option (List Use)) (us : List Use) → is_fit n (record { name = name; value = v }) ≡ true
    → ((rest : List Use) → o ≡ Some rest → list_all (is_fit n) rest ≡ true) → with_use name v o ≡ Some us → list_all (is_fit n) us ≡ true
fit_uses n name v o us fit rest e = search rules

abbrev FitFrom : Names → List Text → Type 0
FitFrom n words = (us : List Use) → uses_from n None words ≡ Some us → list_all (is_fit n) us ≡ true

abbrev FitWithin : Names → List Text → Type 0
FitWithin n words = (id : Text) (us : List Use) → is_among id n.options ≡ true → uses_from n (Some id) words ≡ Some us → list_all (is_fit n) us ≡ true

fit_named : (n : Names) (name : Text) (v : Option Text) (words : List Text) (us : List Use) (a b : Bool) → is_among name n.options ≡ a → is_among name n.flags ≡ b
    → FitFrom n words → FitWithin n words → after_word (said_by n name v) (λ waiting. uses_from n waiting words) ≡ Some us → list_all (is_fit n) us ≡ true
fit_named n name v words us a b i j next inner e = search (rules, fit_uses)

fit_said : (n : Names) (o : Option (Text × Option Text)) (words : List Text) (us : List Use) → FitFrom n words → FitWithin n words
    → after_word (said_of n o) (λ waiting. uses_from n waiting words) ≡ Some us → list_all (is_fit n) us ≡ true
fit_said n o words us next inner e = search (rules, fit_named)

fit_both : (n : Names) (words : List Text) → FitFrom n words × FitWithin n words
unfolding uses_from
fit_both n [] = (λ us e. sym (ap (list_all (is_fit n)) (ap (λ o. unwrap_or o []) e)), λ id us among e. cc)
fit_both n (w ∷ ws) =
    let (next, inner) = fit_both n ws in
    (λ us e. fit_said n (spelled w) ws us next inner e, λ id us among e. fit_uses n id (Some w) (uses_from n None ws) us among next e)

pub uses_fit : (n : Names) (words : List Text) (us : List Use) → uses_from n None words ≡ Some us → list_all (is_fit n) us ≡ true
uses_fit n words us e = (fit_both n words).0 us e

-- ---- the getters

abbrev pub use_at : Text → List Use → Option Use
use_at name us = find (λ (u : Use). bytes_eq u.name name) us

row_of_use : (id : Text) (us : List Use) → row_at id (map row_for us) ≡ option_map row_for (use_at id us)
row_of_use id us = sym (find-map (λ (r : Row). bytes_eq r.id id) row_for us)

-- the value that an option's use has
value_used : (n : Names) (us : List Use) (id : Text) → list_all (is_fit n) us ≡ true → is_among id n.flags ≡ false
    → option_map (λ (u : Use). unwrap_or u.value (codes "true")) (use_at id us) ≡ option_value id us
value_used n [] id fit apart = refl
value_used n (u ∷ us) id fit apart = go (bytes_eq u.name id) u.value refl refl (both _ _ fit).0 (value_used n us id (both (is_fit n u) _ fit).1 apart)
  where
    go : (b : Bool) (v : Option Text) → bytes_eq u.name id ≡ b → u.value ≡ v → is_fit n u ≡ true
        → option_map (λ (x : Use). unwrap_or x.value (codes "true")) (use_at id us) ≡ option_value id us
        → option_map (λ (x : Use). unwrap_or x.value (codes "true")) (use_at id (u ∷ us)) ≡ option_value id (u ∷ us)
    go true (Some v) i is h rest = simp (i, is)
    go true None i is h rest =
        let flagged : is_among u.name n.flags ≡ true = simp is at h in
        let bad : true ≡ false = sym flagged ∙ ap (λ t. is_among t n.flags) (same_text u.name id i) ∙ apart in cc
    go false v i is h rest = simp i rest

pub value_is : (n : Names) (us : List Use) (rows : List Row) (id : Text) → rows ≡ map row_for us → list_all (is_fit n) us ≡ true → is_among id n.flags ≡ false
    → first_of id (fold with_default rows (rules_built n)) ≡ option_value id us
value_is n us rows id are fit apart =
    let none : flag_row id n.flags ≡ None = simp apart in
    let found : row_at id (fold with_default rows (rules_built n)) ≡ option_map row_for (use_at id us) =
    finished_row n rows id ∙ ap₂ first_some (ap (row_at id) are ∙ row_of_use id us) none ∙ first_none (option_map row_for (use_at id us)) in
    ap (option_and_then (λ (r : Row). slice_get r.values 0)) found ∙ go (use_at id us) ∙ value_used n us id fit apart
  where
    go : (o : Option Use) → option_and_then (λ (r : Row). slice_get r.values 0) (option_map row_for o) ≡ option_map (λ (u : Use). unwrap_or u.value (codes "true")) o
    go None = refl
    go (Some u) = refl

-- what a flag reads as
flag_used_at : (n : Names) (us : List Use) (id : Text) → list_all (is_fit n) us ≡ true → is_among id n.options ≡ false
    → option_map (λ (u : Use). unwrap_or u.value (codes "true")) (use_at id us) ≡ (if has_use id us then Some (codes "true") else None)
flag_used_at n [] id fit apart = refl
flag_used_at n (u ∷ us) id fit apart = go (bytes_eq u.name id) u.value refl refl (both _ _ fit).0 (flag_used_at n us id (both (is_fit n u) _ fit).1 apart)
  where
    go : (b : Bool) (v : Option Text) → bytes_eq u.name id ≡ b → u.value ≡ v → is_fit n u ≡ true
        → option_map (λ (x : Use). unwrap_or x.value (codes "true")) (use_at id us) ≡ (if has_use id us then Some (codes "true") else None)
        → option_map (λ (x : Use). unwrap_or x.value (codes "true")) (use_at id (u ∷ us)) ≡ (if has_use id (u ∷ us) then Some (codes "true") else None)
    go true None i is h rest = simp (i, is)
    go true (Some v) i is h rest =
        let chosen : is_among u.name n.options ≡ true = simp is at h in
        let bad : true ≡ false = sym chosen ∙ ap (λ t. is_among t n.options) (same_text u.name id i) ∙ apart in cc
    go false v i is h rest = simp i rest

pub flag_is : (n : Names) (us : List Use) (rows : List Row) (id : Text) → rows ≡ map row_for us → list_all (is_fit n) us ≡ true → is_among id n.options ≡ false
    → one_of id (fold with_default rows (rules_built n)) ≡ flag_text (is_among id n.flags) (has_use id us)
flag_is n us rows id are fit apart =
    let found : row_at id (fold with_default rows (rules_built n)) ≡ first_some (option_map row_for (use_at id us)) (flag_row id n.flags) =
    finished_row n rows id ∙ ap (λ o. first_some o (flag_row id n.flags)) (ap (row_at id) are ∙ row_of_use id us) in
    ap (option_and_then row_text) found ∙ go (use_at id us) (is_among id n.flags) (has_use id us) (flag_used_at n us id fit apart)
  where
    go : (o : Option Use) (known used : Bool) → option_map (λ (u : Use). unwrap_or u.value (codes "true")) o ≡ (if used then Some (codes "true") else None)
        → option_and_then row_text (first_some (option_map row_for o) (if known then Some (default_row id) else None)) ≡ flag_text known used
    go None known true e = cc
    go None true false e = refl
    go None false false e = refl
    go (Some u) known true e = e
    go (Some u) known false e = cc
