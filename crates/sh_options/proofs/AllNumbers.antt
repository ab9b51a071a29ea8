-- Each option's value is a number just where each value of the uses is.
use Rattle.std.{proofs.Common.{rules, ◌≡◌, Bool, true, false, not, ◌&&◌, List, [], ◌∷◌, ◌++◌, Option, Some, None, refl, ap, ap₂, sym, ◌∙◌, append_assoc, arith}, specs.Prelude.{if◌then◌else◌}}
use Rattle.std.{specs.{List.{list_all}, Option.{option_map_or}, Str.{bytes_eq}}, proofs.lemmas.{Bool.{not-true}, Grind.{common_steps}}}
use Rattle.clap.{specs.{Words.{first_value, found_of}, declared.parser.matches.ArgMatches.{ArgMatches}}, proofs.WalkLemmas.{both}}
use Rattle.sh_logic.proofs.Tests.{or_false}
use Rattle.sh_options.{specs.{Holds.{Holds, Told}, Uses.{Names, Text, Use, all_numbers, has_use, is_among, is_lawful, is_once_after, told_by, option_value}}, proofs.Agree.{not_true}}
use Rattle.sh_options.proofs.{Tables.{bytes_eq_self, same_text}, Values.{is_fit, uses_fit}}
use Rattle.sh_sheet.specs.Number.{is_number}

abbrev pub is_right : Option Text → Bool
is_right v = option_map_or is_number v true

pub each_of : (P : Text → Bool) (names : List Text) (name : Text) → list_all P names ≡ true → is_among name names ≡ true → P name ≡ true
each_of P [] name all among = cc
each_of P (x ∷ xs) name all among = go (bytes_eq x name) refl (both (P x) (list_all P xs) all).0 (each_of P xs name (both (P x) (list_all P xs) all).1)
  where
    go : (b : Bool) → bytes_eq x name ≡ b → P x ≡ true → (is_among name xs ≡ true → P name ≡ true) → P name ≡ true
    go true e here later = ap P (sym (same_text x name e)) ∙ here
    go false e here later = let rest : is_among name xs ≡ true = simp e at among in later rest

all_of : (P : Text → Bool) (names : List Text) → ((name : Text) → P name ≡ true) → list_all P names ≡ true
all_of P [] each = refl
all_of P (x ∷ xs) each = ap₂ (λ a b. a && b) (each x) (all_of P xs each)

checks_same : (P Q : Text → Bool) (flags names : List Text) → list_all (λ name. not (is_among name flags)) names ≡ true
    → ((name : Text) → is_among name flags ≡ false → P name ≡ Q name) → list_all P names ≡ list_all Q names
checks_same P Q flags [] apart same = refl
checks_same P Q flags (x ∷ xs) apart same =
    let (one, rest) = both (not (is_among x flags)) (list_all (λ name. not (is_among name flags)) xs) apart in
    ap₂ (λ a b. a && b) (same x (not_true (is_among x flags) one)) (checks_same P Q flags xs rest same)

numbers_each : (us : List Use) (name : Text) → all_numbers us ≡ true → is_right (option_value name us) ≡ true
numbers_each [] name all = refl
numbers_each (u ∷ us) name all = let (here, more) = both (is_right u.value) (all_numbers us) all in let rest = numbers_each us name more in grind (arith, common_steps, here, rest)

first_use : (seen us : List Use) (u : Use) → has_use u.name seen ≡ false → option_value u.name (seen ++ u ∷ us) ≡ u.value
first_use [] us u none = let same = bytes_eq_self u.name in simp same
first_use (x ∷ seen) us u none =
    let (other, rest) = or_false (bytes_eq x.name u.name) (has_use u.name seen) none in
    simp other (first_use seen us u rest)

each_numbers : (n : Names) (seen us : List Use) → is_once_after seen us ≡ true → list_all (is_fit n) us ≡ true
    → ((name : Text) → is_among name n.options ≡ true → is_right (option_value name (seen ++ us)) ≡ true) → all_numbers us ≡ true
each_numbers n seen [] once fit each = refl
each_numbers n seen (u ∷ us) once fit each =
    let (fresh, later) = both (not (has_use u.name seen)) (is_once_after (seen ++ u ∷ []) us) once in
    let (fits, others) = both (is_fit n u) (list_all (is_fit n) us) fit in
    let here : is_right u.value ≡ true = go u.value refl fits (not_true (has_use u.name seen) fresh) in
    ap₂ (λ a b. a && b) here (each_numbers n (seen ++ u ∷ []) us later others (λ name among. ap (λ xs. is_right (option_value name xs)) (append_assoc seen (u ∷ []) us) ∙ each name among))
  where
    go : (v : Option Text) → u.value ≡ v → is_fit n u ≡ true → has_use u.name seen ≡ false → is_right u.value ≡ true
    go None is h none = ap is_right is
    go (Some v) is h none =
        let among : is_among u.name n.options ≡ true = simp is at h in
        sym (ap is_right (first_use seen us u none)) ∙ each u.name among

same_bool : (a b : Bool) → (a ≡ true → b ≡ true) → (b ≡ true → a ≡ true) → a ≡ b
same_bool a b f g = search rules

abbrev pub reads_right : ArgMatches → Text → Bool
reads_right m name = is_right (first_value (found_of m) name)

checks_are : (n : Names) (words : List Text) (m : ArgMatches) (h : Holds n words m) → is_lawful n ≡ true → list_all (reads_right m) n.options ≡ all_numbers h.uses
checks_are n words m h lawful =
    let more = both (not (is_among [] n.options)) _ lawful in
    let apart = both (not (is_among [] n.flags)) _ more.1 in
    let Q : Text → Bool = λ name. is_right (option_value name h.uses) in
    checks_same (reads_right m) Q n.flags n.options apart.1 (λ name other. ap is_right (h.reads.values name other))
    ∙ same_bool (list_all Q n.options) (all_numbers h.uses)
    (λ all. each_numbers n [] h.uses h.once (uses_fit n words h.uses h.are) (λ name among. each_of Q n.options name all among))
    (λ all. all_of Q n.options (λ name. numbers_each h.uses name all))

told_is : (n : Names) (words : List Text) (m : ArgMatches) (h : Holds n words m) (b : Bool) → all_numbers h.uses ≡ b → told_by n words ≡ (if b then Some h.uses else None)
told_is n words m h b e = search rules

pub told_at : (n : Names) (words : List Text) (m : ArgMatches) → Holds n words m → is_lawful n ≡ true → (b : Bool) → b ≡ list_all (reads_right m) n.options → b ≡ true → Told n words m
told_at n words m h lawful b is good = record {
  uses = h.uses;
  are = told_is n words m h true (sym (checks_are n words m h lawful) ∙ sym is ∙ good);
  reads = h.reads;
}

pub untold_at : (n : Names) (words : List Text) (m : ArgMatches) → Holds n words m → is_lawful n ≡ true → (b : Bool) → b ≡ list_all (reads_right m) n.options → b ≡ false → told_by n words ≡ None
untold_at n words m h lawful b is bad = told_is n words m h false (sym (checks_are n words m h lawful) ∙ sym is ∙ bad)

-- an option is no flag, where no option is
pub no_flag : (options flags : List Text) (name : Text) → list_all (λ o. not (is_among o flags)) options ≡ true → is_among name options ≡ true → is_among name flags ≡ false
no_flag options flags name apart among = not-true (is_among name flags) (each_of (λ o. not (is_among o flags)) options name apart among)
