-- What a parse of the command says of the words, in our own terms.
use Rattle.std.proofs.Common.{rules, ◌≡◌, Bool, true, false, ◌&&◌, ◌||◌, List, [], ◌∷◌, Option, Some, None, refl, ap, ap₂, sym, ◌∙◌, inl, inr, subst}
use Rattle.std.specs.{Prelude.{fold, if◌then◌else◌, nat_le, nat_lt, unwrap_or, length}, List.{list_all, list_any, count_by}, Option.{option_map_or}, Str.{bytes_eq}}
use Rattle.clap.specs.{Faults.{built_fault, fault_of, is_free_app, is_simple_and_free}, Kinds.{HasKind, Kinds}}
use Rattle.clap.specs.Simple.{App, HasMatchesOf, built, is_buildable, is_ready, is_ready_leaf, is_simple, matches_of}
use Rattle.clap.specs.{Walk.{first_of, is_early_multiple, nothing_held, one_of, with_default, rows_after}, Words.{found_of, kind_of}, declared.error.Error.{Error}}
use Rattle.clap.{specs.declared.{error.kind.ErrorKind.TheVariants.{OutOfMemory}, parser.matches.ArgMatches.{ArgMatches}}, proofs.FaultLemmas.{leaf_fault}}
use Rattle.clap.proofs.WalkLemmas.{both, first_value-rows, one_text-rows}
use Rattle.sh_logic.proofs.Tests.{false_right}
use Rattle.sh_options.specs.{Command.{app_for, app_with, flag_rule, has_end, is_end, option_rule}, Holds.{Holds}}
use Rattle.sh_options.specs.Uses.{Names, Said, Text, Use, after_word, all_numbers, asks, gives, is_lawful, is_once, said_of, spelled, strange, told_by, uses_from, uses_of, with_use}
use Rattle.sh_options.proofs.{Agree.{all_plain, is_plain, not_true, read_both, rest_fault, rows_end, taken_both}, Steps.{between, flag_built, option_built, shape_with}}
use Rattle.sh_options.proofs.{Tables.{built_is, end_fault, of_rules, rules_built, same_text}, Values.{flag_is, uses_fit, value_is}}
use Rattle.sh_sheet.specs.Number.{is_number}

-- ---- the command is simple

app_built : Names → App
app_built n = record { top = shape_with (rules_built n); subs = [] }

pub app_is_simple : (n : Names) → is_simple (app_for n) ≡ true
unfolding app_with app_built
app_is_simple n =
    let raw = of_rules (λ rules. list_all (λ a. a.is_simple) rules ≡ true) option_rule flag_rule n.options n.flags refl (λ t rest e. e) (λ t rest e. e) in
    let ready = of_rules (λ rules. list_all (λ a. a.is_simple) rules ≡ true) option_built flag_built n.options n.flags refl (λ t rest e. e) (λ t rest e. e) in
    let early = of_rules (λ rules. list_any (is_early_multiple (count_by (λ a. Rattle.std.specs.Prelude.is_some a.index) (rules_built n))) rules ≡ false) option_built flag_built n.options n.flags refl (λ t rest e. e) (λ t rest e. e) in
    ap (λ b. is_buildable (app_for n) && (is_ready b.top && list_all is_ready_leaf b.subs)) (built_is n) ∙ (simp (raw, ready, early))

pub app_is_free : (n : Names) → is_simple_and_free (app_for n) ≡ true
app_is_free n =
    let simple = app_is_simple n in
    let free = of_rules (λ rules. list_all (λ a. a.is_free) rules ≡ true) option_built flag_built n.options n.flags refl (λ t rest e. e) (λ t rest e. e) in
    ap (λ b. is_simple (app_for n) && is_free_app b) (built_is n) ∙ (simp (simple, free))

-- ---- faults and matches

pub fault_is : (n : Names) (words : List Text) → fault_of (app_for n) words ≡ rest_fault (rules_built n) (between [] None) words
unfolding app_with app_built rest_fault end_fault
fault_is n words = ap (λ a. built_fault a nothing_held words) (built_is n) ∙ leaf_fault (app_built n) nothing_held words refl

pub matches_are : (n : Names) (words : List Text) → matches_of (app_for n) words ≡ fold with_default (rows_end (rules_built n) (between [] None) words) (rules_built n)
unfolding app_with rows_end
matches_are n words = ap (λ a. rows_after a.top.rules (Rattle.clap.specs.Simple.names_of a) words) (built_is n)

-- an `Ok` holds the uses
pub holds_at : (n : Names) (a : App) (words : List Text) (m : ArgMatches) → a ≡ app_for n → has_end words ≡ false
    → (is_simple_and_free a ≡ true → fault_of a words ≡ []) → HasMatchesOf a words m → Holds n words m
unfolding rows_end
holds_at n a words m e ends free has =
    let fault : fault_of (app_for n) words ≡ [] = subst (λ (x : App). fault_of x words ≡ []) e (free (ap is_simple_and_free e ∙ app_is_free n)) in
    let after = (taken_both n words ends).0 [] None [] refl (sym (fault_is n words) ∙ fault) in
    let rows = (has (ap is_simple e ∙ app_is_simple n)).0 ∙ ap (λ (x : App). matches_of x words) e ∙ matches_are n words in
    let fit = uses_fit n words after.uses after.are in
    record {
      uses = after.uses;
      are = after.are;
      once = after.once;
      reads = record {
        values = λ name apart. first_value-rows (found_of m) name ∙ ap (first_of name) rows ∙ value_is n after.uses _ name after.rows fit apart;
        flags = λ name apart. one_text-rows (found_of m) name ∙ ap (one_of name) rows ∙ flag_is n after.uses _ name after.rows fit apart;
      };
    }

-- ---- refusals

number_plain : (v : Text) → is_number v ≡ true → is_plain v ≡ true
number_plain v e = search rules

value_plain : (v : Option Text) → option_map_or is_number v true ≡ true → option_map_or is_plain v true ≡ true
value_plain v e = search (rules, number_plain)

pub numbers_plain : (us : List Use) → all_numbers us ≡ true → all_plain us ≡ true
numbers_plain [] e = refl
numbers_plain (u ∷ us) e =
    let (one, rest) = both (option_map_or is_number u.value true) (all_numbers us) e in
    ap₂ (λ a b. a && b) (value_plain u.value one) (numbers_plain us rest)

-- uses that are told are taken
pub told_parts : (n : Names) (words : List Text) (us : List Use) → told_by n words ≡ Some us → (uses_of n words ≡ Some us) × (is_once us ≡ true) × (all_numbers us ≡ true)
told_parts n words us e = search rules

pub told_faultless : (n : Names) (words : List Text) (us : List Use) → has_end words ≡ false → told_by n words ≡ Some us → fault_of (app_for n) words ≡ []
told_faultless n words us ends e =
    let (reads, once, numbers) = told_parts n words us e in
    fault_is n words ∙ (read_both n words ends).0 [] None [] us refl refl reads once (numbers_plain us numbers)

none_if : {X : Type 0} (o : Option X) → ((x : X) → o ≡ Some x → ⊥) → o ≡ None
none_if h0 never = search rules

no_kind : (kinds : Kinds) (x : Error) → kinds ≡ [] → HasKind kinds x → kind_of x ≡ OutOfMemory
no_kind kinds x none has = elim (subst (λ (ks : Kinds). HasKind ks x) none has) [ inl memory ↦ memory | inr among ↦ absurd among ]

-- an `Err` that is not for memory refuses
pub refused_at : (n : Names) (a : App) (words : List Text) (x : Error) → a ≡ app_for n → has_end words ≡ false
    → (is_simple_and_free a ≡ true → HasKind (fault_of a words) x) → (kind_of x ≡ OutOfMemory → ⊥) → told_by n words ≡ None
refused_at n a words x e ends has other =
    none_if (told_by n words) (λ us told.
    other (no_kind (fault_of a words) x (ap (λ (y : App). fault_of y words) e ∙ told_faultless n words us ends told) (has (ap is_simple_and_free e ∙ app_is_free n))))

end_named : (n : Names) (o : Option (Text × Option Text)) (ws : List Text) (us : List Use)
    → ((w : Option Text) (rest : List Use) → uses_from n w ws ≡ Some rest → all_numbers rest ≡ false)
    → after_word (said_of n o) (λ waiting. uses_from n waiting ws) ≡ Some us → all_numbers us ≡ false
end_named n o ws us never e = go (said_of n o) e
  where
    more : (name : Text) (v : Option Text) (r : Option (List Use)) → uses_from n None ws ≡ r → with_use name v r ≡ Some us → all_numbers us ≡ false
    more name v None is reads = cc
    more name v (Some rest) is reads =
        let same : record { name = name; value = v } ∷ rest ≡ us = ap (λ x. unwrap_or x []) reads in
        let bad = never None rest is in
        sym (ap all_numbers same) ∙ false_right (option_map_or is_number v true) (all_numbers rest) bad

    go : (s : Said) → after_word s (λ waiting. uses_from n waiting ws) ≡ Some us → all_numbers us ≡ false
    go (gives name v) reads = more name v (uses_from n None ws) refl reads
    go (asks name) reads = never (Some name) us reads
    go strange reads = cc

end_word : (n : Names) (w : Text) → is_lawful n ≡ true → is_end w ≡ true → said_of n (spelled w) ≡ strange
end_word n w lawful e = search (rules, both, not_true, same_text)

end_value : (w : Text) → is_end w ≡ true → is_number w ≡ false
end_value w e = ap is_number (same_text w (45 ∷ 45 ∷ []) e)

end_waiting : (n : Names) (name w : Text) (ws : List Text) (us : List Use) → (is_end w || has_end ws) ≡ true
    → (has_end ws ≡ true → (o : Option Text) (rest : List Use) → uses_from n o ws ≡ Some rest → all_numbers rest ≡ false)
    → with_use name (Some w) (uses_from n None ws) ≡ Some us → all_numbers us ≡ false
end_waiting n name w ws us e never reads = go (is_end w) (uses_from n None ws) refl refl reads
  where
    go : (a : Bool) (r : Option (List Use)) → is_end w ≡ a → uses_from n None ws ≡ r → with_use name (Some w) r ≡ Some us → all_numbers us ≡ false
    go a None i is told = cc
    go true (Some rest) i is told =
        let same : record { name = name; value = Some w } ∷ rest ≡ us = ap (λ x. unwrap_or x []) told in
        sym (ap all_numbers same) ∙ ap (λ b. b && all_numbers rest) (end_value w i)
    go false (Some rest) i is told =
        let same : record { name = name; value = Some w } ∷ rest ≡ us = ap (λ x. unwrap_or x []) told in
        let later : has_end ws ≡ true = simp i at e in
        sym (ap all_numbers same) ∙ false_right (is_number w) (all_numbers rest) (never later None rest is)

end_idle : (n : Names) (w : Text) (ws : List Text) (us : List Use) → is_lawful n ≡ true → (is_end w || has_end ws) ≡ true
    → (has_end ws ≡ true → (o : Option Text) (rest : List Use) → uses_from n o ws ≡ Some rest → all_numbers rest ≡ false)
    → after_word (said_of n (spelled w)) (λ waiting. uses_from n waiting ws) ≡ Some us → all_numbers us ≡ false
end_idle n w ws us lawful e never reads = go (is_end w) refl
  where
    go : (a : Bool) → is_end w ≡ a → all_numbers us ≡ false
    go true i =
        let bad : None ≡ Some us = sym (ap (λ s. after_word s (λ waiting. uses_from n waiting ws)) (end_word n w lawful i)) ∙ reads in cc
    go false i = let later : has_end ws ≡ true = simp i at e in end_named n (spelled w) ws us (never later) reads

end_refused : (n : Names) → is_lawful n ≡ true → (words : List Text) → has_end words ≡ true → (o : Option Text) (us : List Use) → uses_from n o words ≡ Some us → all_numbers us ≡ false
unfolding uses_from
end_refused n lawful [] e o us reads = cc
end_refused n lawful (w ∷ ws) e None us reads = end_idle n w ws us lawful e (end_refused n lawful ws) reads
end_refused n lawful (w ∷ ws) e (Some name) us reads = end_waiting n name w ws us e (end_refused n lawful ws) reads

pub end_told : (n : Names) (words : List Text) → is_lawful n ≡ true → has_end words ≡ true → told_by n words ≡ None
end_told n words lawful e =
    none_if (told_by n words) (λ us told.
    let (reads, once, numbers) = told_parts n words us told in
    let bad : true ≡ false = sym numbers ∙ end_refused n lawful words e None us reads in cc)
