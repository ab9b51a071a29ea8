-- What clap finds in the rules of a list of options and a list of flags.
use Rattle.std.{proofs.Common.{rules, ◌≡◌, Bool, true, false, not, ◌&&◌, ◌||◌, ℕ, List, [], ◌∷◌, ◌++◌, map, Option, Some, None, refl, ap, ap₂, ◌∙◌}, specs.Prelude.{if◌then◌else◌}}
use Rattle.std.{specs.{List.{list_any}, Str.{bytes_eq}}, proofs.lemmas.Slice.Eq.{bytes_eq-Decides}}
use Rattle.clap.specs.{Faults.{check_fault, default_fault, defaults_fault, settle_fault}, Kinds.{Kinds, or_else}, Simple.{built, filled_from}}
use Rattle.clap.specs.Walk.{Held, Row, Rule, arg_by_id, arg_by_index, arg_by_long, arg_by_short, finished, has_row, settled}
use Rattle.sh_options.{specs.{Uses.{Names, Text, is_among}, Command.{app_for, app_with, flag_rule, option_rule}}, proofs.Steps.{flag_built, option_built, or_else_nil, shape_with}}

abbrev pub rules_built : Names → List Rule
rules_built n = map option_built n.options ++ map flag_built n.flags

pub same_text : (a b : Text) → bytes_eq a b ≡ true → a ≡ b
same_text a b e = (bytes_eq-Decides a b).0 e

pub bytes_eq_self : (a : Text) → bytes_eq a a ≡ true
bytes_eq_self a = (bytes_eq-Decides a a).1 refl

-- ---- what holds of all the rules, one by one

pub of_rules : (P : List Rule → Type 0) (O F : Text → Rule) (options flags : List Text) → P [] → ((t : Text) (rest : List Rule) → P rest → P (O t ∷ rest)) → ((t : Text) (rest : List Rule) → P rest → P (F t ∷ rest)) → P (map O options ++ map F flags)
of_rules P O F [] [] none option flag = none
of_rules P O F [] (t ∷ flags) none option flag = flag t (map F flags) (of_rules P O F [] flags none option flag)
of_rules P O F (t ∷ options) flags none option flag = option t (map O options ++ map F flags) (of_rules P O F options flags none option flag)

-- ---- by name

-- the rule of a name, or nothing
abbrev pub flag_found : Text → List Text → Option Rule
flag_found name flags = if is_among name flags then Some (flag_built name) else None

long_in_flags : (flags : List Text) (name : Text) → arg_by_long (map flag_built flags) name ≡ flag_found name flags
long_in_flags [] name = refl
long_in_flags (f ∷ fs) name = go (bytes_eq f name) refl (long_in_flags fs name)
  where
    go : (b : Bool) → bytes_eq f name ≡ b → arg_by_long (map flag_built fs) name ≡ flag_found name fs → arg_by_long (map flag_built (f ∷ fs)) name ≡ flag_found name (f ∷ fs)
    go true e rest = simp e (ap (λ t. Some (flag_built t)) (same_text f name e))
    go false e rest = simp e rest

abbrev pub rule_found : Text → List Text → List Text → Option Rule
rule_found name options flags = if is_among name options then Some (option_built name) else flag_found name flags

long_is : (options flags : List Text) (name : Text) → arg_by_long (map option_built options ++ map flag_built flags) name ≡ rule_found name options flags
long_is [] flags name = long_in_flags flags name
long_is (o ∷ os) flags name = go (bytes_eq o name) refl (long_is os flags name)
  where
    go : (b : Bool) → bytes_eq o name ≡ b → arg_by_long (map option_built os ++ map flag_built flags) name ≡ rule_found name os flags
        → arg_by_long (map option_built (o ∷ os) ++ map flag_built flags) name ≡ rule_found name (o ∷ os) flags
    go true e rest = simp e (ap (λ t. Some (option_built t)) (same_text o name e))
    go false e rest = simp e rest

id_is : (options flags : List Text) (name : Text) → is_among name options ≡ true → arg_by_id (map option_built options ++ map flag_built flags) name ≡ Some (option_built name)
id_is [] flags name none = cc
id_is (o ∷ os) flags name among = go (bytes_eq o name) refl (id_is os flags name)
  where
    go : (b : Bool) → bytes_eq o name ≡ b
        → (is_among name os ≡ true → arg_by_id (map option_built os ++ map flag_built flags) name ≡ Some (option_built name))
        → arg_by_id (map option_built (o ∷ os) ++ map flag_built flags) name ≡ Some (option_built name)
    go true e rest = simp e (ap (λ t. Some (option_built t)) (same_text o name e))
    go false e rest = let later : is_among name os ≡ true = simp e at among in simp e (rest later)

module _ (n : Names) where
  pub long_option : (name : Text) → is_among name n.options ≡ true → arg_by_long (rules_built n) name ≡ Some (option_built name)
  long_option name among = long_is n.options n.flags name ∙ (simp among)

  pub long_flag : (name : Text) → is_among name n.options ≡ false → is_among name n.flags ≡ true → arg_by_long (rules_built n) name ≡ Some (flag_built name)
  long_flag name none among = long_is n.options n.flags name ∙ (simp (none, among))

  pub long_none : (name : Text) → is_among name n.options ≡ false → is_among name n.flags ≡ false → arg_by_long (rules_built n) name ≡ None
  long_none name none also = long_is n.options n.flags name ∙ (simp (none, also))

  pub id_option : (name : Text) → is_among name n.options ≡ true → arg_by_id (rules_built n) name ≡ Some (option_built name)
  id_option name among = id_is n.options n.flags name among

  pub no_short : (x : ℕ) → arg_by_short (rules_built n) x ≡ None
  no_short x = of_rules (λ rules. arg_by_short rules x ≡ None) option_built flag_built n.options n.flags refl (λ t rest e. e) (λ t rest e. e)

  pub no_place : arg_by_index (rules_built n) 1 ≡ None
  no_place = of_rules (λ rules. arg_by_index rules 1 ≡ None) option_built flag_built n.options n.flags refl (λ t rest e. e) (λ t rest e. e)

-- ---- after the walk

either_way : (b : Bool) (k : Kinds) → k ≡ [] → (if b then [] else k) ≡ []
either_way b k e = search rules

or_true : (b : Bool) → (b || true) ≡ true
or_true b = search rules

no_default : (rows : List Row) (t : Text) → default_fault rows (option_built t) ≡ []
no_default rows t = let given = or_true (has_row t rows) in simp given

flag_default : (rows : List Row) (t : Text) → default_fault rows (flag_built t) ≡ []
flag_default rows t = either_way (has_row t rows || false) _ refl

defaults_rules : (options flags : List Text) (rows : List Row) → defaults_fault rows (map option_built options ++ map flag_built flags) ≡ []
unfolding defaults_fault
defaults_rules options flags = of_rules (λ rules. (rows : List Row) → defaults_fault rows rules ≡ []) option_built flag_built options flags (λ rows. refl) (λ t rest e rows. ap₂ or_else (no_default rows t) (e _)) (λ t rest e rows. ap₂ or_else (flag_default rows t) (e _))

unfoldable pub end_fault : List Rule → Held → Kinds
end_fault c h = or_else (settle_fault c false h) (or_else (defaults_fault (settled c h).rows c) (check_fault (shape_with c) (finished c h) false))

module _ (n : Names) where
  none_required : (rows : List Row) → check_fault (shape_with (rules_built n)) rows false ≡ []
  none_required rows =
      let isnt = of_rules (λ rules. list_any (λ a. a.required && not (Rattle.clap.specs.Takes.is_given a.id rows)) rules ≡ false) option_built flag_built n.options n.flags refl (λ t rest e. e) (λ t rest e. e) in simp isnt

  -- after the last word only a repeated option is found
  pub end_is : (h : Held) → end_fault (rules_built n) h ≡ settle_fault (rules_built n) false h
  unfolding end_fault
  end_is h =
      ap (or_else (settle_fault (rules_built n) false h)) (ap₂ or_else (defaults_rules n.options n.flags (settled (rules_built n) h).rows) (none_required (finished (rules_built n) h)))
      ∙ or_else_nil (settle_fault (rules_built n) false h)

-- ---- the command as it is built

filled_flags : (flags : List Text) → filled_from 1 (map flag_rule flags) ≡ map flag_built flags
filled_flags [] = refl
filled_flags (f ∷ fs) = ap (λ rest. flag_built f ∷ rest) (filled_flags fs)

filled_rules : (options flags : List Text) → filled_from 1 (map option_rule options ++ map flag_rule flags) ≡ map option_built options ++ map flag_built flags
filled_rules [] flags = filled_flags flags
filled_rules (o ∷ os) flags = ap (λ rest. option_built o ∷ rest) (filled_rules os flags)

pub built_is : (n : Names) → built (app_for n) ≡ record { top = shape_with (rules_built n); subs = [] }
unfolding app_with
built_is n = ap (λ c. record { top = shape_with c; subs = [] }) (filled_rules n.options n.flags)
