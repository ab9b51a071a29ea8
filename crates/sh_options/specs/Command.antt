-- The command that parses the words, as the parser sees it. No public contract names it.
use Rattle.std.specs.{Prelude.{ℕ, Bool, List, [], ◌∷◌, Some, true, codes, map, ◌++◌}, List.{list_any}, Str.{bytes_eq}}
use Rattle.clap.specs.{Words.{App, Rule, Shape, new_app, new_rule}, Simple.{on_top}, declared.builder.ArgAction.TheVariants.{SetTrue}}
use Rattle.sh_options.specs.Uses.{Names}

-- an option with a value, by its long name
abbrev pub option_rule : List ℕ → Rule
option_rule name = record (new_rule name) { long = Some name }

-- a flag with no value
abbrev pub flag_rule : List ℕ → Rule
flag_rule name = record (new_rule name) { long = Some name; action = Some SetTrue }

-- the words alone, with no name of a program before them, and no texts
abbrev pub bare : Shape → Shape
bare s = record s { no_binary_name = true; disable_help_flag = true; disable_version_flag = true }

abbrev pub rules_for : Names → List Rule
rules_for n = map option_rule n.options ++ map flag_rule n.flags

-- a command with these rules
unfoldable pub app_with : List Rule → App
app_with rules = on_top (λ s. record (bare s) { rules = rules }) (new_app (codes "words"))

-- a command of these options and flags
abbrev pub app_for : Names → App
app_for n = app_with (rules_for n)

-- the word is `--`, which the parser must not see
abbrev pub is_end : List ℕ → Bool
is_end word = bytes_eq word (45 ∷ 45 ∷ [])

abbrev pub has_end : List (List ℕ) → Bool
has_end words = list_any is_end words
