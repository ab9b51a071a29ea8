-- What clap makes of one word, where it stands between two options or waits for a value.
use Rattle.std.{proofs.Common.{rules, ◌≡◌, true, false, ℕ, List, [], ◌∷◌, Option, Some, None, codes, refl}, specs.{Prelude.{slice_get}, Str.{bytes_eq, chars}}}
use Rattle.clap.specs.{Faults.{flags_fault, repeat_fault, settle_fault, turn_fault}, Kinds.{Kinds, or_else}, Lexer.{long_of, short_of}}
use Rattle.clap.specs.{declared.error.kind.ErrorKind.TheVariants.{InvalidValue, TooManyValues, UnknownArgument}, Simple.{Shape, filled, new_shape, with_index}}
use Rattle.clap.specs.Walk.{Held, Row, Rule, Text, Walk, arg_by_id, arg_by_index, arg_by_long, arg_by_short, bundle_met, idle, option, settled_rows, used, walked}
use Rattle.sh_options.specs.Command.{bare, flag_rule, is_end, option_rule}

abbrev pub option_built : Text → Rule
option_built name = with_index 1 (filled (option_rule name))

abbrev pub flag_built : Text → Rule
flag_built name = with_index 1 (filled (flag_rule name))

-- the command as built, with these rules
abbrev pub shape_with : List Rule → Shape
shape_with c = record (bare (new_shape (codes "words"))) { rules = c; disable_help_subcommand = true; is_built = true }

abbrev pub held : List Row → Option (Text × List Text) → Held
held rows p = record { rows = rows; pending = p; skip = 0 }

-- between two options: the last one may still have to be settled
abbrev pub between : List Row → Option (Text × List Text) → Walk
between rows p = record { held = held rows p; waiting = idle; position = 1; is_trailing = false; stopped = None }

-- after an option whose value is the next word
abbrev pub within : Text → List Row → Walk
within name rows = record { held = held rows (Some (name, [])); waiting = option name; position = 1; is_trailing = false; stopped = None }

pub or_else_nil : (a : Kinds) → or_else a [] ≡ a
or_else_nil a = search rules

module _ (c : List Rule) (rows : List Row) (p : Option (Text × List Text)) (word : Text) (not_end : is_end word ≡ false) where
  -- `--name=value`
  pub joined_fault : (name v : Text) → long_of word ≡ Some (name, Some v) → arg_by_long c name ≡ Some (option_built name)
      → turn_fault (shape_with c) [] (between rows p) word ≡ or_else (settle_fault c false (held rows p)) (repeat_fault false name (settled_rows c p rows))
  joined_fault name v reads known = search (rules, or_else_nil)

  pub joined_walked : (name v : Text) → long_of word ≡ Some (name, Some v) → arg_by_long c name ≡ Some (option_built name)
      → walked c [] (between rows p) word ≡ between (used (option_built name) (v ∷ []) (settled_rows c p rows)) None
  unfolding walked
  joined_walked name v reads known = simp (not_end, reads, known)

  -- `--name`, of an option
  pub bare_fault : (name : Text) → long_of word ≡ Some (name, None) → arg_by_long c name ≡ Some (option_built name)
      → turn_fault (shape_with c) [] (between rows p) word ≡ settle_fault c false (held rows p)
  bare_fault name reads known = simp (not_end, reads, known) (or_else_nil _)

  pub bare_walked : (name : Text) → long_of word ≡ Some (name, None) → arg_by_long c name ≡ Some (option_built name)
      → walked c [] (between rows p) word ≡ within name (settled_rows c p rows)
  unfolding walked
  bare_walked name reads known = simp (not_end, reads, known)

  -- `--name`, of a flag
  pub flag_fault : (name : Text) → long_of word ≡ Some (name, None) → arg_by_long c name ≡ Some (flag_built name)
      → turn_fault (shape_with c) [] (between rows p) word ≡ or_else (settle_fault c false (held rows p)) (repeat_fault false name (settled_rows c p rows))
  flag_fault name reads known = search (rules, or_else_nil)

  pub flag_walked : (name : Text) → long_of word ≡ Some (name, None) → arg_by_long c name ≡ Some (flag_built name)
      → walked c [] (between rows p) word ≡ between (used (flag_built name) [] (settled_rows c p rows)) None
  unfolding walked
  flag_walked name reads known = simp (not_end, reads, known)

  -- `--name=value`, of a flag
  pub flag_value_fault : (name v : Text) → long_of word ≡ Some (name, Some v) → arg_by_long c name ≡ Some (flag_built name)
      → turn_fault (shape_with c) [] (between rows p) word ≡ TooManyValues ∷ []
  flag_value_fault name v reads known = simp (not_end, reads, known)

  -- a name that the command has not
  pub unknown_fault : (name : Text) (v : Option Text) → long_of word ≡ Some (name, v) → arg_by_long c name ≡ None
      → turn_fault (shape_with c) [] (between rows p) word ≡ UnknownArgument ∷ []
  unknown_fault name v reads known = simp (not_end, reads, known)

  -- a word that is no long one
  module _ (no_long : long_of word ≡ None) (no_short : (x : ℕ) → arg_by_short c x ≡ None) (no_place : arg_by_index c 1 ≡ None) where
    plain_fault : short_of word ≡ None → turn_fault (shape_with c) [] (between rows p) word ≡ UnknownArgument ∷ []
    plain_fault reads = simp (not_end, no_long, reads, no_place)

    short_none : short_of word ≡ Some [] → turn_fault (shape_with c) [] (between rows p) word ≡ UnknownArgument ∷ []
    unfolding flags_fault bundle_met
    short_none reads = simp (not_end, no_long, reads, no_place)

    short_text : (x : ℕ) (xs : Text) (first : Option ℕ) → short_of word ≡ Some (x ∷ xs) → slice_get (chars (x ∷ xs)) 0 ≡ first
        → turn_fault (shape_with c) [] (between rows p) word ≡ UnknownArgument ∷ []
    unfolding flags_fault bundle_met
    short_text x xs None reads is = simp (not_end, no_long, reads, is, no_place)
    short_text x xs (Some y) reads is = let none = no_short y in simp (not_end, no_long, reads, is, none)

    by_short : (o : Option Text) → short_of word ≡ o → turn_fault (shape_with c) [] (between rows p) word ≡ UnknownArgument ∷ []
    by_short None reads = plain_fault reads
    by_short (Some []) reads = short_none reads
    by_short (Some (x ∷ xs)) reads = short_text x xs _ reads refl

    pub stray_refused : turn_fault (shape_with c) [] (between rows p) word ≡ UnknownArgument ∷ []
    stray_refused = by_short (short_of word) refl

-- ---- where an option waits for its value

module _ (c : List Rule) (rows : List Row) (id word : Text) (not_end : is_end word ≡ false) (mine : arg_by_id c id ≡ Some (option_built id)) where
  pub wait_unknown : (name : Text) (v : Option Text) → long_of word ≡ Some (name, v) → arg_by_long c name ≡ None
      → turn_fault (shape_with c) [] (within id rows) word ≡ UnknownArgument ∷ []
  wait_unknown name v reads known = simp (not_end, reads, known)

  pub wait_option : (name : Text) (v : Option Text) → long_of word ≡ Some (name, v) → arg_by_long c name ≡ Some (option_built name)
      → turn_fault (shape_with c) [] (within id rows) word ≡ InvalidValue ∷ []
  wait_option name v reads known = search rules

  pub wait_flag : (name : Text) → long_of word ≡ Some (name, None) → arg_by_long c name ≡ Some (flag_built name)
      → turn_fault (shape_with c) [] (within id rows) word ≡ InvalidValue ∷ []
  wait_flag name reads known = simp (not_end, reads, known, mine)

  pub wait_flag_value : (name v : Text) → long_of word ≡ Some (name, Some v) → arg_by_long c name ≡ Some (flag_built name)
      → turn_fault (shape_with c) [] (within id rows) word ≡ TooManyValues ∷ []
  wait_flag_value name v reads known = simp (not_end, reads, known)

  -- the word is the value
  abbrev pub IsTaken : Type 0
  IsTaken = (turn_fault (shape_with c) [] (within id rows) word ≡ []) × (walked c [] (within id rows) word ≡ between rows (Some (id, word ∷ [])))

  module _ (same : bytes_eq id id ≡ true) (no_long : long_of word ≡ None) where
    pub wait_plain : short_of word ≡ None → IsTaken
    unfolding walked
    wait_plain reads = (simp (not_end, no_long, reads), simp (not_end, no_long, reads, mine, same))

    pub wait_none : short_of word ≡ Some [] → IsTaken
    unfolding walked flags_fault bundle_met
    wait_none reads = (simp (not_end, no_long, reads), simp (not_end, no_long, reads, mine, same))

    pub wait_no_char : (x : ℕ) (xs : Text) → short_of word ≡ Some (x ∷ xs) → slice_get (chars (x ∷ xs)) 0 ≡ None → IsTaken
    unfolding walked flags_fault bundle_met
    wait_no_char x xs reads is = (simp (not_end, no_long, reads, is), simp (not_end, no_long, reads, is, mine, same))

    pub wait_char : (x y : ℕ) (xs : Text) → short_of word ≡ Some (x ∷ xs) → slice_get (chars (x ∷ xs)) 0 ≡ Some y → arg_by_short c y ≡ None
        → turn_fault (shape_with c) [] (within id rows) word ≡ UnknownArgument ∷ []
    unfolding flags_fault
    wait_char x y xs reads is none = simp (not_end, no_long, reads, is, none)
