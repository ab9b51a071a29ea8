-- What the matches of a parse hold, by the uses that the words make. No public contract names it.
use Rattle.std.specs.{Prelude.{◌≡◌, Bool, true, false, List, Option, Some, None, codes, map, if◌then◌else◌}, Borrow.{Bor}}
use Rattle.clap.specs.{Words.{first_value, found_of, one_text}, declared.parser.matches.{Found.{Found}, ArgMatches.{ArgMatches}}}
use Rattle.sh_options.specs.Uses.{Names, Text, Use, has_use, is_among, is_once, told_by, uses_of, option_value}

abbrev pub names_of : List (Bor Text) → List (Bor Text) → Names
names_of options flags = record { options = map (λ s. s.now) options; flags = map (λ s. s.now) flags }

-- what a flag reads as: one that isn't used as `false`, and one that the program hasn't as nothing
abbrev pub flag_text : (known used : Bool) → Option Text
flag_text known used = if used then Some (codes "true") else (if known then Some (codes "false") else None)

-- each value and each flag reads as the uses have it
pub record ReadsUses (n : Names) (us : List Use) (f : Found) : Type 0 where
  pub values : (name : Text) → is_among name n.flags ≡ false → first_value f name ≡ option_value name us
  pub flags : (name : Text) → is_among name n.options ≡ false → one_text f name ≡ flag_text (is_among name n.flags) (has_use name us)

-- the matches read as the uses of the words, where each option stands at most once
pub record Holds (n : Names) (words : List Text) (m : ArgMatches) : Type 0 where
  pub uses : List Use
  pub are : uses_of n words ≡ Some uses
  pub once : is_once uses ≡ true
  pub reads : ReadsUses n uses (found_of m)

-- the same, where also each value is a number
pub record Told (n : Names) (words : List Text) (m : ArgMatches) : Type 0 where
  pub uses : List Use
  pub are : told_by n words ≡ Some uses
  pub reads : ReadsUses n uses (found_of m)
