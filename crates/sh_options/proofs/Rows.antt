-- The rows of clap that uses make, and how a word is read on both sides.
use Rattle.std.{proofs.Common.{rules, ◌≡◌, Bool, true, false, List, [], ◌∷◌, ◌++◌, map, Option, Some, None, codes, refl, ap, sym, ◌∙◌, append-nil}, specs.{Prelude.{unwrap_or}, Str.{bytes_eq}}}
use Rattle.clap.specs.{Lexer.{long_of}, Walk.{Row, at_row, has_row, used, without}, declared.builder.value_parser.Reading.TheVariants.{AsWritten}}
use Rattle.clap.{specs.declared.parser.matches.ValueSource.TheVariants.{CommandLine}, proofs.WalkLemmas.{list_any-map}}
use Rattle.sh_logic.proofs.Tests.{or_false}
use Rattle.sh_options.{specs.{Command.{is_end}, Uses.{Names, Text, Use, asks, gives, has_use, is_among, said_of, spelled, strange}}, proofs.Steps.{flag_built, option_built}}

-- what clap keeps of a use
abbrev pub row_for : Use → Row
row_for u = record { id = u.name; values = unwrap_or u.value (codes "true") ∷ []; count = None; source = Some CommandLine; reading = AsWritten }

pub has_row_is : (name : Text) (us : List Use) → has_row name (map row_for us) ≡ has_use name us
has_row_is name us = sym (list_any-map (λ (r : Row). bytes_eq r.id name) row_for us)

-- rows with no such row get it at their end
pub at_row_none : (id : Text) (change : Row → List Row) (missing rows : List Row) → has_row id rows ≡ false → at_row id change missing rows ≡ rows ++ missing
at_row_none id change missing [] none = refl
at_row_none id change missing (r ∷ rows) none =
    let (other, rest) = or_false (bytes_eq r.id id) (has_row id rows) none in
    simp other (ap (λ t. r ∷ t) (at_row_none id change missing rows rest))

gone : (id : Text) (rows : List Row) → has_row id rows ≡ false → without id rows ≡ rows
gone id rows none = at_row_none id (λ _. []) [] rows none ∙ append-nil rows

-- a first use goes to the end of the rows
pub option_used : (name v : Text) (rows : List Row) → has_row name rows ≡ false → used (option_built name) (v ∷ []) rows ≡ rows ++ row_for (record { name = name; value = Some v }) ∷ []
option_used name v rows none = search (rules, option_built, gone, at_row_none)

pub flag_used : (name : Text) (rows : List Row) → has_row name rows ≡ false → used (flag_built name) [] rows ≡ rows ++ row_for (record { name = name; value = None }) ∷ []
flag_used name rows none = search (rules, flag_built, codes, gone, at_row_none)

-- ---- one word on both sides

spelled_is : (word : Text) → is_end word ≡ false → spelled word ≡ long_of word
spelled_is word e = search rules

-- what a word is to a program with these names
pub data Word (n : Names) (word : Text) : Type 0 where
  joined : (name v : Text) → long_of word ≡ Some (name, Some v) → is_among name n.options ≡ true → said_of n (spelled word) ≡ gives name (Some v) → Word n word
  bare : (name : Text) → long_of word ≡ Some (name, None) → is_among name n.options ≡ true → said_of n (spelled word) ≡ asks name → Word n word
  flag : (name : Text) → long_of word ≡ Some (name, None) → is_among name n.options ≡ false → is_among name n.flags ≡ true → said_of n (spelled word) ≡ gives name None → Word n word
  flag_value : (name v : Text) → long_of word ≡ Some (name, Some v) → is_among name n.options ≡ false → is_among name n.flags ≡ true → said_of n (spelled word) ≡ strange → Word n word
  unknown : (name : Text) (v : Option Text) → long_of word ≡ Some (name, v) → is_among name n.options ≡ false → is_among name n.flags ≡ false → said_of n (spelled word) ≡ strange → Word n word
  stray : long_of word ≡ None → said_of n (spelled word) ≡ strange → Word n word

module _ (n : Names) (word : Text) (not_end : is_end word ≡ false) where
  said_is : (o : Option (Text × Option Text)) → long_of word ≡ o → said_of n (spelled word) ≡ said_of n o
  said_is o reads = ap (said_of n) (spelled_is word not_end ∙ reads)

  by_name : (name : Text) (v : Option Text) (a b : Bool) → long_of word ≡ Some (name, v) → is_among name n.options ≡ a → is_among name n.flags ≡ b → Word n word
  by_name name (Some v) true b reads among also = joined name v reads among (said_is _ reads ∙ (simp among))
  by_name name None true b reads among also = bare name reads among (said_is _ reads ∙ (simp among))
  by_name name None false true reads none among = flag name reads none among (said_is _ reads ∙ (simp (none, among)))
  by_name name (Some v) false true reads none among = flag_value name v reads none among (said_is _ reads ∙ (simp none))
  by_name name None false false reads none also = unknown name None reads none also (said_is _ reads ∙ (simp (none, also)))
  by_name name (Some v) false false reads none also = unknown name (Some v) reads none also (said_is _ reads ∙ (simp none))

  by_long : (o : Option (Text × Option Text)) → long_of word ≡ o → Word n word
  by_long None reads = stray reads (said_is _ reads)
  by_long (Some p) reads = by_name p.0 p.1 (is_among p.0 n.options) (is_among p.0 n.flags) reads refl refl

  pub word_is : Word n word
  word_is = by_long (long_of word) refl
