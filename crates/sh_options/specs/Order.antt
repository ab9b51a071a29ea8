-- What the words of a program ask for.
use Rattle.std.specs.Prelude.{◌≡◌, ℕ, Bool, true, false, List, [], ◌∷◌, ◌++◌, Option, Some, None, codes, if◌then◌else◌, option_and_then, unwrap_or, is_some, is_none, ◌&&◌, ◌||◌, nat_le}
use Rattle.std.specs.Option.{option_map_or}
use Rattle.clap.specs.{Words.{first_value, one_text}, declared.parser.matches.Found.{Found}}
use Rattle.sh_base.specs.{declared.config.ConfigParts.{ConfigParts}, Faults.{fault_of}, Parts.{parts_of}, Setting.{default_parts}}
use Rattle.sh_sheet.specs.declared.item.Mode.{Mode, TheVariants.{Replay}}
use Rattle.sh_options.specs.{Holds.{flag_text}, Uses.{Names, Text, Use, has_use, is_among, option_number, told_by, option_value}, declared.order.{Given.{Given}, Order.{Order}}}

-- the options of a setting's numbers
abbrev pub setting_options : List Text
setting_options = codes "servers" ∷ codes "chunks" ∷ codes "chunk-nodes" ∷ codes "locks" ∷ codes "leaf" ∷ codes "computes" ∷ codes "seats" ∷ codes "bound"
    ∷ codes "bits" ∷ codes "rows" ∷ codes "cached" ∷ codes "value-words" ∷ []

-- the options of a program; a replay has three more
abbrev pub names_for : Mode → Names
names_for Replay = record { options = setting_options ++ codes "make" ∷ codes "seed" ∷ []; flags = codes "map" ∷ codes "events" ∷ [] }
names_for _ = record { options = setting_options; flags = codes "map" ∷ [] }

-- the number that an option is given, else n
abbrev pub number_or : Text → ℕ → List Use → ℕ
number_or name n us = unwrap_or (option_number name us) n

-- the numbers of the setting; each that isn't given has its default
abbrev pub parts_in : List Use → ConfigParts
parts_in us = record {
  servers = number_or (codes "servers") default_parts.servers us;
  chunks = number_or (codes "chunks") default_parts.chunks us;
  chunk_nodes = number_or (codes "chunk-nodes") default_parts.chunk_nodes us;
  locks = number_or (codes "locks") default_parts.locks us;
  leaf = number_or (codes "leaf") default_parts.leaf us;
  computes = number_or (codes "computes") default_parts.computes us;
  seats = number_or (codes "seats") default_parts.seats us;
  bound = number_or (codes "bound") default_parts.bound us;
  bits = number_or (codes "bits") default_parts.bits us;
  rows = number_or (codes "rows") default_parts.rows us;
  cached = number_or (codes "cached") default_parts.cached us;
  value_words = number_or (codes "value-words") default_parts.value_words us;
}

-- what the uses give
abbrev pub given_in : List Use → Given
given_in us = record {
  parts = parts_in us;
  map = has_use (codes "map") us;
  events = has_use (codes "events") us;
  make = option_number (codes "make") us;
  seed = option_number (codes "seed") us;
}

-- The setting is lawful, 1 to 1,000,000 calls are made if any, and a seed stands only where calls are made.
abbrev pub is_sound : Given → Bool
is_sound g = is_none (fault_of g.parts) && (option_map_or (λ n. nat_le 1 n && nat_le n 1000000) g.make true && (is_some g.make || is_none g.seed))

-- what an order asks for
pub record Asked : Type 0 where
  pub parts : ConfigParts
  pub map : Bool
  pub events : Bool
  pub make : Option ℕ
  pub seed : ℕ

abbrev pub asked_of : Order → Asked
asked_of o = record { parts = parts_of o.cfg; map = o.map; events = o.events; make = o.make; seed = o.seed }

-- what is given, where it is sound; the seed is 1 where none is given
abbrev pub asked_if : Given → Option Asked
asked_if g = if is_sound g then Some (record { parts = g.parts; map = g.map; events = g.events; make = g.make; seed = unwrap_or g.seed 1 }) else None

-- What the words ask for. None is where they are refused: a word that is no option of the program and no value of one, a
-- value that is missing or no number, an option twice, or what isn't sound.
unfoldable pub order_of : Mode → List Text → Option Asked
order_of mode words = option_and_then (λ us. asked_if (given_in us)) (told_by (names_for mode) words)

-- what the matches of a program's words read as, by the uses
pub record ReadsAs (f : Found) (us : List Use) : Type 0 where
  pub values : (name : Text) → is_among name (names_for Replay).flags ≡ false → first_value f name ≡ option_value name us
  pub map : one_text f (codes "map") ≡ flag_text true (has_use (codes "map") us)
  pub known : Bool
  pub events : one_text f (codes "events") ≡ flag_text known (has_use (codes "events") us)

-- the options of the setting's numbers read as the uses have them
abbrev pub ReadsSetting : Found → List Use → Type 0
ReadsSetting f us = (name : Text) → is_among name setting_options ≡ true → first_value f name ≡ option_value name us
