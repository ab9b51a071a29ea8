-- The records of a sheet's bytes.
use Rattle.std.specs.Prelude.{ℕ, List}
use Rattle.csv.specs.Reading.{default_config, records, strip_bom}

-- The records of these bytes, each as its fields, behind a byte order mark if there is one: comma, no header
-- treatment, any number of fields, no trimming. An empty line is no record.
abbrev pub records_in : List ℕ → List (List (List ℕ))
records_in bytes = records default_config (strip_bom bytes)
