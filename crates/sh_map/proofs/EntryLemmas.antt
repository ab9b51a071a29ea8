-- What an entry that was read fits.
use Rattle.std.{proofs.{Common.{rules, ◌≡◌, ℕ, ◌<◌, List, length, get_or, Some}, lemmas.Option.{get_or_from_slice_get}}, specs.Prelude.{slice_get}}
use Rattle.sh_map.specs.{declared.log.Entry.{Entry}, Map.{Map}, Log.{map_at, IsNext}}

-- what was found of an entry that was read holds of the one at its place
pub next_here : (log : List Entry) (at : ℕ) (read : Entry) (m : Map) → at < length log → read ≡ get_or log at read → m ≡ map_at log at → IsNext m read → (e : Entry) → slice_get log at ≡ Some e → IsNext (map_at log at) e
next_here log at read m in_range is_read is next e here = search (rules, get_or_from_slice_get)
