use Rattle.std.{proofs.Common.{◌≡◌, map, drop, true}, specs.{List.{list_all}, Option.{option_map_or}}}
use Rattle.clap.specs.Words.{first_value, found_of}
use Rattle.sh_sheet.specs.Number.{is_number}
use Rattle.sh_options.proofs.told.all_read_numbers.Given as goal

abbrev pub invariant-loop-name : goal.invariant-loop-name
invariant-loop-name l = list_all (λ name. option_map_or is_number (first_value (found_of l.matches) name) true) (map (λ s. s.now) l.options)
    ≡ list_all (λ name. option_map_or is_number (first_value (found_of l.matches) name) true) (map (λ s. s.now) (drop l.name-index l.options))
