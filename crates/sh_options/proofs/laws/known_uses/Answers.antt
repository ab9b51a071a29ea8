use Rattle.std.proofs.Common.{refl, ap}
use Rattle.sh_sheet.specs.declared.item.Mode.TheVariants.{Replay}
use Rattle.sh_options.specs.{Order.{names_for}, Uses.{after_word, said_of, uses_from}}
use Rattle.sh_options.proofs.laws.known_uses.Goals as goal

pub returns : goal.returns
unfolding uses_from
returns c = record {
  joined = λ v. refl;
  apart = λ v. refl;
  three = λ u v. refl;
  missing = refl;
  flag_value = λ v rest. refl;
  stray = λ word rest none. ap (λ o. after_word (said_of (names_for Replay) o) (λ waiting. uses_from (names_for Replay) waiting rest)) none;
  help = λ rest. refl;
  short_help = λ rest. refl;
  empty = λ rest. refl;
  end = λ rest. refl;
  part_of_a_name = λ rest. refl;
  events_in_a_run = λ rest. refl;
  make_in_a_run = λ v rest. refl;
}
