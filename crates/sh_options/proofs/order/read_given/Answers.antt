use Rattle.std.{proofs.Common.{codes, refl, ap, ◌∙◌, true}, specs.Prelude.{option_and_then}}
use Rattle.sh_sheet.specs.{Number.{number_of}, declared.item.Mode.TheVariants.{Replay}}
use Rattle.sh_options.{specs.{Uses.{has_use}, Order.{names_for, setting_options}}, proofs.{OrderLemmas.{given_is}, AllNumbers.{no_flag}}}
use Rattle.sh_options.proofs.order.read_given.Goals as goal

pub returns : goal.returns
returns c us reads =
    given_is (c.setting_parts.ensures us (λ name among. reads.values name (no_flag setting_options (names_for Replay).flags name refl among))) (c.is_used.ensures true (has_use (codes "map") us) reads.map) (c.is_used-2.ensures reads.known (has_use (codes "events") us) reads.events)
    (c.number.ensures ∙ ap (option_and_then number_of) (reads.values (codes "make") refl))
    (c.number-2.ensures ∙ ap (option_and_then number_of) (reads.values (codes "seed") refl))
