use Rattle.std.proofs.Common.{refl}
use Rattle.sh_base.specs.{Faults.{first_outside, outside}, Setting.{entry_size, node_size, pool_words}}
use Rattle.sh_options.specs.{Order.{order_of}, Uses.{uses_from}}
use Rattle.sh_options.proofs.laws.known_orders.Goals as goal

pub returns : goal.returns
unfolding uses_from order_of first_outside outside pool_words node_size entry_size
returns c = record {
  none = refl;
  zeros = refl;
  seed = refl;
  seed_alone = refl;
  feed = λ words. refl;
  nothing_made = refl;
  leaf_of_three = refl;
  twice = refl;
  flag_twice = refl;
  empty_joined = refl;
  empty_apart = refl;
  option_as_value = refl;
  end_as_value = refl;
  hyphen = refl;
  plus = refl;
  past_the_words = refl;
  digits_21 = refl;
}
