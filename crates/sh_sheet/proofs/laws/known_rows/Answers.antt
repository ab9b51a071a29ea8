use Rattle.std.proofs.Common.{refl}
use Rattle.csv.proofs.OnLiterals.{csv_on_literals}
use Rattle.sh_sheet.proofs.laws.known_rows.Goals as goal

pub returns : goal.returns
unfolding csv_on_literals
returns c = record {
  none = refl;
  heading = refl;
  second_heading = refl;
  few_fields = refl;
  no_op = refl;
  turn = refl;
  no_turn = refl;
  no_number = refl;
  too_large = refl;
  too_long = refl;
  two_words = refl;
  no_seat = refl;
  no_key = refl;
  last_word = refl;
  low = refl;
  bounds = refl;
  all_keys = refl;
  mark = refl;
  second_mark = refl;
  feed = refl;
  feed_seat = refl;
  feed_turn = refl;
  feed_key = refl;
  later_mark = refl;
}
