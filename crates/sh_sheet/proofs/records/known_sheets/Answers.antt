use Rattle.std.proofs.Common.{refl}
use Rattle.csv.proofs.OnLiterals.{csv_on_literals}
use Rattle.sh_sheet.proofs.records.known_sheets.Goals as goal

pub returns : goal.returns
unfolding csv_on_literals
returns c = record {
  none = refl;
  ends = refl;
  empty_lines = refl;
  empty_fields = refl;
  blank = refl;
  quoted = refl;
  empty_quotes = refl;
  after_quote = refl;
  inner_quote = refl;
  open_quote = refl;
  mark = refl;
  late_mark = refl;
  hash = refl;
}
