-- How a run ends, by what was written.
use Rattle.std.{proofs.Common.{◌≡◌, ℕ, Bool, List, Option, sym, ap, ◌∙◌, inr}, specs.{Io.KnownBytes.{Appends}}}
use Rattle.sh_base.specs.declared.config.ConfigParts.{ConfigParts}
use Rattle.sh_map.specs.declared.book.Row.{Row}
use Rattle.sh_port.specs.{Port.{AppendsFront}, Intake.{TookAll}}
use Rattle.sh_sheet.{specs.{declared.{item.{Item.{Item}, Mode.TheVariants.{Run}}, status.{RowCause.{RowCause}}}, Sheet.{Items, Refused, AreFew, sheet_of}}}
use Rattle.sh_sheet.specs.declared.status.Status.TheVariants as status
use Rattle.sh_text.specs.{declared.write.WriteError.{WriteError}, Write.{CauseOf}}
use Rattle.sh_text.specs.declared.write.WriteError.TheVariants as error
use Rattle.sh_options.specs.Order.{Asked}
use Rattle.sh_pool.specs.Pools.{PoolState}
use Rattle.sh_fleet.{specs.{declared.answers.Answers.{Answers}, Headline.{unwritten, AreRead, Ran, Read, Served}, Output.{text_from}, Served.{HasServed}, Sharing.{told_by}}, proofs.TextLemmas.{text_is}}

module _ (p : ConfigParts) (left rest : Option (List ℕ)) (before now : ℕ) (bytes slice : List ℕ) (took : TookAll left rest before now bytes) (same : slice ≡ bytes) where
  -- what was read of the whole input
  pub read_of : (headed : Bool) (items : List Item) → sheet_of p Run slice ≡ Items headed items → AreFew p items → AreRead p left rest before now items
  read_of headed items reads few = record { headed = headed; read = record { bytes = bytes; took = took; reads = ap (sheet_of p Run) (sym same) ∙ reads }; few = few }

  -- a row that the sheet refuses
  pub bad_row : (row : ℕ) (cause : RowCause) → sheet_of p Run slice ≡ Refused row cause → Read p left rest before now (Refused row cause)
  bad_row row cause reads = record { bytes = bytes; took = took; reads = ap (sheet_of p Run) (sym same) ∙ reads }

module _ (o : Asked) (old new : PoolState) (left rest : Option (List ℕ)) (before now : ℕ) (held after : Option (List ℕ)) (fell fallen : ℕ) (items : List Item) (are : AreRead o.parts left rest before now items) (answers : List Answers) (rows : List Row) (has : HasServed o.parts items new answers rows) where
  served : Served o left rest before now new (text_from o.map items (told_by answers) rows)
  served = record { items = items; are = are; answers = answers; rows = rows; served = has; text_is = text_is o.map items has.dones (told_by answers) rows has.finished.calls has.finished.numbers has.told }

  pub ended_well : Appends held after (text_from o.map items (told_by answers) rows) → fallen ≡ fell → Ran o old new left rest before now held after fell fallen status.Ok
  ended_well wrote count = record { text = text_from o.map items (told_by answers) rows; served = served; written = wrote; count = count }

  pub ended_unwritten : (e : WriteError) → AppendsFront held after (text_from o.map items (told_by answers) rows) → CauseOf fell fallen e → Ran o old new left rest before now held after fell fallen (unwritten e)
  ended_unwritten error.Fault wrote cause = (record { text = text_from o.map items (told_by answers) rows; served = served; written = wrote }, cause)
  ended_unwritten error.NoMemory wrote cause = (are.read.took.count, inr (record { text = text_from o.map items (told_by answers) rows; served = served; written = wrote }, cause))
