-- The turn rows of a sheet, apart from its other rows.
use Rattle.std.specs.{Prelude.{List, [], ◌∷◌}, List.{flat_map}}
use Rattle.sh_sheet.specs.declared.item.Item.{Item, TheVariants.{Ask, Mark, After, Turn}}
use Rattle.sh_replay.specs.{declared.turns.TurnRow.{TurnRow}, Course.{turn_asks, Asking}}

abbrev pub turn_rows : List Item → List TurnRow
turn_rows [] = []
turn_rows (Ask seat call ∷ items) = turn_rows items
turn_rows (Mark seat n ∷ items) = turn_rows items
turn_rows (After seat n ∷ items) = turn_rows items
turn_rows (Turn seat count ∷ items) = record { seat = seat; count = count } ∷ turn_rows items

-- the seat of a row, so often
abbrev pub kept_row : TurnRow → List Asking
kept_row row = turn_asks row.seat row.count

abbrev pub kept_asks : List TurnRow → List Asking
kept_asks rows = flat_map kept_row rows
