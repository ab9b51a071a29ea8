-- The calls that are made from a seed.
use Rattle.std.specs.Prelude.{ℕ, zero, suc, ◌+◌, ◌-◌, ◌*◌, ◌/◌, ◌%◌, ◌^◌, ◌<◌, false, nat_le, List, map, if◌then◌else◌}
use Rattle.std.specs.List.{range_with_len, sum_by}
use Rattle.sh_base.specs.{declared.config.ConfigParts.{ConfigParts}, Setting.{all_seats}}
use Rattle.sh_map.specs.declared.call.Call.{Call, TheVariants.{Get, Put, Del, Range}}
use Rattle.sh_sheet.specs.{declared.item.{Item.{Item, TheVariants.{Ask}}, SheetFault.{SheetFault}}, Sheet.{Contents, most_rows, rows_of}}
use Rattle.sh_sheet.specs.declared.item.SheetFault.TheVariants as fault

-- the number that follows x, below 2^64
abbrev pub next_number : ℕ → ℕ
next_number x = (x * 6364136223846793005 + 1442695040888963407) % 2 ^ 64

-- number i behind a seed, which is number 0
unfoldable pub drawn_number : ℕ → ℕ → ℕ
drawn_number seed zero = seed
drawn_number seed (suc i) = next_number (drawn_number seed i)

-- a key from 1 to n, of the high bits of x
abbrev pub key_from : ℕ → ℕ → ℕ
key_from n x = x / 2 ^ 33 % n + 1

-- what the four highest bits ask for: of 16 calls, 8 puts, 5 gets, 2 deletes and a range of 16 keys
abbrev pub call_from : ℕ → ℕ → List ℕ → Call
call_from t key value =
    if nat_le t 7 then Put key value
    else if nat_le t 12 then Get key
    else if nat_le t 14 then Del key
    else Range key (key + 16)

-- what call i of n asks for, of number x; a put's value has the words i, i + 1 and so on
abbrev pub made_call : ConfigParts → ℕ → ℕ → ℕ → Call
made_call p n i x = call_from (x / 2 ^ 60) (key_from n x) (range_with_len i p.value_words)

-- call i of n, of number i: the seats take turns
abbrev pub made_item : ConfigParts → ℕ → ℕ → ℕ → Item
made_item p n seed i = Ask ((i - 1) % all_seats p) (made_call p n i (drawn_number seed i))

-- the n calls of a seed: call i, from 1 to n, of number i
abbrev pub made_items : ConfigParts → ℕ → ℕ → List Item
made_items p n seed = map (made_item p n seed) (range_with_len 1 n)

-- the sheet of made calls: no heading, and nothing but the calls
abbrev pub made_sheet : ConfigParts → ℕ → ℕ → Contents
made_sheet p n seed = record { headed = false; items = made_items p n seed }

-- why no sheet is made: the ranges may be answered with too many rows, or memory is wanting
abbrev pub IsNotMade : ConfigParts → ℕ → ℕ → SheetFault → Type 0
IsNotMade p n seed (fault.Row row why) = ⊥
IsNotMade p n seed fault.TooMany = most_rows < sum_by (rows_of p) (made_items p n seed)
IsNotMade p n seed fault.NoMemory = Unit {0}
