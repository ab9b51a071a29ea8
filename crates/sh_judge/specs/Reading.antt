-- What a printed replay says, line by line.
use Rattle.std.specs.Prelude.{ℕ, ◌+◌, ◌-◌, ◌^◌, ◌==◌, nat_lt, Bool, true, false, ◌&&◌, is_some, List, [], ◌∷◌, ◌++◌, length, codes, Option, Some, None, option_map, option_and_then, if◌then◌else◌, min, max}
use Rattle.std.specs.{List.{fold, slice_get}, Str.{bytes_eq}}
use Rattle.sh_map.specs.{declared.{call.Call.{Call, TheVariants.{Range}}, book.{Row.{Row}, Done.{Done}}}, Book.{made}, Map.{pair_row}}
use Rattle.sh_judge.specs.{declared.found.End.{End}, Fields.{Three, fields_of, parts_at, seven_of, three_of, two_of, value_of, wide_of, word_of}, CallLine.{done_spelled}}

-- What lines say: the finished calls with their rows, the rows of the map, and the numbers of the last line, once it
-- was read.
pub record LinesTold : Type 0 where
  pub dones : List Done
  pub maps : List Row
  pub end : Option End

abbrev pub nothing_told : LinesTold
nothing_told = record { dones = []; maps = []; end = None }

-- where a call that follows on its seat may begin: behind this one's point, and behind its entry; a word, so at most the
-- last one
abbrev pub least_after : Done → ℕ
least_after d = min (d.point + made d.call d.reply) (2 ^ 64 - 1)

abbrev pub with_end : (seat : ℕ) → ℕ → Done → ℕ
with_end seat least d = if d.seat == seat then max least (least_after d) else least

-- the least place at which a seat's next call may begin behind these calls
unfoldable pub least_first : List Done → (seat : ℕ) → ℕ
least_first dones seat = fold (with_end seat) 0 dones

abbrev pub with_row : Done → Row → Done
with_row d row = record d { rows = d.rows ++ row ∷ [] }

-- the last call has one row more
abbrev pub with_last_row : List Done → Row → List Done
with_last_row [] row = []
with_last_row (d ∷ []) row = with_row d row ∷ []
with_last_row (d ∷ e ∷ dones) row = d ∷ with_last_row (e ∷ dones) row

abbrev pub is_range : Call → Bool
is_range (Range low high) = true
is_range call = false

abbrev pub is_range_of : Option Done → Bool
is_range_of None = false
is_range_of (Some d) = is_range d.call

-- the last call is a range
abbrev pub ends_in_range : List Done → Bool
ends_in_range dones = is_range_of (slice_get dones (length dones - 1))

abbrev pub is_same : Option ℕ → ℕ → Bool
is_same None n = false
is_same (Some m) n = m == n

-- the field says this number
abbrev pub says : List ℕ → ℕ → Bool
says text n = is_same (word_of text) n

-- a key and its value, of so many words
abbrev pub row_spelled : ℕ → (key value : List ℕ) → Option Row
row_spelled words key value = option_and_then (λ k. option_map (λ v. pair_row k v) (value_of words value)) (word_of key)

-- A call's line `n,seat,op,a,b,reply,value,point`, before the map's lines. Calls are numbered by words of 32 bits, from 1.
abbrev pub call_in : ℕ → LinesTold → (number : List ℕ) → (rest : List (List ℕ)) → Option Done
call_in words t number rest =
    if nat_lt (length t.dones) (2 ^ 32 - 1) && (length t.maps == 0) && says number (length t.dones + 1)
    then option_and_then (done_spelled words (length t.dones + 1) (least_first t.dones)) (seven_of rest)
    else None

abbrev pub row_in_range : ℕ → ℕ → Three → Option Row
row_in_range words n f = if says f.first n then row_spelled words f.second f.third else None

-- a line `row,n,key,value`, behind the line of range n and its rows so far
abbrev pub row_said : ℕ → LinesTold → (rest : List (List ℕ)) → Option Row
row_said words t rest = if ends_in_range t.dones && (length t.maps == 0) then option_and_then (row_in_range words (length t.dones)) (three_of rest) else None

-- a line `map,key,value`, behind all calls
abbrev pub pair_said : ℕ → (rest : List (List ℕ)) → Option Row
pair_said words rest = option_and_then (λ f. row_spelled words f.first f.second) (two_of rest)

abbrev pub made_end : (calls keys sum : ℕ) → End
made_end calls keys sum = record { calls = calls; keys = keys; sum = sum }

-- a line `end,calls,keys,sum`
abbrev pub end_with : Three → Option End
end_with f = option_and_then (λ calls. option_and_then (λ keys. option_map (λ sum. made_end calls keys sum) (wide_of f.third)) (word_of f.second)) (word_of f.first)

abbrev pub end_said : (rest : List (List ℕ)) → Option End
end_said rest = option_and_then end_with (three_of rest)

-- what is told with one line more, if the line is in its place
abbrev pub with_fields : ℕ → LinesTold → List (List ℕ) → Option LinesTold
with_fields words t [] = None
with_fields words t (first ∷ rest) =
    if bytes_eq first (codes "row") then option_map (λ row. record t { dones = with_last_row t.dones row }) (row_said words t rest)
    else if bytes_eq first (codes "map") then option_map (λ row. record t { maps = t.maps ++ row ∷ [] }) (pair_said words rest)
    else if bytes_eq first (codes "end") then option_map (λ e. record t { end = Some e }) (end_said rest)
    else option_map (λ d. record t { dones = t.dones ++ d ∷ [] }) (call_in words t first rest)

-- nothing follows the last line
unfoldable pub told_with : ℕ → LinesTold → List ℕ → Option LinesTold
told_with words t line = if is_some t.end then None else with_fields words t (fields_of line)

-- what a text says: all that its lines tell, and how many lines they are; or the first line that isn't in its place
pub data Reading : Type 0 where
  AllTold : LinesTold → ℕ → Reading
  Astray : ℕ → Reading

abbrev pub told_then : Option LinesTold → ℕ → (LinesTold → Reading) → Reading
told_then None line next = Astray line
told_then (Some t) line next = next t

-- Behind so many lines that told this, the rest of the text, cut at its line feeds. What stands behind the last line feed
-- is empty where each line has its end; and the text stops behind an `end` line.
abbrev pub reading_from : ℕ → LinesTold → (lines : ℕ) → List (List ℕ) → Reading
reading_from words t lines [] = Astray (lines + 1)
reading_from words t lines (rest ∷ []) = if is_some t.end && (length rest == 0) then AllTold t lines else Astray (lines + 1)
reading_from words t lines (line ∷ next ∷ rest) = told_then (told_with words t line) (lines + 1) (λ u. reading_from words u (lines + 1) (next ∷ rest))

-- the reading of a text whose values have so many words
abbrev pub reading_of : ℕ → List ℕ → Reading
reading_of words text = reading_from words nothing_told 0 (parts_at 10 text)
