-- What the line of a call says: `n,seat,op,a,b,reply,value,point`.
use Rattle.std.specs.{Prelude.{ℕ, ◌==◌, nat_le, nat_lt, List, [], length, codes, Option, Some, None, option_map, option_and_then, if◌then◌else◌}, Str.{bytes_eq}}
use Rattle.sh_map.specs.declared.{call.{Call.{Call, TheVariants.{Get, Put, Del, Range}}, Reply.{Reply}}, book.Done.{Done}}
use Rattle.sh_map.specs.declared.call.Reply.TheVariants as reply
use Rattle.sh_sheet.specs.Row.{is_key}
use Rattle.sh_judge.specs.{declared.call.Span.{Span}, Fields.{Seven, parts_at, two_of, value_of, word_of}}

-- the key that a field says: a word from 1 to 2^64-2
abbrev pub key_spelled : List ℕ → Option ℕ
key_spelled text = option_and_then (λ n. if is_key n then Some n else None) (word_of text)

-- with an empty field, this
abbrev pub where_empty : {X : Type 0} → List ℕ → Option X → Option X
where_empty text x = if length text == 0 then x else None

-- the call that an operation's word and the fields a and b say: a put's b is a value of so many words, a range's b its
-- high, which isn't below its low, and any other's is empty
abbrev pub put_of : ℕ → (a b : List ℕ) → Option Call
put_of words a b = option_and_then (λ key. option_map (λ value. Put key value) (value_of words b)) (key_spelled a)

abbrev pub range_to : ℕ → ℕ → Option Call
range_to low high = if nat_le low high then Some (Range low high) else None

abbrev pub range_spelled : (a b : List ℕ) → Option Call
range_spelled a b = option_and_then (λ low. option_and_then (range_to low) (word_of b)) (key_spelled a)

abbrev pub call_spelled : ℕ → (op a b : List ℕ) → Option Call
call_spelled words op a b =
    if bytes_eq op (codes "put") then put_of words a b
    else if bytes_eq op (codes "get") then where_empty b (option_map (λ key. Get key) (key_spelled a))
    else if bytes_eq op (codes "del") then where_empty b (option_map (λ key. Del key) (key_spelled a))
    else if bytes_eq op (codes "range") then range_spelled a b
    else None

-- the reply that a word and the field value say to a call of one key: some with a value, or none
abbrev pub found_of : ℕ → (word value : List ℕ) → Option Reply
found_of words word value =
    if bytes_eq word (codes "some") then option_map (λ old. reply.Some old) (value_of words value)
    else if bytes_eq word (codes "none") then where_empty value (Some reply.None)
    else None

-- to a delete: also that a leaf is worn, with its version
abbrev pub del_reply : ℕ → (word value : List ℕ) → Option Reply
del_reply words word value = if bytes_eq word (codes "worn") then option_map (λ version. reply.Worn version) (word_of value) else found_of words word value

-- to a put: also that there is no node left
abbrev pub put_reply : ℕ → (word value : List ℕ) → Option Reply
put_reply words word value = if bytes_eq word (codes "full") then where_empty value (Some reply.Full) else del_reply words word value

-- to a range: its rows up to its high, or in part, up to a number below it
abbrev pub all_rows : ℕ → ℕ → Option Reply
all_rows high upto = if upto == high then Some (reply.Rows upto) else None

abbrev pub some_rows : ℕ → ℕ → Option Reply
some_rows high upto = if nat_lt upto high then Some (reply.Rows upto) else None

abbrev pub range_reply : ℕ → (word value : List ℕ) → Option Reply
range_reply high word value =
    if bytes_eq word (codes "rows") then option_and_then (all_rows high) (word_of value)
    else if bytes_eq word (codes "part") then option_and_then (some_rows high) (word_of value)
    else None

abbrev pub reply_spelled : ℕ → Call → (word value : List ℕ) → Option Reply
reply_spelled words (Get key) word value = found_of words word value
reply_spelled words (Put key put) word value = put_reply words word value
reply_spelled words (Del key) word value = del_reply words word value
reply_spelled words (Range low high) word value = range_reply high word value

abbrev pub ends_at : ℕ → ℕ → Span
ends_at first point = record { first = first; point = point }

-- a range's two ends, `first:point`
abbrev pub two_ends : List ℕ → Option Span
two_ends text = option_and_then (λ f. option_and_then (λ first. option_map (λ point. ends_at first point) (word_of f.second)) (word_of f.first)) (two_of (parts_at 58 text))

-- Where in the log a call with this reply begins and is answered: at its printed point, for a range at the two ends that
-- are printed, and for a call without a point at the least place that its seat's earlier calls allow.
abbrev pub ends_of : Reply → (least : ℕ) → (point : List ℕ) → Option Span
ends_of (reply.Some value) least point = option_map (λ p. ends_at p p) (word_of point)
ends_of reply.None least point = option_map (λ p. ends_at p p) (word_of point)
ends_of (reply.Rows upto) least point = two_ends point
ends_of reply.Full least point = where_empty point (Some (ends_at least least))
ends_of (reply.Worn version) least point = where_empty point (Some (ends_at least least))

-- the seat that a field says: at most 63
abbrev pub seat_of : List ℕ → Option ℕ
seat_of text = option_and_then (λ n. if nat_le n 63 then Some n else None) (word_of text)

abbrev pub done_at : (n seat : ℕ) → Call → Reply → Span → Done
done_at n seat call answer ends = record { n = n; seat = seat; call = call; reply = answer; first = ends.first; point = ends.point; rows = [] }

-- the finished call of number n that the fields behind its number say, where a seat's earlier calls allow it to begin at
-- `least` of the seat
abbrev pub done_spelled : ℕ → (n : ℕ) → (least : ℕ → ℕ) → Seven → Option Done
done_spelled words n least f =
    option_and_then (λ seat.
    option_and_then (λ call.
    option_and_then (λ answer.
    option_map (λ ends. done_at n seat call answer ends)
    (ends_of answer (least seat) f.point))
    (reply_spelled words call f.reply f.value))
    (call_spelled words f.op f.a f.b))
    (seat_of f.seat)
