-- Tickets, the calls on a chair with their answers, and what each call leaves of what the chair knows.
use Rattle.std.specs.Prelude.{ℕ, zero, suc, ◌+◌, ◌-◌, ◌==◌, nat_lt, Bool, true, false, if◌then◌else◌, Option, None, Some, List, [], ◌∷◌, ◌++◌}
use mathlib.Core.Option as maybe
use Rattle.sh_local.specs.declared.view.{Ticket.{Ticket}, ChairCall.{ChairCall, TheVariants.{Drew, Waited, Turned, Counted, Left}}, View.{View}}

abbrev pub ticket : ℕ → ℕ → Bool → Bool → Ticket
ticket c n turn ahead = record { cell = c; number = n; turn = turn; ahead = ahead }

-- what stands for a ticket where there is none
abbrev pub no_ticket : Ticket
no_ticket = ticket 0 0 false false

abbrev pub or_none : Option Ticket → Ticket
or_none None = no_ticket
or_none (Some t) = t

-- the ticket that the chair has
abbrev pub held : {T K : Type 0} → View T K → Ticket
held v = or_none v.ticket

-- the sum of a number of each item
abbrev pub total : {A : Type 0} → (A → ℕ) → List A → ℕ
total f [] = 0
total f (x ∷ xs) = f x + total f xs

-- 1 for a value, 0 for none
abbrev pub weight : {T : Type 0} → Option T → ℕ
weight None = 0
weight (Some x) = 1

-- 1 where a cell keeps a value; a value that is out with the turn is no longer the cell's
abbrev pub weight_at_home : {T : Type 0} → maybe.Option (Option T) → ℕ
weight_at_home maybe.none = 0
weight_at_home (maybe.some o) = weight o

-- 1 where the call left a value
abbrev pub gave : {T : Type 0} → ChairCall T → ℕ
gave (Drew c n) = 0
gave (Waited c n x) = 0
gave (Turned c n o) = 0
gave (Counted c n x) = 0
gave (Left c n o) = weight o

-- 1 where the call carried a value to the chair
abbrev pub took : {T : Type 0} → ChairCall T → ℕ
took (Drew c n) = 0
took (Waited c n x) = 0
took (Turned c n o) = weight o
took (Counted c n x) = 0
took (Left c n o) = 0

-- 1 for the ticket n of the cell c
abbrev pub is_ticket : (c n d m : ℕ) → ℕ
is_ticket c n d m = if d == c then (if m == n then 1 else 0) else 0

-- 1 where the call drew the ticket n of the cell c
abbrev pub drew_at : {T : Type 0} → ℕ → ℕ → ChairCall T → ℕ
drew_at c n (Drew d m) = is_ticket c n d m
drew_at c n (Waited d m x) = 0
drew_at c n (Turned d m o) = 0
drew_at c n (Counted d m x) = 0
drew_at c n (Left d m o) = 0

-- 1 where the call gave the turn to the ticket n of the cell c
abbrev pub turned_at : {T : Type 0} → ℕ → ℕ → ChairCall T → ℕ
turned_at c n (Drew d m) = 0
turned_at c n (Waited d m x) = 0
turned_at c n (Turned d m o) = is_ticket c n d m
turned_at c n (Counted d m x) = 0
turned_at c n (Left d m o) = 0

-- how many values a chair has left, and how many a turn has carried to it
abbrev pub given : {T K : Type 0} → View T K → ℕ
given v = total gave v.calls

abbrev pub taken : {T K : Type 0} → View T K → ℕ
taken v = total took v.calls

-- how often the chair drew the ticket n of the cell c, and how often it had its turn
abbrev pub draws_of : {T K : Type 0} → ℕ → ℕ → View T K → ℕ
draws_of c n v = total (drew_at c n) v.calls

abbrev pub turns_of : {T K : Type 0} → ℕ → ℕ → View T K → ℕ
turns_of c n v = total (turned_at c n) v.calls

-- 1 for a number below the end, else 0
abbrev pub below : ℕ → ℕ → ℕ
below n end_ = if nat_lt n end_ then 1 else 0

-- 1 where the ticket that is out is of the cell c
abbrev pub waits : ℕ → Option Ticket → ℕ
waits c None = 0
waits c (Some t) = if t.cell == c then 1 else 0

abbrev pub out : {T K : Type 0} → ℕ → View T K → ℕ
out c v = waits c v.ticket

-- the first seat: it stands for all chairs
abbrev pub opener : {T K : Type 0} → K → ℕ → View T K
opener key chairs = record { key = Some key; parts = chairs; ticket = None; calls = [] }

-- a chair is made: the maker stands for one less
abbrev pub less_one : {T K : Type 0} → View T K → View T K
less_one v = record { key = v.key; parts = v.parts - 1; ticket = v.ticket; calls = v.calls }

abbrev pub new_chair : {T K : Type 0} → View T K → View T K
new_chair v = record { key = v.key; parts = 1; ticket = None; calls = [] }

-- a chair is taken in, and what is left of it knows nothing
abbrev pub both : {T K : Type 0} → View T K → View T K → View T K
both v w = record { key = v.key; parts = v.parts + w.parts; ticket = v.ticket; calls = v.calls ++ w.calls }

abbrev pub spent : {T K : Type 0} → View T K
spent = record { key = None; parts = 0; ticket = None; calls = [] }

-- after a draw: the chair has the ticket n of the cell c, and not yet the turn
abbrev pub drew : {T K : Type 0} → View T K → ℕ → ℕ → View T K
drew v c n = record { key = v.key; parts = v.parts; ticket = Some (ticket c n false false); calls = v.calls ++ Drew c n ∷ [] }

-- after a look that found this other number
abbrev pub waited : {T K : Type 0} → View T K → ℕ → View T K
waited v found = record { key = v.key; parts = v.parts; ticket = Some (held v); calls = v.calls ++ Waited (held v).cell (held v).number found ∷ [] }

-- after a look that gave the turn, with what the turn before left
abbrev pub turned : {T K : Type 0} → View T K → Option T → View T K
turned v o = record { key = v.key; parts = v.parts; ticket = Some (ticket (held v).cell (held v).number true false); calls = v.calls ++ Turned (held v).cell (held v).number o ∷ [] }

-- a later ticket was seen: now, or before in this turn
abbrev pub seen_ahead : ℕ → Bool → Bool
seen_ahead zero b = b
seen_ahead (suc n) b = true

-- after a count of so many later tickets
abbrev pub counted : {T K : Type 0} → View T K → ℕ → View T K
counted v n = record { key = v.key; parts = v.parts; ticket = Some (ticket (held v).cell (held v).number true (seen_ahead n (held v).ahead)); calls = v.calls ++ Counted (held v).cell (held v).number n ∷ [] }

-- after the turn was left, with this for the next
abbrev pub gone : {T K : Type 0} → View T K → Option T → View T K
gone v o = record { key = v.key; parts = v.parts; ticket = None; calls = v.calls ++ Left (held v).cell (held v).number o ∷ [] }
