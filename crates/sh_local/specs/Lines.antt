-- The line of tickets of each cell, and the rule that the table of cells keeps.
use Rattle.std.specs.{Prelude.{◌≡◌, ℕ, zero, suc, ◌+◌, ◌%◌, ◌^◌, ◌<◌, ◌≤◌, ◌==◌, Bool, true, if◌then◌else◌, Option, None, Some, List, [], ◌∷◌, length, slice_index}, List.{Contains}}
use mathlib.Core.Option as maybe
use lib.ListN.{get_elem?}
use Rattle.sh_local.specs.declared.view.{Ticket.{Ticket}, ChairCall.{ChairCall, TheVariants.{Drew, Waited, Turned, Counted, Left}}, View.{View}}
use Rattle.sh_local.specs.Calls.{ticket, weight_at_home, total, given, taken, draws_of, turns_of, below, out}

-- The line of one cell: the next ticket to be drawn, the one that is served, which seat has drawn a ticket, and what its leave put down
pub record Line (T : Type 0) : Type 0 where
  pub next : ℕ
  pub served : ℕ
  pub holder : ℕ → ℕ
  pub left : ℕ → Option T

-- what the turn before this one left; nothing before the first
abbrev pub before : {T : Type 0} → (ℕ → Option T) → ℕ → Option T
before left zero = None
before left (suc n) = left n

-- what holds of a ticket that is out with a seat
pub record Seated {T : Type 0} (l : Line T) (home : maybe.Option (maybe.Option (Option T))) (id : ℕ) (t : Ticket) : Type 0 where
  pub mine : l.holder t.number ≡ id
  pub least : l.served ≤ t.number
  pub drawn : t.number < l.next
  pub turn : t.turn ≡ true → (t.number ≡ l.served) × (home ≡ maybe.some maybe.none)
  pub ahead : t.ahead ≡ true → t.number + 1 < l.next

-- What holds from then on of a call that was made. A draw's ticket is drawn. A look that waits found an earlier ticket, which was served then. A turn comes no sooner than its ticket is served, and carries what the turn before left. As many later tickets as were counted are drawn
abbrev pub StandsInLine : {T : Type 0} → (ℕ → Line T) → ChairCall T → Type 0
StandsInLine lines (Drew c n) = n < (lines c).next
StandsInLine lines (Waited c n x) = (m : ℕ) × (x ≡ m % 2 ^ 64) × (m < n) × (m ≤ (lines c).served)
StandsInLine lines (Turned c n o) = (n ≤ (lines c).served) × (o ≡ before (lines c).left n)
StandsInLine lines (Counted c n x) = n + x < (lines c).next
StandsInLine lines (Left c n o) = (n < (lines c).served) × (o ≡ (lines c).left n)

abbrev pub AllStand : {T : Type 0} → (ℕ → Line T) → List (ChairCall T) → Type 0
AllStand lines [] = Unit {0}
AllStand lines (a ∷ as_) = StandsInLine lines a × AllStand lines as_

-- what holds of the view of the seat id
pub record KnowsLine {T K : Type 0} (key : K) (lines : ℕ → Line T) (homes : List (maybe.Option (Option T))) (id : ℕ) (v : View T K) : Type 0 where
  pub key_is : (k : K) → v.key ≡ Some k → k ≡ key
  pub seated : (t : Ticket) → v.ticket ≡ Some t → Seated (lines t.cell) (get_elem? homes t.cell) id t
  pub part : (t : Ticket) → v.ticket ≡ Some t → 1 ≤ v.parts
  pub stand : AllStand lines v.calls
  pub nothing : v.parts ≡ 0 → v.calls ≡ []

-- the seat id has the ticket n of the cell c
abbrev pub HasTicket : {T K : Type 0} → List (View T K) → ℕ → ℕ → ℕ → Type 0
HasTicket {T} {K} views id c n = (v : View T K) × (get_elem? views id ≡ maybe.some v) × (b : Bool) × (d : Bool) × (v.ticket ≡ Some (ticket c n b d))

-- the seat id has the turn with the ticket n of the cell c
abbrev pub HasTicketTurn : {T K : Type 0} → List (View T K) → ℕ → ℕ → ℕ → Type 0
HasTicketTurn {T} {K} views id c n = (v : View T K) × (get_elem? views id ≡ maybe.some v) × (d : Bool) × (v.ticket ≡ Some (ticket c n true d))

-- the seat id has left this at the end of the turn n of the cell c
abbrev pub HasLeft : {T K : Type 0} → List (View T K) → ℕ → ℕ → ℕ → Option T → Type 0
HasLeft {T} {K} views id c n o = (v : View T K) × (get_elem? views id ≡ maybe.some v) × Contains v.calls (Left c n o)

-- 1 for the served ticket, where its value is out with the turn
abbrev pub in_turn : {T : Type 0} → ℕ → ℕ → maybe.Option (Option T) → ℕ
in_turn n served maybe.none = if served == n then 1 else 0
in_turn n served (maybe.some o) = 0

-- a cell's two words, its value, and its line
pub record Queue {T K : Type 0} (fits : ℕ → T → Type 0) (c : ℕ) (l : Line T) (drawn served : ℕ) (home : maybe.Option (Option T)) (views : List (View T K)) : Type 0 where
  pub next_is : drawn ≡ l.next % 2 ^ 64
  pub served_is : served ≡ l.served % 2 ^ 64
  pub line : total (out c) views + l.served ≡ l.next
  pub each : (n : ℕ) → l.served ≤ n → n < l.next → HasTicket views (l.holder n) c n
  pub away : home ≡ maybe.none → (l.served < l.next) × HasTicketTurn views (l.holder l.served) c l.served
  pub value : (o : Option T) → home ≡ maybe.some o → o ≡ before l.left l.served
  pub kept : (x : T) → home ≡ maybe.some (Some x) → (l.served < l.next) × fits c x
  pub turns : (n : ℕ) → total (turns_of c n) views ≡ below n l.served + in_turn n l.served home

-- The rule of the table. The words are the next tickets of all cells, and then their served numbers; each seat stands for some of the chairs, and has no calls where it stands for none. Each drawn ticket was drawn once, and a value that was left was taken up or is kept
pub record Kept {T K : Type 0} (fits : K → ℕ → T → Type 0) (key : K) (chairs : ℕ) (words : List ℕ) (homes : List (maybe.Option (Option T))) (views : List (View T K)) : Type 0 where
  pub lines : ℕ → Line T
  pub long : length words ≡ length homes + length homes
  pub few : chairs < 2 ^ 64
  pub queues : (c : ℕ) (h : maybe.Option (Option T)) → get_elem? homes c ≡ maybe.some h → Queue (fits key) c (lines c) (slice_index words c) (slice_index words (length homes + c)) h views
  pub known : (id : ℕ) (v : View T K) → get_elem? views id ≡ maybe.some v → KnowsLine key lines homes id v
  pub parts : total (λ (v : View T K). v.parts) views ≡ chairs
  pub once : (c n : ℕ) → total (draws_of c n) views ≡ below n (lines c).next
  pub balance : total given views ≡ total taken views + total weight_at_home homes

-- the seat id, and no other, has this ticket
abbrev pub OneHas : {T K : Type 0} → List (View T K) → ℕ → ℕ → ℕ → Type 0
OneHas views id c n = HasTicket views id c n × ((other : ℕ) → HasTicket views other c n → other ≡ id)

-- The line of a cell, told by its words, its value and the chairs' calls alone. The tickets that are out are those from the served one to the next to be drawn, each with one seat; each ticket before the next was drawn once, each before the served one has had its turn once, only the served one has it now, and one seat at most. At home in the cell is what the last leave put there; a value there fits, and a ticket is out for it
pub record LineAgrees {T K : Type 0} (fits : ℕ → T → Type 0) (c : ℕ) (drawn served_word : ℕ) (home : maybe.Option (Option T)) (views : List (View T K)) : Type 0 where
  pub next : ℕ
  pub served : ℕ
  pub next_is : drawn ≡ next % 2 ^ 64
  pub served_is : served_word ≡ served % 2 ^ 64
  pub within : served ≤ next
  pub near : next < served + 2 ^ 64
  pub out : (n : ℕ) → served ≤ n → n < next → (id : ℕ) × OneHas views id c n
  pub only : (id n : ℕ) → HasTicket views id c n → (served ≤ n) × (n < next)
  pub draws : (n : ℕ) → total (draws_of c n) views ≡ below n next
  pub turn : (id n : ℕ) → HasTicketTurn views id c n → (n ≡ served) × (home ≡ maybe.none)
  pub one : (id other n m : ℕ) → HasTicketTurn views id c n → HasTicketTurn views other c m → id ≡ other
  pub turns : (n : ℕ) → total (turns_of c n) views ≡ below n served + in_turn n served home
  pub first : (o : Option T) → home ≡ maybe.some o → served ≡ 0 → o ≡ None
  pub last : (id n : ℕ) (o p : Option T) → home ≡ maybe.some o → served ≡ n + 1 → HasLeft views id c n p → o ≡ p
  pub value : (x : T) → home ≡ maybe.some (Some x) → (served < next) × fits c x
