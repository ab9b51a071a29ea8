-- What a chair and a table of cells are to their callers, and what the calls ask and answer.
use Rattle.std.specs.Prelude.{◌≡◌, ◌≢◌, ℕ, ◌+◌, ◌%◌, ◌^◌, ◌<◌, Bool, true, false, Option, None, Some, List, [], ◌∷◌, length, replicate}
use mathlib.Core.Option as maybe
use lib.ListN.{get_elem?}
use Rattle.atomic_table.specs.Seated.{TableId}
use Rattle.sh_local.specs.{declared.{view.{View.{View}, Ticket.{Ticket}}, look.Look.{Look, TheVariants.{Wait, Turn}}}, Calls.{total, given, taken, draws_of, turns_of, below, held, waited, turned}}
use Rattle.sh_local.specs.{Lines.{Line, before, AllStand}, Steps.{FitsIf}}

-- a table of cells: which one it is, its key, and how many cells and chairs it has
pub record CellTable (K : Type 0) : Type 0 where
  pub table : TableId
  pub key : K
  pub cells : ℕ
  pub chairs : ℕ

-- a chair: its table, and what it knows
pub record Sitting (T K : Type 0) : Type 0 where
  pub table : TableId
  pub view : View T K

-- a chair of this table that has made no call
abbrev pub fresh_chair : {T K : Type 0} → TableId → K → Sitting T K
fresh_chair z key = record { table = z; view = record { key = Some key; parts = 1; ticket = None; calls = [] } }

-- how many cells there are; a table that was gathered has none
abbrev pub cells_of : {K : Type 0} → Option (CellTable K) → ℕ
cells_of None = 0
cells_of (Some r) = r.cells

-- a table that was just made, and its chairs: none has made a call
abbrev pub IsNewTable : {T K : Type 0} → (chairs cells : ℕ) → K → Option (CellTable K) → List (Sitting T K) → Type 0
IsNewTable chairs cells key None ss = ⊥
IsNewTable chairs cells key (Some r) ss = (r.key ≡ key) × (r.cells ≡ cells) × (r.chairs ≡ chairs) × (ss ≡ replicate chairs (fresh_chair r.table key))

abbrev pub slot_at : {T : Type 0} → Bool → ℕ → List (ℕ × Option T)
slot_at true c = (c, None) ∷ []
slot_at false c = []

-- the slot that a chair has out: the cell's, emptied, while it has the turn
abbrev pub slot_if : {T : Type 0} → Option Ticket → List (ℕ × Option T)
slot_if None = []
slot_if (Some t) = slot_at t.turn t.cell

-- the word is that of the ticket, where there is one
abbrev pub word_if : ℕ → Option Ticket → Type 0
word_if word None = Unit {0}
word_if word (Some t) = word ≡ t.number % 2 ^ 64

-- the chair is one of this table's, and the table has this cell; a table that was gathered has neither
abbrev pub SitsAt : {T K : Type 0} → Option (CellTable K) → Sitting T K → ℕ → Type 0
SitsAt None s c = ⊥
SitsAt (Some r) s c = (s.table ≡ r.table) × (s.view.key ≡ Some r.key) × (c < r.cells)

-- the value fits the table's key and the cell
abbrev pub FitsAt : {T K : Type 0} → (K → ℕ → T → Type 0) → Option (CellTable K) → ℕ → T → Type 0
FitsAt fits None c x = ⊥
FitsAt fits (Some r) c x = fits r.key c x

-- the chair has a ticket for this cell, and has the turn or not
abbrev pub HasTicketFor : {T K : Type 0} → ℕ → Bool → View T K → Type 0
HasTicketFor c turn v = (v.ticket ≡ Some (held v)) × ((held v).cell ≡ c) × ((held v).turn ≡ turn)

-- what a look answers: Wait with the number found, which isn't the ticket's, or Turn with a value that fits
abbrev pub Looked : {T K : Type 0} → (T → Type 0) → View T K → Look T → View T K → Type 0
Looked fits v (Wait found) w = (found ≢ (held v).number % 2 ^ 64) × (w ≡ waited v found)
Looked fits v (Turn o) w = (w ≡ turned v o) × FitsIf fits o

-- a value may be left only where it fits and a later ticket was seen in this turn
abbrev pub MayLeave : {T : Type 0} → (T → Type 0) → Ticket → Option T → Type 0
MayLeave fits t None = Unit {0}
MayLeave fits t (Some x) = (t.ahead ≡ true) × fits x

-- each chair is of this table, and has no ticket
abbrev pub AllFree : {T K : Type 0} → TableId → List (Sitting T K) → Type 0
AllFree z [] = Unit {0}
AllFree z (s ∷ ss) = (s.table ≡ z) × (s.view.ticket ≡ None) × AllFree z ss

-- these are all chairs of a table that isn't gathered yet, and none has a ticket
abbrev pub AreAll : {T K : Type 0} → Option (CellTable K) → List (Sitting T K) → Type 0
AreAll None ss = ⊥
AreAll (Some r) ss = (length ss ≡ r.chairs) × AllFree r.table ss

-- what the chairs' calls tell is so of these lines
abbrev pub AllTold : {T K : Type 0} → (ℕ → Line T) → List (Sitting T K) → Type 0
AllTold lines [] = Unit {0}
AllTold lines (s ∷ ss) = AllStand lines s.view.calls × AllTold lines ss

-- The end of so many cells: there is one line for each, in which all calls stand as they were answered. Each drawn ticket was drawn once and had its turn once, the last leave left no value, and as many values were taken up as were left
pub record Gathered {T K : Type 0} (cells : ℕ) (chairs : List (Sitting T K)) : Type 0 where
  pub lines : ℕ → Line T
  pub told : AllTold lines chairs
  pub served : (c : ℕ) → c < cells → (lines c).served ≡ (lines c).next
  pub draws : (c n : ℕ) → total (λ (s : Sitting T K). draws_of c n s.view) chairs ≡ below n (lines c).next
  pub turns : (c n : ℕ) → c < cells → total (λ (s : Sitting T K). turns_of c n s.view) chairs ≡ below n (lines c).next
  pub empty : (c : ℕ) → c < cells → before (lines c).left (lines c).next ≡ None
  pub even : total (λ (s : Sitting T K). given s.view) chairs ≡ total (λ (s : Sitting T K). taken s.view) chairs

-- the view has taken in all chairs but the rest
pub record TakenIn {T K : Type 0} (chairs rest : List (Sitting T K)) (v : View T K) : Type 0 where
  pub none : v.ticket ≡ None
  pub parts : v.parts + length rest ≡ length chairs
  pub gives : given v + total (λ (s : Sitting T K). given s.view) rest ≡ total (λ (s : Sitting T K). given s.view) chairs
  pub takes : taken v + total (λ (s : Sitting T K). taken s.view) rest ≡ total (λ (s : Sitting T K). taken s.view) chairs
  pub draws : (c n : ℕ) → draws_of c n v + total (λ (s : Sitting T K). draws_of c n s.view) rest ≡ total (λ (s : Sitting T K). draws_of c n s.view) chairs
  pub turns : (c n : ℕ) → turns_of c n v + total (λ (s : Sitting T K). turns_of c n s.view) rest ≡ total (λ (s : Sitting T K). turns_of c n s.view) chairs
  pub told : (lines : ℕ → Line T) → AllStand lines v.calls → AllTold lines rest → AllTold lines chairs

-- no slot has a value
abbrev pub AllNone : {T : Type 0} → List (Option T) → Type 0
AllNone xs = (k : ℕ) → k < length xs → get_elem? xs k ≡ maybe.some None
