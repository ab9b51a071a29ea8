-- Passes as plain data, and what holds of each.
use Rattle.std.specs.Prelude.{◌≡◌, ℕ, ◌*◌, ◌%◌, ◌^◌, ◌<◌, ◌≤◌, ◌||◌, if◌then◌else◌, Bool, true, false, Option, None, Some, List, [], ◌∷◌, ◌++◌, length, drop, map}
use Rattle.atomic_table.specs.Seated.{TableId}
use Rattle.sh_base.specs.{declared.config.ConfigParts.{ConfigParts}, Parts.{parts_of}, Setting.{all_locks, all_seats}, Layout.{compute_of}}
use Rattle.sh_image.specs.{Inner.{Inner}, declared.inner.Image.TheVariants.{Inner as InnerImage}}
use Rattle.sh_read.specs.Reads.{accepted, reads_with}
use Rattle.sh_map.specs.declared.{call.Call.{Call}, book.Done.{Done}}
use Rattle.sh_client.specs.{declared.state.Phase.{Phase, TheVariants.{Root, Read, Draw, Look, Grab}}, Machine.{Machine}, InLine.{Stand, Away, Waits, Served, stand_of}, Rests.{is_resting}}
use Rattle.sh_core.specs.Actors.{Actor}
use Rattle.sh_local.specs.{declared.view.{View.{View}, ChairCall.{ChairCall, TheVariants.{Drew, Waited, Turned, Counted, Left}}}, Calls.{held, given, taken}, Chairs.{CellTable, Sitting, HasTicketFor}}
use Rattle.sh_pool_rule.specs.{declared.view.{PassView.{PassView}, Tiding.{Tiding, TheVariants.{WordTold}}}, Views.{member, own, view_seat, Tale}, Lives.{calls_told, HasLived}}
use Rattle.sh_pool_rule.specs.Untold.{UntoldTurn, CallBegun, WordAnswered, TurnServed, caught_up, life_with, MayTakeAll, StaysAnswered}
use Rattle.sh_pool.specs.{Handed.{Handed}, Fitting.{cell_for}, declared.right.Knower.{Knower}}

-- a pass: its table, its client, whether its call was begun and has made no event yet, its view and its chair
pub record Standing : Type 0 where
  pub table : TableId
  pub client : Machine
  pub begun : Bool
  pub view : PassView
  pub chair : Sitting Handed Knower

-- The turn that a call on the chair was. A right that is taken up or left is told to the view at once.
abbrev pub untold_by : ChairCall Handed → List UntoldTurn
untold_by (Drew cell n) = WordAnswered (n % 2 ^ 64) ∷ []
untold_by (Waited cell n found) = WordAnswered found ∷ []
untold_by (Turned cell n None) = TurnServed ∷ []
untold_by (Turned cell n (Some right)) = []
untold_by (Counted cell n count) = WordAnswered count ∷ []
untold_by (Left cell n None) = WordAnswered 0 ∷ []
untold_by (Left cell n (Some right)) = []

abbrev pub untold_of : List (ChairCall Handed) → List UntoldTurn
untold_of [] = []
untold_of (x ∷ xs) = untold_by x ++ untold_of xs

abbrev pub is_left : ChairCall Handed → Bool
is_left (Left cell n o) = true
is_left call = false

abbrev pub has_left : List (ChairCall Handed) → Bool
has_left [] = false
has_left (x ∷ xs) = is_left x || has_left xs

-- A call that has made no event yet has left no queue; so it was begun behind the last call that left one.
abbrev pub untold_with : Call → List (ChairCall Handed) → List UntoldTurn
untold_with call [] = CallBegun call ∷ []
untold_with call (x ∷ xs) = if has_left (x ∷ xs) then untold_by x ++ untold_with call xs else CallBegun call ∷ untold_of (x ∷ xs)

abbrev pub untold_if : Bool → Call → List (ChairCall Handed) → List UntoldTurn
untold_if false call xs = untold_of xs
untold_if true call xs = untold_with call xs

-- the turns of which the view isn't told yet
abbrev pub untold_turns : Standing → List UntoldTurn
untold_turns p = untold_if p.begun p.client.registers.call (drop p.view.heard p.chair.view.calls)

-- the pass's actor, and its life so far
abbrev pub pass_actor : Standing → Actor
pass_actor p = caught_up (view_seat p.view) p.view.seen (own p.view) (untold_turns p)

abbrev pub life_of : Standing → List Tiding
life_of p = life_with (untold_turns p) p.view.life

-- what the view is told with the pass's next step on the table of words, behind so many calls on the chair
abbrev pub tale_of : Standing → (heard : ℕ) → Tale
tale_of p heard = record { heard = heard; life = life_of p }

-- the chair has a ticket where its client stands
abbrev pub SitsWhere : ConfigParts → (compute : ℕ) → View Handed Knower → Stand → Type 0
SitsWhere p compute v Away = v.ticket ≡ None
SitsWhere p compute v (Waits lock) = HasTicketFor (cell_for p lock compute) false v
SitsWhere p compute v (Served lock hands) = HasTicketFor (cell_for p lock compute) true v × (hands ≡ true → (held v).ahead ≡ true)

-- what a client may be at before the first event of its call
abbrev pub IsBefore : Phase → Type 0
IsBefore (Root aim) = Unit {0}
IsBefore (Read aim top) = Unit {0}
IsBefore (Draw aim node) = Unit {0}
IsBefore (Look aim node) = Unit {0}
IsBefore (Grab aim node) = Unit {0}
IsBefore phase = ⊥

-- the last of these calls left a queue, where there is one
abbrev pub EndsLeft : List (ChairCall Handed) → Type 0
EndsLeft [] = Unit {0}
EndsLeft (x ∷ []) = is_left x ≡ true
EndsLeft (x ∷ y ∷ xs) = EndsLeft (y ∷ xs)

-- The calls that a life tells, in order, are those that have ended, and the one under way.
abbrev pub call_under_way : Machine → List Call
call_under_way m = if is_resting m then [] else m.registers.call ∷ []

abbrev pub TellsItsCalls : List Tiding → Actor → Type 0
TellsItsCalls life a = calls_told life ≡ map (λ (d : Done). d.call) a.dones ++ call_under_way a.client

-- The row was shown in a life: words that were told one behind another are a node's, of which a READ accepts this image.
pub record WasShown (m : Machine) (life : List Tiding) (row : Inner) : Type 0 where
  pub node : ℕ
  pub words : List ℕ
  pub since : List Tiding
  pub before : List Tiding
  pub whole : life ≡ since ++ (map WordTold words ++ before)
  pub image_is : accepted m.setting (reads_with node words) ≡ Some (InnerImage row)

-- What holds of each pass: its view has its seat's actor, and its client is that of the actor to which it has come. That
-- actor has lived its life, and its ended calls stay answered. Its chair has a ticket where its client stands.
pub record IsPass (p : Standing) : Type 0 where
  pub here : p.view.members ≡ member (view_seat p.view) (own p.view) ∷ []
  pub alone : p.view.pasts ≡ []
  pub seat_is : view_seat p.view ≡ p.client.seat
  pub within : compute_of p.client.setting p.client.seat < p.client.setting.computes
  pub heard : p.view.heard ≤ length p.chair.view.calls
  pub may : MayTakeAll p.client.setting (view_seat p.view) p.view.seen (own p.view) (untold_turns p)
  pub tied : p.client ≡ (pass_actor p).client
  pub lived : HasLived p.client.setting (view_seat p.view) (life_of p) (pass_actor p)
  pub calls : TellsItsCalls (life_of p) (pass_actor p)
  pub no_right : p.view.right ≡ None
  pub sits : SitsWhere p.client.setting (compute_of p.client.setting p.client.seat) p.chair.view (stand_of p.client)
  pub before : p.begun ≡ true → IsBefore p.client.phase
  pub ended : p.chair.view.ticket ≡ None → EndsLeft (drop p.view.heard p.chair.view.calls)
  pub gave : p.view.gave ≡ given p.chair.view
  pub took : p.view.took ≡ taken p.chair.view
  pub answered : StaysAnswered p.client.setting (view_seat p.view) p.view.seen (own p.view)

-- the cells of a pool's table
abbrev pub AreCellsOf : TableId → ConfigParts → Option (CellTable Knower) → Type 0
AreCellsOf z p None = ⊥
AreCellsOf z p (Some r) = (r.cells ≡ all_locks p * p.computes) × (r.key.seat.table_id ≡ z) × (parts_of r.key.cfg ≡ p) × (r.chairs ≡ all_seats p)

-- a chair at these cells
abbrev pub IsChairOf : Option (CellTable Knower) → Sitting Handed Knower → Type 0
IsChairOf None s = ⊥
IsChairOf (Some r) s = (s.table ≡ r.table) × (s.view.key ≡ Some r.key)

-- a pool that is laid: its table, its setting and its cells
pub record PoolTable : Type 0 where
  pub table : TableId
  pub setting : ConfigParts
  pub cells : Option (CellTable Knower)

-- a pass of this pool
pub record IsOf (pool : PoolTable) (p : Standing) : Type 0 where
  pub table : p.table ≡ pool.table
  pub setting : p.client.setting ≡ pool.setting
  pub chair : IsChairOf pool.cells p.chair
