-- What a turn of a pass does.
use Rattle.std.specs.Prelude.{◌≡◌, ◌≤◌, ℕ, zero, suc, ◌+◌, ◌%◌, ◌^◌, Bool, true, false, Option, None, Some, List, [], ◌∷◌, ◌++◌, length}
use Rattle.sh_base.specs.{declared.event.Event.{Event}, Layout.{compute_of}}
use Rattle.sh_map.specs.declared.{log.Entry.{Entry}, call.{Call.{Call}, Reply.{Reply}}}
use Rattle.sh_client.specs.declared.state.Want.TheVariants as want
use Rattle.sh_client.specs.{declared.state.Want.{Want}, Machine.{Machine}, Feeds.{fed_by, turned_by, begun as machine_begun}, Rests.{has_ended, is_resting, reply_of}, Wants.{want_of}}
use Rattle.sh_core.specs.Actors.{Actor, done_of}
use Rattle.sh_core_says.specs.Books.{HasAnswers}
use Rattle.sh_local.specs.{declared.view.ChairCall.{ChairCall, TheVariants.{Drew, Waited, Turned, Counted, Left}}, Calls.{held}}
use Rattle.sh_pool_rule.specs.{Views.{view_seat, Begins}, Rule.{TookEvent}, Rights.{depth_of, parted_view, right_view, taken_view}}
use Rattle.sh_pool.specs.{Handed.{Handed}, Fitting.{cell_for}, Passes.{Standing, pass_actor, tale_of}, declared.state.Step.{Step, TheVariants.{Going, Done as Ended}}}

-- a call is begun
abbrev pub HasBegunCall : Call → Standing → Standing → Type 0
HasBegunCall call p q = q ≡ record p { client = machine_begun p.client call; begun = true }

-- The client's event was made, by one step on the table of words, and the client was fed the word found.
pub record MadeEvent (event : Event) (p q : Standing) : Type 0 where
  pub word : ℕ
  pub client : q.client ≡ fed_by p.client word
  pub none : q.begun ≡ false
  pub table : q.table ≡ p.table
  pub chair : q.chair ≡ p.chair
  pub took : TookEvent (pass_actor p) (tale_of p (length p.chair.view.calls)) p.view word q.view

-- the chair is of the same table, with the same key
abbrev pub SameChair : Standing → Standing → Type 0
SameChair p q = (q.chair.table ≡ p.chair.table) × (q.chair.view.key ≡ p.chair.view.key)

-- The client's compute server answered: the chair keeps its call with the answer, and the client was fed just that.
pub record ToldTurn (call : ChairCall Handed) (m : Machine) (p q : Standing) : Type 0 where
  pub calls : q.chair.view.calls ≡ p.chair.view.calls ++ call ∷ []
  pub client : q.client ≡ m
  pub begun : q.begun ≡ p.begun
  pub table : q.table ≡ p.table
  pub view : q.view ≡ p.view
  pub seated : SameChair p q

-- the cell of the lock, and the chair's ticket with its cell
abbrev pub cell_of : Standing → (lock : ℕ) → ℕ
cell_of p lock = cell_for p.client.setting lock (compute_of p.client.setting p.client.seat)

abbrev pub ticket_of : Standing → ℕ
ticket_of p = (held p.chair.view).number

abbrev pub held_cell : Standing → ℕ
held_cell p = (held p.chair.view).cell

-- a ticket was drawn
pub record DrewTicket (lock : ℕ) (p q : Standing) : Type 0 where
  pub ticket : ℕ
  pub told : ToldTurn (Drew (cell_of p lock) ticket) (fed_by p.client (ticket % 2 ^ 64)) p q

-- a look found another ticket served
pub record FoundOther (p q : Standing) : Type 0 where
  pub found : ℕ
  pub told : ToldTurn (Waited (held_cell p) (ticket_of p) found) (fed_by p.client found) p q

-- the chair has its turn, and a right that is taken up at once: by one step on the table, which tells the view all
pub record TookUp (p q : Standing) : Type 0 where
  pub right : Handed
  pub calls : q.chair.view.calls ≡ p.chair.view.calls ++ Turned (held_cell p) (ticket_of p) (Some right) ∷ []
  pub client : q.client ≡ turned_by p.client (Some right.depth)
  pub none : q.begun ≡ false
  pub table : q.table ≡ p.table
  pub view : q.view ≡ taken_view (pass_actor p) (tale_of p (length p.chair.view.calls + 1)) p.view right.view
  pub depth : depth_of right.view.right ≡ Some right.depth
  pub seated : SameChair p q

-- what a look comes to
pub data LookedOnce (p q : Standing) : Type 0 where
  OtherServed : FoundOther p q → LookedOnce p q
  NoRight : ToldTurn (Turned (held_cell p) (ticket_of p) None) (turned_by p.client None) p q → LookedOnce p q
  WithRight : TookUp p q → LookedOnce p q

-- so many later tickets were drawn
pub record CountedLater (lock : ℕ) (p q : Standing) : Type 0 where
  pub count : ℕ
  pub told : ToldTurn (Counted (held_cell p) (ticket_of p) count) (fed_by p.client count) p q

-- the queue was left with the right to the lock, by one step on the table, which tells the view all
pub record HandedOver (depth : ℕ) (p q : Standing) : Type 0 where
  pub right : Handed
  pub depth_is : right.depth ≡ depth
  pub calls : q.chair.view.calls ≡ p.chair.view.calls ++ Left (held_cell p) (ticket_of p) (Some right) ∷ []
  pub client : q.client ≡ fed_by p.client 0
  pub begun : q.begun ≡ p.begun
  pub table : q.table ≡ p.table
  pub view : q.view ≡ parted_view (pass_actor p) (tale_of p (length p.chair.view.calls)) p.view
  pub right_is : right.view ≡ right_view (pass_actor p) p.view
  pub seated : SameChair p q

-- or with nothing
abbrev pub LeftQueue : Option ℕ → Standing → Standing → Type 0
LeftQueue None p q = ToldTurn (Left (held_cell p) (ticket_of p) None) (fed_by p.client 0) p q
LeftQueue (Some depth) p q = HandedOver depth p q

-- exactly the turn that the client wants
abbrev pub StepsBy : Want → Standing → Standing → Type 0
StepsBy (want.Event e) p q = MadeEvent e p q
StepsBy (want.Draw lock) p q = DrewTicket lock p q
StepsBy (want.Look lock) p q = LookedOnce p q
StepsBy (want.Waiting lock) p q = CountedLater lock p q
StepsBy (want.Leave lock carry) p q = LeftQueue carry p q
StepsBy want.Done p q = q ≡ p

abbrev pub step_of : Option Reply → Step
step_of None = Going
step_of (Some reply) = Ended reply

-- what a client is behind these turns: its call is under way, or has ended with this reply
abbrev pub EndsWith : Step → Machine → Type 0
EndsWith Going m = is_resting m ≡ false
EndsWith (Ended reply) m = reply_of m ≡ Some reply

-- The actor behind its turn: one ended call more where the call ends; else the call goes on.
abbrev pub GoesOrEnds : Bool → (seat : ℕ) → Actor → List Entry → Machine → Actor → Type 0
GoesOrEnds true seat a log m b = b.dones ≡ a.dones ++ done_of seat a log m ∷ []
GoesOrEnds false seat a log m b = (b.dones ≡ a.dones) × (b.first ≡ a.first) × (b.number ≡ a.number)

-- The pass's actor took a turn on a log that begins with all that the pass had seen; and that begins what it has seen now.
-- All its ended calls are answered within what it has seen now, and it has learnt no note.
pub record TookTurn (p q : Standing) : Type 0 where
  pub log : List Entry
  pub begins : Begins p.view.seen log
  pub seen : Begins p.view.seen q.view.seen
  pub seat_is : view_seat q.view ≡ view_seat p.view
  pub cards : q.view.cards ≡ p.view.cards
  pub call : q.client.registers.call ≡ p.client.registers.call
  pub busy : has_ended q.client.phase ≡ false → is_resting q.client ≡ false
  pub answered : HasAnswers q.view.seen (view_seat q.view) (pass_actor q)
  pub goes : GoesOrEnds (has_ended q.client.phase) (view_seat p.view) (pass_actor p) log q.client (pass_actor q)

-- so many turns, each just the one that the client wanted
abbrev pub TookTurns : (count : ℕ) → Standing → Standing → Type 0
TookTurns zero p q = q ≡ p
TookTurns (suc count) p q = (m : Standing) × TookTurns count p m × StepsBy (want_of m.client) m q

-- no more turns than these, and all of them where the call hasn't ended
pub record TookUpTo (limit : ℕ) (step : Step) (p q : Standing) : Type 0 where
  pub count : ℕ
  pub took : TookTurns count p q
  pub within : count ≤ limit
  pub all : step ≡ Going → count ≡ limit
