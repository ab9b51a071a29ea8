-- The invariant of clients over one pool, and the laws that keep it, whatever the order of their turns.
use Rattle.std.specs.Prelude.{◌≡◌, ◌≢◌, ◌⊎◌, ℕ, ◌<◌, ◌≤◌, true, List, [], ◌++◌, length, Some, None}
use Rattle.sh_base.specs.{declared.{config.ConfigParts.{ConfigParts}, event.Event.{Event}}, Setting.{all_seats}, Layout.{counter_word, compute_of, lock_of}, Memory.{apply, found_by}}
use Rattle.sh_base.specs.declared.event.Event.TheVariants as event
use Rattle.sh_map.specs.{declared.{call.Call.{Call}, log.Entry.{Entry as LogEntry}}, Calls.{IsInRange}}
use Rattle.sh_state.specs.{TreeState.{Pending, Skipped, Seat, Grant, Held, Owns, TreeState}, Ground.{Ground}}
use Rattle.sh_acts.specs.Counters.{Bounded}
use Rattle.sh_decide.specs.declared.state.Aim.{Aim}
use Rattle.sh_client.specs.{declared.state.{Then.{Then}, Want.{Want}, Phase.TheVariants.{Look, Leave, Ended}}, Machine.{Machine}, Giving.{makes}, Rests.{is_resting}, Wants.{want_of}}
use Rattle.sh_client.specs.declared.state.Want.TheVariants as want
use Rattle.sh_core.specs.{Actors.{Actor, actor_begun, made_by, rested, actor_stepped, actor_turned}, Keeps.{KeepsActor}}

-- a client is to count a server's counter on
abbrev pub WantsAdd : ConfigParts → (server : ℕ) → Machine → Type 0
WantsAdd p server m = want_of m ≡ want.Event (event.Add (counter_word p server))

-- a seat's actor is
abbrev pub SomeAdds : ConfigParts → (Has : ℕ → Actor → Type 0) → (server seat : ℕ) → Type 0
SomeAdds p Has server seat = (a : Actor) × Has seat a × WantsAdd p server a.client

-- The invariant over the words, the log, the relation that says which actor a seat has, and the rights that are out: the
-- lock, the compute server, and how often the lock was handed over. A seat that has done anything has an actor.
pub record Inv (p : ConfigParts) (words : List ℕ) (log : List LogEntry) (Has : ℕ → Actor → Type 0) (Out : (lock compute depth : ℕ) → Type 0) : Type 0 where
  pub scene : TreeState
  pub log_is : scene.log ≡ log
  pub ground : Ground p words scene
  pub bounded : (server : ℕ) → server < p.servers → Bounded p.chunks (all_seats p) (scene.counter server) (λ seat. SomeAdds p Has server seat)
  pub kept : (seat : ℕ) (a : Actor) → Has seat a → KeepsActor p scene seat a
  pub held : (seat lock : ℕ) → Owns (scene.hold lock) (Seat seat) → (a : Actor) × Has seat a
  pub pends : (seat n : ℕ) → scene.post n ≡ Pending seat → (a : Actor) × Has seat a
  pub skips : (seat n : ℕ) → scene.post n ≡ Skipped seat → (a : Actor) × Has seat a
  pub makes : (seat : ℕ) → made_by seat scene.log ≢ [] → (a : Actor) × Has seat a
  pub given : (lock compute depth : ℕ) → scene.hold lock ≡ Held (Grant compute) depth → Out lock compute depth
  pub out : (lock compute depth : ℕ) → Out lock compute depth → scene.hold lock ≡ Held (Grant compute) depth

-- the seat has this actor from now on, and the other seats have theirs
pub record Moves (Has : ℕ → Actor → Type 0) (seat : ℕ) (a : Actor) (Now : ℕ → Actor → Type 0) : Type 0 where
  pub back : (j : ℕ) (b : Actor) → Now j b → ((j ≡ seat) × (b ≡ a)) ⊎ ((j ≢ seat) × Has j b)
  pub here : Now seat a
  pub on : (j : ℕ) (b : Actor) → j ≢ seat → Has j b → Now j b

-- The law: the turn of the wanted event keeps the invariant. An update's entry comes into the log with its last store.
abbrev pub TurnKeeps : ConfigParts → Type 1
TurnKeeps p = (words : List ℕ) (log : List LogEntry) (Has Now : ℕ → Actor → Type 0) (Out : ℕ → ℕ → ℕ → Type 0) (seat : ℕ) (a : Actor) (e : Event) → Inv p words log Has Out → Has seat a → want_of a.client ≡ want.Event e
    → Moves Has seat (actor_stepped seat a log (found_by words e)) Now → Inv p (apply words e) (log ++ makes a.client) Now Out

-- a turn that the client's own compute server answers: a ticket, a look that waits, a count, or leave of the queue
abbrev pub IsLocal : Want → Type 0
IsLocal (want.Event e) = ⊥
IsLocal (want.Draw lock) = Unit {0}
IsLocal (want.Look lock) = Unit {0}
IsLocal (want.Waiting lock) = Unit {0}
IsLocal (want.Leave lock None) = Unit {0}
IsLocal (want.Leave lock (Some depth)) = ⊥
IsLocal want.Done = ⊥

-- what a seat has seen of the log, and no less than it had
pub record HasSeen (log seen : List LogEntry) (a : Actor) : Type 0 where
  pub rest : List LogEntry
  pub whole : log ≡ seen ++ rest
  pub more : a.seen ≤ length seen

-- a local turn keeps it, whatever it was answered
abbrev pub LocalKeeps : ConfigParts → Type 1
LocalKeeps p = (words : List ℕ) (log seen : List LogEntry) (Has Now : ℕ → Actor → Type 0) (Out : ℕ → ℕ → ℕ → Type 0) (seat word : ℕ) (a : Actor) → Inv p words log Has Out → Has seat a → IsLocal (want_of a.client) → HasSeen log seen a
    → Moves Has seat (actor_stepped seat a seen word) Now → Inv p words log Now Out

-- so does a look that had its turn, where no right was in the queue
abbrev pub LookKeeps : ConfigParts → Type 1
LookKeeps p = (words : List ℕ) (log seen : List LogEntry) (Has Now : ℕ → Actor → Type 0) (Out : ℕ → ℕ → ℕ → Type 0) (seat : ℕ) (a : Actor) (aim : Aim) (n : ℕ) → Inv p words log Has Out → Has seat a → a.client.phase ≡ Look aim n → HasSeen log seen a
    → Moves Has seat (actor_turned seat a seen None) Now → Inv p words log Now Out

-- and one that took the right up
abbrev pub TakeKeeps : ConfigParts → Type 1
TakeKeeps p = (words : List ℕ) (log seen : List LogEntry) (Has Now : ℕ → Actor → Type 0) (Out After : ℕ → ℕ → ℕ → Type 0) (seat : ℕ) (a : Actor) (aim : Aim) (n depth : ℕ) → Inv p words log Has Out → Has seat a → a.client.phase ≡ Look aim n → HasSeen log seen a
    → Out (lock_of p n) (compute_of p seat) depth
    → ((lock compute d : ℕ) → After lock compute d → (lock ≢ lock_of p n) × Out lock compute d) → ((lock compute d : ℕ) → lock ≢ lock_of p n → Out lock compute d → After lock compute d)
    → Moves Has seat (actor_turned seat a seen (Some depth)) Now → Inv p words log Now After

-- a holder that leaves the queue and hands the lock over puts a right out
abbrev pub PartKeeps : ConfigParts → Type 1
PartKeeps p = (words : List ℕ) (log seen : List LogEntry) (Has Now : ℕ → Actor → Type 0) (Out After : ℕ → ℕ → ℕ → Type 0) (seat word : ℕ) (a : Actor) (n depth : ℕ) (after : Then) → Inv p words log Has Out → Has seat a → a.client.phase ≡ Leave n (Some depth) after → HasSeen log seen a
    → After (lock_of p n) (compute_of p seat) depth
    → ((lock compute d : ℕ) → After lock compute d → ((lock ≡ lock_of p n) × (compute ≡ compute_of p seat) × (d ≡ depth)) ⊎ Out lock compute d) → ((lock compute d : ℕ) → Out lock compute d → After lock compute d)
    → Moves Has seat (actor_stepped seat a seen word) Now → Inv p words log Now After

-- A seat at rest begins a call, having seen so much of the log.
abbrev pub BeginKeeps : ConfigParts → Type 1
BeginKeeps p = (words : List ℕ) (log : List LogEntry) (Has Now : ℕ → Actor → Type 0) (Out : ℕ → ℕ → ℕ → Type 0) (seat number n : ℕ) (a : Actor) (call : Call) → Inv p words log Has Out → Has seat a → is_resting a.client ≡ true → IsInRange p call → a.seen ≤ n → n ≤ length log
    → Moves Has seat (actor_begun a number call n) Now → Inv p words log Now Out

-- A call that has ended is taken away.
abbrev pub RestKeeps : ConfigParts → Type 1
RestKeeps p = (words : List ℕ) (log : List LogEntry) (Has Now : ℕ → Actor → Type 0) (Out : ℕ → ℕ → ℕ → Type 0) (seat : ℕ) (a : Actor) → Inv p words log Has Out → Has seat a → a.client.phase ≡ Ended → Moves Has seat (rested a) Now → Inv p words log Now Out

-- the seat has this actor, and the other seats have theirs
abbrev pub Instead : (Has : ℕ → Actor → Type 0) → (seat : ℕ) → Actor → ℕ → Actor → Type 0
Instead Has seat a j b = ((j ≡ seat) × (b ≡ a)) ⊎ ((j ≢ seat) × Has j b)

-- relations that say the same of actors, and of rights
pub record AreSame (Has Now : ℕ → Actor → Type 0) : Type 0 where
  pub on : (seat : ℕ) (a : Actor) → Has seat a → Now seat a
  pub back : (seat : ℕ) (a : Actor) → Now seat a → Has seat a

pub record AreSameRights (Out After : (lock compute depth : ℕ) → Type 0) : Type 0 where
  pub on : (lock compute depth : ℕ) → Out lock compute depth → After lock compute depth
  pub back : (lock compute depth : ℕ) → After lock compute depth → Out lock compute depth

-- the same actors and rights, said otherwise, have the invariant
abbrev pub SameKeeps : ConfigParts → Type 1
SameKeeps p = (words : List ℕ) (log : List LogEntry) (Has Now : ℕ → Actor → Type 0) (Out After : ℕ → ℕ → ℕ → Type 0) → Inv p words log Has Out → AreSame Has Now → AreSameRights Out After → Inv p words log Now After
