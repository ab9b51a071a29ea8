-- The rule of the table of a pool's words: the core's invariant over the words, the longest log that a view has seen, and
-- the actors and rights that stand in the views.
use Rattle.std.specs.Prelude.{◌≡◌, ℕ, ◌+◌, ◌%◌, ◌^◌, ◌==◌, ◌≤◌, false, Some, List, [], ◌∷◌, ◌++◌, length, set}
use prog.Atomic.{either}
use mathlib.Core.Option as maybe
use lib.ListN.{get_elem?}
use Rattle.sh_base.specs.{declared.{config.ConfigParts.{ConfigParts}, event.Event.{Event, TheVariants.{Load, Store, Exchange, Add}}}, Memory.{apply, found_by}, Setting.{IsSetting}}
use Rattle.sh_map.specs.{declared.{book.Done.{Done}, log.Entry.{Entry}}, Log.{IsLegal}}
use Rattle.sh_client.specs.declared.state.Want.TheVariants as want
use Rattle.sh_client.specs.{Giving.{makes}, Wants.{want_of}}
use Rattle.sh_core.specs.{Actors.{Actor, actor_stepped}, Causes.{HaveCauses}, Core.{Inv}}
use Rattle.sh_core_turns.specs.Senses.{is_senseless}
use Rattle.sh_core_says.specs.{Books.{counter_in, IsBookOf, IsLawfulBook}, Moments.{IsMoment}}
use Rattle.sh_local.specs.Calls.{total, weight}
use Rattle.sh_pool_rule.specs.declared.view.{PassView.{PassView}, Card.{Card}, Member.{Member}, LockRight.{LockRight}, Tiding.TheVariants.{WordTold}}
use Rattle.sh_pool_rule.specs.{Views.{member, Begins, AllBegin, In, Has, Out, view_seat, Tale}, Notes.{KnowsNotes}, Untold.{StaysAnswered}}

-- What a view knows: a beginning of the log, in which all stands that its actors have seen. A seat's actor is in one view,
-- and so is a right. A view with no actor has parted with no right, and taken none up.
pub record KnowsLog (log : List Entry) (home bearer : ℕ → ℕ) (id : ℕ) (v : PassView) : Type 0 where
  pub begins : Begins v.seen log
  pub pasts : AllBegin v.pasts log
  pub here : (k : ℕ) (a : Actor) → In (member k a) v.members → (home k ≡ id) × (a.seen ≤ length v.seen)
  pub right : (c : LockRight) → v.right ≡ Some c → bearer c.lock ≡ id
  pub idle : ((m : Member) → In m v.members → ⊥) → (v.gave ≡ 0) × (v.took ≡ 0)

-- a view that has a seat's actor has seen the whole log
pub record SeesAll (views : List PassView) (log : List Entry) : Type 0 where
  pub id : ℕ
  pub view : PassView
  pub at : get_elem? views id ≡ maybe.some view
  pub whole : view.seen ≡ log
  pub some : Member
  pub live : In some view.members

-- how many rights the views have parted with, have taken up, and are
abbrev pub all_given : List PassView → ℕ
all_given views = total (λ (v : PassView). v.gave) views

abbrev pub all_taken : List PassView → ℕ
all_taken views = total (λ (v : PassView). v.took) views

abbrev pub all_out : List PassView → ℕ
all_out views = total (λ (v : PassView). weight v.right) views

-- The rule. Each right that was parted with was taken up or is out.
pub record KeepsPool (p : ConfigParts) (words : List ℕ) (views : List PassView) : Type 0 where
  pub ok : IsSetting p
  pub log : List Entry
  pub inv : Inv p words log (Has views) (Out views)
  pub top : SeesAll views log
  pub home : ℕ → ℕ
  pub bearer : ℕ → ℕ
  pub even : all_given views ≡ all_taken views + all_out views
  pub each : (id : ℕ) (v : PassView) → get_elem? views id ≡ maybe.some v → KnowsLog log home bearer id v
  pub noted : ℕ → Card
  pub notes : (id : ℕ) (v : PassView) → get_elem? views id ≡ maybe.some v → KnowsNotes noted v

-- What the rule says of a table at any moment. There is one log, a legal one, of which each view has seen a front, and one with
-- an actor the whole. The standing words hold a lawful tree with the log's map, and each lock word is its holder's. The ended
-- calls of all views, in each order that keeps every seat's own, are a lawful book, in which each refusal has its cause.
pub record PoolSays (p : ConfigParts) (words : List ℕ) (views : List PassView) : Type 0 where
  pub log : List Entry
  pub legal : IsLegal log
  pub fronts : (id : ℕ) (v : PassView) → get_elem? views id ≡ maybe.some v → Begins v.seen log
  pub whole : SeesAll views log
  pub moment : IsMoment p words log (Has views) (Out views)
  pub book : (dones : List Done) → IsBookOf (Has views) dones → IsLawfulBook (Has views) log dones
  pub causes : (dones : List Done) → IsBookOf (Has views) dones → HaveCauses p (counter_in p words) log dones

-- what an event leaves of its word, and what the client is told of the word found
abbrev pub word_left : Event → ℕ → ℕ
word_left (Load at) n = n
word_left (Store at word) n = word
word_left (Exchange at old new) n = either (n == old) new n
word_left (Add at) n = (n + 1) % 2 ^ 64

abbrev pub word_told : Event → ℕ → ℕ
word_told (Store at word) n = 0
word_told (Load at) n = n
word_told (Exchange at old new) n = n
word_told (Add at) n = n

-- the view behind an event, on this log, that found this word
abbrev pub event_view : Actor → Tale → PassView → List Entry → (word : ℕ) → PassView
event_view a tale v log word = record v { seen = log ++ makes a.client; members = member (view_seat v) (actor_stepped (view_seat v) a log word) ∷ []; life = WordTold word ∷ tale.life; heard = tale.heard }

-- The moment of an event: the words and the views of the table that it found, where the pass's view is v, and what it leaves,
-- where only its word and this view, which is w now, are other ones; both keep the rule. The word that the client is fed is
-- the one found; behind the event the standing words hold a lawful tree with the map of all that the pass has seen now, which
-- is the whole log, and a legal one; and each lock word is its holder's.
pub record EventMoment (p : ConfigParts) (e : Event) (word : ℕ) (v w : PassView) : Type 0 where
  pub words : List ℕ
  pub views : List PassView
  pub id : ℕ
  pub at : get_elem? views id ≡ maybe.some v
  pub before : KeepsPool p words views
  pub after : KeepsPool p (apply words e) (set views id w)
  pub found : word ≡ found_by words e
  pub holds : IsMoment p (apply words e) w.seen (Has (set views id w)) (Out (set views id w))
  pub legal : IsLegal w.seen

-- The actor made the event that its client wanted, on a log that begins with all that its view had seen, and was fed this
-- word, which makes sense to it. Its ended calls are answered within what was seen, and stay so.
pub record TookEvent (a : Actor) (tale : Tale) (v : PassView) (word : ℕ) (w : PassView) : Type 0 where
  pub event : Event
  pub wanted : want_of a.client ≡ want.Event event
  pub log : List Entry
  pub begins : Begins v.seen log
  pub is : w ≡ event_view a tale v log word
  pub sense : is_senseless a.client word ≡ false
  pub answered : StaysAnswered a.client.setting (view_seat v) (log ++ makes a.client) (actor_stepped (view_seat v) a log word)
  pub moment : EventMoment a.client.setting event word v w
