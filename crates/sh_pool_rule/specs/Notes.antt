-- What holds of notes: what their cards say of the seats that made them.
use Rattle.std.specs.{Prelude.{◌≡◌, ℕ, ◌+◌, ◌≤◌, List, [], ◌++◌, length}, List.{AllByRecursion}}
use Rattle.sh_map.specs.{declared.{log.Entry.{Entry}, book.Done.{Done}}, Book.{made}}
use Rattle.sh_core.specs.Actors.{Actor}
use Rattle.sh_pool_rule.specs.{declared.view.{Card.{Card}, Member.{Member}, Past.{Past}, PassView.{PassView}}, Views.{member, Begins, In}, Rights.{lengths_of}}

abbrev pub IsFront : {A : Type 0} → List A → List A → Type 0
IsFront {A} xs ys = (rest : List A) × (ys ≡ xs ++ rest)

-- Each ended call of the card has a point that is at most this length, and below it where the call is updating; and after
-- each note that its seat had learnt the seat had seen no more.
pub record IsCardWithin (n : ℕ) (c : Card) : Type 0 where
  pub points : AllByRecursion (λ (d : Done). d.point + made d.call d.reply ≤ n) c.dones
  pub lengths : AllByRecursion (λ (l : ℕ). l ≤ n) c.learnt

-- A card where this was seen: it says no more than its seat has noted last, nor than what was seen when it came.
pub record IsCard (noted : ℕ → Card) (seen : List Entry) (c : Card) : Type 0 where
  pub dones : IsFront c.dones (noted c.seat).dones
  pub learnt : IsFront c.learnt (noted c.seat).learnt
  pub holds : IsCardWithin c.seen c
  pub begins : Begins c.saw seen
  pub within : c.seen ≤ length seen

pub record IsPast (noted : ℕ → Card) (members : List Member) (g : Past) : Type 0 where
  pub actor : Actor
  pub here : In (member g.seat actor) members
  pub own : IsFront (noted g.seat).learnt (lengths_of g.cards)
  pub cards : AllByRecursion (IsCard noted g.seen) g.cards

-- What a view knows of notes, where each seat has noted this last: since then a seat's calls and learnt notes have only
-- become more.
pub record KnowsNotes (noted : ℕ → Card) (v : PassView) : Type 0 where
  pub cards : AllByRecursion (IsCard noted v.seen) v.cards
  pub dones : (k : ℕ) (a : Actor) → In (member k a) v.members → IsFront (noted k).dones a.dones
  pub own : v.pasts ≡ [] → (k : ℕ) (a : Actor) → In (member k a) v.members → IsFront (noted k).learnt (lengths_of v.cards)
  pub pasts : AllByRecursion (IsPast noted v.members) v.pasts
