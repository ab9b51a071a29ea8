-- What it says of a pass that a note was made, or learnt.
use Rattle.std.specs.{Prelude.{◌≡◌, Option, None, Some, List, [], ◌∷◌, ◌++◌, length}, List.{AllByRecursion}}
use Rattle.atomic_table.specs.Seated.{TableId}
use Rattle.sh_pool_rule.specs.{declared.view.{Card.{Card}}, Views.{view_seat, Begins}, Rights.{card_of, lengths_of}, Notes.{IsCardWithin, IsFront}}
use Rattle.sh_pool.specs.Passes.{pass_actor, IsPass, PoolTable, Standing}

-- A note: its table, and its card, which has its pass's seat, the calls of the pass that had ended, the lengths that it had
-- seen after each note that it had learnt, and what it had seen.
pub record NoteState : Type 0 where
  pub table : TableId
  pub card : Card

-- the pool is laid, and the note is one of it
abbrev pub IsNoteOf : Option PoolTable → NoteState → Type 0
IsNoteOf None n = ⊥
IsNoteOf (Some t) n = n.table ≡ t.table

-- the pass's seat, its client and its ended calls stay
pub record KeepsCalls (p q : Standing) : Type 0 where
  pub pass : IsPass q
  pub client : q.client ≡ p.client
  pub seat_is : view_seat q.view ≡ view_seat p.view
  pub actor : pass_actor q ≡ pass_actor p

pub record HasNoted (p q : Standing) (n : NoteState) : Type 0 where
  pub card : n.card ≡ card_of (pass_actor p) p.view
  pub kept : KeepsCalls p q
  pub seen : q.view.seen ≡ p.view.seen
  pub cards : q.view.cards ≡ p.view.cards

-- The pass has seen what it had, and what the note carries; it has learnt one note more, at the length seen now.
pub record HasLearnt (c : Card) (p q : Standing) : Type 0 where
  pub kept : KeepsCalls p q
  pub before : Begins p.view.seen q.view.seen
  pub told : Begins c.saw q.view.seen
  pub cards : q.view.cards ≡ p.view.cards ++ record c { seen = length q.view.seen } ∷ []

-- ---- at the end

-- The card's calls are the pass's first ones, and its lengths the pass's first ones. They come to no more than what was seen
-- when the note was learnt.
pub record HasHeard (c : Card) (r : Standing) : Type 0 where
  pub dones : IsFront c.dones (pass_actor r).dones
  pub learnt : IsFront c.learnt (lengths_of r.view.cards)
  pub holds : IsCardWithin c.seen c

-- of each note that one of these passes has learnt, and the pass that made it
abbrev pub HeardFrom : List Standing → Card → Type 0
HeardFrom qs c = AllByRecursion (λ (r : Standing). view_seat r.view ≡ c.seat → HasHeard c r) qs

abbrev pub HasItsNotes : List Standing → Standing → Type 0
HasItsNotes qs q = AllByRecursion (HeardFrom qs) q.view.cards
