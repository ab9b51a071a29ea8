-- Views that are cut in two or joined: a right is parted with or taken up, and passes are made and taken in.
use Rattle.std.specs.Prelude.{◌≡◌, ℕ, ◌+◌, Option, None, Some, List, [], ◌∷◌, ◌++◌, length, map}
use Rattle.sh_base.specs.{Layout.{compute_of, lock_of}, declared.config.ConfigParts.{ConfigParts}}
use Rattle.sh_decide.specs.declared.state.Aim.{Aim}
use Rattle.sh_client.specs.{declared.state.{Phase.{Phase, TheVariants.{Leave, Look}}, Then.{Then}}, Machine.{Machine}}
use Rattle.sh_core.specs.Actors.{Actor, actor_stepped, actor_turned}
use Rattle.sh_pool_rule.specs.declared.view.{PassView.{PassView}, Card.{Card}, Member.{Member}, Past.{Past}, LockRight.{LockRight}, Tiding.TheVariants.{TurnTold, WordTold}}
use Rattle.sh_pool_rule.specs.Views.{bare_view, member, lock_right, longer, view_seat, Tale}

-- the right that a client hands over
abbrev pub right_if : Machine → (node : ℕ) → Option ℕ → Option LockRight
right_if m node None = None
right_if m node (Some depth) = Some (lock_right (lock_of m.setting node) (compute_of m.setting m.seat) depth)

abbrev pub right_in : Machine → Phase → Option LockRight
right_in m (Leave node carry after) = right_if m node carry
right_in m phase = None

abbrev pub right_by : Machine → Option LockRight
right_by m = right_in m m.phase

-- the pass has left the queue, and a right to the lock is out
abbrev pub parted_view : Actor → Tale → PassView → PassView
parted_view a tale v = record v { members = member (view_seat v) (actor_stepped (view_seat v) a v.seen 0) ∷ []; life = WordTold 0 ∷ tale.life; heard = tale.heard; gave = v.gave + 1 }

abbrev pub right_view : Actor → PassView → PassView
right_view a v = record (bare_view v.seen) { right = right_by a.client }

abbrev pub depth_of : Option LockRight → Option ℕ
depth_of None = None
depth_of (Some c) = Some c.depth

-- the pass has the lock, which was handed over to it
abbrev pub taken_view : Actor → Tale → PassView → PassView → PassView
taken_view a tale v w = record v { seen = longer v.seen w.seen; members = member (view_seat v) (actor_turned (view_seat v) a (longer v.seen w.seen) (depth_of w.right)) ∷ []; life = TurnTold (depth_of w.right) ∷ tale.life; heard = tale.heard; took = v.took + 1 }

-- the client is at the handing over of a lock
pub record IsHanding (m : Machine) : Type 0 where
  pub node : ℕ
  pub depth : ℕ
  pub behind : Then
  pub phase : m.phase ≡ Leave node (Some depth) behind

-- it looks, and the right is the one to the lock for which it looks
pub record MeetsRight (p : ConfigParts) (seat : ℕ) (m : Machine) (right : Option LockRight) : Type 0 where
  pub aim : Aim
  pub node : ℕ
  pub phase : m.phase ≡ Look aim node
  pub depth : ℕ
  pub is : right ≡ Some (lock_right (lock_of p node) (compute_of p seat) depth)

-- the first seat of a view leaves it, and has a view of its own
abbrev pub first_in : List Member → List Member
first_in [] = []
first_in (m ∷ ms) = m ∷ []

abbrev pub rest_in : List Member → List Member
rest_in [] = []
rest_in (m ∷ ms) = ms

abbrev pub less_first : PassView → PassView
less_first v = record v { members = rest_in v.members }

abbrev pub first_alone : PassView → PassView
first_alone v = record (bare_view v.seen) { members = first_in v.members }

abbrev pub past_of : PassView → Past
past_of w = record { seat = view_seat w; seen = w.seen; cards = w.cards }

-- a view takes another in, with its seats
abbrev pub joined_view : PassView → PassView → PassView
joined_view v w = record v { seen = longer v.seen w.seen; members = v.members ++ w.members; pasts = v.pasts ++ past_of w ∷ []; gave = v.gave + w.gave; took = v.took + w.took }

-- the view is told of all that its pass has done
abbrev pub told_view : Actor → Tale → PassView → PassView
told_view a tale v = record v { members = member (view_seat v) a ∷ []; life = tale.life; heard = tale.heard }

-- ---- notes

-- what its pass has seen after each of the notes that it has learnt
abbrev pub lengths_of : List Card → List ℕ
lengths_of cards = map (λ (c : Card). c.seen) cards

-- the card of a seat that has made no note
abbrev pub blank_card : Card
blank_card = record { seat = 0; dones = []; learnt = []; saw = []; seen = 0 }

-- the card of a note that the pass makes
abbrev pub card_of : Actor → PassView → Card
card_of a v = record { seat = view_seat v; dones = a.dones; learnt = lengths_of v.cards; saw = v.seen; seen = length v.seen }

abbrev pub first_card : List Card → Card
first_card [] = blank_card
first_card (c ∷ cs) = c

-- a view that is a note
abbrev pub card_view : Card → PassView
card_view c = record (bare_view c.saw) { cards = c ∷ [] }

abbrev pub note_view : Actor → PassView → PassView
note_view a v = card_view (card_of a v)

-- cards that come to a pass that has seen so much then
abbrev pub moved_cards : (seen : ℕ) → List Card → List Card
moved_cards n cards = map (λ (c : Card). record c { seen = n }) cards

-- the pass has learnt a note: it has seen what the note carries, too
abbrev pub learnt_view : Actor → Tale → PassView → PassView → PassView
learnt_view a tale v w = record (told_view a tale v) { seen = longer v.seen w.seen; cards = v.cards ++ moved_cards (length (longer v.seen w.seen)) w.cards }
