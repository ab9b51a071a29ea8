-- What a view has: a beginning of the log, and the actors of its seats.
use Rattle.std.specs.{Prelude.{◌≡◌, ℕ, zero, suc, Some, None, List, [], ◌∷◌, ◌++◌, drop, length}, List.{AllByRecursion}}
use mathlib.Core.Option as maybe
use lib.ListN.{get_elem?}
use Rattle.sh_base.specs.{declared.config.ConfigParts.{ConfigParts}, Setting.{all_seats, default_parts}}
use Rattle.sh_map.specs.declared.log.Entry.{Entry}
use Rattle.sh_core.specs.{Actors.{Actor}, Opening.{entered}}
use Rattle.sh_pool_rule.specs.declared.view.{PassView.{PassView}, Member.{Member}, Past.{Past}, LockRight.{LockRight}, Tiding.{Tiding}}

abbrev pub member : ℕ → Actor → Member
member k a = record { seat = k; actor = a }

abbrev pub lock_right : (lock compute depth : ℕ) → LockRight
lock_right lock compute depth = record { lock = lock; compute = compute; depth = depth }

-- what stands for an actor where there is none
abbrev pub nobody : Actor
nobody = entered default_parts 0

-- a view that has seen this, and nothing more
abbrev pub bare_view : List Entry → PassView
bare_view seen = record { seen = seen; members = []; pasts = []; cards = []; right = None; life = []; heard = 0; gave = 0; took = 0 }

-- what is left of a view that was taken in
abbrev pub empty_view : PassView
empty_view = bare_view []

-- so many new actors, from this seat on
abbrev pub members_from : ConfigParts → (seat count : ℕ) → List Member
members_from p seat zero = []
members_from p seat (suc count) = member seat (entered p seat) ∷ members_from p (suc seat) count

-- the first view of a table: it has all seats' actors
abbrev pub opening_view : ConfigParts → PassView
opening_view p = record (bare_view []) { members = members_from p 0 (all_seats p) }

-- a pass's seat, and its actor as its view was told of it last
abbrev pub first_member : List Member → Member
first_member [] = member 0 nobody
first_member (m ∷ ms) = m

abbrev pub own : PassView → Actor
own v = (first_member v.members).actor

abbrev pub view_seat : PassView → ℕ
view_seat v = (first_member v.members).seat

-- what a view is told with a step: how many calls on the pass's chair it then knows of, and the life so far
pub record Tale : Type 0 where
  pub heard : ℕ
  pub life : List Tiding

abbrev pub no_tale : Tale
no_tale = record { heard = 0; life = [] }

-- one log is the beginning of another
abbrev pub Begins : List Entry → List Entry → Type 0
Begins xs ys = (rest : List Entry) × (ys ≡ xs ++ rest)

abbrev pub AllBegin : List Past → List Entry → Type 0
AllBegin pasts log = AllByRecursion (λ (g : Past). Begins g.seen log) pasts

-- of two beginnings of one log the longer one; said so, the first begins it in any case
abbrev pub longer : List Entry → List Entry → List Entry
longer xs ys = xs ++ drop (length xs) ys

abbrev pub In : Member → List Member → Type 0
In m ms = (i : ℕ) × (get_elem? ms i ≡ maybe.some m)

-- some view has the actor a as that of the seat k
abbrev pub Has : List PassView → ℕ → Actor → Type 0
Has views k a = (id : ℕ) × (v : PassView) × (get_elem? views id ≡ maybe.some v) × In (member k a) v.members

-- some view is this right
abbrev pub Out : List PassView → (lock compute depth : ℕ) → Type 0
Out views lock compute depth = (id : ℕ) × (v : PassView) × (get_elem? views id ≡ maybe.some v) × (v.right ≡ Some (lock_right lock compute depth))
