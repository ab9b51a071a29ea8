-- One copy of the shelf, and what the keeper and the lookers know of it.
use Rattle.std.specs.{Prelude.{◌≡◌, ℕ, ◌≤◌, List, [], ◌∷◌, ◌++◌, length}, List.{AllByRecursion}}
use mathlib.Core.Option.{some}
use lib.ListN.{get_elem?}
use Rattle.sh_image.specs.Inner.{Inner}
use Rattle.sh_cache.specs.Cached.{kept}
use Rattle.sh_shelf.specs.{Shelf.{shelf_of}, Book.{Fronted}}

-- for how many rows it has room, its rows, and the offers that they come from
pub record Racked : Type 0 where
  pub room : ℕ
  pub rows : List Inner
  pub front : Fronted

-- an offer, with all offers up to it
pub record Offering : Type 0 where
  pub route : Inner
  pub front : Fronted

-- a copy of the shelf that takes an offer in
abbrev pub with_offer : Racked → Offering → Racked
with_offer x o = record { room = x.room; rows = kept x.room x.rows o.route; front = o.front }

-- the rows are within the room, and all of it is reserved
pub record IsRack (room capacity : ℕ) (rows : List Inner) : Type 0 where
  pub reserved : room ≤ capacity
  pub within : length rows ≤ room

-- the rows are those of the offers
pub record IsShown (x : Racked) : Type 0 where
  pub rows : x.rows ≡ shelf_of x.room x.front.log

-- both are states of one shelf
pub record IsSame (x b : Racked) : Type 0 where
  pub room : b.room ≡ x.room
  pub book : b.front.book ≡ x.front.book

-- what each seat knows is of this shelf
pub record Holds (x : Racked) (views : List (List Racked)) : Type 0 where
  pub shown : IsShown x
  pub known : (seat : ℕ) (v : List Racked) → get_elem? views seat ≡ some v → AllByRecursion (IsSame x) v

-- what is on the shelf is known
pub record Sees (v : List Racked) (y : Racked) (w : List Racked) : Type 0 where
  pub shown : IsShown y
  pub same : AllByRecursion (IsSame y) v
  pub known : w ≡ y ∷ []

-- what these offers put on the shelf
abbrev pub routes_in : List Offering → List Inner
routes_in [] = []
routes_in (o ∷ os) = o.route ∷ routes_in os

-- each offer comes after those before it, in the book of the shelf
abbrev pub Follows : Fronted → List Offering → Type 0
Follows f [] = Unit {0}
Follows f (o ∷ os) = (o.front ≡ record { book = f.book; log = f.log ++ o.route ∷ [] }) × Follows o.front os

-- what publishing these offers leaves
pub record IsAfter (x : Racked) (offers : List Offering) (y : Racked) : Type 0 where
  pub shown : IsShown y
  pub same : IsSame y x
  pub log : y.front ≡ record { book = x.front.book; log = x.front.log ++ routes_in offers }

-- what the keeper puts there is known to it
abbrev pub Puts : List Racked → Racked → Racked → List Racked → Type 0
Puts v x y w = w ≡ y ∷ []
