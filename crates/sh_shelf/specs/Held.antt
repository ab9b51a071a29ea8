-- What clauses see of a keeper, of what it tells, and of a looker.
use Rattle.std.specs.Prelude.{◌≡◌, ℕ, ◌≤◌, List, [], ◌∷◌, ◌++◌}
use Rattle.logbook.specs.Pages.{Book, Named}
use Rattle.sh_image.specs.Inner.{Inner}
use Rattle.sh_shelf.specs.{Shelf.{shelf_of, AreRising}, Book.{Fronted, head_of}, Racked.{Racked, Offering, IsShown, Follows, routes_in}}

-- which shelf, for how many rows it has room, the offers that are published, and those that are not yet
pub record Keeping : Type 0 where
  pub shelf : Book
  pub room : ℕ
  pub published : List Inner
  pub pending : List Inner

-- which shelf, for how many rows it has room, and a list of its offers
pub record Looking : Type 0 where
  pub shelf : Book
  pub room : ℕ
  pub offers : List Inner

-- the rows of offers, in reserved room
pub record IsCopy (room capacity : ℕ) (rows : List Inner) (front : Fronted) : Type 0 where
  pub reserved : room ≤ capacity
  pub rows_are : rows ≡ shelf_of room front.log

-- a state of the shelf of which there is a copy
pub record IsOf (room : ℕ) (front : Fronted) (b : Racked) : Type 0 where
  pub room_is : b.room ≡ room
  pub book_is : b.front.book ≡ front.book

-- the state that it saw last is of that shelf
abbrev pub Knows : (room : ℕ) → Fronted → List Racked → Type 0
Knows room front [] = ⊥
Knows room front (b ∷ bs) = IsOf room front b

-- The keeper has room for the published rows in rising order.
pub record IsRisen (x : Racked) (capacity : ℕ) (rising : List Inner) : Type 0 where
  pub reserved : x.room ≤ capacity
  pub is : AreRising x.rows rising

-- The keeper knows the word that counts the offers, and all that were made: those on the shelf, and in their order those
-- that the writer has and those that wait.
pub record IsKeeper (head : Named) (front : Fronted) (x : Racked) (logged waiting : List Offering) : Type 0 where
  pub head_is : head ≡ head_of front.book
  pub shown : IsShown x
  pub follows : Follows x.front (logged ++ waiting)
  pub whole : front ≡ record { book = x.front.book; log = x.front.log ++ routes_in (logged ++ waiting) }
