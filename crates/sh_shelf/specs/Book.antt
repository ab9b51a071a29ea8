-- The book of a shelf's offers: its rule, and what its steps tell.
use Rattle.std.specs.Prelude.{ℕ, ◌≡◌, ◌==◌, true, List, [], ◌∷◌, ◌++◌, length, MatchBool}
use Rattle.logbook.specs.Pages.{Cell, Step, View, Book, Named}
use Rattle.sh_image.specs.Inner.{Inner}

-- a beginning of a book's offers that was seen
pub record Fronted : Type 0 where
  pub book : Book
  pub log : List Inner

-- The first word counts the offers. A book has two words, of which this one leaves the second at 0.
pub record IsKept (cells : List Cell) (log : List Inner) : Type 0 where
  pub words : cells ≡ (length log, true) ∷ (0, true) ∷ []

-- the word that counts a book's offers
abbrev pub head_of : Book → Named
head_of b = record { tracked = true; key = 0; book = b }

-- the offer was added to all that had been seen; or there were more, and they were seen
abbrev pub Adds : Step Inner → View Inner ℕ → ℕ → View Inner ℕ → Type 0
Adds s v found w = MatchBool (found == s.old) (w.0 ≡ v.0 ++ s.ask ∷ []) (length w.0 ≡ found)
