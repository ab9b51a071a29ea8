-- The turns that a client takes, one after another, and what each of them found.
use Rattle.std.specs.Prelude.{◌≡◌, ℕ, List, [], ◌∷◌, Option}
use Rattle.sh_client.specs.{declared.state.Want.{Want}, Machine.{Machine}, Wants.{want_of}, Feeds.{fed_by, turned_by}}
use Rattle.sh_client.specs.declared.state.Want.TheVariants as want

-- What a turn found: a word, which its event found or its compute server answered; or that its look had the turn, with the
-- depth of a lock that was handed over.
pub data Found : Type 0 where
  Word : (word : ℕ) → Found
  Turn : (depth : Option ℕ) → Found

-- a turn that was taken
pub record Taken : Type 0 where
  pub want : Want
  pub found : Found

abbrev pub turn_found : Want → Found → Taken
turn_found want found = record { want = want; found = found }

-- the client behind a turn
abbrev pub machine_behind : Machine → Found → Machine
machine_behind m (Word word) = fed_by m word
machine_behind m (Turn depth) = turned_by m depth

-- the client behind turns that found these, the last turn's first
abbrev pub reached : Machine → List Found → Machine
reached m [] = m
reached m (x ∷ xs) = machine_behind (reached m xs) x

-- its turns, the last one first
abbrev pub turns_taken : Machine → List Found → List Taken
turns_taken m [] = []
turns_taken m (x ∷ xs) = turn_found (want_of (reached m xs)) x ∷ turns_taken m xs

-- a turn that is none finds nothing, and only a look may have its turn
abbrev pub MayFind : Want → Found → Type 0
MayFind want.Done found = ⊥
MayFind (want.Look lock) found = Unit {0}
MayFind w (Word word) = Unit {0}
MayFind w (Turn depth) = ⊥

abbrev pub AreFound : Machine → List Found → Type 0
AreFound m [] = Unit {0}
AreFound m (x ∷ xs) = MayFind (want_of (reached m xs)) x × AreFound m xs

-- by these turns, the last one first, a client came from m to n
pub record IsCallCourse (m : Machine) (turns : List Taken) (n : Machine) : Type 0 where
  pub founds : List Found
  pub may : AreFound m founds
  pub turns_are : turns ≡ turns_taken m founds
  pub client_is : n ≡ reached m founds
