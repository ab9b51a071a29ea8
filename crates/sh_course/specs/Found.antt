-- What turns show, in words of the turns alone. The last turn stands first.
use Rattle.std.specs.Prelude.{◌≡◌, ◌⊎◌, ℕ, ◌+◌, ◌-◌, ◌<◌, ◌≤◌, ◌==◌, ◌&&◌, if◌then◌else◌, List, [], ◌∷◌, ◌++◌, length, Option, Some, None}
use Rattle.sh_base.specs.{declared.{config.ConfigParts.{ConfigParts}, event.Event.TheVariants.{Load, Store, Exchange, Add}}, Layout.{counter_word, lock_of, lock_word, node_word}}
use Rattle.sh_base.specs.Setting.{first_node_word, node_size, IsNode}
use Rattle.sh_client.specs.declared.state.Want.{Want}
use Rattle.sh_client.specs.declared.state.Want.TheVariants as want
use Rattle.sh_course.specs.Turns.{turn_found, Found, Taken, Turn, Word}

-- A turn takes a lock, gives it back, or leaves it as it was: an exchange of its word that found 0 takes it with depth 0, and
-- a look that had the turn with a depth takes it with that; a store to its word and a leave of its queue give it back.
abbrev pub holds_by : ConfigParts → (lock : ℕ) → Want → Found → (before : Option ℕ) → Option ℕ
holds_by p lock (want.Event (Exchange at old new)) (Word word) before = if (at == lock_word p lock) && (word == 0) then Some 0 else before
holds_by p lock (want.Event (Store at word)) found before = if at == lock_word p lock then None else before
holds_by p lock (want.Look l) (Turn (Some depth)) before = if l == lock then Some depth else before
holds_by p lock (want.Leave l carry) found before = if l == lock then None else before
holds_by p lock w found before = before

-- how often the lock that is held behind these turns was handed over; none where it isn't held
abbrev pub holds : ConfigParts → (lock : ℕ) → List Taken → Option ℕ
holds p lock [] = None
holds p lock (t ∷ turns) = holds_by p lock t.want t.found (holds p lock turns)

-- loads of a node's words from an offset on, which found these words; the load at the offset was the last one
abbrev pub loads_from : ConfigParts → (node offset : ℕ) → List ℕ → List Taken
loads_from p node o [] = []
loads_from p node o (w ∷ ws) = turn_found (want.Event (Load (node_word p node + o))) (Word w) ∷ loads_from p node (o + 1) ws

-- loads of a node's last words, from its last word on
abbrev pub loads_of : ConfigParts → (node : ℕ) → List ℕ → List Taken
loads_of p node words = loads_from p node (node_size p - length words) words

-- All words of a node of the setting were loaded, one after another, from the last one on.
pub record HasRun (p : ConfigParts) (turns : List Taken) (node : ℕ) (words : List ℕ) (before since : List Taken) : Type 0 where
  pub node_is : IsNode p node
  pub all : length words ≡ node_size p
  pub whole : turns ≡ since ++ (loads_of p node words ++ before)

-- And the node's lock was held, with a depth.
pub record HasReadLocked (p : ConfigParts) (turns : List Taken) (node depth : ℕ) (words : List ℕ) (before since : List Taken) : Type 0 where
  pub run : HasRun p turns node words before since
  pub locked : holds p (lock_of p node) before ≡ Some depth

-- a server's counter was found at the limit, by a load or an add
abbrev pub IsSpent : ConfigParts → (server : ℕ) → Want → Found → Type 0
IsSpent p server (want.Event (Load at)) (Word word) = (at ≡ counter_word p server) × (p.chunks ≤ word)
IsSpent p server (want.Event (Add at)) (Word word) = (at ≡ counter_word p server) × (p.chunks ≤ word)
IsSpent p server w found = ⊥

abbrev pub FoundSpent : ConfigParts → (server : ℕ) → List Taken → Type 0
FoundSpent p server [] = ⊥
FoundSpent p server (t ∷ turns) = IsSpent p server t.want t.found ⊎ FoundSpent p server turns

-- and so was each server's
abbrev pub AllSpent : ConfigParts → List Taken → Type 0
AllSpent p turns = (server : ℕ) → server < p.servers → FoundSpent p server turns

-- no chunk was got: no add found a counter below the limit
abbrev pub GotNone : ConfigParts → Want → Found → Type 0
GotNone p (want.Event (Add at)) (Word word) = p.chunks ≤ word
GotNone p w found = Unit {0}

abbrev pub AllGotNone : ConfigParts → List Taken → Type 0
AllGotNone p [] = Unit {0}
AllGotNone p (t ∷ turns) = GotNone p t.want t.found × AllGotNone p turns

abbrev pub IsLockWord : ConfigParts → (at : ℕ) → Type 0
IsLockWord p at = (lock_word p 0 ≤ at) × (at < first_node_word p)

abbrev pub IsCounter : ConfigParts → (at : ℕ) → Type 0
IsCounter p at = (counter_word p 0 ≤ at) × (at < lock_word p 0)

-- A turn that stores no word of a node: a store is of 0 to a lock word, an exchange is of a lock word, an add is of a counter.
abbrev pub SparesNodes : ConfigParts → Want → Type 0
SparesNodes p (want.Event (Store at word)) = IsLockWord p at × (word ≡ 0)
SparesNodes p (want.Event (Exchange at old new)) = IsLockWord p at
SparesNodes p (want.Event (Add at)) = IsCounter p at
SparesNodes p w = Unit {0}

abbrev pub AllSpare : ConfigParts → List Taken → Type 0
AllSpare p [] = Unit {0}
AllSpare p (t ∷ turns) = SparesNodes p t.want × AllSpare p turns
