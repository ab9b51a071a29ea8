-- How a call gives a lock back, and what it stores before.
use Rattle.std.specs.Prelude.{◌≡◌, ℕ, zero, suc, ◌+◌, List, [], ◌∷◌, ◌++◌, length, slice_index, Option, Some, None}
use Rattle.sh_base.specs.{declared.{config.ConfigParts.{ConfigParts}, event.Event.TheVariants.{Add, Load, Store}}, Layout.{lock_of, node_word, root_word}, Setting.{node_size}}
use Rattle.sh_lock.specs.Locks.{release_of}
use Rattle.sh_client.specs.{declared.state.Want.{Want}, Giving.{carried}, Wants.{lock_word_of}}
use Rattle.sh_client.specs.declared.state.Want.TheVariants as want
use Rattle.sh_course.specs.{Found.{IsCounter}, Turns.{turn_found, Found, Taken, Word}}

-- what was wanted in these turns
abbrev pub wants_in : List Taken → List Want
wants_in [] = []
wants_in (t ∷ turns) = t.want ∷ wants_in turns

-- the stores of so many first words, rising from an address on; the last store stands first
abbrev pub stores_to : (at : ℕ) → List ℕ → (count : ℕ) → List Want
stores_to at words zero = []
stores_to at words (suc count) = want.Event (Store (at + count) (slice_index words count)) ∷ stores_to at words count

-- where the lock isn't handed over, its word is set to 0
abbrev pub frees : ConfigParts → (node : ℕ) → (carry : Option ℕ) → List Want
frees p node None = want.Event (Store (lock_word_of p node) 0) ∷ []
frees p node (Some depth) = []

-- In these turns a node's lock was given back, which had been handed over so often: the first one asked how many wait for it,
-- then exactly these words were stored, each once, rising from an address on; where nobody waits, and at the bound, the lock
-- word was set to 0 then, and else the lock was handed over, with a depth one higher; and its queue was left.
pub record GaveBack (p : ConfigParts) (node depth at : ℕ) (words : List ℕ) (turns : List Taken) : Type 0 where
  pub count : ℕ
  pub more : List Taken
  pub asked : turns ≡ more ++ (turn_found (want.Waiting (lock_of p node)) (Word count) ∷ [])
  pub rest : (let carry = carried depth (release_of count depth p.bound) in wants_in more ≡ want.Leave (lock_of p node) carry ∷ (frees p node carry ++ stores_to at words (length words)))

-- loads and adds of counters alone
abbrev pub IsCount : ConfigParts → Want → Type 0
IsCount p (want.Event (Load at)) = IsCounter p at
IsCount p (want.Event (Add at)) = IsCounter p at
IsCount p w = ⊥

abbrev pub AllCount : ConfigParts → List Taken → Type 0
AllCount p [] = Unit {0}
AllCount p (t ∷ turns) = IsCount p t.want × AllCount p turns

-- In these turns a leaf was split: first, where there was no spare node, the counters were counted up; then the words of the
-- right half were stored to a fresh node, each once, rising; then the leaf's lock was given back behind the words of its left
-- half; and the next turn loads the root word, for the post of the fresh node.
pub record Split (p : ConfigParts) (node depth fresh : ℕ) (left right : List ℕ) (turns : List Taken) : Type 0 where
  pub walk : List Taken
  pub fills : List Taken
  pub back : List Taken
  pub post : List Taken
  pub found : Found
  pub whole : turns ≡ (post ++ (turn_found (want.Event (Load root_word)) found ∷ [])) ++ (back ++ (fills ++ walk))
  pub counted : AllCount p walk
  pub filled : wants_in fills ≡ stores_to (node_word p fresh) right (node_size p)
  pub gave : GaveBack p node depth (node_word p node + 0) left back
