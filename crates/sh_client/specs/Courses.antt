-- A client that takes its turns one after another.
use Rattle.std.specs.Prelude.{◌≡◌, ◌≤◌, ◌⊎◌, Option, ℕ, zero, suc, ◌+◌, List, [], ◌∷◌, length, Some, None}
use Rattle.sh_base.specs.{declared.event.Event.TheVariants.{Load, Store}, Layout.{lock_of, root_word}}
use Rattle.sh_image.specs.{Leaf.{Leaf}, declared.inner.Image.TheVariants.{Leaf as LeafImage}}
use Rattle.sh_lock.specs.{declared.state.Release.TheVariants.{Hand}, Locks.{release_of}}
use Rattle.sh_decide.specs.{declared.state.{Aim.{Aim, TheVariants.{Own}}, Decision.{Decision}}, Deciding.{decision_of}}
use Rattle.sh_read.specs.{declared.state.Progress.TheVariants.{Accepted}, Reads.{accepted, progress_of, read_fed}}
use Rattle.sh_client.specs.{declared.state.{Phase.{Phase, TheVariants.{Body, Leave, ReadLocked}}, Want.{Want}}, Machine.{Machine}, Wants.{lock_word_of, want_of}, Feeds.{fed_by}}
use Rattle.sh_client.specs.declared.state.Want.TheVariants as want

-- the client after so many turns that found 0, as stores do
abbrev pub after_stores : (count : ℕ) → Machine → Machine
after_stores zero m = m
after_stores (suc count) m = after_stores count (fed_by m 0)

-- what it wanted in each of them
abbrev pub wants_over : (count : ℕ) → Machine → List Want
wants_over zero m = []
wants_over (suc count) m = want_of m ∷ wants_over count (fed_by m 0)

-- the stores of the words, rising from an address on
abbrev pub stores_of : (at : ℕ) → List ℕ → List Want
stores_of at [] = []
stores_of at (w ∷ ws) = want.Event (Store at w) ∷ stores_of (at + 1) ws

-- A client that gives the lock of a node back with a write: it asks how many wait, and whatever it's told, it then stores
-- exactly these words. Where nobody waits or the depth is the bound, the store of 0 to the lock word is its next event.
pub record StoresThenFrees (m : Machine) (node depth at : ℕ) (words : List ℕ) : Type 0 where
  pub asks : want_of m ≡ want.Waiting (lock_of m.setting node)
  pub stores : (count : ℕ) → wants_over (length words) (fed_by m count) ≡ stores_of at words
  pub frees : (count : ℕ) → (count ≡ 0) ⊎ (depth ≡ m.setting.bound) → want_of (after_stores (length words) (fed_by m count)) ≡ want.Event (Store (lock_word_of m.setting node) 0)

-- An update's client under the lock is fed the last word of its READ, of this leaf, and decides so.
pub record Finds (m : Machine) (word depth : ℕ) (a : Leaf) (d : Decision) : Type 0 where
  pub holds : m.phase ≡ ReadLocked Own depth
  pub whole : progress_of m.setting m.registers.reads word ≡ Accepted
  pub leaf_is : accepted m.setting (read_fed m.setting m.registers.reads word) ≡ Some (LeafImage a)
  pub decides : decision_of m.setting m.registers.call Own (LeafImage a) ≡ d

-- the node of that READ
abbrev pub node_read : Machine → (word : ℕ) → ℕ
node_read m word = let r = read_fed m.setting m.registers.reads word in r.node

-- A client that gives the lock of a node back with nothing written and starts again: it asks how many wait; where nobody
-- does or the depth is the bound, it stores 0 to the lock word, leaves, and loads the root word; else it leaves with the
-- depth and one more, and loads the root word.
pub record GivesBack (m : Machine) (node depth : ℕ) (aim : Aim) : Type 0 where
  pub asks : want_of m ≡ want.Waiting (lock_of m.setting node)
  pub frees : (count : ℕ) → (count ≡ 0) ⊎ (depth ≡ m.setting.bound) → wants_over 3 (fed_by m count) ≡ want.Event (Store (lock_word_of m.setting node) 0) ∷ want.Leave (lock_of m.setting node) None ∷ want.Event (Load root_word) ∷ []
  pub hands : (count : ℕ) → release_of count depth m.setting.bound ≡ Hand → wants_over 2 (fed_by m count) ≡ want.Leave (lock_of m.setting node) (Some (depth + 1)) ∷ want.Event (Load root_word) ∷ []

-- the depth with which the lock is handed over, where it is
abbrev pub carry_at : Phase → Option ℕ
carry_at (Body carry done giving) = carry
carry_at (Leave node carry after) = carry
carry_at phase = None

-- A lock that was handed over so often is handed over with one more: somebody waits for it, and it's within the bound.
pub record HandsOnce (m : Machine) (depth count carry : ℕ) : Type 0 where
  pub waits : 1 ≤ count
  pub one_more : carry ≡ depth + 1
  pub bounded : carry ≤ m.setting.bound

-- another machine of the same setting, seat and call
abbrev pub KeepsCall : Machine → Machine → Type 0
KeepsCall m x = (x.setting ≡ m.setting) × (x.seat ≡ m.seat) × (x.registers.call ≡ m.registers.call)
