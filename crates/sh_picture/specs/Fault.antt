-- The first place where some bytes aren't the picture of a lawful tree. Each place takes for granted that none of those
-- before it holds, so of one list of bytes there is one place at most.
use Rattle.std.specs.Prelude.{◌≡◌, ◌≢◌, ℕ, ◌<◌, ◌≤◌, List, length, slice_index, Some, None}
use Rattle.sh_base.specs.{declared.config.ConfigParts.{ConfigParts}, Setting.{all_locks}, Layout.{lock_word}, Faults.{fault_of}}
use Rattle.sh_tree.specs.Tree.{leaves_of}
use Rattle.sh_picture.specs.{Picture.{magic, parts_spelled, picture_length, words_in}, Walk.{root_of, IsSpelled, IsUnsound, IsWalked}, Tree.{AllLead, IsFirstAstray, IsFirstBad, IsFirstTwice}}
use Rattle.sh_picture.specs.declared.place.FirstPlace.{FirstPlace, TheVariants.{Short, Magic, Setting, Length, Zero, Lock, Root, Chain, Pair, Twice}}

-- a byte of the magic is there
abbrev pub IsMagicAt : List ℕ → ℕ → Type 0
IsMagicAt bytes i = slice_index bytes i ≡ slice_index magic i

-- there are 56 bytes, and they begin with the magic
pub record HasMagic (bytes : List ℕ) : Type 0 where
  pub long : 56 ≤ length bytes
  pub magic : (i : ℕ) → i < 8 → IsMagicAt bytes i

-- and the setting is lawful
pub record HasSetting (bytes : List ℕ) : Type 0 where
  pub begins : HasMagic bytes
  pub lawful : fault_of (parts_spelled bytes) ≡ None

-- and there are as many bytes as a picture of the setting has
pub record HasWords (bytes : List ℕ) : Type 0 where
  pub setting : HasSetting bytes
  pub long : length bytes ≡ picture_length (parts_spelled bytes)

-- a lock word is 0; and word 0 and all lock words are
abbrev pub IsFree : ConfigParts → List ℕ → ℕ → Type 0
IsFree p words lock = slice_index words (lock_word p lock) ≡ 0

pub record IsIdle (p : ConfigParts) (words : List ℕ) : Type 0 where
  pub zero : slice_index words 0 ≡ 0
  pub locks : (lock : ℕ) → lock < all_locks p → IsFree p words lock

-- The places in the words of a pool at rest: what they spell is no tree. The walk comes before the pairs, and the pairs
-- before the keys.
abbrev pub IsNoTree : ConfigParts → List ℕ → FirstPlace → Type 0
IsNoTree p words Root = IsSpelled p words (root_of words) → ⊥
IsNoTree p words (Chain level node) = IsSpelled p words (root_of words) × IsUnsound p words level node
IsNoTree p words (Pair node index) = IsSpelled p words (root_of words) × ((levels : List (List ℕ)) × IsWalked p words levels × IsFirstAstray p words levels node index)
IsNoTree p words (Twice node key) = IsSpelled p words (root_of words) × ((levels : List (List ℕ)) × IsWalked p words levels × AllLead p words levels × IsFirstTwice p words (leaves_of levels) node key)
IsNoTree p words place = ⊥

-- the first place in the words of a pool
abbrev pub IsPoolFault : ConfigParts → List ℕ → FirstPlace → Type 0
IsPoolFault p words Zero = slice_index words 0 ≢ 0
IsPoolFault p words (Lock lock) = (slice_index words 0 ≡ 0) × IsFirstBad (IsFree p words) (all_locks p) lock
IsPoolFault p words place = IsIdle p words × IsNoTree p words place

-- the first place in some bytes
abbrev pub IsFirstPlace : List ℕ → FirstPlace → Type 0
IsFirstPlace bytes Short = length bytes < 56
IsFirstPlace bytes (Magic at) = (56 ≤ length bytes) × IsFirstBad (IsMagicAt bytes) 8 at
IsFirstPlace bytes (Setting fault) = HasMagic bytes × (fault_of (parts_spelled bytes) ≡ Some fault)
IsFirstPlace bytes (Length len) = HasSetting bytes × (len ≡ length bytes) × (len ≢ picture_length (parts_spelled bytes))
IsFirstPlace bytes place = HasWords bytes × IsPoolFault (parts_spelled bytes) (words_in bytes) place
