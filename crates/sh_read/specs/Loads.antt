-- A load of a READ that isn't its last one.
use Rattle.std.specs.Prelude.{◌≡◌, ◌≢◌, ℕ, ◌+◌, ◌<◌, ◌≤◌, length, Option, Some, None}
use Rattle.sh_base.specs.Setting.{node_size, pool_words}
use Rattle.sh_read.specs.{declared.state.Progress.TheVariants.{More}, Reads.{Reader, read_fed, progress_of, wanted}}

-- the address of the wanted word, which isn't the last one
pub record IsNext (r : Reader) (at : ℕ) : Type 0 where
  pub here : wanted r.setting r.reads ≡ Some at
  pub within : at < pool_words r.setting
  pub left : length r.reads.loaded + 1 < node_size r.setting

-- there is one; or no more than the last word is wanted
abbrev pub HasNext : Reader → Option ℕ → Type 0
HasNext r (Some at) = IsNext r at
HasNext r None = node_size r.setting ≤ length r.reads.loaded + 1

-- the READ was fed such a word, and wants more
pub record IsInside (old new : Reader) (word : ℕ) : Type 0 where
  pub fed : new ≡ record old { reads = read_fed old.setting old.reads word }
  pub answer : progress_of old.setting old.reads word ≡ More
  pub more : wanted new.setting new.reads ≢ None
