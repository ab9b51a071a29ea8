-- A level that the code builds over.
use Rattle.std.specs.Prelude.{◌≡◌, ℕ, ◌-◌, ◌*◌, ◌%◌, ◌<◌, min}
use Rattle.sh_base.specs.{declared.config.ConfigParts.{ConfigParts}, Setting.{node_size}}
use Rattle.sh_bulk.specs.{Shape.{count_in, first_in, span_in, height_of}, declared.inner.Level.{Level}}

-- a level below the top one
pub record IsLevel (p : ConfigParts) (n : ℕ) (l : Level) : Type 0 where
  pub below : l.number < height_of p n
  pub count_is : l.count ≡ count_in p n l.number
  pub first_is : l.first ≡ first_in p n l.number
  pub span_is : l.span ≡ span_in p l.number

-- A worker's stretch of the leaves' words: it begins behind whole stretches of `share` leaves, and has so many leaves, or the
-- rest where that is less.
pub record IsStretch (p : ConfigParts) (n share start len : ℕ) : Type 0 where
  pub some : 0 < share
  pub start_is : start % (share * node_size p) ≡ 0
  pub within : start < count_in p n 0 * node_size p
  pub len_is : len ≡ min (share * node_size p) (count_in p n 0 * node_size p - start)
