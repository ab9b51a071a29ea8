-- A picture of a pool: its setting and its words as bytes, each number with its greatest byte first.
use Rattle.std.specs.Prelude.{ℕ, zero, suc, ◌+◌, ◌*◌, List, [], ◌∷◌, ◌++◌, codes, drop, slice_index}
use Rattle.std.specs.List.{flat_map}
use Rattle.byteorder.specs.Endian.{big_bytes, big_number}
use Rattle.sh_base.specs.{declared.config.ConfigParts.{ConfigParts}, Setting.{pool_words}}

-- what every picture begins with
abbrev pub magic : List ℕ
magic = codes "SHERMAN1"

-- the twelve numbers of a setting, in their order
abbrev pub setting_numbers : ConfigParts → List ℕ
setting_numbers p = p.servers ∷ p.chunks ∷ p.chunk_nodes ∷ p.locks ∷ p.leaf ∷ p.computes ∷ p.seats ∷ p.bound ∷ p.bits ∷ p.rows ∷ p.cached ∷ p.value_words ∷ []

-- the first 56 bytes: the magic, and the setting's numbers of 32 bits
unfoldable pub header_of : ConfigParts → List ℕ
header_of p = magic ++ flat_map (big_bytes 4) (setting_numbers p)

-- the whole picture: behind the first bytes the words, of 64 bits
abbrev pub picture_of : ConfigParts → List ℕ → List ℕ
picture_of p words = header_of p ++ flat_map (big_bytes 8) words

-- how many bytes a picture of this setting has
abbrev pub picture_length : ConfigParts → ℕ
picture_length p = 56 + 8 * pool_words p

-- the first numbers, count of them, that some bytes spell, each in so many bytes
abbrev pub numbers_spelled : (width count : ℕ) → List ℕ → List ℕ
numbers_spelled width zero bytes = []
numbers_spelled width (suc count) bytes = big_number width bytes ∷ numbers_spelled width count (drop width bytes)

-- number i of the setting that some bytes have, if they are a picture
unfoldable pub number_in : List ℕ → ℕ → ℕ
number_in bytes i = slice_index (numbers_spelled 4 12 (drop 8 bytes)) i

abbrev pub parts_spelled : List ℕ → ConfigParts
parts_spelled bytes = record {
  servers = number_in bytes 0;
  chunks = number_in bytes 1;
  chunk_nodes = number_in bytes 2;
  locks = number_in bytes 3;
  leaf = number_in bytes 4;
  computes = number_in bytes 5;
  seats = number_in bytes 6;
  bound = number_in bytes 7;
  bits = number_in bytes 8;
  rows = number_in bytes 9;
  cached = number_in bytes 10;
  value_words = number_in bytes 11;
}

-- the words of the pool that some bytes have, if they are a picture
unfoldable pub words_in : List ℕ → List ℕ
words_in bytes = numbers_spelled 8 (pool_words (parts_spelled bytes)) (drop 56 bytes)
