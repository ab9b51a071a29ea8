-- Numbers that are kept in 32 bits.
use Rattle.std.specs.Prelude.{ℕ, ◌-◌, ◌^◌, min}
use Rattle.sh_base.specs.declared.config.ConfigParts.{ConfigParts}
use Rattle.sh_options.specs.declared.order.Given.{Given}

-- a number of 32 bits, which is the last one where n is larger
abbrev pub narrow : ℕ → ℕ
narrow n = min n (2 ^ 32 - 1)

unfoldable pub narrow_parts : ConfigParts → ConfigParts
narrow_parts p = record {
  servers = narrow p.servers;
  chunks = narrow p.chunks;
  chunk_nodes = narrow p.chunk_nodes;
  locks = narrow p.locks;
  leaf = narrow p.leaf;
  computes = narrow p.computes;
  seats = narrow p.seats;
  bound = narrow p.bound;
  bits = narrow p.bits;
  rows = narrow p.rows;
  cached = narrow p.cached;
  value_words = narrow p.value_words;
}

abbrev pub narrowed : Given → Given
narrowed g = record g { parts = narrow_parts g.parts }
