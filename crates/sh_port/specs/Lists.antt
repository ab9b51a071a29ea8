-- A source and a sink in memory: what they are seen as, and what a call leaves.
use Rattle.std.specs.{Prelude.{ℕ, ◌≤◌, ◌<◌, ◌+◌, ◌-◌, ◌^◌, ◌⊎◌, List, ◌++◌, take, drop, length, min}, List.{Contains}}

-- one more, and 2^64-1 once that is reached
abbrev pub counted_up : ℕ → ℕ
counted_up n = min (n + 1) (2 ^ 64 - 1)

-- a source in memory: the bytes that are left, the most bytes of a call, the numbers of the calls that fail, the
-- number of the last call, and how many calls have failed
pub record SourceReads : Type 0 where
  pub left : List ℕ
  pub piece : ℕ
  pub fails : List ℕ
  pub calls : ℕ
  pub faults : ℕ

-- the next call fails: its number is one of those that fail
abbrev pub FailsRead : SourceReads → Type 0
FailsRead s = Contains s.fails (counted_up s.calls)

-- how many bytes the next call moves into a place for `room` bytes
abbrev pub read_count : SourceReads → ℕ → ℕ
read_count s room = min (min room s.piece) (length s.left)

-- after a call that moved n bytes, and after one that failed
abbrev pub read_on : SourceReads → ℕ → SourceReads
read_on s n = record { left = drop n s.left; piece = s.piece; fails = s.fails; calls = counted_up s.calls; faults = s.faults }

abbrev pub read_failed : SourceReads → SourceReads
read_failed s = record { left = s.left; piece = s.piece; fails = s.fails; calls = counted_up s.calls; faults = counted_up s.faults }

-- a sink in memory: the bytes that it holds, the most that it can hold, the most bytes of a call, the numbers of the
-- calls that fail, the number of the last call, and how many calls have failed
pub record Writes : Type 0 where
  pub held : List ℕ
  pub room : ℕ
  pub piece : ℕ
  pub fails : List ℕ
  pub calls : ℕ
  pub faults : ℕ

-- the next call fails: its number is one of those that fail, or there are bytes to take and the sink is full
abbrev pub FailsWrite : Writes → List ℕ → Type 0
FailsWrite s bytes = Contains s.fails (counted_up s.calls) ⊎ ((s.room ≤ length s.held) × (0 < length bytes))

-- how many of these bytes the next call moves
abbrev pub write_count : Writes → List ℕ → ℕ
write_count s bytes = min (min (length bytes) s.piece) (s.room - length s.held)

-- after a call that took the first n of these bytes, and after one that failed
abbrev pub written_on : Writes → List ℕ → ℕ → Writes
written_on s bytes n = record { held = s.held ++ take n bytes; room = s.room; piece = s.piece; fails = s.fails; calls = counted_up s.calls; faults = s.faults }

abbrev pub write_failed : Writes → Writes
write_failed s = record { held = s.held; room = s.room; piece = s.piece; fails = s.fails; calls = counted_up s.calls; faults = counted_up s.faults }
