-- What the calls of sources and sinks say of their faults and their bytes.
use Rattle.std.specs.{Prelude.{ℕ, ◌≡◌, ◌≢◌, ◌≤◌, ◌<◌, ◌-◌, ◌^◌, ◌⊎◌, List, [], ◌∷◌, Option, Result, OnOk, OnErr, ◌++◌}, Io.KnownBytes.{Appends}}

-- the count of faults has risen, or stands at its last value
abbrev pub HasRisen : ℕ → ℕ → Type 0
HasRisen before now = (before < now) ⊎ (now ≡ 2 ^ 64 - 1)

-- a count of faults that stays, below its last value
abbrev pub HasNoFault : ℕ → ℕ → Type 0
HasNoFault before now = (now ≡ before) × (now ≢ 2 ^ 64 - 1)

-- nothing was read: the bytes that were left are left, and no call of the source failed
pub record Unread (left rest : Option (List ℕ)) (before now : ℕ) : Type 0 where
  pub left_is : rest ≡ left
  pub count : now ≡ before

-- nothing was written: the sink holds the bytes that it held, and no call of it failed
pub record Unwritten (held after : Option (List ℕ)) (fell fallen : ℕ) : Type 0 where
  pub sink : after ≡ held
  pub count : fallen ≡ fell

-- the count of faults never falls; it stays where the call answered Ok, and has risen where it failed
pub record HasFaultCause {T E : Type 0} (before now : ℕ) (result : Result T E) : Type 0 where
  pub kept : before ≤ now
  pub ok : OnOk result (now ≡ before)
  pub failed : OnErr result (HasRisen before now)

-- the bytes that the sink holds, where they are told, have grown by a front of these, and not by all of them
pub record AppendsFront (old new : Option (List ℕ)) (bytes : List ℕ) : Type 0 where
  pub front : List ℕ
  pub rest : List ℕ
  pub whole : bytes ≡ front ++ rest
  pub written : Appends old new front
  pub missed : rest ≢ []

-- the line that tells a text: the text and a line feed, and nothing where there is no text
abbrev pub line_of : List ℕ → List ℕ
line_of [] = []
line_of (b ∷ bs) = (b ∷ bs) ++ 10 ∷ []
