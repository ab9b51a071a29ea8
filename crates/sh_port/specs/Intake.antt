-- What reading a whole input gives: the bytes, or why not.
use Rattle.std.specs.{Prelude.{ℕ, ◌≡◌, ◌<◌, ◌+◌, List, length, Option}, Io.KnownBytes.{Consumes, IsAtEnd}}
use Rattle.sh_port.specs.{Port.{HasRisen}, declared.loops.Intake.{Intake, TheVariants.{Fault, TooLong, NoMemory}}}

-- these are all the bytes that were left, at most `most` of them, and no call failed
pub record TookUpTo (most : ℕ) (left rest : Option (List ℕ)) (before now : ℕ) (bytes : List ℕ) : Type 0 where
  pub taken : Consumes left rest bytes
  pub end : IsAtEnd rest
  pub short : length bytes < most + 1
  pub count : now ≡ before

-- a call failed, and before it at most `most` bytes were taken
pub record TookSomeUpTo (most : ℕ) (left rest : Option (List ℕ)) (before now : ℕ) : Type 0 where
  pub bytes : List ℕ
  pub taken : Consumes left rest bytes
  pub short : length bytes < most + 1
  pub cause : HasRisen before now

-- one byte more than `most` was taken, and no call failed
pub record TookMoreThan (most : ℕ) (left rest : Option (List ℕ)) (before now : ℕ) : Type 0 where
  pub bytes : List ℕ
  pub taken : Consumes left rest bytes
  pub long : length bytes ≡ most + 1
  pub count : now ≡ before

-- at most `most` bytes were taken, and no call failed
pub record TookNoMoreThan (most : ℕ) (left rest : Option (List ℕ)) (before now : ℕ) : Type 0 where
  pub bytes : List ℕ
  pub taken : Consumes left rest bytes
  pub short : length bytes < most + 1
  pub count : now ≡ before

-- why there are no bytes
abbrev pub StoppedUpTo : (most : ℕ) → Option (List ℕ) → Option (List ℕ) → ℕ → ℕ → Intake → Type 0
StoppedUpTo most left rest before now Fault = TookSomeUpTo most left rest before now
StoppedUpTo most left rest before now TooLong = TookMoreThan most left rest before now
StoppedUpTo most left rest before now NoMemory = TookNoMoreThan most left rest before now

-- the same where an input has 16,777,216 bytes at most
abbrev pub TookAll : Option (List ℕ) → Option (List ℕ) → ℕ → ℕ → List ℕ → Type 0
TookAll left rest before now bytes = TookUpTo 16777216 left rest before now bytes

abbrev pub TookSome : Option (List ℕ) → Option (List ℕ) → ℕ → ℕ → Type 0
TookSome left rest before now = TookSomeUpTo 16777216 left rest before now

abbrev pub TookMost : Option (List ℕ) → Option (List ℕ) → ℕ → ℕ → Type 0
TookMost left rest before now = TookMoreThan 16777216 left rest before now

abbrev pub TookFew : Option (List ℕ) → Option (List ℕ) → ℕ → ℕ → Type 0
TookFew left rest before now = TookNoMoreThan 16777216 left rest before now

abbrev pub StoppedBy : Option (List ℕ) → Option (List ℕ) → ℕ → ℕ → Intake → Type 0
StoppedBy left rest before now error = StoppedUpTo 16777216 left rest before now error
