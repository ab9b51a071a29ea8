-- What a run leaves, by how it ended.
use Rattle.std.specs.{Prelude.{ℕ, ◌≡◌, ◌⊎◌, Bool, List, Option, Some, None}, Io.KnownBytes.{Appends}}
use Rattle.sh_base.specs.declared.config.ConfigParts.{ConfigParts}
use Rattle.sh_map.specs.declared.book.Row.{Row}
use Rattle.sh_sheet.specs.declared.{item.{Item.{Item}, Mode.TheVariants.{Run}}, status.{Status.{Status}}}
use Rattle.sh_sheet.specs.Status.{IsUsage}
use Rattle.sh_sheet.specs.Sheet.{Reading, Items, Refused, AreFew, IsTooMany, sheet_of}
use Rattle.sh_sheet.specs.declared.status.Status.TheVariants as status
use Rattle.sh_text.specs.declared.write.WriteError.{WriteError}
use Rattle.sh_text.specs.declared.write.WriteError.TheVariants as error
use Rattle.sh_port.specs.{Port.{HasRisen, AppendsFront, Unread, Unwritten}, Intake.{TookAll, TookSome, TookMost}}
use Rattle.sh_options.specs.{Order.{Asked, order_of}, Uses.{Text}}
use Rattle.sh_pool.specs.Pools.{PoolState}
use Rattle.sh_fleet.specs.{declared.answers.Answers.{Answers}, Output.{text_of}, Served.{HasServed, HasStopped}}

-- what the words ask for, where they are accepted
abbrev pub accepted : List Text → Option Asked
accepted words = order_of Run words

-- The whole input was taken, and its reading is this one.
pub record Read (p : ConfigParts) (left rest : Option (List ℕ)) (before now : ℕ) (reading : Reading) : Type 0 where
  pub bytes : List ℕ
  pub took : TookAll left rest before now bytes
  pub reads : sheet_of p Run bytes ≡ reading

-- The items are those of the whole input, and not too many.
pub record AreRead (p : ConfigParts) (left rest : Option (List ℕ)) (before now : ℕ) (items : List Item) : Type 0 where
  pub headed : Bool
  pub read : Read p left rest before now (Items headed items)
  pub few : AreFew p items

-- There are more calls or rows of ranges than a sheet may ask for.
pub record ReadTooMany (p : ConfigParts) (left rest : Option (List ℕ)) (before now : ℕ) : Type 0 where
  pub reading : Reading
  pub read : Read p left rest before now reading
  pub many : IsTooMany p reading

-- Why there are no items.
abbrev pub HasNoItems : (p : ConfigParts) → (left rest : Option (List ℕ)) → (before now : ℕ) → Status → Type 0
HasNoItems p left rest before now status.ReadFault = TookSome left rest before now
HasNoItems p left rest before now status.TooLong = TookMost left rest before now
HasNoItems p left rest before now (status.BadRow row cause) = Read p left rest before now (Refused row cause)
HasNoItems p left rest before now status.TooMany = ReadTooMany p left rest before now
HasNoItems p left rest before now status.NoMemory = now ≡ before
HasNoItems p left rest before now s = ⊥

-- the status of a run whose lines weren't all written
abbrev pub unwritten : WriteError → Status
unwritten error.Fault = status.WriteFault
unwritten error.NoMemory = status.NoMemory

-- the pool is as it was, and nothing was written
pub record Untouched (old new : PoolState) (held after : Option (List ℕ)) (fell fallen : ℕ) : Type 0 where
  pub pool : new ≡ old
  pub unwritten : Unwritten held after fell fallen

-- The sheet was served: the pool is gathered, and these are its finished calls, in the sheet's
-- order, and the rows of its words.
pub record Served (o : Asked) (left rest : Option (List ℕ)) (before now : ℕ) (s : PoolState) (text : List ℕ) : Type 0 where
  pub items : List Item
  pub are : AreRead o.parts left rest before now items
  pub answers : List Answers
  pub rows : List Row
  pub served : HasServed o.parts items s answers rows
  pub text_is : text ≡ text_of o.map served.dones rows

-- The sheet was served, and all lines of the output were written.
pub record Written (o : Asked) (new : PoolState) (left rest : Option (List ℕ)) (before now : ℕ) (held after : Option (List ℕ)) (fell fallen : ℕ) : Type 0 where
  pub text : List ℕ
  pub served : Served o left rest before now new text
  pub written : Appends held after text
  pub count : fallen ≡ fell

-- The sheet was served, and a front of the output was written.
pub record HalfWritten (o : Asked) (new : PoolState) (left rest : Option (List ℕ)) (before now : ℕ) (held after : Option (List ℕ)) : Type 0 where
  pub text : List ℕ
  pub served : Served o left rest before now new text
  pub written : AppendsFront held after text

-- What a run of an order leaves. The source: the bytes that were left and that are left, and its counts of faults before
-- and now. The sink: the bytes that it held and holds, and its counts. Where memory was wanting before the first line,
-- nothing was written, and the pool is blank, laid or gathered.
abbrev pub Ran : (o : Asked) → (old new : PoolState) → (left rest : Option (List ℕ)) → (before now : ℕ) → (held after : Option (List ℕ)) → (fell fallen : ℕ) → Status → Type 0
Ran o old new left rest before now held after fell fallen status.Ok = Written o new left rest before now held after fell fallen
Ran o old new left rest before now held after fell fallen status.WriteFault = HalfWritten o new left rest before now held after × HasRisen fell fallen
Ran o old new left rest before now held after fell fallen status.NoMemory =
    (now ≡ before) × ((Unwritten held after fell fallen × HasStopped o.parts old new) ⊎ (HalfWritten o new left rest before now held after × (fallen ≡ fell)))
Ran o old new left rest before now held after fell fallen status.Usage = ⊥
Ran o old new left rest before now held after fell fallen (status.Unfinished turns) = ⊥
Ran o old new left rest before now held after fell fallen s = HasNoItems o.parts left rest before now s × Untouched old new held after fell fallen

-- Where the words give no order, nothing was read or written; where they do, the run of that order.
abbrev pub Headline : (asked : Option Asked) → (old new : PoolState) → (left rest : Option (List ℕ)) → (before now : ℕ) → (held after : Option (List ℕ)) → (fell fallen : ℕ) → Status → Type 0
Headline None old new left rest before now held after fell fallen s = IsUsage s × Unread left rest before now × Untouched old new held after fell fallen
Headline (Some o) old new left rest before now held after fell fallen s = Ran o old new left rest before now held after fell fallen s
