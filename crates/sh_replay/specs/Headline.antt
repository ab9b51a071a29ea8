-- What a replay leaves, by how it ended.
use Rattle.std.specs.{Prelude.{ℕ, ◌≡◌, ◌≢◌, ◌<◌, ◌⊎◌, ◌&&◌, nat_le, Bool, true, List, Option, Some, None}, Io.KnownBytes.{Appends}, List.{sum_by}, Option.{option_map_or}}
use Rattle.sh_base.specs.declared.config.ConfigParts.{ConfigParts}
use Rattle.sh_map.specs.declared.book.Row.{Row}
use Rattle.sh_sheet.specs.declared.{item.{Item.{Item}, Mode.TheVariants.{Replay}}, status.Status.{Status}}
use Rattle.sh_sheet.specs.{Sheet.{Reading, Items, Refused, AreFew, IsTooMany, most_rows, rows_of, sheet_of}, Generate.{made_items}, Status.{IsUsage}}
use Rattle.sh_sheet.specs.declared.status.Status.TheVariants as status
use Rattle.sh_text.specs.{declared.write.WriteError.{WriteError}, Write.{CauseOf}}
use Rattle.sh_text.specs.declared.write.WriteError.TheVariants as error
use Rattle.sh_port.specs.{Port.{HasRisen, AppendsFront, Unread}, Intake.{TookAll, TookSome, TookMost}}
use Rattle.sh_options.specs.Order.{Asked}
use Rattle.sh_world.specs.States.{State}
use Rattle.sh_replay.specs.{declared.ending.Finish.{Finish, TheVariants.{Done as AllDone, Spent}}, Course.{SeatEvent}, Output.{event_lines, lines_behind, text_of}, Served.{HasServed, HasStopped, HoldsRows}}

-- calls that are made are 1 to 1,000,000
abbrev pub HasCount : (make : Option ℕ) → Type 0
HasCount make = option_map_or (λ n. nat_le 1 n && nat_le n 1000000) make true ≡ true

-- The whole input was taken, and its reading is this one.
pub record Read (p : ConfigParts) (left rest : Option (List ℕ)) (before now : ℕ) (reading : Reading) : Type 0 where
  pub bytes : List ℕ
  pub took : TookAll left rest before now bytes
  pub reads : sheet_of p Replay bytes ≡ reading

-- The items are those of the whole input.
pub record AreRead (o : Asked) (left rest : Option (List ℕ)) (before now : ℕ) (items : List Item) : Type 0 where
  pub make : o.make ≡ None
  pub headed : Bool
  pub read : Read o.parts left rest before now (Items headed items)

-- The items are calls that are made from the order's seed, and nothing was read.
pub record AreMade (o : Asked) (left rest : Option (List ℕ)) (before now : ℕ) (items : List Item) : Type 0 where
  pub n : ℕ
  pub make : o.make ≡ Some n
  pub unread : Unread left rest before now
  pub made : items ≡ made_items o.parts n o.seed

abbrev pub AreItems : (o : Asked) → (left rest : Option (List ℕ)) → (before now : ℕ) → List Item → Type 0
AreItems o left rest before now items = AreRead o left rest before now items ⊎ AreMade o left rest before now items

-- The items are lawful and not too many, and the world has served them; its rounds ended so.
pub record Served (o : Asked) (left rest : Option (List ℕ)) (before now : ℕ) (s : State) (finish : Finish) (events : List SeatEvent) (rows : List Row) : Type 0 where
  pub items : List Item
  pub are : AreItems o left rest before now items
  pub few : AreFew o.parts items
  pub served : HasServed o.parts items s finish events rows

-- There are more calls, turns or rows of ranges than a sheet may ask for.
pub record ReadTooMany (o : Asked) (left rest : Option (List ℕ)) (before now : ℕ) : Type 0 where
  pub make : o.make ≡ None
  pub reading : Reading
  pub read : Read o.parts left rest before now reading
  pub many : IsTooMany o.parts reading

-- The ranges among the calls that are made may be answered with more rows than a sheet may ask for; nothing was read.
pub record MadeTooMany (o : Asked) (left rest : Option (List ℕ)) (before now : ℕ) : Type 0 where
  pub n : ℕ
  pub make : o.make ≡ Some n
  pub unread : Unread left rest before now
  pub many : most_rows < sum_by (rows_of o.parts) (made_items o.parts n o.seed)

-- Why there are no items. Of made calls nothing is read, whatever the status.
abbrev pub HasNoItems : (o : Asked) → (left rest : Option (List ℕ)) → (before now : ℕ) → Status → Type 0
HasNoItems o left rest before now status.ReadFault = (o.make ≡ None) × TookSome left rest before now
HasNoItems o left rest before now status.TooLong = (o.make ≡ None) × TookMost left rest before now
HasNoItems o left rest before now (status.BadRow row cause) =
    (o.make ≡ None) × Read o.parts left rest before now (Refused row cause)
HasNoItems o left rest before now status.TooMany = ReadTooMany o left rest before now ⊎ MadeTooMany o left rest before now
HasNoItems o left rest before now status.NoMemory = (now ≡ before) × ((o.make ≢ None) → rest ≡ left)
HasNoItems o left rest before now s = ⊥

-- the status of a run whose lines weren't all written
abbrev pub unwritten : WriteError → Status
unwritten error.Fault = status.WriteFault
unwritten error.NoMemory = status.NoMemory

-- and of one whose lines were all written
abbrev pub ended_with : Finish → Status
ended_with (AllDone turns) = status.Ok
ended_with (Spent turns) = status.Unfinished turns

-- the world is as it was, and nothing was written
pub record Untouched (old new : State) (held after : Option (List ℕ)) (fell fallen : ℕ) : Type 0 where
  pub world : new ≡ old
  pub sink : after ≡ held
  pub count : fallen ≡ fell

-- The sheet was served and its rounds ended so, and all lines of the output were written.
pub record Written (o : Asked) (new : State) (finish : Finish) (left rest : Option (List ℕ)) (before now : ℕ) (held after : Option (List ℕ)) (fell fallen : ℕ) : Type 0 where
  pub events : List SeatEvent
  pub rows : List Row
  pub served : Served o left rest before now new finish events rows
  pub written : Appends held after (text_of o events new.calls rows)
  pub count : fallen ≡ fell

-- The sheet was served and the lines of its events were written, and a front of the lines behind them.
pub record HalfWritten (o : Asked) (new : State) (left rest : Option (List ℕ)) (before now : ℕ) (held after : Option (List ℕ)) : Type 0 where
  pub finish : Finish
  pub events : List SeatEvent
  pub rows : List Row
  pub served : Served o left rest before now new finish events rows
  pub told : Option (List ℕ)
  pub lines : Appends held told (event_lines o.events events)
  pub written : AppendsFront told after (lines_behind o new.calls rows)

-- The items are lawful and not too many, and their run stopped at the line of an event.
pub record Stopped (o : Asked) (new : State) (left rest : Option (List ℕ)) (before now : ℕ) (held after : Option (List ℕ)) : Type 0 where
  pub events : o.events ≡ true
  pub items : List Item
  pub are : AreItems o left rest before now items
  pub few : AreFew o.parts items
  pub stopped : HasStopped o.parts items new held after

-- A front of the output was written: the run stopped at an event, or it is over.
abbrev pub WroteFront : (o : Asked) → (new : State) → (left rest : Option (List ℕ)) → (before now : ℕ) → (held after : Option (List ℕ)) → Type 0
WroteFront o new left rest before now held after =
    Stopped o new left rest before now held after ⊎ HalfWritten o new left rest before now held after

-- What a replay of an order leaves. The source: the bytes that were left and that are left, and its counts of faults
-- before and now. The sink: the bytes that it held and holds, and its counts.
abbrev pub Replayed : (o : Asked) → (old new : State) → (left rest : Option (List ℕ)) → (before now : ℕ) → (held after : Option (List ℕ)) → (fell fallen : ℕ) → Status → Type 0
Replayed o old new left rest before now held after fell fallen status.Ok =
    (turns : ℕ) × Written o new (AllDone turns) left rest before now held after fell fallen
Replayed o old new left rest before now held after fell fallen (status.Unfinished turns) =
    Written o new (Spent turns) left rest before now held after fell fallen
Replayed o old new left rest before now held after fell fallen status.ReadFault =
    HasNoItems o left rest before now status.ReadFault × Untouched old new held after fell fallen
Replayed o old new left rest before now held after fell fallen status.TooLong =
    HasNoItems o left rest before now status.TooLong × Untouched old new held after fell fallen
Replayed o old new left rest before now held after fell fallen (status.BadRow row cause) =
    HasNoItems o left rest before now (status.BadRow row cause) × Untouched old new held after fell fallen
Replayed o old new left rest before now held after fell fallen status.TooMany =
    HasNoItems o left rest before now status.TooMany × Untouched old new held after fell fallen
Replayed o old new left rest before now held after fell fallen status.WriteFault =
    WroteFront o new left rest before now held after × HasRisen fell fallen
Replayed o old new left rest before now held after fell fallen status.NoMemory =
    HasNoItems o left rest before now status.NoMemory × (Untouched old new held after fell fallen ⊎ (WroteFront o new left rest before now held after × (fallen ≡ fell)))
Replayed o old new left rest before now held after fell fallen status.Usage = ⊥

-- A run is over: all lines behind its events were written, and its status tells how the rounds ended; or a front of them,
-- and it tells the cause.
pub record IsWritten (o : Asked) (s : State) (finish : Finish) (held after : Option (List ℕ)) (fell fallen : ℕ) (status : Status) : Type 0 where
  pub rows : List Row
  pub holds : HoldsRows s finish rows
  pub ends : (Appends held after (lines_behind o s.calls rows) × (fallen ≡ fell) × (status ≡ ended_with finish)) ⊎ ((e : WriteError) × AppendsFront held after (lines_behind o s.calls rows) × CauseOf fell fallen e × (status ≡ unwritten e))

-- Where the words give no order, nothing was read or written; where they do, the replay of that order.
abbrev pub Headline : (asked : Option Asked) → (old new : State) → (left rest : Option (List ℕ)) → (before now : ℕ) → (held after : Option (List ℕ)) → (fell fallen : ℕ) → Status → Type 0
Headline None old new left rest before now held after fell fallen s =
    IsUsage s × (rest ≡ left) × (now ≡ before) × Untouched old new held after fell fallen
Headline (Some o) old new left rest before now held after fell fallen s =
    Replayed o old new left rest before now held after fell fallen s
