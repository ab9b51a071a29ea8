-- How a replay ends, by what was written.
use Rattle.std.{proofs.Common.{rules, ◌≡◌, ◌≢◌, ℕ, Bool, true, false, List, [], length, Option, None, subst, sym, ap, ◌∙◌, inl, inr}, specs.{Prelude.{if◌then◌else◌}, Io.KnownBytes.{Appends}}}
use Rattle.sh_map.specs.declared.book.Row.{Row}
use Rattle.sh_port.{specs.{Port.{AppendsFront}, Intake.{TookAll}}, proofs.{Bytes.{appends_more}, Fronts.{front_none, some_last}}}
use Rattle.sh_sheet.specs.{declared.{item.{Item.{Item}, Mode.TheVariants.{Replay}}, status.Status.{Status}}, Sheet.{Items, AreFew, sheet_of}}
use Rattle.sh_sheet.specs.declared.status.Status.TheVariants as status
use Rattle.sh_text.specs.{declared.write.WriteError.{WriteError}, Write.{CauseOf}, Text.{end_line, unfinished_line, end_lines, map_lines, sum_of}}
use Rattle.sh_text.specs.declared.write.WriteError.TheVariants as error
use Rattle.sh_options.specs.Order.{Asked}
use Rattle.sh_world.specs.States.{Given, State}
use Rattle.sh_replay.specs.{declared.ending.Finish.{Finish}, Course.{have_ended, SeatEvent}, Headline.{ended_with, unwritten, AreItems, HalfWritten, HasNoItems, IsWritten, Replayed, Served, Untouched, Written}}
use Rattle.sh_replay.specs.{Output.{calls_lines, count_ended, event_lines, last_lines, lines_behind}, Served.{HasServed, HasStopped, HoldsRows}}
use Rattle.sh_replay.specs.declared.ending.Finish.TheVariants as finish

-- what was read of the whole input
pub read_of : (o : Asked) (left rest : Option (List ℕ)) (before now : ℕ) (bytes slice : List ℕ) (headed : Bool) (items : List Item) → o.make ≡ None → TookAll left rest before now bytes → slice ≡ bytes → sheet_of o.parts Replay slice ≡ Items headed items → AreItems o left rest before now items
read_of o left rest before now bytes slice headed items none took same reads = inl (record {
  make = none;
  headed = headed;
  read = record { bytes = bytes; took = took; reads = ap (sheet_of o.parts Replay) (sym same) ∙ reads };
})

-- where there are items the source didn't fail, and of made ones nothing was read
items_read : (o : Asked) (left rest : Option (List ℕ)) (before now : ℕ) (items : List Item) → AreItems o left rest before now items → HasNoItems o left rest before now status.NoMemory
items_read o left rest before now items h6 = search rules

module _ (o : Asked) (old new : State) (left rest : Option (List ℕ)) (before now : ℕ) (held after : Option (List ℕ)) (fell fallen : ℕ) where
  pub refused : (s : Status) → HasNoItems o left rest before now s → Untouched old new held after fell fallen → Replayed o old new left rest before now held after fell fallen s
  refused s none same = search rules

  module _ (items : List Item) (are : AreItems o left rest before now items) where
    pub unserved : Untouched old new held after fell fallen → Replayed o old new left rest before now held after fell fallen status.NoMemory
    unserved same = (items_read o left rest before now items are, inl same)

    module _ (few : AreFew o.parts items) where
      pub stopped_at : (e : WriteError) → o.events ≡ true → HasStopped o.parts items new held after → CauseOf fell fallen e → Replayed o old new left rest before now held after fell fallen (unwritten e)
      stopped_at error.Fault told has cause = (inl (record { events = told; items = items; are = are; few = few; stopped = has }), cause)
      stopped_at error.NoMemory told has cause = (items_read o left rest before now items are, inr (inl (record { events = told; items = items; are = are; few = few; stopped = has }), cause))

      module _ (end : Finish) (events : List SeatEvent) (told : Option (List ℕ)) (lines : Appends held told (event_lines o.events events)) (has : (rows : List Row) → HoldsRows new end rows → HasServed o.parts items new end events rows) where
        served : (rows : List Row) → HoldsRows new end rows → Served o left rest before now new end events rows
        served rows holds = record { items = items; are = are; few = few; served = has rows holds }

        well : (e : Finish) → Written o new e left rest before now held after fell fallen → Replayed o old new left rest before now held after fell fallen (ended_with e)
        well (finish.Done turns) w = (turns, w)
        well (finish.Spent turns) w = w

        unwell : (e : WriteError) → HalfWritten o new left rest before now held after → CauseOf fell fallen e → Replayed o old new left rest before now held after fell fallen (unwritten e)
        unwell error.Fault half cause = (inr half, cause)
        unwell error.NoMemory half cause = (items_read o left rest before now items are, inr (inr half, cause))

        pub ended : (s : Status) → IsWritten o new end told after fell fallen s → Replayed o old new left rest before now held after fell fallen s
        ended s w = elim w.ends [
          | inl all ↦ subst (Replayed o old new left rest before now held after fell fallen) (sym all.2) (well end (record { events = events; rows = w.rows; served = served w.rows w.holds; written = appends_more held told after _ _ lines all.0; count = all.1 }))
          | inr bad ↦ subst (Replayed o old new left rest before now held after fell fallen) (sym bad.3) (unwell bad.0 (record { finish = end; events = events; rows = w.rows; served = served w.rows w.holds; told = told; lines = lines; written = bad.1 }) bad.2)
        ]

-- ---- the lines behind the events

-- there is always one
last_some : (ended asked : Bool) (calls done : ℕ) (rows : List Row) → (if ended then end_lines asked calls rows else unfinished_line calls done) ≢ []
unfolding end_line unfinished_line
last_some true asked calls done rows = some_last (map_lines asked rows) (end_line calls (length rows) (sum_of rows)) (λ e. absurd (cc))
last_some false asked calls done rows = λ e. absurd (cc)

pub none_behind : (o : Asked) (calls : List Given) (rows : List Row) (held : Option (List ℕ)) → AppendsFront held held (lines_behind o calls rows)
unfolding lines_behind
none_behind o calls rows held = front_none held _ (some_last (calls_lines o.make o.seed calls) (last_lines o.map calls rows) (last_some (have_ended calls) o.map (length calls) (count_ended calls) rows))
