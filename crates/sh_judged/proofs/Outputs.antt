-- The output of a world that has served a sheet is found lawful.
use Rattle.std.proofs.Common.{rules, ℕ, zero, suc, ◌*◌, ◌≡◌, ◌≤◌, ◌<◌, ◌+◌, Bool, true, false, List, ◌++◌, length, map, Option, Some, None, refl, sym, ap, subst, ◌∙◌, arith, if◌then◌else◌}
use Rattle.std.{specs.{Prelude.{is_none, option_and_then, unwrap_or}, List.{AllByRecursion}, FinMap.{entries}}, proofs.lemmas.{Bool.{and_parts}, List.{length-map}}}
use Rattle.sh_logic.proofs.Options.{some_is}
use Rattle.sh_base.specs.{declared.config.{ConfigFault.{ConfigFault}, ConfigParts.{ConfigParts}}, Faults.{fault_of, first_outside}, Setting.{IsRanged}}
use Rattle.sh_base.proofs.FaultLemmas.{fault_stays, ranged_from_none}
use Rattle.sh_map.specs.{declared.book.{Done.{Done}, Row.{Row}}, Map.{Map}}
use Rattle.sh_sheet.specs.{declared.{item.{Item.{Item}, Mode.TheVariants.{Replay}}, status.Status.TheVariants.{Ok}}, Sheet.{done_item, is_call}}
use Rattle.sh_text.specs.Text.{calls_text, unfinished_line, end_lines}
use Rattle.sh_text.specs.declared.points.Points.TheVariants as points
use Rattle.sh_options.specs.{Order.{Asked, asked_if, given_in, is_sound, names_for, order_of}, Uses.{Text, Use, told_by}, declared.order.Given.{Given}}
use Rattle.sh_world.{specs.{Running.{IsRunning}, States.{State, dones_of, fresh_from}}}
use Rattle.sh_replay.specs.{Course.{have_ended, SeatEvent}, Headline.{AreItems, Headline}}
use Rattle.sh_replay.specs.{Output.{calls_lines, count_ended, event_lines, last_lines, lines_behind, text_of}, Served.{HasServed, item_of, row_of}}
use Rattle.sh_replay.specs.declared.ending.Finish.{Finish, TheVariants.{Done as AllDone}}
use Rattle.sh_replay.proofs.{ItemLemmas.{given_seats}, OutputLemmas.{done_items, done_lines}, TurnLemmas.{asked_seats}}
use Rattle.sh_judge.specs.{declared.finding.Finding.TheVariants.{Lawful}, Finding.{IsFinding, log_rows}}
use Rattle.sh_judged.specs.Judged.{WritesLawful}
use Rattle.sh_judged.proofs.{Books.{lines_lawful}, Sheets.{AsksWords, items_words}, Worlds.{all_asked, numbered, world_tellable}}

-- the lines of these calls and rows
abbrev all_lines : (asked : Bool) → List Done → List Row → List ℕ
all_lines asked dones rows = calls_text points.Shown dones ++ end_lines asked (length dones) rows

-- the items that were read ask for values of words
pub read_words : (o : Asked) (left rest : Option (List ℕ)) (before now : ℕ) (items : List Item) → o.make ≡ None → AreItems o left rest before now items → AllByRecursion AsksWords items
read_words o left rest before now items none h7 = search (rules, items_words)

module _ (o : Asked) (s : State) (turns : ℕ) (items : List Item) (events : List SeatEvent) (rows : List Row) (run : IsRunning s) (has : HasServed o.parts items s (AllDone turns) events rows) (asks : AllByRecursion AsksWords items) where
  ended : have_ended s.calls ≡ true
  ended = ap (λ (x : State). have_ended x.calls) has.last ∙ has.end_is.0

  rows_are : rows ≡ log_rows s.log
  rows_are = has.rows_are.rows_are ∙ ap (λ (m : Map). map row_of (entries m)) has.rows_are.holds

  count : length (dones_of s.calls) ≡ length s.calls
  count = sym (length-map (dones_of s.calls) done_item) ∙ ap length (done_items 1 s.calls ended) ∙ length-map s.calls item_of

  found : IsFinding o.parts.value_words (all_lines o.map (dones_of s.calls) (log_rows s.log)) (Lawful (length (dones_of s.calls)) (length s.log))
  found =
      let width = run.setting.ranged.value_words in
      subst (λ (p : ConfigParts). IsFinding p.value_words (all_lines o.map (dones_of s.calls) (log_rows s.log)) (Lawful (length (dones_of s.calls)) (length s.log))) has.setting
      (lines_lawful s.setting.value_words width.0 width.1 s.log (dones_of s.calls) has.lawful has.rows_are.closed (omega (arith, count, has.few_calls))
      (world_tellable s run (all_asked s.setting s.calls is_call items run.given has.calls asks)) (numbered 1 s.calls ended) (omega (arith, ap length rows_are, has.few_rows)) o.map)

  pub output_lawful : o.make ≡ None → o.events ≡ false → IsFinding o.parts.value_words (text_of o events s.calls rows) (Lawful (length s.calls) (length s.log))
  unfolding lines_behind
  output_lawful none untold =
      let same : text_of o events s.calls rows ≡ all_lines o.map (dones_of s.calls) (log_rows s.log) =
      ap (λ t. event_lines t events ++ (calls_lines o.make o.seed s.calls ++ last_lines o.map s.calls rows)) untold ∙
      ap (λ make. calls_lines make o.seed s.calls ++ last_lines o.map s.calls rows) none
      ∙ ap (λ t. t ++ last_lines o.map s.calls rows) (done_lines 1 s.calls ended)
      ∙ ap (λ t. calls_text points.Shown (dones_of s.calls) ++ (if t then end_lines o.map (length s.calls) rows else unfinished_line (length s.calls) (count_ended s.calls))) ended
      ∙ (λ k. calls_text points.Shown (dones_of s.calls) ++ end_lines o.map (sym count k) (rows_are k)) in
      subst (λ t. IsFinding o.parts.value_words t (Lawful (length s.calls) (length s.log))) (sym same)
      (subst (λ n. IsFinding o.parts.value_words (all_lines o.map (dones_of s.calls) (log_rows s.log)) (Lawful n (length s.log))) count found)

-- ---- of a run that ended with `Ok`

ranged : (p : ConfigParts) (next x : Option ConfigFault) → first_outside p None ≡ x → first_outside p next ≡ None → IsRanged p
ranged p next x e none = search (rules, ranged_from_none, fault_stays)

sound_ranged : (g : Given) (o : Asked) (t : Bool) → is_sound g ≡ t → (if t then Some (record { parts = g.parts; map = g.map; events = g.events; make = g.make; seed = unwrap_or g.seed 1 }) else None) ≡ Some o → IsRanged o.parts
sound_ranged g o false e is = absurd (cc)
sound_ranged g o true e is =
    let asked : Asked = record { parts = g.parts; map = g.map; events = g.events; make = g.make; seed = unwrap_or g.seed 1 } in
    let same : asked ≡ o = some_is is in
    subst (λ (x : Asked). IsRanged x.parts) same (ranged g.parts _ _ refl (by (fault_of g.parts) (and_parts (is_none (fault_of g.parts)) _ e).0)) where
      by : (f : Option ConfigFault) → is_none f ≡ true → f ≡ None
      by None x = refl
      by (Some f) x = absurd (cc)

order_ranged : (us : Option (List Use)) (o : Asked) → option_and_then (λ us. asked_if (given_in us)) us ≡ Some o → IsRanged o.parts
order_ranged None o is = absurd (cc)
order_ranged (Some us) o is = sound_ranged (given_in us) o (is_sound (given_in us)) refl is

accepted_ranged : (words : List Text) (o : Asked) → order_of Replay words ≡ Some o → IsRanged o.parts
unfolding order_of
accepted_ranged words o is = order_ranged (told_by (names_for Replay) words) o is

fresh_seats : (p : ConfigParts) (seat count : ℕ) → length (fresh_from p seat count) ≡ count
fresh_seats p seat zero = refl
fresh_seats p seat (suc count) = ap suc (fresh_seats p (seat + 1) count)

has_seats : (p : ConfigParts) (items : List Item) (s : State) (end : Finish) (events : List SeatEvent) (rows : List Row) → IsRanged p → HasServed p items s end events rows → 0 < length s.seats
has_seats p items s end events rows r has = search (rules, asked_seats, given_seats, fresh_seats)

module _ (words : List Text) (old new : State) (left rest : Option (List ℕ)) (before now : ℕ) (held after : Option (List ℕ)) (fell fallen : ℕ) (h : Headline (order_of Replay words) old new left rest before now held after fell fallen Ok) where
  -- its world is laid
  pub seats_there : 0 < length new.seats
  seats_there = by (order_of Replay words) refl h where
    by : (x : Option Asked) → order_of Replay words ≡ x → Headline x old new left rest before now held after fell fallen Ok → 0 < length new.seats
    by None e bad = absurd bad.0
    by (Some o) e wrote = has_seats o.parts wrote.1.served.items new (AllDone wrote.0) wrote.1.events wrote.1.rows (accepted_ranged words o e) wrote.1.served.served

  -- and what it wrote is found lawful
  pub writes_lawful : IsRunning new → WritesLawful (order_of Replay words) new held after Ok
  writes_lawful run = by (order_of Replay words) h where
    by : (x : Option Asked) → Headline x old new left rest before now held after fell fallen Ok → WritesLawful x new held after Ok
    by None bad = tt
    by (Some o) wrote = λ none told. record {
      text = text_of o wrote.1.events new.calls wrote.1.rows;
      written = wrote.1.written;
      found = output_lawful o new wrote.0 wrote.1.served.items wrote.1.events wrote.1.rows run wrote.1.served.served (read_words o left rest before now wrote.1.served.items none wrote.1.served.are) none told;
    }
