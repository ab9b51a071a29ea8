-- The events of a course are a run, from the words of its first world to those of its last.
use Rattle.std.{proofs.Common.{rules, ◌≡◌, ℕ, Bool, List, [], ◌∷◌, ◌++◌, Option, refl, subst, ◌∙◌}, specs.{Prelude.{if◌then◌else◌}, List.{fold}}}
use Rattle.sh_client.specs.{declared.state.Want.{Want}}
use Rattle.sh_map.specs.declared.call.Call.{Call}
use Rattle.sh_sheet.specs.declared.item.Item.{Item}
use Rattle.sh_base.specs.Memory.{apply}
use Rattle.sh_world.specs.{States.{Place, State}, Turning.{answer_at, answer_of, give_at, took, turn_answer_in, turn_at}}
use Rattle.sh_replay.specs.{Course.{ask, events_by, found_in, given_by, goes_on, seat_of, takes, turned, Asking, Course, SeatEvent, Stage}, Run.{IsRun}}

-- one run behind another
run_append : (a b c : List ℕ) (xs ys : List SeatEvent) → IsRun a xs b → IsRun b ys c → IsRun a (xs ++ ys) c
run_append a b c [] ys first second = subst (λ (ws : List ℕ). IsRun ws ys c) first second
run_append a b c (x ∷ xs) ys first second = (first.0, run_append (apply a x.event) b c xs ys first.1 second)

took_run : (s : State) (seat : ℕ) (q : Place) (w : Want) → IsRun s.words (found_in seat (turn_answer_in s.words w)) (took s seat q w).words
took_run s seat q w = search rules

turn_at_run : (s : State) (seat : ℕ) (o : Option Place) → IsRun s.words (found_in seat (answer_at s o)) (turn_at s seat o).words
turn_at_run s seat o = search (rules, took_run)

turned_run : (r : Stage) (a : Asking) → IsRun r.world.words (found_in (seat_of a) (answer_of r.world (seat_of a))) (turned r a).world.words
turned_run r a = search (rules, turn_at_run)

by_test : (b : Bool) (r t : Stage) (es : List SeatEvent) → IsRun r.world.words es t.world.words → IsRun r.world.words (if b then es else []) (if b then t else r).world.words
by_test b r t es run = search rules

asked_run : (items : List Item) (r : Stage) (a : Asking) → IsRun r.world.words (events_by items r a) (ask items r a).world.words
asked_run items r a = by_test (takes items r a) r (turned r a) _ (turned_run r a)

pub course_run : (items : List Item) (xs : List Asking) (c : Course) (words : List ℕ) → IsRun words c.events c.stage.world.words → IsRun words (fold (goes_on items) c xs).events (fold (goes_on items) c xs).stage.world.words
course_run items [] c words run = run
course_run items (a ∷ xs) c words run = course_run items xs (goes_on items c a) words (run_append words c.stage.world.words (ask items c.stage a).world.words c.events (events_by items c.stage a) run (asked_run items c.stage a))

-- ---- the calls that are given leave the words

give_words : (s : State) (seat : ℕ) (call : Call) (o : Option Place) → (give_at s seat call o).words ≡ s.words
give_words s seat call o = search rules

given_words : (s : State) (item : Item) → (given_by s item).words ≡ s.words
given_words s item = search (rules, give_words)

all_given_words : (items : List Item) (s : State) → (fold given_by s items).words ≡ s.words
all_given_words [] s = refl
all_given_words (i ∷ is) s = all_given_words is (given_by s i) ∙ given_words s i

-- from a world that was given its calls, the course's events are a run from the words that were laid
pub given_run : (sheet items : List Item) (s : State) (left : ℕ) (xs : List Asking) → IsRun s.words (fold (goes_on sheet) (record { stage = record { world = fold given_by s items; left = left }; events = [] }) xs).events (fold (goes_on sheet) (record { stage = record { world = fold given_by s items; left = left }; events = [] }) xs).stage.world.words
given_run sheet items s left xs = course_run sheet xs (record { stage = record { world = fold given_by s items; left = left }; events = [] }) s.words (all_given_words items s)
