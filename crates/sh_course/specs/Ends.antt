-- The calls that have ended in the life of a seat, each with its cause.
use Rattle.std.specs.Prelude.{◌≡◌, ℕ, List, [], ◌∷◌, ◌++◌, Some, None}
use Rattle.sh_client.specs.{Machine.{Machine}, Rests.{reply_of, rows_told}, Feeds.{begun}}
use Rattle.sh_course.specs.{Answers.{Caused}, Found.{holds}, Life.{course_in, lived, start_in, SeatAct, Ended}, Turns.{IsCallCourse}}

-- The call ended at a place of the life: up to there its course is the turns since it began, which show the cause of its reply,
-- and behind which it holds no lock.
pub record EndsAt (m : Machine) (life : List SeatAct) (e : Ended) : Type 0 where
  pub later : List SeatAct
  pub earlier : List SeatAct
  pub whole : life ≡ later ++ earlier
  pub course : IsCallCourse (begun (start_in m earlier) e.call) (course_in m earlier) (lived m earlier)
  pub replied : reply_of (lived m earlier) ≡ Some e.reply
  pub rows : rows_told (lived m earlier) ≡ e.rows
  pub caused : Caused m.setting e.call (start_in m earlier).registers.spare (course_in m earlier) (lived m earlier).registers.rows e.reply
  pub frees : (lock : ℕ) → holds m.setting lock (course_in m earlier) ≡ None

abbrev pub AreEnds : Machine → List SeatAct → List Ended → Type 0
AreEnds m life [] = Unit {0}
AreEnds m life (e ∷ es) = EndsAt m life e × AreEnds m life es
