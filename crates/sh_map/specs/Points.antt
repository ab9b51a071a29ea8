-- The point of a reply: the least one at which it is right, or the place of its entry.
use Rattle.std.specs.{Prelude.{◌≡◌, ◌≢◌, ℕ, zero, suc, ◌-◌, ◌<◌, ◌≤◌, if◌then◌else◌, Bool, true, false, List, length, Option, Some, None}, Str.{bytes_eq}}
use Rattle.sh_map.specs.{declared.{call.{Call.{Call, TheVariants.{Get, Put, Del}}, Reply.{Reply}}, log.Entry.{Entry}}, Map.{get}, Log.{map_at}}
use Rattle.sh_map.specs.declared.call.Reply.TheVariants as reply

-- the least point from first on at which the map has this at the key
pub record IsLeastPoint (log : List Entry) (first key : ℕ) (had : Option (List ℕ)) (p : ℕ) : Type 0 where
  pub from : first ≤ p
  pub within : p ≤ length log
  pub here : get (map_at log p) key ≡ had
  pub least : (q : ℕ) → first ≤ q → q < p → get (map_at log q) key ≢ had

-- the map has the same at a key
abbrev pub had_same : Option (List ℕ) → Option (List ℕ) → Bool
had_same None None = true
had_same None (Some b) = false
had_same (Some a) None = false
had_same (Some a) (Some b) = bytes_eq a b

-- from p on, the least of so many points at which the map has this at the key, and the one behind them where none has
abbrev pub least_from : List Entry → (key : ℕ) → Option (List ℕ) → (count p : ℕ) → ℕ
least_from log key had zero p = p
least_from log key had (suc count) p = if had_same (get (map_at log p) key) had then p else least_from log key had count (suc p)

abbrev pub least_point : List Entry → (first key : ℕ) → Option (List ℕ) → ℕ
least_point log first key had = least_from log key had (length log - first) first

-- The point of a reply: a get's, and that of a delete that found nothing, is the least one; an update's is the place of
-- its entry; and any other is the log's length.
abbrev pub point_of : List Entry → (first point : ℕ) → Call → Reply → ℕ
point_of log first point (Get key) (reply.Some value) = least_point log first key (Some value)
point_of log first point (Get key) reply.None = least_point log first key None
point_of log first point (Del key) reply.None = least_point log first key None
point_of log first point (Put key value) (reply.Some old) = point
point_of log first point (Put key value) reply.None = point
point_of log first point (Del key) (reply.Some old) = point
point_of log first point call reply = length log
