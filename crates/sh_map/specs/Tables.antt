-- Tables that are kept beside a log and its calls, so that each of them is judged quickly.
use Rattle.std.specs.Prelude.{◌≡◌, ◌≢◌, ◌↔◌, ◌⊎◌, ℕ, ◌+◌, ◌<◌, ◌≤◌, Bool, true, List, length, take, map, slice_get, slice_index_or, All, Any, IsTrue, Option, Some, MatchOption, unwrap_or}
use Rattle.std.specs.{Ordering.{nat_cmp}, FinMap.{from_entries}, BTreeMap.{BTreeMap}, BTreeSet.{BTreeSet, contains}}
use Rattle.std.specs.BTreeMap as tree
use Rattle.sh_map.specs.{declared.{log.Entry.{Entry}, book.{Row.{Row}, Done.{Done}}}, Map.{Map, get, row_pair}, Log.{change_key, left_value}, Book.{IsOwn, made}}

-- whether each finished call keeps a rule
pub record AreKept (Fits : List Done → Done → Type 0) (dones : List Done) (kept : List Bool) : Type 0 where
  pub long : length kept ≡ length dones
  pub each : (i : ℕ) (d : Done) → slice_get dones i ≡ Some d → IsTrue (slice_index_or kept i true) ↔ Fits (take i dones) d

-- whether each place below n is that of some finished call's own entry
pub record AreOwned (n : ℕ) (dones : List Done) (owned : List Bool) : Type 0 where
  pub long : length owned ≡ n
  pub each : (i : ℕ) → i < n → IsTrue (slice_index_or owned i true) ↔ Any (IsOwn i) dones

-- the entry at place i is the last of this seat
pub record IsLastPlace (log : List Entry) (seat i : ℕ) : Type 0 where
  pub here : (e : Entry) × (slice_get log i ≡ Some e) × (e.seat ≡ seat)
  pub last : (j : ℕ) (f : Entry) → i < j → slice_get log j ≡ Some f → f.seat ≢ seat

abbrev pub HasNoPlace : List Entry → ℕ → Type 0
HasNoPlace log seat = (j : ℕ) (f : Entry) → slice_get log j ≡ Some f → f.seat ≢ seat

-- the last place of each seat that has an entry
pub record AreLastPlaces (log : List Entry) (lasts : BTreeMap ℕ ℕ) : Type 0 where
  pub each : (seat : ℕ) → MatchOption (tree.get nat_cmp lasts seat) (HasNoPlace log seat) (λ i. IsLastPlace log seat i)

-- Bounds for a call behind these: its number has to be at least `above`, and it may begin no earlier than its seat's end.
pub record AreBounds (before : List Done) (above : ℕ) (ends : BTreeMap ℕ ℕ) : Type 0 where
  pub number : (n : ℕ) → (above ≤ n) ↔ All (λ x. x.n < n) before
  pub end : (seat first : ℕ) → (unwrap_or (tree.get nat_cmp ends seat) 0 ≤ first) ↔ All (λ x. x.seat ≡ seat → x.point + made x.call x.reply ≤ first) before

-- what rows give a key
abbrev pub given_value : List Row → ℕ → Option (List ℕ)
given_value rows key = get (from_entries (map row_pair rows)) key

-- the keys that some of these entries leaves as the rows give them
pub record AreMet (log : List Entry) (rows : List Row) (met : BTreeSet ℕ) : Type 0 where
  pub each : (key : ℕ) → IsTrue (contains nat_cmp met key) ↔ Any (λ e. (change_key e.change ≡ key) × (left_value e.change ≡ given_value rows key)) log

-- a key has in the map what the rows give it, or it is among those that were met
abbrev pub IsGivenValue : Map → BTreeSet ℕ → List Row → ℕ → Type 0
IsGivenValue m met rows key = (get m key ≡ given_value rows key) ⊎ IsTrue (contains nat_cmp met key)
