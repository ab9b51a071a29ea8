-- What the parts of a turn need.
use Rattle.std.specs.{Prelude.{◌≡◌, ℕ, ◌-◌, ◌^◌, ◌<◌, ◌≤◌, List, length, slice_get, Some, None, true}, List.{All}}
use Rattle.sh_base.specs.declared.config.ConfigParts.{ConfigParts}
use Rattle.sh_map.specs.{declared.log.Entry.{Entry}, Calls.{IsInRange}, Log.{IsLegal}}
use Rattle.sh_client.specs.declared.state.Want.TheVariants as want
use Rattle.sh_client.specs.{declared.state.Phase.TheVariants.{Idle}, Machine.{Machine}, Wants.{want_of}, Rests.{has_ended, rows_told}}
use Rattle.sh_world.specs.{States.{Given, Place}, Columns.{keys_of, IsReplyWide, IsRowWide}, Running.{HasPoint}}

-- a seat at rest may begin this one of the calls
pub record CanStart (calls : List Given) (q : Place) (number : ℕ) : Type 0 where
  pub idle : q.client.phase ≡ Idle
  pub real : (1 ≤ number) × (number ≤ length calls)
  pub lawful : (g : Given) → slice_get calls (number - 1) ≡ Some g → IsInRange q.client.setting g.call

-- and so its next one
abbrev pub CanAsk : List Given → Place → Type 0
CanAsk calls q = want_of q.client ≡ want.Done → (number : ℕ) → slice_get q.numbers q.ended ≡ Some number → CanStart calls q number

-- A call that ends with this machine is one of the given calls and isn't answered, has a point in this log, and a reply's
-- value has the setting's words. A range has no more rows than keys, and than the setting lets it have, whose values have
-- the setting's words too; any other call has none.
pub record CanEnd (p : ConfigParts) (log : List Entry) (calls : List Given) (q : Place) (m : Machine) : Type 0 where
  pub legal : IsLegal log
  pub real : (1 ≤ q.number) × (q.number ≤ length calls)
  pub call : (g : Given) → slice_get calls (q.number - 1) ≡ Some g → g.call ≡ m.registers.call
  pub waits : (g : Given) → slice_get calls (q.number - 1) ≡ Some g → g.reply ≡ None
  pub point : HasPoint log q.first m.registers.call m.registers.reply
  pub wide : IsReplyWide p.value_words m.registers.reply
  pub rows : length (rows_told m) ≤ p.rows
  pub keys : length (rows_told m) ≤ keys_of m.registers.call
  pub values : All (IsRowWide p.value_words) (rows_told m)
  pub first : q.first < 2 ^ 32
  pub place : q.point < 2 ^ 32
  pub few : length log < 2 ^ 32
  pub ended : q.ended < 2 ^ 32 - 1

-- where a client has become this, its call can end if it has ended
abbrev pub CanSettle : ConfigParts → List Entry → List Given → Place → Machine → Type 0
CanSettle p log calls q m = has_ended m.phase ≡ true → CanEnd p log calls q m
