-- What a client is that has begun a call.
use Rattle.std.{proofs.Common.{rules, ◌≡◌, ◌≢◌, ℕ, Bool, false, Option, None}, specs.Prelude.{if◌then◌else◌}}
use Rattle.sh_map.specs.declared.call.Call.{Call}
use Rattle.sh_decide.specs.{Aims.{aim_of, call_key}}
use Rattle.sh_client.specs.{declared.state.{Origin.{Origin}, Phase.TheVariants.{Read, Draw}}, InLine.{Away, stand_of}, Machine.{Machine, began_cached, reading, to}, Cached.{origin_of}}
use Rattle.sh_client.{specs.{Feeds.{began_at, begun, calling, from_cached}, Rests.{is_resting}, Wants.{load_of, want_of}}, proofs.ReadLemmas.{start_loading}}
use Rattle.sh_client.specs.declared.state.Want.TheVariants as want

-- It has the call, stands in no line, and wants a turn.
pub record HasBegun (m : Machine) (call : Call) : Type 0 where
  pub call_is : m.registers.call ≡ call
  pub away : stand_of m ≡ Away
  pub busy : is_resting m ≡ false
  pub wants : want_of m ≢ want.Done

some_load : (o : Option ℕ) → o ≢ None → load_of o ≢ want.Done
some_load o ne = search rules

module _ (m : Machine) (call : Call) where
  at_child : (origin : Origin) (t : Bool) → let x : Machine = began_cached (from_cached (calling m call) origin.low) in HasBegun (if t then to x (Draw (aim_of call) origin.child) else reading x origin.child (Read (aim_of call) false)) call
  at_child origin t = search (rules, some_load, start_loading)

  by_origin : (o : Option Origin) → HasBegun (began_at (calling m call) call o) call
  by_origin o = search (rules, at_child)

  pub has_begun : HasBegun (begun m call) call
  has_begun = by_origin (origin_of m.registers.cached (call_key call))
