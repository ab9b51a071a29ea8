-- The life of a seat: all that its client was told since it was made, the last first.
use Rattle.std.specs.Prelude.{◌≡◌, ℕ, true, false, if◌then◌else◌, List, [], ◌∷◌, ◌++◌, map}
use Rattle.sh_base.specs.declared.config.ConfigParts.{ConfigParts}
use Rattle.sh_map.specs.{declared.{call.{Call.{Call}, Reply.{Reply}}, book.{Done.{Done}, Row.{Row}}}, Calls.{IsInRange}}
use Rattle.sh_decide.specs.declared.state.Aim.{Aim}
use Rattle.sh_client.specs.{declared.state.Phase.TheVariants.{Look}, Machine.{Machine, fresh_machine}, Feeds.{fed_by, turned_by, begun}, Rests.{has_ended, is_resting, rows_told}}
use Rattle.sh_core.specs.Actors.{Actor}
use Rattle.sh_pool_rule.specs.declared.view.Tiding.{Tiding, TheVariants.{CallTold, TurnTold, WordTold}}

-- the machine that was told so
abbrev pub lived : Machine → List Tiding → Machine
lived m [] = m
lived m (CallTold call ∷ life) = begun (lived m life) call
lived m (WordTold word ∷ life) = fed_by (lived m life) word
lived m (TurnTold depth ∷ life) = turned_by (lived m life) depth

-- a call that has ended: its reply, and a range's rows
pub record CallEnd : Type 0 where
  pub call : Call
  pub reply : Reply
  pub rows : List Row

abbrev pub call_end : Machine → CallEnd
call_end m = record { call = m.registers.call; reply = m.registers.reply; rows = rows_told m }

abbrev pub end_if : Machine → List CallEnd
end_if m = if has_ended m.phase then call_end m ∷ [] else []

-- the calls that have ended in a life, in their order: each with the machine's reply and rows
abbrev pub ends_in : Machine → List Tiding → List CallEnd
ends_in m [] = []
ends_in m (CallTold call ∷ life) = ends_in m life
ends_in m (tiding ∷ life) = ends_in m life ++ end_if (lived m (tiding ∷ life))

-- the calls that were begun in a life, in their order
abbrev pub calls_told : List Tiding → List Call
calls_told [] = []
calls_told (CallTold call ∷ life) = calls_told life ++ call ∷ []
calls_told (tiding ∷ life) = calls_told life

abbrev pub end_told : Done → CallEnd
end_told d = record { call = d.call; reply = d.reply; rows = d.rows }

-- What a client may be told: that a call begins, where it rests; a word, where a call is under way; and that its look had the
-- turn, where it looks.
abbrev pub MayTell : ConfigParts → Machine → Tiding → Type 0
MayTell p m (CallTold call) = (is_resting m ≡ true) × IsInRange p call
MayTell p m (WordTold word) = is_resting m ≡ false
MayTell p m (TurnTold depth) = (aim : Aim) × (node : ℕ) × (m.phase ≡ Look aim node)

abbrev pub MayLive : ConfigParts → Machine → List Tiding → Type 0
MayLive p m [] = Unit {0}
MayLive p m (tiding ∷ life) = MayTell p (lived m life) tiding × MayLive p m life

-- An actor of a seat has this life: its client is the machine that was told so from its making on, and its ended calls are
-- those of that machine. The machine was told nothing but what it waited for.
pub record HasLived (p : ConfigParts) (seat : ℕ) (life : List Tiding) (a : Actor) : Type 0 where
  pub client : a.client ≡ lived (fresh_machine p seat) life
  pub ends : map end_told a.dones ≡ ends_in (fresh_machine p seat) life
  pub may : MayLive p (fresh_machine p seat) life
