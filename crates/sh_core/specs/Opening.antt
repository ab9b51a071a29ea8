-- How the invariant begins: in a laid pool, and with a new client at a seat that has none.
use Rattle.std.specs.Prelude.{◌≡◌, ℕ, ◌<◌, List, []}
use Rattle.sh_base.specs.{declared.config.ConfigParts.{ConfigParts}, Setting.{all_seats}}
use Rattle.sh_map.specs.declared.log.Entry.{Entry as LogEntry}
use Rattle.sh_image.specs.Laid.{AreLaid}
use Rattle.sh_client.specs.Machine.{fresh_machine}
use Rattle.sh_core.specs.{Actors.{Actor}, Core.{Inv, Moves}}

-- a seat has no actor
abbrev pub IsFreeSeat : (Has : ℕ → Actor → Type 0) → (seat : ℕ) → Type 0
IsFreeSeat Has seat = (a : Actor) → Has seat a → ⊥

-- a new client, which has seen nothing
abbrev pub entered : ConfigParts → (seat : ℕ) → Actor
entered p seat = record { client = fresh_machine p seat; number = 0; seen = 0; first = 0; point = 0; dones = [] }

-- a laid pool, with an empty log, new clients alone and no right
abbrev pub LaidKeeps : ConfigParts → Type 1
LaidKeeps p = (words : List ℕ) (Has : ℕ → Actor → Type 0) (Out : ℕ → ℕ → ℕ → Type 0) → AreLaid p words → ((seat : ℕ) (a : Actor) → Has seat a → (seat < all_seats p) × (a ≡ entered p seat)) → ((lock compute depth : ℕ) → Out lock compute depth → ⊥) → Inv p words [] Has Out

-- a seat of the setting that is free has a new client from now on
abbrev pub EnterKeeps : ConfigParts → Type 1
EnterKeeps p = (words : List ℕ) (log : List LogEntry) (Has Now : ℕ → Actor → Type 0) (Out : ℕ → ℕ → ℕ → Type 0) (seat : ℕ) → Inv p words log Has Out → seat < all_seats p → IsFreeSeat Has seat → Moves Has seat (entered p seat) Now → Inv p words log Now Out
