-- The walk over the counters, as a machine that is fed words.
use Rattle.std.specs.Prelude.{ℕ, ◌≡◌, ◌+◌, ◌%◌, ◌<◌, nat_lt, if◌then◌else◌, List, [], ◌∷◌}
use Rattle.sh_base.specs.{declared.{config.ConfigParts.{ConfigParts}, event.Event.TheVariants.{Load, Add}}, Layout.{counter_word}}
use Rattle.sh_alloc.specs.declared.state.{Phase.{Phase, TheVariants.{Loading, Adding, Found, Spent}}, Walk.{Walk}, ChunkWant.{ChunkWant, TheVariants.{Event, Got, AllSpent}}}

abbrev pub walk_at : (first passed : ℕ) → Phase → Walk
walk_at first passed phase = record { first = first; passed = passed; phase = phase }

-- the same server, in another phase
abbrev pub with_phase : Walk → Phase → Walk
with_phase w phase = walk_at w.first w.passed phase

-- a walk begins at server seat mod servers, with the load of its counter
abbrev pub walk_start : ConfigParts → (seat : ℕ) → Walk
walk_start p seat = walk_at (seat % p.servers) 0 Loading

-- the server that a walk is at: it goes up from the first one, and from the last server on to server 0
abbrev pub server_at : ConfigParts → Walk → ℕ
server_at p w = (w.first + w.passed) % p.servers

-- what a walk wants, at a server and in a phase
abbrev pub walk_wants_in : ConfigParts → (server : ℕ) → Phase → ChunkWant
walk_wants_in p server Loading = Event (Load (counter_word p server))
walk_wants_in p server Adding = Event (Add (counter_word p server))
walk_wants_in p server (Found chunk) = Got server chunk
walk_wants_in p server Spent = AllSpent

abbrev pub walk_wants : ConfigParts → Walk → ChunkWant
walk_wants p w = walk_wants_in p (server_at p w) w.phase

-- the server was found spent: on to the next one, and behind the last one all are spent
abbrev pub walk_next : ConfigParts → Walk → Walk
walk_next p w = if nat_lt (w.passed + 1) p.servers then walk_at w.first (w.passed + 1) Loading else with_phase w Spent

-- A walk is fed the word that its event found. Below the limit a load leads to an add, and an add found its word as the
-- chunk; at or above it the server is spent. A walk that has ended stays.
abbrev pub walk_fed_in : ConfigParts → Walk → (word : ℕ) → Phase → Walk
walk_fed_in p w word Loading = if nat_lt word p.chunks then with_phase w Adding else walk_next p w
walk_fed_in p w word Adding = if nat_lt word p.chunks then with_phase w (Found word) else walk_next p w
walk_fed_in p w word (Found chunk) = w
walk_fed_in p w word Spent = w

abbrev pub walk_fed : ConfigParts → Walk → (word : ℕ) → Walk
walk_fed p w word = walk_fed_in p w word w.phase

-- a walk that is fed words one after another
abbrev pub run_of : ConfigParts → Walk → (words : List ℕ) → Walk
run_of p w [] = w
run_of p w (word ∷ words) = run_of p (walk_fed p w word) words

-- a walk of the setting: its servers are fewer than the setting's, and a chunk that it found is below the limit
pub record IsWalk (p : ConfigParts) (w : Walk) : Type 0 where
  pub first : w.first < p.servers
  pub passed : w.passed < p.servers
  pub found : (chunk : ℕ) → w.phase ≡ Found chunk → chunk < p.chunks
