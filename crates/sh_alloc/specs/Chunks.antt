-- What walks want, and what the words of a run were.
use Rattle.std.specs.Prelude.{ℕ, ◌≡◌, ◌<◌, ◌≤◌, List, [], ◌∷◌, ◌++◌}
use Rattle.sh_base.specs.{declared.{config.ConfigParts.{ConfigParts}, event.Event.TheVariants.{Add}}, Layout.{counter_word}, Memory.{at_of}}
use Rattle.sh_alloc.specs.{declared.state.{Walk.{Walk}, Chunks.{Chunks}, ChunkWant.{ChunkWant, TheVariants.{Event, Got, AllSpent}}}, Walks.{walk_wants, run_of}}

abbrev pub walk_of : Chunks → Walk
walk_of chunks = chunks.walk

abbrev pub setting_of : Chunks → ConfigParts
setting_of chunks = chunks.cfg.parts

-- an event is wanted
abbrev pub WantsEvent : ChunkWant → Type 0
WantsEvent (Event e) = Unit {0}
WantsEvent want = ⊥

-- an event on a counter of the setting, or a server and a chunk of the setting
abbrev pub IsWantOf : ConfigParts → ChunkWant → Type 0
IsWantOf p (Event e) = at_of e < counter_word p p.servers
IsWantOf p (Got server chunk) = (server < p.servers) × (chunk < p.chunks)
IsWantOf p AllSpent = Unit {0}

-- an event on this word is wanted
abbrev pub Asks : ChunkWant → (at : ℕ) → Type 0
Asks (Event e) at = at_of e ≡ at
Asks want at = ⊥

-- one of a run's words was found at the server's counter, and is at or above the limit
pub record FindsSpent (p : ConfigParts) (w : Walk) (words : List ℕ) (server : ℕ) : Type 0 where
  pub before : List ℕ
  pub word : ℕ
  pub after : List ℕ
  pub whole : words ≡ before ++ (word ∷ after)
  pub asks : Asks (walk_wants p (run_of p w before)) (counter_word p server)
  pub spent : p.chunks ≤ word

-- one of a run's words was found by an add at the server's counter, is the chunk, is below the limit, and ends the run
pub record FindsChunk (p : ConfigParts) (w : Walk) (words : List ℕ) (server chunk : ℕ) : Type 0 where
  pub before : List ℕ
  pub after : List ℕ
  pub whole : words ≡ before ++ (chunk ∷ after)
  pub asks : walk_wants p (run_of p w before) ≡ Event (Add (counter_word p server))
  pub below : chunk < p.chunks
  pub ends : walk_wants p (run_of p w (before ++ (chunk ∷ []))) ≡ Got server chunk
