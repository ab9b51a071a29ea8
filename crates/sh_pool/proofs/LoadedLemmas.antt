-- The words that a client's READ has loaded are the last ones that it was told.
use Rattle.std.proofs.Common.{rules, ◌≡◌, ℕ, Bool, true, false, List, [], ◌∷◌, ◌++◌, Option, None, Some, length, map, refl, ap, subst, sym, ◌∙◌}
use Rattle.std.specs.Prelude.{if◌then◌else◌, nat_lt}
use Rattle.sh_alloc.specs.declared.state.ChunkWant.{ChunkWant}
use Rattle.sh_base.specs.{declared.config.ConfigParts.{ConfigParts}, Setting.{node_size}}
use Rattle.sh_image.specs.declared.{inner.Image.{Image}, read.Seen.{Seen}}
use Rattle.sh_image.specs.declared.read.Seen.TheVariants.{Leaf as LeafSeen, Inner as InnerSeen, Torn, TornEntry, Odd as OddSeen}
use Rattle.sh_map.specs.declared.call.Call.{Call}
use Rattle.sh_read.specs.{declared.state.Progress.{Progress, TheVariants.{More, Accepted, Again, Odd}}, Judging.{seen_of}, Reads.{accepted, answer_to, judged, progress_of, reads_left, reads_with, Reads}}
use Rattle.sh_decide.specs.declared.state.{Aim.{Aim}, Decision.{Decision}, Way.{Way}}
use Rattle.sh_client.specs.declared.state.{Need.{Need}, Phase.{Phase, TheVariants.{Read, ReadLocked}}}
use Rattle.sh_client.specs.{CachedTurns.{image_by, image_shown}, Machine.{Machine}, Splitting.{needing, sought_by}}
use Rattle.sh_client.specs.Feeds.{arrived, begun, did, fed_in, held_by, hold_by, loaded, read_by, turned, turned_by, turned_in, went}
use Rattle.sh_client.proofs.CachedLemmas.{fed_keeps, turned_keeps}
use Rattle.sh_pool_rule.specs.{declared.view.Tiding.{Tiding, TheVariants.{CallTold, TurnTold, WordTold}}, Lives.{lived, MayLive}}

-- these words were told last
abbrev pub Run : List ℕ → List Tiding → Type 0
Run ws life = (before : List Tiding) × (life ≡ map WordTold ws ++ before)

abbrev IsTold : Machine → List Tiding → Phase → Type 0
IsTold x life (Read aim top) = Run x.registers.reads.loaded life
IsTold x life (ReadLocked aim depth) = Run x.registers.reads.loaded life
IsTold x life phase = Unit {0}

-- a READ that begins has loaded none
abbrev Begins : Machine → Phase → Type 0
Begins x (Read aim top) = x.registers.reads.loaded ≡ []
Begins x (ReadLocked aim depth) = x.registers.reads.loaded ≡ []
Begins x phase = Unit {0}

begun_told : (x : Machine) (life : List Tiding) (phase : Phase) → Begins x phase → IsTold x life phase
begun_told x life (Read aim top) h = (life, ap (λ (ws : List ℕ). map WordTold ws ++ life) (sym h))
begun_told x life (ReadLocked aim depth) h = (life, ap (λ (ws : List ℕ). map WordTold ws ++ life) (sym h))
begun_told x life phase h = tt

abbrev Starts : Machine → Type 0
Starts x = Begins x x.phase

start_told : (x : Machine) (life : List Tiding) → Starts x → IsTold x life x.phase
start_told x life h = begun_told x life x.phase h

takes : (m : Machine) (need : Need) (fresh : Option ℕ) → Starts (needing m need fresh)
takes m need fresh = search rules

seeks : (m : Machine) (need : Need) (w : ChunkWant) → Starts (sought_by m need w)
seeks m need w = search rules

goes : (m : Machine) (aim : Aim) (image : Image) (w : Way) → Starts (went m aim image w)
goes m aim image w = search (rules, takes)

does : (m : Machine) (aim : Aim) (depth : ℕ) (image : Image) (d : Decision) → Starts (did m aim depth image d)
does m aim depth image d = search (rules, takes)

arrives : (m : Machine) (aim : Aim) (top : Bool) (o : Option Image) → Starts (arrived m aim top o)
arrives m aim top o = search (rules, goes)

holds : (m : Machine) (aim : Aim) (depth : ℕ) (o : Option Image) → Starts (held_by m aim depth o)
holds m aim depth o = search (rules, does)

-- a READ that is fed a word has loaded it too, or begins anew
judged_run : (p : ConfigParts) (node : ℕ) (ws : List ℕ) (life : List Tiding) → Run ws life → Run (judged p (reads_with node ws)).loaded life
judged_run p node ws life h = cases (nat_lt (length ws) (node_size p)) (seen_of p ws)
  where
    cases : (b : Bool) (s : Seen) → Run (if b then reads_with node ws else reads_left s (reads_with node ws)).loaded life
    cases true s = h
    cases false (LeafSeen a) = h
    cases false (InnerSeen a) = h
    cases false (Torn rear front) = (life, refl)
    cases false (TornEntry index rear front) = (life, refl)
    cases false OddSeen = h

module _ (m : Machine) (life : List Tiding) where
  read_told : (aim : Aim) (top : Bool) (answer : Progress) → Run m.registers.reads.loaded life → let x : Machine = read_by m aim top answer in IsTold x life x.phase
  read_told aim top More h = h
  read_told aim top Accepted h = start_told (arrived m aim top (accepted m.setting m.registers.reads)) life (arrives m aim top (accepted m.setting m.registers.reads))
  read_told aim top (Again rear front) h = h
  read_told aim top Odd h = tt

  hold_told : (aim : Aim) (depth : ℕ) (answer : Progress) → Run m.registers.reads.loaded life → let x : Machine = hold_by m aim depth answer in IsTold x life x.phase
  hold_told aim depth More h = h
  hold_told aim depth Accepted h = start_told (held_by m aim depth (accepted m.setting m.registers.reads)) life (holds m aim depth (accepted m.setting m.registers.reads))
  hold_told aim depth (Again rear front) h = h
  hold_told aim depth Odd h = tt

-- a turn that is no READ's
abbrev reads_none : Phase → Bool
reads_none (Read aim top) = false
reads_none (ReadLocked aim depth) = false
reads_none phase = true

else_starts : (m : Machine) (word : ℕ) (phase : Phase) → m.phase ≡ phase → reads_none phase ≡ true → Starts (fed_in m word phase)
else_starts m word phase e h = search (rules, seeks, takes)

module _ (m : Machine) (word : ℕ) (life : List Tiding) where
  fed_told : (phase : Phase) → m.phase ≡ phase → IsTold m life phase → let x : Machine = fed_in m word phase in IsTold x (WordTold word ∷ life) x.phase
  fed_told (Read aim top) e h =
      read_told (loaded m word) (WordTold word ∷ life) aim top (progress_of m.setting m.registers.reads word) (judged_run m.setting m.registers.reads.node (word ∷ m.registers.reads.loaded) (WordTold word ∷ life) (h.0, ap (λ l. WordTold word ∷ l) h.1))
  fed_told (ReadLocked aim depth) e h =
      hold_told (loaded m word) (WordTold word ∷ life) aim depth (progress_of m.setting m.registers.reads word) (judged_run m.setting m.registers.reads.node (word ∷ m.registers.reads.loaded) (WordTold word ∷ life) (h.0, ap (λ l. WordTold word ∷ l) h.1))
  fed_told phase e h = start_told (fed_in m word phase) (WordTold word ∷ life) (else_starts m word phase e refl)

turned_starts : (m : Machine) (aim : Aim) (node : ℕ) (depth : Option ℕ) → Starts (turned m aim node depth)
turned_starts m aim node None = tt
turned_starts m aim node (Some depth) = refl

call_starts : (m : Machine) (call : Call) → Starts (begun m call)
call_starts m call = search rules

call_keeps : (m : Machine) (call : Call) → (begun m call).setting ≡ m.setting
call_keeps m call = search rules

module _ (p : ConfigParts) (m : Machine) (rests : IsTold m [] m.phase) where
  told : (life : List Tiding) → MayLive p m life → let x : Machine = lived m life in IsTold x life x.phase
  told [] may = rests
  told (CallTold call ∷ life) may = start_told (begun (lived m life) call) (CallTold call ∷ life) (call_starts (lived m life) call)
  told (WordTold word ∷ life) may = fed_told (lived m life) word life (lived m life).phase refl (told life may.1)
  told (TurnTold depth ∷ life) may =
      let x = lived m life in
      start_told (turned_by x depth) (TurnTold depth ∷ life) (subst (λ (phase : Phase). Starts (turned_in x depth phase)) (sym may.0.2) (turned_starts x may.0.0 may.0.1 depth))

  -- what a READ without a lock has loaded
  pub read_run : (life : List Tiding) (aim : Aim) (top : Bool) → MayLive p m life → (lived m life).phase ≡ Read aim top → Run (lived m life).registers.reads.loaded life
  read_run life aim top may e = subst (IsTold (lived m life) life) e (told life may)

  pub lived_setting : (life : List Tiding) → (lived m life).setting ≡ m.setting
  lived_setting [] = refl
  lived_setting (CallTold call ∷ life) = call_keeps (lived m life) call ∙ lived_setting life
  lived_setting (WordTold word ∷ life) = (fed_keeps (lived m life) word).0 ∙ lived_setting life
  lived_setting (TurnTold depth ∷ life) = (turned_keeps (lived m life) depth).0 ∙ lived_setting life

-- the image that a word makes an accepted one is that of all the loaded words
module _ (m : Machine) (word : ℕ) (a : Image) where
  abbrev all : Reads
  all = reads_with m.registers.reads.node (word ∷ m.registers.reads.loaded)

  by : (b : Bool) (s : Seen) → image_by (record m { registers = record m.registers { reads = if b then all else reads_left s all } }) (if b then More else answer_to s) ≡ Some a → accepted m.setting all ≡ Some a
  by b s h = search rules

  pub spelt : image_shown m word ≡ Some a → accepted m.setting all ≡ Some a
  spelt h = by (nat_lt (length all.loaded) (node_size m.setting)) (seen_of m.setting all.loaded) h
