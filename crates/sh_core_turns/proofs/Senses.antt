-- No client comes to a senseless case.
use Rattle.std.{proofs.Common.{rules, ◌≡◌, ℕ, Bool, false, List, Option, refl, sym, ap, ◌∙◌, subst, true, ◌∷◌, Some, None}, specs.Prelude.{not, if◌then◌else◌, nat_lt}}
use Rattle.sh_base.specs.{declared.{config.ConfigParts.{ConfigParts}, event.Event.{Event}}, Setting.{IsSetting, last_version, last_entry_version}, Memory.{found_by}}
use Rattle.sh_map.specs.declared.call.Call.{Call}
use Rattle.sh_image.specs.{Leaf.{Leaf}, declared.{inner.Image.{Image}}}
use Rattle.sh_alloc.specs.{declared.state.ChunkWant.{ChunkWant}, Walks.{walk_fed, walk_wants}}
use Rattle.sh_descend.specs.{declared.Hop.{Hop}, Descent.{hop_of}}
use Rattle.sh_state.specs.TreeState.{TreeState}
use Rattle.sh_decide.specs.{Aims.{aimed_key, target, takes_lock}, Leaves.{version_at}, Ways.{way_by, way_here, way_of}, declared.state.Aim.{Aim}}
use Rattle.sh_decide.specs.Deciding.{decided_by, change_at, unless_worn, update_in}
use Rattle.sh_decide.specs.declared.state.{Aim.TheVariants.{Own}, Decision.{Decision}, Way.{Way}}
use Rattle.sh_client.specs.{Cached.{learning, settling}, Feeds.{arrived, did, fed_in, held_by, hold_by, loaded, read_by, went}, Machine.{Registers, Machine}}
use Rattle.sh_client.specs.{Wants.{want_in, want_of}}
use Rattle.sh_client.specs.declared.state.{Phase.{TheVariants.{Root, Read, ReadLocked, Seek}, Phase}}
use Rattle.sh_core.{specs.{Actors.{Actor}}, proofs.Frame.{actor_is, Before, actor_in, at, before}}
use Rattle.sh_core_turns.proofs.{InnerDecisions.{locked_reads}, Needs.{event_is}, OnWay.{way_read}, Standing.{root_named, load_is, split_here}}
use Rattle.sh_core_turns.specs.Senses.{NeverSenseless, is_other_kind, is_senseless, is_senseless_in, of_image, of_walk, splits_other_kind, is_wrong, is_wrong_by, lacks_answer, of_read}
use Rattle.sh_core_turns.specs.Senses.{strays, strays_by, is_at_root, leaves_off, starts_again, IsMade, AreAllCases}
use Rattle.sh_read.specs.{declared.state.Progress.{TheVariants.{More, Accepted, Again, Odd}, Progress}, Reads.{Reads, accepted, progress_of, reads_with}}
use Rattle.sh_decide.specs.declared.state.Decision.TheVariants as decision
use Rattle.sh_client.specs.declared.state.Want.TheVariants as want
use Rattle.sh_decide.specs.declared.state.Way.TheVariants as way

-- ---- a chunk is found

walks_well : (split : Bool) (wants : ChunkWant) → split ≡ false → of_walk split wants ≡ false
walks_well split wants h = search rules

-- ---- each phase
module _ (p : ConfigParts) (ok : IsSetting p) (words : List ℕ) (Has : ℕ → Actor → Type 0) (Out : ℕ → ℕ → ℕ → Type 0) (i : ℕ) (s : TreeState) (b : Before p words Has Out s) (a : Actor) (r : Registers) where
  abbrev Sound : Phase → Event → Type 0
  Sound ph e = Has i (actor_in p i a r ph) → is_senseless_in (at p i r ph) (found_by words e) ph ≡ false

  sound : (ph : Phase) (e : Event) → want_in (at p i r ph) ph ≡ want.Event e → Sound ph e
  sound (Root aim) e q h = subst (Sound (Root aim)) (event_is _ e q) (λ h. ap not (root_named p ok words Has Has Out i s b a r)) h
  sound (Read aim top) e q h = subst (Sound (Read aim top)) (load_is p r.reads e q) (λ h. (way_read p ok words Has Has Out i s b a r aim top (b.kept i (actor_in p i a r (Read aim top)) h)).0) h
  sound (ReadLocked aim depth) e q h = subst (Sound (ReadLocked aim depth)) (load_is p r.reads e q) (λ h. (locked_reads p ok words Has Has Out i s b a r aim depth (b.kept i (actor_in p i a r (ReadLocked aim depth)) h)).0) h
  sound (Seek need) e q h =
      let k = b.kept i (actor_in p i a r (Seek need)) h in
      walks_well (splits_other_kind (at p i r (Seek need)) need) (walk_wants p (walk_fed p r.walk (found_by words e))) (search (rules, split_here))
  sound ph e q h = refl

pub never_senseless : (p : ConfigParts) → IsSetting p → NeverSenseless p
never_senseless p ok words log Has Out i a e inv h q =
    let is = actor_is p i a a.client.phase (inv.kept i a h).work.seated refl in
    subst (λ (x : Actor). Has i x → want_of x.client ≡ want.Event e → is_senseless x.client (found_by words e) ≡ false) (sym is)
    (λ h q. sound p ok words Has Out i inv.scene (before p words log Has Out inv) a a.client.registers a.client.phase e q h) h q

-- ---- a client starts again in the senseless cases, and in no other

-- ---- READs without a lock
module _ (m : Machine) where
  covers : (aim : Aim) (image : Image) → let c : Call = m.registers.call in lacks_answer m.setting c m.registers.rows aim image ≡ is_at_root (went m aim image (way_here c aim m.registers.reads.node image)).phase
  covers aim image = search rules

  off_root : (aim : Aim) (image : Image) (n t : Bool) (v w : Way) → is_at_root (went m aim image v).phase ≡ false → is_at_root (went m aim image w).phase ≡ false → not n ≡ is_at_root (went m aim image (if n then (if t then v else w) else way.Root)).phase
  off_root aim image n t v w h k = search rules

  leads : (aim : Aim) (image : Image) (hop : Hop) → let c : Call = m.registers.call in strays_by m.setting c m.registers.rows aim image hop ≡ is_at_root (went m aim image (way_by m.setting c aim m.registers.reads.node image hop)).phase
  leads aim image hop = search (rules, covers, off_root)

  goes : (aim : Aim) (top : Bool) (image : Image) → strays m.setting m.registers.call m.registers.rows aim top image ≡ is_at_root (went m aim image (way_of m.setting m.registers.call aim top m.registers.reads.node image)).phase
  goes aim top image = search (rules, leads)

-- what was learnt of the image is nothing to that
module _ (m : Machine) where
  arrives : (aim : Aim) (top : Bool) (o : Option Image) → of_image (λ (x : Image). strays m.setting m.registers.call m.registers.rows aim top x) o ≡ is_at_root (arrived m aim top o).phase
  arrives aim top None = refl
  arrives aim top (Some image) = goes (learning m aim image) aim top image

  reads : (aim : Aim) (top : Bool) (v : Progress) → of_read false (of_image (λ (x : Image). strays m.setting m.registers.call m.registers.rows aim top x) (accepted m.setting m.registers.reads)) v ≡ is_at_root (read_by m aim top v).phase
  reads aim top More = refl
  reads aim top Accepted = arrives aim top (accepted m.setting m.registers.reads)
  reads aim top (Again rear front) = refl
  reads aim top Odd = refl

-- ---- READs under a lock

abbrev is_restart : Decision → Bool
is_restart decision.Restart = true
is_restart d = false

chosen : (t : Bool) (d other : Decision) → is_restart d ≡ false → is_restart other ≡ false → is_restart (if t then d else other) ≡ false
chosen t d other h k = search rules

changes : (p : ConfigParts) (a : Leaf) (i : ℕ) → is_restart (change_at p a i) ≡ false
changes p a i = chosen (nat_lt (version_at a.entries i) last_entry_version) (decision.Entry i) (unless_worn p a.version (decision.Rewrite i)) refl (chosen (nat_lt a.version (last_version p)) (decision.Rewrite i) (decision.Worn a.version) refl refl)

updates : (p : ConfigParts) (a : Leaf) (c : Call) → takes_lock c Own ≡ true → is_restart (update_in p a c) ≡ false
updates p a c h = search (rules, chosen, changes)

decides : (p : ConfigParts) (c : Call) (aim : Aim) (image : Image) (hop : Hop) → takes_lock c aim ≡ true → is_wrong_by p aim image hop ≡ is_restart (decided_by p c aim image hop)
decides p c aim image hop h = search (rules, updates, chosen)

abbrev is_off : Machine → Bool
is_off m = leaves_off m.phase m.registers.reads.loaded

module _ (m : Machine) where
  abbrev seen : Option Image
  seen = accepted m.setting m.registers.reads

  does : (aim : Aim) (depth : ℕ) (image : Image) (d : Decision) → (d ≡ decision.Split → of_image (λ (x : Image). is_other_kind aim x) seen ≡ false) → is_restart d ≡ is_off (did m aim depth image d)
  does aim depth image d h = search (rules, reads)

module _ (m : Machine) where
  abbrev read : Option Image
  read = accepted m.setting m.registers.reads

  holds : (aim : Aim) (depth : ℕ) (o : Option Image) → read ≡ o → takes_lock m.registers.call aim ≡ true → of_image (λ (x : Image). is_wrong m.setting m.registers.call aim x) o ≡ is_off (held_by m aim depth o)
  holds aim depth None is h = refl
  holds aim depth (Some image) is h =
      let hop : Hop = hop_of image (aimed_key m.registers.call aim) (target aim) in
      decides m.setting m.registers.call aim image hop h ∙ does (settling m aim image) aim depth image (decided_by m.setting m.registers.call aim image hop) (λ d. ap (of_image (λ (x : Image). is_other_kind aim x)) is ∙ (search (rules, split_here)))

-- the READ under the lock is fed the word
module _ (m : Machine) (word : ℕ) where
  abbrev r : Reads
  r = reads_with m.registers.reads.node (word ∷ m.registers.reads.loaded)

  abbrev with : Reads → Machine
  with left = record m { registers = record m.registers { reads = left } }

  abbrev Case : (aim : Aim) (depth : ℕ) (left : Reads) (v : Progress) → Type 0
  Case aim depth left v = of_read true (of_image (λ (x : Image). is_wrong m.setting m.registers.call aim x) (accepted m.setting left)) v ≡ is_off (hold_by (with left) aim depth v)

  in_phase : (ph : Phase) → IsMade m.registers.call ph → is_senseless_in m word ph ≡ starts_again ph (fed_in m word ph)
  in_phase (Root aim) h = search rules
  in_phase (Read aim top) h = reads (loaded m word) aim top (progress_of m.setting m.registers.reads word)
  in_phase (ReadLocked aim depth) h = search (rules, holds, reads)
  in_phase (Seek need) h = search rules
  in_phase ph h = refl

pub are_all_cases : AreAllCases
are_all_cases m word h = in_phase m word m.phase h
