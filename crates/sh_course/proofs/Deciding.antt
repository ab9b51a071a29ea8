-- Behind a READ under the lock, by a call that has stored no word of a node, the client decides by the image that was READ.
use Rattle.std.{proofs.Common.{rules, ◌≡◌, ℕ, ◌+◌, ◌≤◌, false, Some, List, [], ◌∷◌, ◌++◌, length, refl, sym, ap, subst, ◌∙◌, arith}, specs.Prelude.{nat_lt}}
use Rattle.sh_logic.proofs.Tests.{not_less_test}
use Rattle.sh_base.{proofs.LayoutLemmas.{node_size_is}, specs.{Layout.{lock_of}, Setting.{node_size, IsSetting}, declared.config.ConfigParts.{ConfigParts}}}
use Rattle.sh_map.specs.declared.call.{Call.{Call}, Reply.{Reply}}
use Rattle.sh_alloc.specs.declared.state.NodeRange.{NodeRange}
use Rattle.sh_image.specs.{Leaf.{Leaf, Spells}, declared.{inner.Image.TheVariants.{Leaf as LeafImage}, read.Seen.{Seen, TheVariants.{Leaf as LeafSeen}}}}
use Rattle.sh_read.{proofs.JudgingLemmas.{judged_by, seen_once}, specs.{Judging.{seen_of}, Reads.{accepted, answer_to, image_in, progress_of, read_fed, reads_left, reads_with, Reads}}}
use Rattle.sh_read.specs.declared.state.Progress.TheVariants.{Accepted}
use Rattle.sh_decide.specs.{Deciding.{decision_of}, declared.state.Aim.TheVariants.{Own, Gathers, Posts}}
use Rattle.sh_client.specs.{Cached.{settling}, Feeds.{begun, did, fed_in, held_by, hold_by, loaded}, InLine.{HasTurn, stand_in}, Machine.{Machine}, declared.state.Phase.TheVariants.{Read, ReadLocked}}
use Rattle.sh_client.specs.{Wants.{want_of}, declared.state.Phase.{Phase}}
use Rattle.sh_course.{proofs.{Courses.{known, Known}, Decided.{AllNamed, Names}, Reading.{parts_at, HasTail, Parts, holds_still}, Rising.{run_at, RunAt}}, specs.Causes.{IsReady, ReadsThenEnds}}
use Rattle.sh_course.{proofs.Locks.{HoldsOwn}, specs.{Found.{holds, loads_from, loads_of, AllSpare, HasReadLocked}, Turns.{machine_behind, reached, turn_found, turns_taken, AreFound, Found, Taken}}}
use Rattle.sh_course.proofs.Showing.{Goes, Shows}

-- the client that decides, and what its call did since
pub record Decides (m : Machine) (call : Call) (n : Machine) (node depth : ℕ) (words : List ℕ) (a : Leaf) (since : List Taken) : Type 0 where
  pub client : Machine
  pub setting : client.setting ≡ m.setting
  pub call_is : client.registers.call ≡ call
  pub spare_is : client.registers.spare ≡ m.registers.spare
  pub reads_is : client.registers.reads ≡ reads_with node words
  pub image_is : accepted client.setting client.registers.reads ≡ Some (LeafImage a)
  pub later : List Found
  pub may : AreFound (did client Own depth (LeafImage a) (decision_of m.setting call Own (LeafImage a))) later
  pub since_is : since ≡ turns_taken (did client Own depth (LeafImage a) (decision_of m.setting call Own (LeafImage a))) later
  pub ended_is : n ≡ reached (did client Own depth (LeafImage a) (decision_of m.setting call Own (LeafImage a))) later

-- loads store nothing
loads_spare : (p : ConfigParts) (node o : ℕ) (words : List ℕ) (before : List Taken) → AllSpare p before → AllSpare p (loads_from p node o words ++ before)
loads_spare p node o [] before h = h
loads_spare p node o (w ∷ ws) before h = (tt, loads_spare p node (o + 1) ws before h)

-- what the words of a leaf make of the READ
module _ (p : ConfigParts) (node w : ℕ) (ws : List ℕ) (a : Leaf) (some : 1 ≤ p.value_words) (all : length (w ∷ ws) ≡ node_size p) (spells : Spells p (w ∷ ws) a) where
  seen : seen_of p (w ∷ ws) ≡ LeafSeen a
  seen = seen_once p (w ∷ ws) some (seen_of p (w ∷ ws)) (LeafSeen a) (judged_by p (w ∷ ws) some all) spells

  whole : nat_lt (length (w ∷ ws)) (node_size p) ≡ false
  whole = not_less_test (length (w ∷ ws)) (node_size p) (omega (arith, all))

  progress : progress_of p (reads_with node ws) w ≡ Accepted
  progress = rw whole (ap answer_to seen)

  reads : read_fed p (reads_with node ws) w ≡ reads_with node (w ∷ ws)
  reads = rw whole (ap (λ (s : Seen). reads_left s (reads_with node (w ∷ ws))) seen)

  image : accepted p (reads_with node (w ∷ ws)) ≡ Some (LeafImage a)
  image = rw whole (ap image_in seen)

-- the client that decides at the last word
record Decider (k : Machine) (x : Found) (s : NodeRange) (node depth : ℕ) (words : List ℕ) (a : Leaf) : Type 0 where
  client : Machine
  setting : client.setting ≡ k.setting
  call_is : client.registers.call ≡ k.registers.call
  spare_is : client.registers.spare ≡ s
  reads_is : client.registers.reads ≡ reads_with node words
  image_is : accepted client.setting client.registers.reads ≡ Some (LeafImage a)
  decided : machine_behind k x ≡ did client Own depth (LeafImage a) (decision_of k.setting k.registers.call Own (LeafImage a))

some_is : {X : Type 0} {x y : X} → Some x ≡ Some y → x ≡ y
some_is h = cc

module _ (k : Machine) (t : List Taken) (s : NodeRange) (lawful : IsSetting k.setting) (named : AllNamed k) (shows : Goes s t k) (own : HoldsOwn k.setting t k) (node depth : ℕ) (words : List ℕ) (before : List Taken) (a : Leaf) (x : Found) where
  abbrev p : ConfigParts
  p = k.setting

  module _ (read : HasReadLocked p (turn_found (want_of k) x ∷ t) node depth words before []) (spares : AllSpare p before) (spells : Spells p words a) where
    at_last : RunAt k t before x node words
    at_last = run_at s k t lawful named shows own x node words before read.run

    abbrev w : ℕ
    w = at_last.word

    abbrev ws : List ℕ
    ws = at_last.tail_words

    spelled : (length (w ∷ ws) ≡ node_size p) × Spells p (w ∷ ws) a
    spelled = subst (λ (l : List ℕ). (length l ≡ node_size p) × Spells p l a) at_last.words_are (read.run.all, spells)

    some : 1 ≤ p.value_words
    some = lawful.ranged.value_words.0

    holds_now : holds p (lock_of p node) t ≡ Some depth
    holds_now = ap (holds p (lock_of p node)) at_last.rest ∙ holds_still p (lock_of p node) node 1 ws before ∙ read.locked

    by_phase : (phase : Phase) → k.phase ≡ phase → HasTail k node ws phase → Names p k.registers.call k.registers.reads phase → Shows s t k phase → Decider k x s node depth words a
    by_phase (Read aim top) at tail named shows = absurd (subst (λ (x : Phase). HasTurn (lock_of p node) (stand_in p k.registers x)) at (own (lock_of p node) depth holds_now))
    by_phase (ReadLocked Own d) at tail named shows =
        let client = settling (loaded k w) Own (LeafImage a) in
        let same : d ≡ depth = some_is (sym shows.2 ∙ ap (λ (r : Reads). holds p (lock_of p r.node) t) tail ∙ holds_now) in
        let reads_are : client.registers.reads ≡ reads_with node (w ∷ ws) = ap (λ (r : Reads). read_fed p r w) tail ∙ reads p node w ws a some spelled.0 spelled.1 in
        let seen : accepted p client.registers.reads ≡ Some (LeafImage a) = ap (accepted p) reads_are ∙ image p node w ws a some spelled.0 spelled.1 in
        record {
          client = client;
          setting = refl;
          call_is = refl;
          spare_is = shows.0.1;
          reads_is = reads_are ∙ ap (reads_with node) (sym at_last.words_are);
          image_is = seen;
          decided =
              ap (machine_behind k) at_last.found_is ∙ ap (fed_in k w) at
              ∙ ap (hold_by (loaded k w) Own d) (ap (λ (r : Reads). progress_of p r w) tail ∙ progress p node w ws a some spelled.0 spelled.1)
              ∙ ap (held_by (loaded k w) Own d) seen
              ∙ ap (λ n. did client Own n (LeafImage a) (decision_of p k.registers.call Own (LeafImage a))) same;
        }
    by_phase (ReadLocked (Gathers place) d) at tail named shows = absurd (let e = named.1 in cc)
    by_phase (ReadLocked (Posts post) d) at tail named shows = absurd (shows.0.1 (subst (AllSpare p) (sym at_last.rest) (loads_spare p node 1 ws before spares)))
    by_phase phase at tail named shows = absurd (search rules)

    decides_at : Decider k x s node depth words a
    decides_at = by_phase k.phase refl at_last.reads named shows

no_loads : (p : ConfigParts) (node o : ℕ) (words : List ℕ) (before : List Taken) → 1 ≤ length words → [] ≡ loads_from p node o words ++ before → ⊥
no_loads p node o [] before some e = omega (arith, some)
no_loads p node o (w ∷ ws) before some e = cc

module _ (m n : Machine) (call : Call) (founds : List Found) (ready : IsReady m) (may : AreFound (begun m call) founds) (n_is : n ≡ reached (begun m call) founds) (node depth : ℕ) (words : List ℕ) (before since : List Taken) (a : Leaf) (read : HasReadLocked m.setting (turns_taken (begun m call) founds) node depth words before since) (spares : AllSpare m.setting before) (spells : Spells m.setting words a) where
  abbrev start : Machine
  start = begun m call

  at_earlier : (q : Parts start founds since (loads_of m.setting node words ++ before)) (earlier : List Found) → q.earlier ≡ earlier → Decides m call n node depth words a since
  at_earlier q [] is = absurd (no_loads m.setting node _ words before (let all = read.run.all in omega (arith, all, node_size_is m.setting)) (sym (ap (turns_taken start) is) ∙ q.rest_is))
  at_earlier q (x ∷ earlier) is =
      let k = reached start earlier in
      let t = turns_taken start earlier in
      let ok : AreFound start (x ∷ earlier) = subst (AreFound start) is q.may in
      let kn : Known m call t k = known m call ready earlier ok.1 in
      let at = subst (λ (p : ConfigParts). HasReadLocked p (turn_found (want_of k) x ∷ t) node depth words before [] × AllSpare p before × Spells p words a × IsSetting p × HoldsOwn p t k) (sym kn.setting) (record { run = record { node_is = read.run.node_is; all = read.run.all; whole = sym (ap (turns_taken start) is) ∙ q.rest_is }; locked = read.locked }, spares, spells, ready.setting, kn.holds_own) in
      let d = decides_at k t m.registers.spare at.3 kn.named kn.shows at.4 node depth words before a x at.0 at.1 at.2 in
      let decided : reached start q.earlier ≡ did d.client Own depth (LeafImage a) (decision_of m.setting call Own (LeafImage a)) = ap (reached start) is ∙ d.decided ∙ ap (λ (p : ConfigParts). did d.client Own depth (LeafImage a) (decision_of p k.registers.call Own (LeafImage a))) kn.setting ∙ ap (λ (c : Call). did d.client Own depth (LeafImage a) (decision_of m.setting c Own (LeafImage a))) kn.call_is in
      record {
        client = d.client;
        setting = d.setting ∙ kn.setting;
        call_is = d.call_is ∙ kn.call_is;
        spare_is = d.spare_is;
        reads_is = d.reads_is;
        image_is = d.image_is;
        later = q.later;
        may = subst (λ (z : Machine). AreFound z q.later) decided q.may_later;
        since_is = q.since_is ∙ ap (λ (z : Machine). turns_taken z q.later) decided;
        ended_is = n_is ∙ q.state ∙ ap (λ (z : Machine). reached z q.later) decided;
      }

  decides : Decides m call n node depth words a since
  decides = let q = parts_at start since (loads_of m.setting node words ++ before) founds may read.run.whole in at_earlier q q.earlier refl

-- of a course
pub course_decides : (m n : Machine) (call : Call) (turns before since : List Taken) (node depth : ℕ) (a : Leaf) (r : Reply) → (h : ReadsThenEnds m n call turns before since node depth a r) → Decides m call n node depth h.words a since
course_decides m n call turns before since node depth a r h = let c = h.course in decides m n call c.founds h.ready c.may c.client_is node depth h.words before since a (subst (λ (t : List Taken). HasReadLocked m.setting t node depth h.words before since) c.turns_are h.read) h.spares h.spells
