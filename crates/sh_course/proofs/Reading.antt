-- What a READ shows, word by word.
use Rattle.std.proofs.Common.{rules, ◌≡◌, ℕ, ◌+◌, ◌-◌, ◌≤◌, false, cond, Some, None, List, [], ◌∷◌, ◌++◌, length, refl, sym, ap, subst, ◌∙◌, arith, suc, ◌<◌, inl, inr, ◌%◌}
use Rattle.std.{proofs.{Math.Nat.{mod-eq_of_lt, add-mod_right}, lemmas.{Bool.{cases_lt}, Nat.{mod_below}}}, specs.Prelude.{nat_lt, ◌⊎◌}}
use Rattle.sh_logic.proofs.Tests.{is_lt, not_lt}
use Rattle.sh_base.{proofs.LayoutLemmas.{node_size_is, node_word_apart, node_word_low}, specs.{Layout.{lock_of, node_word}, Setting.{node_size, IsNode, IsSetting}}}
use Rattle.sh_base.specs.declared.{config.ConfigParts.{ConfigParts}, event.Event.TheVariants.{Load}}
use Rattle.sh_image.specs.{Inner.{Inner, SpellsInner}, declared.{inner.Image.TheVariants.{Leaf as LeafImage, Inner as InnerImage}, read.Seen.TheVariants.{Leaf as LeafSeen, Inner as InnerSeen}}}
use Rattle.sh_image.specs.{Leaf.{Leaf, Spells}, Seen.{SeenBy}, declared.read.Seen.{Seen}}
use Rattle.sh_read.{proofs.JudgingLemmas.{judged_by}, specs.{Judging.{seen_of}, Reads.{Reads, accepted, image_in, progress_of, read_fed, reads_start, reads_with, wanted}}}
use Rattle.sh_read.specs.declared.state.Progress.{Progress, TheVariants.{More, Accepted, Again, Odd}}
use Rattle.sh_client.specs.{Machine.{Machine}, Wants.{load_of, count_of, want_in, want_of}, declared.state.{Phase.{Phase, TheVariants.{Read, ReadLocked}}, Want.{Want}}}
use Rattle.sh_course.proofs.Decided.{named_node, Names, chosen}
use Rattle.sh_course.{proofs.Showing.{StartsApart, RunsOn, Shows, Runs, WalksOn}, specs.Turns.{Taken, Word, turn_found, machine_behind, reached, turns_taken, AreFound, Found, MayFind}}
use Rattle.sh_course.specs.{Found.{holds, loads_from, loads_of, HasReadLocked, HasRun, SparesNodes, AllGotNone, AllSpent, FoundSpent, GotNone, IsSpent}, Stores.{AllCount, IsCount}}
use Rattle.sh_alloc.specs.{Walks.{server_at, walk_wants_in, walk_at, walk_fed_in, walk_next, walk_start, with_phase}, declared.state.Phase.TheVariants.{Loading, Found as FoundChunk, Spent}}
use Rattle.sh_alloc.specs.declared.state.{NodeRange.{NodeRange}, Phase.{Phase as WalkPhase}, Walk.{Walk}}
use Rattle.sh_client.specs.declared.state.Want.TheVariants as want

-- loads take and give back no lock
pub holds_still : (p : ConfigParts) (lock node o : ℕ) (words : List ℕ) (before : List Taken) → holds p lock (loads_from p node o words ++ before) ≡ holds p lock before
holds_still p lock node o [] before = refl
holds_still p lock node o (w ∷ ws) before = holds_still p lock node (o + 1) ws before

-- all words of a READ
pub record Ran (p : ConfigParts) (turns : List Taken) (reads : Reads) : Type 0 where
  pub before : List Taken
  pub whole : turns ≡ loads_of p reads.node reads.loaded ++ before
  pub all : length reads.loaded ≡ node_size p
  pub image : accepted p reads ≡ image_in (seen_of p reads.loaded)

abbrev pub Comes : ConfigParts → List Taken → Reads → Progress → Type 0
Comes p turns reads More = RunsOn p turns reads
Comes p turns reads Accepted = Ran p turns reads
Comes p turns reads (Again rear front) = RunsOn p turns reads
Comes p turns reads Odd = Unit {0}

pub run_begins : (p : ConfigParts) (turns : List Taken) (node : ℕ) → RunsOn p turns (reads_start node)
run_begins p turns node = record { before = turns; whole = refl; left = omega (arith, node_size_is p) }

module _ (p : ConfigParts) (turns : List Taken) where
  module _ (r : Reads) (word : ℕ) where
    abbrev next : Reads
    next = reads_with r.node (word ∷ r.loaded)

    abbrev now : List Taken
    now = turn_found (load_of (wanted p r)) (Word word) ∷ turns

    pub loading_spares : SparesNodes p (load_of (wanted p r))
    loading_spares = search rules

    pub loading_holds : (lock : ℕ) → holds p lock now ≡ holds p lock turns
    loading_holds lock = search rules

    module _ (on : RunsOn p turns r) where
      pub load_is : load_of (wanted p r) ≡ want.Event (Load (node_word p r.node + (node_size p - length (word ∷ r.loaded))))
      load_is = search rules

      full : nat_lt (length (word ∷ r.loaded)) (node_size p) ≡ false → length (word ∷ r.loaded) ≡ node_size p
      full e = let above = not_lt (length (word ∷ r.loaded)) (node_size p) e in omega (arith, above, on.left)

      pub ran : nat_lt (length (word ∷ r.loaded)) (node_size p) ≡ false → Ran p now next
      ran e = record { before = on.before; whole = search (rules, load_is); all = full e; image = ap (λ b. cond b None (image_in (seen_of p (word ∷ r.loaded)))) e }

      pub read_on : Comes p now (read_fed p r word) (progress_of p r word)
      read_on = search (rules, load_is, ran, run_begins)

-- a READ's last turn is on no counter
run_apart : (p : ConfigParts) (node o : ℕ) (words : List ℕ) (before : List Taken) → 1 ≤ length words → StartsApart p (loads_from p node o words ++ before)
run_apart p node o [] before some = absurd (omega (arith, some))
run_apart p node o (w ∷ ws) before some = λ c. let low = node_word_low p node in omega (arith, low, c.1)

pub ran_apart : (p : ConfigParts) (turns : List Taken) (reads : Reads) → Ran p turns reads → StartsApart p turns
ran_apart p turns reads ran = subst (StartsApart p) (sym ran.whole) (run_apart p reads.node _ reads.loaded ran.before (let all = ran.all in omega (arith, all, node_size_is p)))

-- ---- a READ that was accepted, as the last turns
image_seen : (s : Seen) (a : Leaf) → image_in s ≡ Some (LeafImage a) → s ≡ LeafSeen a
image_seen s a h = search rules

inner_seen : (s : Seen) (a : Inner) → image_in s ≡ Some (InnerImage a) → s ≡ InnerSeen a
inner_seen s a h = search rules

module _ (p : ConfigParts) (turns : List Taken) (reads : Reads) (ran : Ran p turns reads) where
  pub spelled : (a : Leaf) → 1 ≤ p.value_words → accepted p reads ≡ Some (LeafImage a) → Spells p reads.loaded a
  spelled a some is = subst (SeenBy p reads.loaded) (image_seen (seen_of p reads.loaded) a (sym ran.image ∙ is)) (judged_by p reads.loaded some ran.all)

  pub spelled_inner : (a : Inner) → 1 ≤ p.value_words → accepted p reads ≡ Some (InnerImage a) → SpellsInner p reads.loaded a
  spelled_inner a some is = subst (SeenBy p reads.loaded) (inner_seen (seen_of p reads.loaded) a (sym ran.image ∙ is)) (judged_by p reads.loaded some ran.all)

  pub has_run : IsNode p reads.node → HasRun p turns reads.node reads.loaded ran.before []
  has_run node = record { node_is = node; all = ran.all; whole = ran.whole }

  pub has_read : (depth : ℕ) → IsNode p reads.node → holds p (lock_of p reads.node) turns ≡ Some depth → HasReadLocked p turns reads.node depth reads.loaded ran.before []
  has_read depth node locked = record { run = has_run node; locked = sym (holds_still p (lock_of p reads.node) reads.node _ reads.loaded ran.before) ∙ ap (holds p (lock_of p reads.node)) (sym ran.whole) ∙ locked }

-- ---- where a READ stands in the turns of a call, there the client READ that node
-- ---- turns that end with others
pub record Parts (m : Machine) (founds : List Found) (since rest : List Taken) : Type 0 where
  pub later : List Found
  pub earlier : List Found
  pub state : reached m founds ≡ reached (reached m earlier) later
  pub since_is : since ≡ turns_taken (reached m earlier) later
  pub rest_is : turns_taken m earlier ≡ rest
  pub may : AreFound m earlier
  pub may_later : AreFound (reached m earlier) later

pub head_is : {x y : Taken} {xs ys : List Taken} → x ∷ xs ≡ y ∷ ys → (x ≡ y) × (xs ≡ ys)
head_is e = (cc, cc)

pub parts_at : (m : Machine) (since rest : List Taken) (founds : List Found) → AreFound m founds → turns_taken m founds ≡ since ++ rest → Parts m founds since rest
parts_at m [] rest founds may e = record { later = []; earlier = founds; state = refl; since_is = refl; rest_is = e; may = may; may_later = tt }
parts_at m (t ∷ since) rest [] may e = absurd (cc)
parts_at m (t ∷ since) rest (x ∷ xs) may e =
    let h = head_is e in
    let q = parts_at m since rest xs may.1 h.1 in
    record {
      later = x ∷ q.later;
      earlier = q.earlier;
      state = ap (λ (n : Machine). machine_behind n x) q.state;
      since_is = ap (λ (t : Taken). t ∷ since) (sym h.0) ∙ ap (λ (n : Machine). turn_found (want_of n) x ∷ since) q.state ∙ ap (λ (l : List Taken). turn_found (want_of (reached (reached m q.earlier) q.later)) x ∷ l) q.since_is;
      rest_is = q.rest_is;
      may = q.may;
      may_later = (subst (λ (n : Machine). MayFind (want_of n) x) q.state may.0, q.may_later);
    }

-- ---- the last word of a run was loaded by a READ of that node
same_words : (p : ConfigParts) (node o : ℕ) (xs ys : List ℕ) (xs' ys' : List Taken) → length xs ≡ length ys → loads_from p node o xs ++ xs' ≡ loads_from p node o ys ++ ys' → xs ≡ ys
same_words p node o [] [] xs' ys' long e = refl
same_words p node o [] (y ∷ ys) xs' ys' long e = absurd (omega (arith, long))
same_words p node o (x ∷ xs) [] xs' ys' long e = absurd (omega (arith, long))
same_words p node o (x ∷ xs) (y ∷ ys) xs' ys' long e =
    let h = head_is e in
    let first : x ≡ y = let f = ap (λ (t : Taken). t.found) h.0 in cc in
    ap (λ n. n ∷ xs) first ∙ ap (λ (l : List ℕ). y ∷ l) (same_words p node (o + 1) xs ys xs' ys' (omega (arith, long)) h.1)

same_node : (p : ConfigParts) (n k o : ℕ) → IsNode p n → IsNode p k → o < node_size p → node_word p n + o ≡ node_word p k + 0 → (n ≡ k) × (o ≡ 0)
same_node p n k o hn hk below e = elim (cases_lt n k) [
  | inl less ↦ absurd (let far = node_word_apart p n k hn.first less in omega (arith, far, e, below))
  | inr up ↦ elim (cases_lt k n) [
    | inl less ↦ absurd (let far = node_word_apart p k n hk.first less in omega (arith, far, e, node_size_is p))
    | inr down ↦ (let same : n ≡ k = omega (arith, up, down) in (same, let at : node_word p n ≡ node_word p k = ap (node_word p) same in omega (arith, e, at)))
  ]
]

-- a client READs this node, and has these words
abbrev pub HasTail : Machine → (node : ℕ) → List ℕ → Phase → Type 0
HasTail k node ws (Read aim top) = k.registers.reads ≡ reads_with node ws
HasTail k node ws (ReadLocked aim depth) = k.registers.reads ≡ reads_with node ws
HasTail k node ws phase = ⊥

module _ (k : Machine) (t : List Taken) (node : ℕ) (ws : List ℕ) (before : List Taken) (lawful : IsSetting k.setting) (node_is : IsNode k.setting node) (all : length ws + 1 ≡ node_size k.setting) (rest : t ≡ loads_from k.setting node 1 ws ++ before) where
  abbrev p : ConfigParts
  p = k.setting

  abbrev last_load : Want
  last_load = want.Event (Load (node_word p node + 0))

  at_load : (a b : ℕ) → want.Event (Load a) ≡ want.Event (Load b) → a ≡ b
  at_load a b e = cc

  tail : RunsOn p t k.registers.reads → IsNode p k.registers.reads.node → load_of (wanted p k.registers.reads) ≡ last_load → k.registers.reads ≡ reads_with node ws
  tail on named wants =
      let r = k.registers.reads in
      let at = at_load _ _ (sym (load_is p t r 0 on) ∙ wants) in
      let same = same_node p r.node node (node_size p - (length r.loaded + 1)) named node_is (omega (arith, node_size_is p)) (ap (λ n. node_word p r.node + (node_size p - n)) (one (length r.loaded)) ∙ at) in
      let long : length r.loaded ≡ length ws = let zero_at = same.1 in omega (arith, zero_at, all, on.left) in
      let from : node_size p - length r.loaded ≡ 1 = omega (arith, long, all) in
      let words : r.loaded ≡ ws = same_words p node 1 r.loaded ws on.before before long (sym (on.whole ∙ ap (λ n. loads_from p n (node_size p - length r.loaded) r.loaded ++ on.before) same.0 ∙ ap (λ o. loads_from p node o r.loaded ++ on.before) from) ∙ rest) in
      ap (λ n. reads_with n r.loaded) same.0 ∙ ap (reads_with node) words
    where
      one : (n : ℕ) → n + 1 ≡ suc n
      one n = omega arith

  pub at_read : (s : NodeRange) (phase : Phase) → Names p k.registers.call k.registers.reads phase → Shows s t k phase → want_in k phase ≡ last_load → HasTail k node ws phase
  at_read s phase named shows e = search (rules, tail, named_node, mod_below, at_load, node_word_low)

-- ---- what a walk over the counters shows, word by word
-- where all servers were found spent
pub record WalkEnds (p : ConfigParts) (since : List Taken) : Type 0 where
  pub spent : AllSpent p since
  pub got_none : AllGotNone p since
  pub counted : AllCount p since

-- a chunk was got by the last turn
pub record Got (p : ConfigParts) (since : List Taken) : Type 0 where
  pub got : AllGotNone p since → ⊥
  pub counted : AllCount p since

abbrev pub WalkShows : ConfigParts → (seat : ℕ) → List Taken → Walk → WalkPhase → Type 0
WalkShows p seat since w (FoundChunk chunk) = Got p since
WalkShows p seat since w Spent = WalkEnds p since
WalkShows p seat since w phase = WalksOn p seat since w

-- an event on a counter, which stores to no node
count_is : (p : ConfigParts) (w : Walk) → 1 ≤ p.servers → (phase : WalkPhase) → Runs phase → IsCount p (count_of (walk_wants_in p (server_at p w) phase))
count_is p w h1 phase h2 = search rules

pub count_spares : (p : ConfigParts) (w : Walk) → 1 ≤ p.servers → (phase : WalkPhase) → Runs phase → SparesNodes p (count_of (walk_wants_in p (server_at p w) phase))
count_spares p w some phase h = search rules

pub walk_begins : (p : ConfigParts) (seat : ℕ) → WalksOn p seat [] (walk_start p seat)
walk_begins p seat = record { runs = tt; first = refl; passed = λ k below. absurd (omega (arith, below)); got_none = tt; counted = tt; most = inl refl; only = λ server h. absurd h }

module _ (p : ConfigParts) (seat : ℕ) (since : List Taken) (w : Walk) (first : w.first ≡ seat % p.servers) where
  all_spent : ((k : ℕ) → k ≤ w.passed → FoundSpent p ((w.first + k) % p.servers) since) → p.servers ≤ w.passed + 1 → AllSpent p since
  all_spent found last server below =
      let low : w.first < p.servers = subst (λ f. f < p.servers) (sym first) (mod_below seat p.servers (omega arith)) in
      elim (cases_lt server w.first) [
        | inl before ↦
            let sum : w.first + (server + p.servers - w.first) ≡ server + p.servers = omega arith in
            let at : (w.first + (server + p.servers - w.first)) % p.servers ≡ server = ap (λ i. i % p.servers) sum ∙ add-mod_right server p.servers ∙ mod-eq_of_lt below in
            subst (λ s. FoundSpent p s since) at (found (server + p.servers - w.first) (omega arith))
        | inr behind ↦
            let sum : w.first + (server - w.first) ≡ server = omega arith in
            let at : (w.first + (server - w.first)) % p.servers ≡ server = ap (λ i. i % p.servers) sum ∙ mod-eq_of_lt below in
            subst (λ s. FoundSpent p s since) at (found (server - w.first) (omega arith))
      ]

mod_is : (n s : ℕ) → n < s + s → ((n % s ≡ n) × (n < s)) ⊎ (n % s + s ≡ n)
mod_is n s below = elim (cases_lt n s) [
  | inl less ↦ inl (mod-eq_of_lt less, less)
  | inr from ↦
      let sum : n ≡ n - s + s = omega (arith, from) in
      let at : n % s ≡ n - s = ap (λ i. i % s) sum ∙ add-mod_right (n - s) s ∙ mod-eq_of_lt (omega (arith, below, from)) in
      inr (omega (arith, at, from))
]

-- the server that a walk is at wasn't found spent
pub walk_left : (p : ConfigParts) (seat : ℕ) (since : List Taken) (w : Walk) → 1 ≤ p.servers → WalksOn p seat since w → FoundSpent p (server_at p w) since → ⊥
walk_left p seat since w h1 h2 h3 = search (rules, mod_is)

module _ (p : ConfigParts) (seat word : ℕ) (since : List Taken) (w : Walk) (on : WalksOn p seat since w) (some : 1 ≤ p.servers) where
  module _ (t : Taken) (here : IsSpent p (server_at p w) t.want t.found) (got : GotNone p t.want t.found) (count : IsCount p t.want) where
    upto : (k : ℕ) → k ≤ w.passed → FoundSpent p ((w.first + k) % p.servers) (t ∷ since)
    upto k h1 = search rules

    only_these : (server : ℕ) → FoundSpent p server (t ∷ since) → (k : ℕ) × (k < w.passed + 1) × (server ≡ (w.first + k) % p.servers)
    only_these server h1 = search rules

    walk_goes : let v = walk_next p w in WalkShows p seat (t ∷ since) v v.phase
    walk_goes = chosen (λ (v : Walk). WalkShows p seat (t ∷ since) v v.phase) (nat_lt (w.passed + 1) p.servers) (walk_at w.first (w.passed + 1) Loading) (with_phase w Spent)
        (λ more. record { runs = tt; first = on.first; passed = λ k below. upto k (omega (arith, below)); got_none = (got, on.got_none); counted = (count, on.counted); most = inr (is_lt (w.passed + 1) p.servers more); only = only_these })
        (λ last. record { spent = all_spent p seat (t ∷ since) w on.first upto (not_lt (w.passed + 1) p.servers last); got_none = (got, on.got_none); counted = (count, on.counted) })

  abbrev turn : WalkPhase → Taken
  turn phase = turn_found (count_of (walk_wants_in p (server_at p w) phase)) (Word word)

  pub walk_on : let v = walk_fed_in p w word w.phase in WalkShows p seat (turn w.phase ∷ since) v v.phase
  walk_on = search (rules, chosen, count_is, walk_goes)
