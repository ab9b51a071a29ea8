-- Which counters a turn of a course raises: those of torn READs, of hops to the right and of posts skipped at a worn node.
use Rattle.std.proofs.{Common.{rules, ◌≡◌, ℕ, Bool, Option, Some, None, ◌-◌, ◌≤◌, true, false, cond, List, [], ◌∷◌, ◌++◌, length, inl, inr, refl, sym, ap, subst, ◌∙◌, arith}, lemmas.Nat.{mod_below}}
use Rattle.std.{specs.Prelude.{◌&&◌, nat_lt, ◌+◌}}
use Rattle.sh_alloc.specs.{Walks.{walk_fed, walk_wants, server_at, walk_wants_in}, declared.state.{ChunkWant.{ChunkWant}, Phase.{Phase as WalkPhase, TheVariants.{Spent, Found as FoundChunk}}}}
use Rattle.sh_alloc.specs.declared.state.{NodeRange.{NodeRange}, Walk.{Walk}}
use Rattle.sh_image.specs.{Inner.{Inner}, Leaf.{Leaf}, Node.{seen_as}, Seen.{SeenBy}, declared.read.Seen.{Seen}}
use Rattle.sh_image.specs.declared.{inner.Image.{Image, TheVariants.{Leaf as OfLeaf, Inner as OfInner}}, read.Seen.TheVariants.{Leaf as LeafSeen, Inner as InnerSeen, Torn, TornEntry, Odd as OddSeen}}
use Rattle.sh_read.{proofs.JudgingLemmas.{judged_by, seen_once}, specs.{Judging.{seen_of}, Reads.{accepted, progress_of, wanted, reads_with, Reads}}}
use Rattle.sh_read.specs.declared.state.Progress.{Progress, TheVariants.{Accepted, Again}}
use Rattle.sh_decide.specs.{Aims.{aimed_key, is_node}, Deciding.{decision_of, decided_by}, Ways.{way_of, is_right, leads_right, way_by, way_here}}
use Rattle.sh_decide.specs.declared.state.{Aim.{Aim, TheVariants.{Posts}}, Decision.{Decision}, Posting.{Posting}, Way.{Way}}
use Rattle.sh_client.{proofs.InLineLemmas.{count_is, load_is, Elsewhere}, specs.{Wants.{want_in, want_of, load_of}, declared.state.Phase.{Phase, TheVariants.{Look, Read, ReadLocked, Seek}}}}
use Rattle.sh_client.specs.{CachedTurns.{read_aim}, Machine.{Machine, up}, declared.state.{Need.{Need, TheVariants.{ToSplit, ToGrow}}, Tally.{Tally}, Want.{Want}}}
use Rattle.sh_client.specs.{Feeds.{did, fed_in, loaded, turned_in, went, fed_by}, InLine.{stand_in, HasTurn}}
use Rattle.sh_base.{proofs.LayoutLemmas.{node_word_low, node_size_is}, specs.{Layout.{lock_of}, Setting.{node_size, IsNode, IsSetting}, declared.config.ConfigParts.{ConfigParts}}}
use Rattle.sh_course.proofs.Decided.{chosen, gives, Gives, named_node, AllNamed, Names}
use Rattle.sh_course.{proofs.Locks.{HoldsOwn}, specs.{Counts.{ends_write_in, handed_by, rewritten_by, splits_by, CountsReads, EndsRight, EndsTorn, RisesExactly}, Stores.{AllCount, IsCount}}}
use Rattle.sh_course.proofs.Reading.{count_spares, walk_left, at_read, head_is, HasTail, has_run, holds_still, ran, walk_on, WalkEnds, WalkShows}
use Rattle.sh_course.{proofs.Showing.{HasStored, StartsApart, Goes, RunsOn, Shows, Counts, IsPosting}, specs.Turns.{machine_behind, Found, MayFind, Turn, Word, turn_found, Taken}}
use Rattle.sh_course.specs.{Found.{AllGotNone, AllSpent, FoundSpent, GotNone, IsSpent, holds, loads_from, HasRun}, Skips.{IsWornAt, SkipsWorn as EndsWorn, SkipsSpent as EndsSpent}}
use Rattle.sh_logic.proofs.Tests.{and_true, not_less_test, true_and}
use Rattle.sh_map.specs.declared.call.Call.{Call}
use Rattle.sh_descend.specs.{Descent.{child_of, image_pairs, next_of}, declared.Hop.TheVariants.{Here, Right as HopRight, Down, Restart as HopRestart}}
use Rattle.sh_alloc.specs.declared.state.ChunkWant.TheVariants as chunk
use Rattle.sh_decide.specs.declared.state.Decision.TheVariants as decision
use Rattle.sh_decide.specs.declared.state.Way.TheVariants as way

-- ---- what a turn adds to the tally
-- only a look has a turn
abbrev pub IsLook : Phase → Type 0
IsLook (Look aim node) = Unit {0}
IsLook phase = ⊥

no_turn : (w : Want) (depth : Option ℕ) → Elsewhere w → MayFind w (Turn depth) → ⊥
no_turn w depth h may = search rules

pub turn_looks : (m : Machine) (depth : Option ℕ) (phase : Phase) → MayFind (want_in m phase) (Turn depth) → IsLook phase
turn_looks m depth phase h1 = search (rules, no_turn, load_is, count_is)

-- ---- what a READ and a walk over the counters count
pub data Count : Type 0 where
  Nothing : Count
  Tears : Count
  Hops : Count
  SkipsWorn : Count
  SkipsSpent : Count

abbrev pub counting : Count → Tally → Tally
counting Nothing t = t
counting Tears t = record t { again = up t.again }
counting Hops t = record t { rights = up t.rights }
counting SkipsWorn t = record t { skipped_worn = up t.skipped_worn }
counting SkipsSpent t = record t { skipped_spent = up t.skipped_spent }

abbrev Same : Machine → Machine → Type 0
Same m x = x.registers.tally ≡ m.registers.tally

abbrev Adds : Machine → Count → Machine → Type 0
Adds m c x = x.registers.tally ≡ counting c m.registers.tally

abbrev pub spent_counts : Need → Count
spent_counts (ToSplit (Posts post) depth) = SkipsSpent
spent_counts (ToGrow post root) = SkipsSpent
spent_counts need = Nothing

abbrev pub walk_counts : Need → ChunkWant → Count
walk_counts need chunk.AllSpent = spent_counts need
walk_counts need w = Nothing

abbrev pub way_counts : Way → Count
way_counts (way.Right node) = Hops
way_counts (way.LockRight node) = Hops
way_counts w = Nothing

goes : (m : Machine) (aim : Aim) (image : Image) (w : Way) → Adds m (way_counts w) (went m aim image w)
goes m aim image w = search rules

abbrev pub choice_counts : Decision → Count
choice_counts (decision.Right node) = Hops
choice_counts decision.Skip = SkipsWorn
choice_counts d = Nothing

does : (m : Machine) (aim : Aim) (depth : ℕ) (image : Image) (d : Decision) → Adds m (choice_counts d) (did m aim depth image d)
does m aim depth image d = search rules

-- by the image, without a lock and under it
abbrev pub read_counts : Machine → Aim → Bool → Option Image → Count
read_counts m aim top (Some image) = way_counts (way_of m.setting m.registers.call aim top m.registers.reads.node image)
read_counts m aim top None = Nothing

abbrev pub hold_counts : Machine → Aim → Option Image → Count
hold_counts m aim (Some image) = choice_counts (decision_of m.setting m.registers.call aim image)
hold_counts m aim None = Nothing

abbrev pub answer_counts : Progress → (found : Count) → Count
answer_counts Accepted found = found
answer_counts (Again rear front) found = Tears
answer_counts answer found = Nothing

-- by what the client is at
abbrev pub turn_counts : Machine → (word : ℕ) → Phase → Count
turn_counts m word (Read aim top) = answer_counts (progress_of m.setting m.registers.reads word) (read_counts (loaded m word) aim top (accepted m.setting (loaded m word).registers.reads))
turn_counts m word (ReadLocked aim depth) = answer_counts (progress_of m.setting m.registers.reads word) (hold_counts (loaded m word) aim (accepted m.setting (loaded m word).registers.reads))
turn_counts m word (Seek need) = walk_counts need (walk_wants m.setting (walk_fed m.setting m.registers.walk word))
turn_counts m word phase = Nothing

-- ---- what the other turns count
abbrev pub CountsAt : Machine → Phase → Machine → Type 0
CountsAt m phase x = (x.registers.tally.handed ≡ handed_by (want_in m phase) m.registers.tally.handed) × (x.registers.tally.splits ≡ splits_by (ends_write_in m phase) m.registers.tally.splits) × (x.registers.tally.rewritten ≡ rewritten_by (ends_write_in m phase) m.registers.tally.rewritten)

-- another counter of the tally
abbrev pub CountsSo : Machine → Count → Machine → Type 0
CountsSo m c x = (x.registers.tally.again ≡ (counting c m.registers.tally).again) × (x.registers.tally.rights ≡ (counting c m.registers.tally).rights) × (x.registers.tally.skipped_worn ≡ (counting c m.registers.tally).skipped_worn) × (x.registers.tally.skipped_spent ≡ (counting c m.registers.tally).skipped_spent) × (x.registers.tally.from_cache ≡ m.registers.tally.from_cache)

abbrev Tells : Machine → Count → Phase → Machine → Type 0
Tells m c phase x = CountsAt m phase x × CountsSo m c x

told : (m x : Machine) (c : Count) (w : Want) → Elsewhere w → Adds m c x → ((x.registers.tally.handed ≡ handed_by w m.registers.tally.handed) × (x.registers.tally.splits ≡ m.registers.tally.splits) × (x.registers.tally.rewritten ≡ m.registers.tally.rewritten)) × CountsSo m c x
told m x c w h e = search rules

fed_counts : (m : Machine) (word : ℕ) (phase : Phase) → Tells m (turn_counts m word phase) phase (fed_in m word phase)
fed_counts m word (Read aim top) = told m (fed_in m word (Read aim top)) (turn_counts m word (Read aim top)) _ (load_is (wanted m.setting m.registers.reads)) (search (rules, goes))
fed_counts m word (ReadLocked aim depth) = told m (fed_in m word (ReadLocked aim depth)) (turn_counts m word (ReadLocked aim depth)) _ (load_is (wanted m.setting m.registers.reads)) (search (rules, does))
fed_counts m word (Seek need) = told m (fed_in m word (Seek need)) (turn_counts m word (Seek need)) _ (count_is (walk_wants m.setting m.registers.walk)) (search rules)
fed_counts m word phase = search rules

pub fed_tells : (m : Machine) (word : ℕ) → CountsSo m (turn_counts m word m.phase) (fed_in m word m.phase)
fed_tells m word = (fed_counts m word m.phase).1

pub turned_tells : (m : Machine) (depth : Option ℕ) (phase : Phase) → CountsSo m Nothing (turned_in m depth phase)
turned_tells m depth phase = search rules

pub counts : (m : Machine) (x : Found) → MayFind (want_of m) x → CountsAt m m.phase (machine_behind m x)
counts m x h1 = search (rules, fed_counts, turn_looks)

pub counts_no_start : (m : Machine) (x : Found) → (machine_behind m x).registers.tally.from_cache ≡ m.registers.tally.from_cache
counts_no_start m x = search (rules, fed_tells, turned_tells)

abbrev is_torn : Count → Bool
is_torn Tears = true
is_torn c = false

abbrev is_hop : Count → Bool
is_hop Hops = true
is_hop c = false

abbrev is_worn : Count → Bool
is_worn SkipsWorn = true
is_worn c = false

abbrev pub raised : Bool → ℕ → ℕ
raised true n = up n
raised false n = n

raises : (c : Count) (t : Tally) → ((counting c t).again ≡ raised (is_torn c) t.again) × ((counting c t).rights ≡ raised (is_hop c) t.rights) × ((counting c t).skipped_worn ≡ raised (is_worn c) t.skipped_worn)
raises c t = search rules

pub exactly : {Cause : Type 0} (before after : ℕ) (b : Bool) → after ≡ raised b before → (b ≡ true → Cause) → (Cause → b ≡ true) → RisesExactly before after Cause
exactly before after b e to from = search rules

-- ---- what an image leads to
way_else : (w : Way) → (is_torn (way_counts w) ≡ false) × (is_worn (way_counts w) ≡ false)
way_else w = search rules

module _ (p : ConfigParts) (call : Call) (aim : Aim) (image : Image) where
  abbrev goes_right : Bool
  goes_right = leads_right call aim image && is_node p (next_of image)

  here_way : (node : ℕ) → is_hop (way_counts (way_here call aim node image)) ≡ false
  here_way node = search rules

  by_way : (node child : ℕ) (a b c : Bool) → (let h = cond a HopRestart (cond b (HopRight (next_of image)) (cond c Here (Down child))) in is_hop (way_counts (way_by p call aim node image h)) ≡ (is_right h && is_node p (next_of image)))
  by_way node child a b c = search (rules, here_way)

  by_choice : (child : ℕ) (a b c : Bool) → (let h = cond a HopRestart (cond b (HopRight (next_of image)) (cond c Here (Down child))) in is_hop (choice_counts (decided_by p call aim image h)) ≡ (is_right h && is_node p (next_of image)))
  by_choice child a b c = search rules

  choice_right : is_hop (choice_counts (decision_of p call aim image)) ≡ goes_right
  choice_right = by_choice (child_of (image_pairs image) (aimed_key call aim)) _ _ _

-- the client is at a post, to which this node is worn
record IsSkipped (p : ConfigParts) (aim : Aim) (a : Inner) : Type 0 where
  post : Posting
  aim_is : aim ≡ Posts post
  worn : IsWornAt p post a

module _ (p : ConfigParts) (call : Call) where
  skip_worn : (aim : Aim) (a : Inner) → Gives p call aim (OfInner a) decision.Skip → IsSkipped p aim a
  skip_worn aim a h = search rules

  skips : (post : Posting) (a : Inner) → IsWornAt p post a → decision_of p call (Posts post) (OfInner a) ≡ decision.Skip
  skips post a h1 = search rules

-- ---- what all words of a node count
abbrev seen_counts : (Option Image → Count) → Seen → Count
seen_counts g (LeafSeen a) = g (Some (OfLeaf a))
seen_counts g (InnerSeen a) = g (Some (OfInner a))
seen_counts g (Torn rear front) = Tears
seen_counts g (TornEntry index rear front) = Tears
seen_counts g OddSeen = Nothing

module _ (p : ConfigParts) (r : Reads) (word : ℕ) (g : Option Image → Count) where
  abbrev all : List ℕ
  all = word ∷ r.loaded

-- ---- a turn that ends a run of a node's words is the last one of a READ of that node
pub record RunAt (n : Machine) (turns before : List Taken) (x : Found) (node : ℕ) (words : List ℕ) : Type 0 where
  pub word : ℕ
  pub tail_words : List ℕ
  pub words_are : words ≡ word ∷ tail_words
  pub found_is : x ≡ Word word
  pub rest : turns ≡ loads_from n.setting node 1 tail_words ++ before
  pub reads : HasTail n node tail_words n.phase

abbrev NoRead : Phase → Type 0
NoRead (Read aim top) = ⊥
NoRead (ReadLocked aim depth) = ⊥
NoRead phase = Unit {0}

abbrev Quiet : Count → Tally → Type 0
Quiet c t = ((counting c t).again ≡ t.again) × ((counting c t).rights ≡ t.rights) × ((counting c t).skipped_worn ≡ t.skipped_worn)

-- what is told of a turn's counters
pub record CountsTurn (p : ConfigParts) (call : Call) (now : List Taken) (n x : Machine) : Type 0 where
  pub reads : CountsReads p call now n x
  pub worn : RisesExactly n.registers.tally.skipped_worn x.registers.tally.skipped_worn (EndsWorn p now (read_aim n.phase))

module _ (s : NodeRange) (n : Machine) (turns : List Taken) (lawful : IsSetting n.setting) (named : AllNamed n) (shows : Goes s turns n) (own : HoldsOwn n.setting turns n) where
  abbrev p : ConfigParts
  p = n.setting

  abbrev behind : Found → List Taken
  behind x = turn_found (want_of n) x ∷ turns

  pub run_at : (x : Found) (node : ℕ) (words : List ℕ) (before : List Taken) → HasRun p (behind x) node words before [] → RunAt n turns before x node words
  run_at x node [] before run = absurd (let all = run.all in omega (arith, all, node_size_is p))
  run_at x node (w ∷ ws) before run =
      let all = run.all in
      let none : node_size p - length (w ∷ ws) ≡ 0 = omega (arith, all) in
      let h = head_is (run.whole ∙ ap (λ o. loads_from p node o (w ∷ ws) ++ before) none) in
      record { word = w; tail_words = ws; words_are = refl; found_is = ap (λ (t : Taken). t.found) h.0; rest = h.1; reads = at_read n turns node ws before lawful run.node_is (omega (arith, all)) h.1 s n.phase named shows (ap (λ (t : Taken). t.want) h.0) }

  -- where there is no READ no run ends
  apart : (x : Found) (k : Machine) → ((node : ℕ) (words : List ℕ) (before : List Taken) → RunAt n turns before x node words → ⊥) → (c : Count) → CountsSo n c k → Quiet c n.registers.tally → CountsTurn p n.registers.call (behind x) n k
  apart x k none c so quiet = record {
    reads = record { again = inr (so.0 ∙ quiet.0, λ h. none _ _ _ (run_at x h.node h.words h.before h.run)); rights = inr (so.1 ∙ quiet.1, λ h. none _ _ _ (run_at x h.node h.words h.before h.run)) };
    worn = inr (so.2 ∙ quiet.2, λ h. none _ _ _ (run_at x h.node h.words h.before (let r = h.read in r.run)));
  }

  module _ (word : ℕ) (aim : Aim) (aim_is : read_aim n.phase ≡ Some aim) (on : RunsOn p turns n.registers.reads) (node : IsNode p n.registers.reads.node) (wants : want_of n ≡ load_of (wanted p n.registers.reads)) (g : Option Image → Count) where
    abbrev words : List ℕ
    words = word ∷ n.registers.reads.loaded

    abbrev now : List Taken
    now = behind (Word word)

    abbrev short : Bool
    short = nat_lt (length words) (node_size p)

    abbrev count : Count
    count = cond short Nothing (seen_counts g (seen_of p words))

    some : 1 ≤ p.value_words
    some = lawful.ranged.value_words.0

    -- a run that ends has just these words, and what they are seen as is counted
    run_counts : (k : ℕ) (ws : List ℕ) (before : List Taken) (seen : Seen) → HasRun p now k ws before [] → SeenBy p ws seen → count ≡ seen_counts g seen
    run_counts k ws before seen run by =
        let r = run_at (Word word) k ws before run in
        let first : r.word ≡ word = let e = r.found_is in cc in
        let is : ws ≡ words = r.words_are ∙ ap (λ w. w ∷ r.tail_words) first ∙ ap (λ (l : List ℕ). word ∷ l) (sym (search rules)) in
        let all : length words ≡ node_size p = ap length (sym is) ∙ run.all in
        let one : seen ≡ seen_of p words = seen_once p words some seen (seen_of p words) (subst (λ (l : List ℕ). SeenBy p l seen) is by) (judged_by p words some all) in
        ap (λ b. cond b Nothing (seen_counts g (seen_of p words))) (not_less_test (length words) (node_size p) (omega (arith, all))) ∙ ap (seen_counts g) (sym one)

    run : short ≡ false → (before : List Taken) × HasRun p now n.registers.reads.node words before []
    run e = (_, subst (λ (w : Want). HasRun p (turn_found w (Word word) ∷ turns) n.registers.reads.node words (ran p turns n.registers.reads word on e).before []) (sym wants) (has_run p _ (reads_with n.registers.reads.node words) (ran p turns n.registers.reads word on e) node))

    judged : short ≡ false → (seen : Seen) → seen_of p words ≡ seen → SeenBy p words seen
    judged e seen is = subst (SeenBy p words) is (judged_by p words some (let r = (run e).1 in r.all))

    run_holds : (k : ℕ) (ws : List ℕ) (before : List Taken) (lock : ℕ) → HasRun p now k ws before [] → holds p lock turns ≡ holds p lock before
    run_holds k ws before lock h = let r = run_at (Word word) k ws before h in ap (holds p lock) r.rest ∙ holds_still p lock k 1 r.tail_words before

    -- what is counted shows at the last word of the READ alone
    by_seen : {C : Type 0} (q : Count → Bool) → q Nothing ≡ false → ((e : short ≡ false) (seen : Seen) → seen_of p words ≡ seen → q (seen_counts g seen) ≡ true → C) → q count ≡ true → C
    by_seen h1 h2 h3 = search rules

    module _ (torn : (image : Image) → is_torn (g (Some image)) ≡ false) (right : (image : Image) → is_hop (g (Some image)) ≡ goes_right p n.registers.call aim image) where
      torn_at : (e : short ≡ false) (seen : Seen) → seen_of p words ≡ seen → is_torn (seen_counts g seen) ≡ true → EndsTorn p now
      torn_at e (LeafSeen a) is h = absurd (let f = torn (OfLeaf a) in cc)
      torn_at e (InnerSeen a) is h = absurd (let f = torn (OfInner a) in cc)
      torn_at e OddSeen is h = absurd (cc)
      torn_at e seen is h = record { node = n.registers.reads.node; words = words; before = (run e).0; seen = seen; run = (run e).1; seen_is = judged e seen is; torn = search rules }

      goes_at : (e : short ≡ false) (image : Image) → seen_of p words ≡ seen_as image → is_hop (g (Some image)) ≡ true → EndsRight p n.registers.call now n.phase
      goes_at e image is h =
          let q = and_true (leads_right n.registers.call aim image) _ (sym (right image) ∙ h) in
          record { node = n.registers.reads.node; words = words; before = (run e).0; image = image; aim = aim; run = (run e).1; seen_is = judged e (seen_as image) is; aim_is = aim_is; right = q.0; next = q.1 }

      right_at : (e : short ≡ false) (seen : Seen) → seen_of p words ≡ seen → is_hop (seen_counts g seen) ≡ true → EndsRight p n.registers.call now n.phase
      right_at e (LeafSeen a) is h = goes_at e (OfLeaf a) is h
      right_at e (InnerSeen a) is h = goes_at e (OfInner a) is h
      right_at e seen is h = absurd (cc)

      hops : EndsRight p n.registers.call now n.phase → is_hop count ≡ true
      hops h =
          let aimed : h.aim ≡ aim = let a = h.aim_is in cc in
          ap is_hop (run_counts h.node h.words h.before (seen_as h.image) h.run h.seen_is ∙ (search rules)) ∙ right h.image ∙ true_and _ _ (subst (λ (a : Aim). leads_right n.registers.call a h.image ≡ true) aimed h.right) h.next

      module _ (inner : (a : Leaf) → is_worn (g (Some (OfLeaf a))) ≡ false) (locked : (a : Inner) → is_worn (g (Some (OfInner a))) ≡ true → IsSkipped p aim a × (depth : ℕ) × (holds p (lock_of p n.registers.reads.node) turns ≡ Some depth)) (worn : (lock depth : ℕ) → holds p lock turns ≡ Some depth → (a : Inner) → IsSkipped p aim a → is_worn (g (Some (OfInner a))) ≡ true) where
        worn_at : (e : short ≡ false) (seen : Seen) → seen_of p words ≡ seen → is_worn (seen_counts g seen) ≡ true → EndsWorn p now (read_aim n.phase)
        worn_at e (LeafSeen a) is h = absurd (let f = inner a in cc)
        worn_at e (InnerSeen a) is h =
            let k = locked a h in
            let skipped = k.0 in
            let r = run e in
            record { post = skipped.post; after_is = aim_is ∙ ap Some skipped.aim_is; node = n.registers.reads.node; depth = k.1; words = words; before = r.0; inner = a; read = record { run = r.1; locked = sym (run_holds n.registers.reads.node words r.0 (lock_of p n.registers.reads.node) r.1) ∙ k.2 }; spells = judged e (InnerSeen a) is; worn = skipped.worn }
        worn_at e seen is h = absurd (cc)

        skips_at : EndsWorn p now (read_aim n.phase) → is_worn count ≡ true
        skips_at h =
            let r = h.read in
            let aimed : aim ≡ Posts h.post = let a = h.after_is in cc in
            ap is_worn (run_counts h.node h.words h.before (InnerSeen h.inner) r.run h.spells) ∙ worn (lock_of p h.node) h.depth (run_holds h.node h.words h.before (lock_of p h.node) r.run ∙ r.locked) h.inner (record { post = h.post; aim_is = aimed; worn = h.worn })

        rises : (x : Machine) → CountsSo n count x → CountsTurn p n.registers.call now n x
        rises x so =
            let r = raises count n.registers.tally in
            record {
              reads = record {
                again = exactly _ _ (is_torn count) (so.0 ∙ r.0) (by_seen is_torn refl torn_at) (λ h. ap is_torn (run_counts h.node h.words h.before h.seen h.run h.seen_is) ∙ (search rules));
                rights = exactly _ _ (is_hop count) (so.1 ∙ r.1) (by_seen is_hop refl right_at) hops;
              };
              worn = exactly _ _ (is_worn count) (so.2 ∙ r.2) (by_seen is_worn refl worn_at) skips_at;
            }

  fed_rises : (word : ℕ) (phase : Phase) → n.phase ≡ phase → Names p n.registers.call n.registers.reads phase → Shows s turns n phase → CountsTurn p n.registers.call (behind (Word word)) n (fed_by n word)
  fed_rises word (Read aim top) at names show =
      let g = read_counts (loaded n word) aim top in
      rises word aim (ap read_aim at) show.1 (named_node p _ names) (ap (want_in n) at) g
      (λ image. (way_else _).0) (λ image. search (rules, chosen, by_way)) (λ a. (way_else _).1)
      (λ a h. absurd (let w = (way_else (way_of p n.registers.call aim top (loaded n word).registers.reads.node (OfInner a))).1 in cc))
      (λ lock depth h a k. absurd (subst (λ (x : Phase). HasTurn lock (stand_in p n.registers x)) at (own lock depth h)))
      (fed_by n word) (subst (λ (c : Count). CountsSo n c (fed_by n word)) (ap (turn_counts n word) at ∙ (search rules)) (fed_tells n word))
  fed_rises word (ReadLocked aim depth) at names show =
      let g = hold_counts (loaded n word) aim in
      rises word aim (ap read_aim at) show.1 (named_node p _ names.0) (ap (want_in n) at) g
      (λ image. search rules) (λ image. choice_right p n.registers.call aim image)
      (λ a. no_skip a (decision_of p n.registers.call aim (OfLeaf a)) refl)
      (λ a h. (skip_worn p n.registers.call aim a (subst (Gives p n.registers.call aim (OfInner a)) (search rules) (gives p n.registers.call aim (OfInner a))), depth, show.2))
      (λ lock d h a k. ap (λ (d : Decision). is_worn (choice_counts d)) (ap (λ (aim : Aim). decision_of p n.registers.call aim (OfInner a)) k.aim_is ∙ skips p n.registers.call k.post a k.worn))
      (fed_by n word) (subst (λ (c : Count). CountsSo n c (fed_by n word)) (ap (turn_counts n word) at ∙ (search rules)) (fed_tells n word))
    where
      no_skip : (a : Leaf) (d : Decision) → decision_of p n.registers.call aim (OfLeaf a) ≡ d → is_worn (choice_counts d) ≡ false
      no_skip a d h1 = search (rules, gives)
  fed_rises word phase at names show = apart (Word word) (fed_by n word) (λ node words before r. search rules) _ (fed_tells n word) (search rules)

  pub turn_rises : (x : Found) → CountsTurn p n.registers.call (behind x) n (machine_behind n x)
  turn_rises (Word word) = fed_rises word n.phase refl named shows
  turn_rises (Turn depth) = apart (Turn depth) (machine_behind n (Turn depth)) (λ node words before r. let e = r.found_is in cc) Nothing (turned_tells n depth n.phase) (refl, refl, refl)

-- ---- the cause of a post that is skipped for want of a node
abbrev is_spent : Count → Bool
is_spent SkipsSpent = true
is_spent c = false

way_spent : (w : Way) → is_spent (way_counts w) ≡ false
way_spent w = search rules

hold_spent : (m : Machine) (aim : Aim) (answer : Progress) (o : Option Image) → is_spent (answer_counts answer (hold_counts m aim o)) ≡ false
hold_spent m aim answer o = search rules

no_look : (m : Machine) (phase : Phase) → IsLook phase → IsCount m.setting (want_in m phase) → ⊥
no_look m phase look c = search rules

-- a counter that was found spent in turns on counters was so in the walk
counted_found : (p : ConfigParts) (server : ℕ) (a b c d : List Taken) → a ++ b ≡ c ++ d → AllCount p a → StartsApart p d → FoundSpent p server a → FoundSpent p server c
counted_found p server [] b c d e count apart f = absurd f
counted_found p server (x ∷ a) b [] [] e count apart f = absurd (cc)
counted_found p server (x ∷ a) b [] (y ∷ d) e count apart f = absurd (apart (subst (λ (t : Taken). IsCount p t.want) (head_is e).0 count.0))
counted_found p server (x ∷ a) b (y ∷ c) d e count apart f = elim f [
  | inl s ↦ inl (subst (λ (t : Taken). IsSpent p server t.want t.found) (head_is e).0 s)
  | inr g ↦ inr (counted_found p server a b c d (head_is e).1 count.1 apart g)
]

walk_ended : (p : ConfigParts) (seat : ℕ) (since : List Taken) (need : Need) (w : Walk) (phase : WalkPhase) → WalkShows p seat since w phase → is_spent (walk_counts need (walk_wants_in p (server_at p w) phase)) ≡ true → WalkEnds p since
walk_ended p seat since need w phase h1 h2 = search rules

module _ (s : NodeRange) (turns : List Taken) (m : Machine) (lawful : IsSetting m.setting) (word : ℕ) where
  abbrev turns_now : Phase → List Taken
  turns_now phase = turn_found (want_in m phase) (Word word) ∷ turns

  abbrev cfg : ConfigParts
  cfg = m.setting

  abbrev one_server : 1 ≤ cfg.servers
  one_server = lawful.ranged.servers.0

  posts : (need : Need) → HasStored cfg turns → Counts cfg m.seat turns m.registers.spare m.registers.walk → is_spent (turn_counts m word (Seek need)) ≡ true → EndsSpent cfg (turns_now (Seek need)) m.registers.spare
  posts need stored k h =
      let t = turn_found (want_in m (Seek need)) (Word word) in
      let w = walk_fed cfg m.registers.walk word in
      let ends = walk_ended cfg m.seat (t ∷ k.since) need w w.phase (walk_on cfg m.seat word k.since m.registers.walk k.walks one_server) h in
      record { before = k.before; since = t ∷ k.since; whole = ap (λ (l : List Taken). t ∷ l) k.whole; counted = ends.counted; spent = ends.spent; got_none = ends.got_none; none = k.none; stored = λ all. stored all.1 }

  cause : (phase : Phase) → Shows s turns m phase → is_spent (turn_counts m word phase) ≡ true → EndsSpent m.setting (turns_now phase) m.registers.spare
  cause phase h1 h2 = search (rules, way_spent, hold_spent, posts)

  -- ---- and where it stands, it is counted
  last_counts : (t : Taken) (since before : List Taken) → t ∷ turns ≡ since ++ before → AllSpent cfg since → AllCount cfg since → AllGotNone cfg since → IsCount cfg t.want × GotNone cfg t.want t.found
  last_counts t [] before e spent counted got = absurd (spent 0 one_server)
  last_counts t (x ∷ since) before e spent counted got = subst (λ (t : Taken). IsCount cfg t.want × GotNone cfg t.want t.found) (sym (head_is e).0) (counted.0, got.0)

  walk_counts_so : (need : Need) → IsPosting need → (k : Counts cfg m.seat turns m.registers.spare m.registers.walk) → (h : EndsSpent cfg (turns_now (Seek need)) m.registers.spare) → GotNone cfg (want_in m (Seek need)) (Word word) → (let v = walk_fed cfg m.registers.walk word in (phase : WalkPhase) → WalkShows cfg m.seat (turn_found (want_in m (Seek need)) (Word word) ∷ k.since) v phase → is_spent (walk_counts need (walk_wants_in cfg (server_at cfg v) phase)) ≡ true)
  walk_counts_so need is k h got Spent walks = search rules
  walk_counts_so need is k h got (FoundChunk c) walks = absurd (walks.got (got, let on = k.walks in on.got_none))
  walk_counts_so need is k h got phase walks =
      let v = walk_fed cfg m.registers.walk word in
      let t = turn_found (want_in m (Seek need)) (Word word) in
      absurd (walk_left cfg m.seat (t ∷ k.since) v one_server walks (counted_found cfg (server_at cfg v) h.since h.before (t ∷ k.since) k.before (sym h.whole ∙ ap (λ (l : List Taken). t ∷ l) k.whole) h.counted k.apart (h.spent (server_at cfg v) (mod_below (v.first + v.passed) cfg.servers one_server))))

  must_count : (phase : Phase) → Shows s turns m phase → EndsSpent cfg (turns_now phase) m.registers.spare → IsCount cfg (want_in m phase) × GotNone cfg (want_in m phase) (Word word) → is_spent (turn_counts m word phase) ≡ true
  must_count phase h1 h2 h3 = search (rules, node_word_low, count_spares, walk_counts_so, walk_on)

-- a turn of a course
pub spent_counted : (s : NodeRange) (turns : List Taken) (m : Machine) (x : Found) → IsSetting m.setting → MayFind (want_of m) x → Shows s turns m m.phase → RisesExactly m.registers.tally.skipped_spent (machine_behind m x).registers.tally.skipped_spent (EndsSpent m.setting (turn_found (want_of m) x ∷ turns) m.registers.spare)
spent_counted s turns m (Word word) lawful may shows = exactly _ _ (is_spent (turn_counts m word m.phase)) ((fed_tells m word).3 ∙ (search rules)) (cause s turns m lawful word m.phase shows)
    (λ h. must_count s turns m lawful word m.phase shows h (last_counts s turns m lawful word (turn_found (want_of m) (Word word)) h.since h.before h.whole h.spent h.counted h.got_none))
spent_counted s turns m (Turn depth) lawful may shows = inr ((turned_tells m depth m.phase).3, λ h. no_look m m.phase (turn_looks m depth m.phase may) (last_counts s turns m lawful 0 (turn_found (want_of m) (Turn depth)) h.since h.before h.whole h.spent h.counted h.got_none).0)
