-- What a turn adds to what is shown.
use Rattle.std.proofs.Common.{rules, ◌≡◌, ◌⊎◌, ℕ, ◌+◌, ◌-◌, ◌<◌, ◌≤◌, Bool, true, false, Some, List, [], ◌∷◌, ◌++◌, length, inl, inr, refl, ap, ◌∙◌, arith, Option, None, sym, subst}
use Rattle.std.{proofs.lemmas.Bool.Decides.{nat_tests}, specs.Prelude.{◌==◌}}
use Rattle.sh_base.{proofs.LayoutLemmas.{node_word_low}, specs.{Layout.{first_node, lock_of, lock_word, node_word}, Setting.{last_version, IsNode, first_node_word, node_size, IsSetting}}}
use Rattle.sh_base.{proofs.PlanLemmas.{lock_below}, specs.declared.{config.ConfigParts.{ConfigParts}, event.Event.TheVariants.{Store}}}
use Rattle.sh_map.specs.declared.{book.Row.{Row}, call.Call.{Call}}
use Rattle.sh_alloc.specs.{Spares.{lowest, without_lowest}, Walks.{server_at, walk_wants_in, walk_fed}, declared.state.Phase.{Phase as WalkPhase, TheVariants.{Found as FoundChunk, Spent}}}
use Rattle.sh_alloc.specs.declared.state.NodeRange.{NodeRange}
use Rattle.sh_image.specs.{Leaf.{Leaf, Spells}, declared.inner.Image.{Image, TheVariants.{Leaf as LeafImage}}}
use Rattle.sh_edit.specs.Ranging.{end_in, last_key, upto_of, taken as taken_of}
use Rattle.sh_read.specs.{Reads.{accepted, progress_of}, declared.state.Progress.{Progress}}
use Rattle.sh_decide.specs.{Aims.{call_key, end_of, is_node}, Deciding.{decision_of}, Ways.{way_of}, declared.state.{Aim.TheVariants.{Gathers, Own, Posts}, Decision.{Decision}}}
use Rattle.sh_decide.specs.declared.state.{Aim.{Aim}, Way.{Way}}
use Rattle.sh_client.specs.{Cached.{settling, learning}, declared.state.Phase.TheVariants.{Seek, Idle, Root, Read, Draw, Look, Grab, ReadLocked, Fill, Waiting, Body, Unlock, Leave, Swap, Ended}}
use Rattle.sh_client.specs.{Feeds.{did, held_by, hold_by, arrived, fed_in, from_root, loaded, read_by, turned_in, went}, Ranges.{gathered, gathering, is_whole, passing, range_ended, rows_taken}}
use Rattle.sh_client.specs.{Giving.{counted, queue_left, released}, declared.state.{Filling.{Filling}, Need.TheVariants.{ToSplit, ToGrow}}}
use Rattle.sh_client.specs.{Machine.{Machine, sparing, to, reading}, Splitting.{chunk_taken, halved_by, needing, sought_by, walking, with_fresh, fill_done, root_grown, walked}}
use Rattle.sh_client.specs.{Wants.{want_in}, declared.state.{Need.{Need}, Phase.{Phase}, Then.{Then}, Write.{Write}}}
use Rattle.sh_course.{proofs.{Decided.{chosen, hop_here, gives, Gives, Named, named_node, read_node, Names}, Rising.{turn_looks}}, specs.Found.{holds, AllSpare, HasReadLocked, GotNone, SparesNodes}}
use Rattle.sh_course.proofs.Reading.{ran_apart, walk_begins, WalkShows, count_spares, walk_on, has_run, run_begins, spelled, Ran, has_read, Comes, loading_holds, loading_spares, read_on}
use Rattle.sh_course.proofs.Showing.{StartsApart, AimOf, Gathered, Goes, IsPosting, Counts, HasStored, IsPlain, SeeksLeaf, WalksOn, Shows, ThenOf}
use Rattle.sh_course.proofs.Showing.{aim_more, no_cause, read_more, stored_more, stored_then, then_more}
use Rattle.sh_course.specs.{Answers.{HasOneKey}, Causes.{IsFull}, Ranges.{place_behind, rows_of_leaves, HasLeaf}, Turns.{Taken, MayFind, Turn, Word, turn_found}}
use Rattle.sh_logic.proofs.Tests.{same_test}
use Rattle.sh_decide.specs.declared.state.Way.TheVariants as way
use Rattle.sh_decide.specs.declared.state.Decision.TheVariants as decision
use Rattle.sh_client.specs.declared.state.Want.TheVariants as want

-- ---- what a range takes of the leaves that it READs, and where it ends
-- rows are taken of a leaf that covers the place, and a range finds nothing else
abbrev pub WayCovers : Aim → Image → Way → Type 0
WayCovers (Gathers place) image way.Found = ⊥
WayCovers (Gathers place) (LeafImage a) way.Rows = (a.low ≤ place) × (place < a.high)
WayCovers aim image w = Unit {0}

pub way_covers : (p : ConfigParts) (call : Call) (aim : Aim) (top : Bool) (node : ℕ) (image : Image) → WayCovers aim image (way_of p call aim top node image)
way_covers p call aim top node image = search (rules, hop_here)

-- ---- where it ends
module _ (room high : ℕ) (rows : List Row) where
  early : upto_of room high rows < high → (length rows ≡ room) × (upto_of room high rows ≡ last_key rows + 1)
  early h = (grind (arith, nat_tests, h), grind (arith, nat_tests, h))

  full : length rows ≡ room → last_key rows + 1 < high → upto_of room high rows ≡ last_key rows + 1
  full is below = grind (arith, nat_tests, is, below)

  within : upto_of room high rows ≤ high
  within = grind (arith, nat_tests)

module _ (s : NodeRange) (t : List Taken) (m : Machine) where
  abbrev low : ℕ
  low = call_key m.registers.call

  abbrev high : ℕ
  high = end_of m.registers.call

  module _ (place : ℕ) (h : Gathered m.setting low high t m.registers.rows place) (next : ℕ) where
    passes : Goes s t (passing m (record { high = place; next = next }))
    passes = search (rules, run_begins)

    gathers : (aim : Aim) → Goes s t (gathered m aim (Some (record { high = place; next = next })))
    gathers aim = chosen (Goes s t) (is_whole m.setting.rows high place m.registers.rows) (range_ended m) (passing m (record { high = place; next = next })) (λ e. record { leaves = h.leaves; read = h.read; rows_are = h.rows_are; ends = ends e; early = early m.setting.rows high m.registers.rows; full = full m.setting.rows high m.registers.rows; within = within m.setting.rows high m.registers.rows }) (λ e. passes)
      where
        ends : is_whole m.setting.rows high place m.registers.rows ≡ true → (length m.registers.rows ≡ m.setting.rows) ⊎ (high ≤ place_behind low h.leaves)
        ends e = by (length m.registers.rows == m.setting.rows) refl
          where
            by : (b : Bool) → (length m.registers.rows == m.setting.rows) ≡ b → (length m.registers.rows ≡ m.setting.rows) ⊎ (high ≤ place_behind low h.leaves)
            by true f = inl (grind (arith, nat_tests, f))
            by false f = inr (let at = h.place_is in grind (arith, nat_tests, e, f, at))

module _ (s : NodeRange) (t : List Taken) (m : Machine) (some : 1 ≤ m.setting.value_words) (named : Named m.setting m.registers.reads.node) (ran : Ran m.setting t m.registers.reads) where
  takes_leaf : (place : ℕ) (a : Leaf) → accepted m.setting m.registers.reads ≡ Some (LeafImage a) → (a.low ≤ place) × (place < a.high) → Gathered m.setting (call_key m.registers.call) (end_of m.registers.call) t m.registers.rows place → Goes s t (rows_taken m (Gathers place) (LeafImage a))
  takes_leaf place a is covers h =
      let at = h.place_is in
      let leaf : HasLeaf m.setting t a (place_behind (call_key m.registers.call) h.leaves) = record { node = m.registers.reads.node; words = m.registers.reads.loaded; before = ran.before; since = []; run = has_run m.setting t m.registers.reads ran (named_node m.setting m.registers.reads.node named); spells = spelled m.setting t m.registers.reads ran a some is; low = omega (arith, at, covers); high = omega (arith, at, covers) } in
      gathers s t (gathering m place (LeafImage a)) a.high (record {
        leaves = a ∷ h.leaves;
        read = (leaf, h.read);
        rows_are =
            ap (λ (rows : List Row). rows ++ taken_of a.entries (end_in a.high (end_of m.registers.call)) (m.setting.rows - length rows) place) h.rows_are
            ∙ ap (λ n. rows_of_leaves m.setting (call_key m.registers.call) (end_of m.registers.call) h.leaves ++ taken_of a.entries (end_in a.high (end_of m.registers.call)) (m.setting.rows - length (rows_of_leaves m.setting (call_key m.registers.call) (end_of m.registers.call) h.leaves)) n) at;
        place_is = refl;
      }) a.next (Gathers place)

  pub takes_rows : (aim : Aim) (image : Image) → accepted m.setting m.registers.reads ≡ Some image → WayCovers aim image way.Rows → AimOf s t m aim → Goes s t (rows_taken m aim image)
  takes_rows aim image is covers h = search (rules, takes_leaf)

-- ---- what is shown behind the READ under the lock, and behind the walk over the counters
post_fresh : (s : NodeRange) (t : List Taken) (m : Machine) (fresh : ℕ) (need : Need) → IsPosting need → IsPlain m.registers.call m.registers.reply × HasStored m.setting t → Goes s t (with_fresh m fresh need)
post_fresh s t m fresh (ToSplit (Posts post) depth) is h = search rules
post_fresh s t m fresh need is h = search rules

module _ (s : NodeRange) (t : List Taken) (m : Machine) (h : IsPlain m.registers.call m.registers.reply × HasStored m.setting t) (need : Need) (is : IsPosting need) where
  counts_on : Counts m.setting m.seat t m.registers.spare m.registers.walk → Goes s t (to m (Seek need))
  counts_on counts = search rules

module _ (s : NodeRange) (t : List Taken) (m : Machine) (h : IsPlain m.registers.call m.registers.reply × HasStored m.setting t) (need : Need) (is : IsPosting need) where
  pub post_needs : StartsApart m.setting t → (o : Option ℕ) → lowest m.registers.spare ≡ o → Goes s t (needing m need o)
  post_needs apart (Some fresh) is_low = post_fresh s t (sparing m (without_lowest m.registers.spare)) fresh need is h
  post_needs apart None is_low = counts_on s t (walking m) h need is (record { before = t; since = []; whole = refl; none = grind (arith, nat_tests, is_low); apart = apart; walks = walk_begins m.setting m.seat })

  pub seeks_post : (before since : List Taken) → StartsApart m.setting before → t ≡ since ++ before → m.registers.spare.count ≡ 0 → (phase : WalkPhase) → WalkShows m.setting m.seat since m.registers.walk phase → Goes s t (sought_by m need (walk_wants_in m.setting (server_at m.setting m.registers.walk) phase))
  seeks_post before since h1 h2 h3 phase h4 = search (rules, post_fresh, no_cause, counts_on)

-- a leaf
module _ (s : NodeRange) (t : List Taken) (m : Machine) (depth : ℕ) (h : AllSpare m.setting t × (m.registers.spare ≡ s) × HasOneKey m.registers.call) where
  module _ (w : WalkPhase) (node d : ℕ) (words : List ℕ) (before since : List Taken) (a : Leaf) (read : HasReadLocked m.setting t node d words before since) (spells : Spells m.setting words a) (full : IsFull m.setting m.registers.call a) (is : accepted m.setting m.registers.reads ≡ Some (LeafImage a)) (none : s.count ≡ 0) where
    goes_on : WalksOn m.setting m.seat since m.registers.walk → SeeksLeaf m.setting m.registers.call m.seat s t m.registers.reads m.registers.walk
    goes_on walks = record { node = node; depth = d; words = words; before = before; since = since; leaf = a; read = read; spells = spells; full = full; image = is; none = none; walks = walks }

    by_phase : (phase : WalkPhase) → WalkShows m.setting m.seat since m.registers.walk phase → Goes s t (sought_by m (ToSplit Own depth) (walk_wants_in m.setting (server_at m.setting m.registers.walk) phase))
    by_phase (FoundChunk c) walks =
        let server = server_at m.setting m.registers.walk in
        subst (λ (o : Option Image). Goes s t (halved_by (chunk_taken m server c) Own depth (first_node m.setting server c) o)) (sym is) (refl, h.2)
    by_phase Spent walks = (record { node = node; depth = d; words = words; before = before; since = since; leaf = a; read = read; spells = spells; full = full; spent = walks.spent; got_none = walks.got_none; spares = h.0 }, none)
    by_phase phase walks = (h, goes_on walks)

    -- the walk goes on, or found a chunk, or all chunks are spent
    pub seeks_leaf : WalkShows m.setting m.seat since m.registers.walk w → Goes s t (sought_by m (ToSplit Own depth) (walk_wants_in m.setting (server_at m.setting m.registers.walk) w))
    seeks_leaf walks = by_phase w walks

module _ (s : NodeRange) (t : List Taken) (m : Machine) (depth : ℕ) (some : 1 ≤ m.setting.value_words) (node : IsNode m.setting m.registers.reads.node) (locked : holds m.setting (lock_of m.setting m.registers.reads.node) t ≡ Some depth) (ran : Ran m.setting t m.registers.reads) where
  leaf_needs : (a : Leaf) (o : Option ℕ) → lowest m.registers.spare ≡ o → AimOf s t m Own → accepted m.setting m.registers.reads ≡ Some (LeafImage a) → Gives m.setting m.registers.call Own (LeafImage a) decision.Split → Goes s t (needing m (ToSplit Own depth) o)
  leaf_needs a (Some fresh) is_low h is given = subst (λ (o : Option Image). Goes s t (halved_by (sparing m (without_lowest m.registers.spare)) Own depth fresh o)) (sym is) (refl, h.2)
  leaf_needs a None is_low h is given =
      let count : s.count ≡ 0 = ap (λ (r : NodeRange). r.count) (sym h.1) ∙ (grind (arith, nat_tests, is_low)) in
      (h, record { node = m.registers.reads.node; depth = depth; words = m.registers.reads.loaded; before = ran.before; since = []; leaf = a; read = has_read m.setting t m.registers.reads ran depth node locked; spells = spelled m.setting t m.registers.reads ran a some is; full = given; image = is; none = count; walks = walk_begins m.setting m.seat })

  does : (aim : Aim) (image : Image) (d : Decision) → AimOf s t m aim → accepted m.setting m.registers.reads ≡ Some image → Gives m.setting m.registers.call aim image d → Goes s t (did m aim depth image d)
  does Own (LeafImage a) (decision.Worn version) h is given =
      let spells = spelled m.setting t m.registers.reads ran a some is in
      let low : version ≡ a.version = given.version_is in
      let high : last_version m.setting ≤ a.version = given.last in
      let most : a.version ≤ last_version m.setting = spells.lawful.version in
      record { node = m.registers.reads.node; depth = depth; words = m.registers.reads.loaded; before = ran.before; since = []; leaf = a; read = has_read m.setting t m.registers.reads ran depth node locked; spells = spells; worn = given; last = omega (arith, low, high, most); spares = h.0 }
  does Own (LeafImage a) decision.Split h is given = leaf_needs a (lowest m.registers.spare) refl h is given
  does (Posts post) image decision.Split h is given = post_needs s t m h (ToSplit (Posts post) depth) tt (ran_apart m.setting t m.registers.reads ran) (lowest m.registers.spare) refl
  does aim image d h is given = search (rules, no_cause)

module _ (s : NodeRange) (t : List Taken) (m : Machine) (depth : ℕ) (some : 1 ≤ m.setting.value_words) (node : IsNode m.setting m.registers.reads.node) (locked : holds m.setting (lock_of m.setting m.registers.reads.node) t ≡ Some depth) where
  decides : (aim : Aim) (o : Option Image) → AimOf s t m aim → Ran m.setting t m.registers.reads → accepted m.setting m.registers.reads ≡ o → Goes s t (held_by m aim depth o)
  decides aim (Some image) h ran is = does s t (settling m aim image) depth some node locked (record { before = ran.before; whole = ran.whole; all = ran.all; image = ran.image }) aim image (decision_of m.setting m.registers.call aim image) h is (gives m.setting m.registers.call aim image)
  decides aim None h ran is = h

  pub holds_on : (aim : Aim) (answer : Progress) → AimOf s t m aim → Comes m.setting t m.registers.reads answer → Goes s t (hold_by m aim depth answer)
  holds_on aim answer h comes = search (rules, decides)

-- ---- without a lock
module _ (s : NodeRange) (t : List Taken) (m : Machine) where
  grows : (aim : Aim) → StartsApart m.setting t → AimOf s t m aim → Goes s t (root_grown m aim m.registers.reads.node)
  grows (Posts post) apart h = post_needs s t m h (ToGrow post m.registers.reads.node) tt apart (lowest m.registers.spare) refl
  grows aim apart h = h

  goes : (aim : Aim) (image : Image) (w : Way) → 1 ≤ m.setting.value_words → Named m.setting m.registers.reads.node → Ran m.setting t m.registers.reads → accepted m.setting m.registers.reads ≡ Some image → WayCovers aim image w → AimOf s t m aim → Goes s t (went m aim image w)
  goes aim image way.Grow some named ran is covers h = grows aim (ran_apart m.setting t m.registers.reads ran) h
  goes aim image way.Rows some named ran is covers h = takes_rows s t m some named ran aim image is covers h
  goes aim image w some named ran is covers h = search (rules, run_begins, no_cause)

module _ (s : NodeRange) (t : List Taken) (m : Machine) (some : 1 ≤ m.setting.value_words) (named : Named m.setting m.registers.reads.node) where
  arrives : (aim : Aim) (top : Bool) (o : Option Image) → Ran m.setting t m.registers.reads → accepted m.setting m.registers.reads ≡ o → AimOf s t m aim → Goes s t (arrived m aim top o)
  arrives aim top (Some image) ran is h = goes s t (learning m aim image) aim image (way_of m.setting m.registers.call aim top m.registers.reads.node image) some named (record { before = ran.before; whole = ran.whole; all = ran.all; image = ran.image }) is (way_covers m.setting m.registers.call aim top m.registers.reads.node image) h
  arrives aim top None ran is h = h

  reads_on : (aim : Aim) (top : Bool) (answer : Progress) → Comes m.setting t m.registers.reads answer → AimOf s t m aim → Goes s t (read_by m aim top answer)
  reads_on aim top answer comes h = search (rules, arrives)

-- ---- the lock is given back
counts : (s : NodeRange) (t : List Taken) (m : Machine) (node : ℕ) (carry : Option ℕ) (after : Then) (write : Write) → ThenOf s t m after → Goes s t (released (counted m write) node carry after)
counts s t m node carry after write h = search rules

leaves : (s : NodeRange) (t : List Taken) (m : Machine) (carry : Option ℕ) (after : Then) → ThenOf s t m after → Goes s t (queue_left m carry after)
leaves s t m carry after h = search rules

module _ (s : NodeRange) (turns : List Taken) (m : Machine) (lawful : IsSetting m.setting) where
  abbrev p : ConfigParts
  p = m.setting

  some : 1 ≤ p.value_words
  some = lawful.ranged.value_words.0

  lock_spares : (node : ℕ) → Named p node → (lock_word p 0 ≤ lock_word p (lock_of p node)) × (lock_word p (lock_of p node) < first_node_word p)
  lock_spares node named = let below = lock_below p node lawful (named_node p node named) in (omega arith, omega (arith, below))

  grown : (t : Taken) → SparesNodes p t.want → (aim : Aim) → AimOf s turns m aim → AimOf s (t ∷ turns) m aim
  grown t spares aim h = aim_more p m.registers.call s turns m.registers.spare m.registers.rows t spares m.registers.reply aim h

  grown_then : (t : Taken) → SparesNodes p t.want → GotNone p t.want t.found → (after : Then) → ThenOf s turns m after → ThenOf s (t ∷ turns) m after
  grown_then t spares got after h = then_more p m.registers.call s turns m.registers.spare m.registers.rows t spares got m.registers.reply after h

  -- a word of a node is stored
  stores : (node at word found : ℕ) → HasStored p (turn_found (want.Event (Store (node_word p node + at) word)) (Word found) ∷ turns)
  stores node at word found = λ h. let low = node_word_low p node in omega (arith, low, h.0.0.1)

  abbrev now : (word : ℕ) → Phase → List Taken
  now word phase = turn_found (want_in m phase) (Word word) ∷ turns

  fills : (fresh done : ℕ) (filling : Filling) (word : ℕ) → Shows s turns m (Fill fresh done filling) → Goes s (now word (Fill fresh done filling)) (fill_done m fresh filling) × Goes s (now word (Fill fresh done filling)) (to m (Fill fresh (done + 1) filling))
  fills fresh done filling word h1 = search (rules, stored_more)

  seeks : (need : Need) (word : ℕ) → Shows s turns m (Seek need) → Goes s (now word (Seek need)) (fed_in m word (Seek need))
  seeks (ToSplit Own depth) word h =
      let k : SeeksLeaf p m.registers.call m.seat s turns m.registers.reads m.registers.walk = h.1 in
      let t = turn_found (want_in m (Seek (ToSplit Own depth))) (Word word) in
      let on = k.walks in
      let w = walk_fed p m.registers.walk word in
      seeks_leaf s (t ∷ turns) (walked m word) depth ((count_spares p m.registers.walk lawful.ranged.servers.0 m.registers.walk.phase on.runs, h.0.0), h.0.1, h.0.2) w.phase k.node k.depth k.words k.before (t ∷ k.since) k.leaf (read_more p turns t k.node k.depth k.words k.before k.since k.read) k.spells k.full k.image k.none (walk_on p m.seat word k.since m.registers.walk on lawful.ranged.servers.0)
  seeks (ToSplit (Gathers place) depth) word h = absurd h
  seeks (ToSplit (Posts post) depth) word h = search (rules, seeks_post, stored_more, walk_on)
  seeks (ToGrow post root) word h = search (rules, seeks_post, stored_more, walk_on)

  pub fed_shows : (word : ℕ) (phase : Phase) → m.phase ≡ phase → Names p m.registers.call m.registers.reads phase → MayFind (want_in m phase) (Word word) → Shows s turns m phase → Goes s (now word phase) (fed_in m word phase)
  fed_shows word Idle at named may h = absurd may
  fed_shows word (Root aim) at named may h =
      let g = grown (turn_found (want_in m (Root aim)) (Word word)) tt aim h in
      chosen (Goes s (now word (Root aim))) (is_node p word) (reading (from_root m) word (Read aim true)) (to m (Root aim)) (λ e. (g, run_begins p (now word (Root aim)) word)) (λ e. g)
  fed_shows word (Read aim top) at named may h =
      reads_on s (now word (Read aim top)) (loaded m word) some (ap (is_node p) (read_node p m.registers.reads word) ∙ named) aim top (progress_of p m.registers.reads word) (read_on p turns m.registers.reads word h.1) (grown (turn_found (want_in m (Read aim top)) (Word word)) (loading_spares p turns m.registers.reads word) aim h.0)
  fed_shows word (Draw aim node) at named may h = grown (turn_found (want_in m (Draw aim node)) (Word word)) tt aim h
  fed_shows word (Look aim node) at named may h = subst (λ (x : Phase). Shows s (now word (Look aim node)) m x) (sym at) (grown (turn_found (want_in m (Look aim node)) (Word word)) tt aim h)
  fed_shows word (Grab aim node) at named may h =
      let g = grown (turn_found (want_in m (Grab aim node)) (Word word)) (lock_spares node named.0) aim h in
      chosen (Goes s (now word (Grab aim node))) (word == 0) (reading m node (ReadLocked aim 0)) (to m (Grab aim node))
      (λ e. (g, run_begins p (now word (Grab aim node)) node, rw (same_test (lock_word p (lock_of p node)) _ refl, e) refl))
      (λ e. g)
  fed_shows word (ReadLocked aim depth) at named may h =
      let node = read_node p m.registers.reads word in
      holds_on s (now word (ReadLocked aim depth)) (loaded m word) depth some (named_node p _ (ap (is_node p) node ∙ named.0)) (ap (λ n. holds p (lock_of p n) (now word (ReadLocked aim depth))) node ∙ loading_holds p turns m.registers.reads word (lock_of p m.registers.reads.node) ∙ h.2) aim (progress_of p m.registers.reads word) (grown (turn_found (want_in m (ReadLocked aim depth)) (Word word)) (loading_spares p turns m.registers.reads word) aim h.0) (read_on p turns m.registers.reads word h.1)
  fed_shows word (Seek need) at named may h = seeks need word h
  fed_shows word (Fill fresh done filling) at named may h =
      let f = fills fresh done filling word h in
      chosen (Goes s (now word (Fill fresh done filling))) (done + 1 == node_size p) (fill_done m fresh filling) (to m (Fill fresh (done + 1) filling)) (λ e. f.0) (λ e. f.1)
  fed_shows word (Waiting depth giving) at named may h = search (rules, counts, grown_then)
  fed_shows word (Body carry done giving) at named may h = chosen (Goes s (now word (Body carry done giving))) (done + 1 == length m.registers.body) (released (counted m giving.write) giving.node carry giving.after) (to m (Body carry (done + 1) giving))
      (λ e. counts s (now word (Body carry done giving)) m giving.node carry giving.after giving.write (stored_then p m.registers.call s (now word (Body carry done giving)) m.registers.spare m.registers.rows m.registers.reply giving.after (stores giving.node _ _ word) h))
      (λ e. h)
  fed_shows word (Unlock node after) at named may h = grown_then (turn_found (want_in m (Unlock node after)) (Word word)) (lock_spares node named.0, refl) tt after h
  fed_shows word (Leave node carry after) at named may h = leaves s (now word (Leave node carry after)) m carry after (grown_then (turn_found (want_in m (Leave node carry after)) (Word word)) tt tt after h)
  fed_shows word (Swap post root fresh) at named may h =
      let more = stored_more p m.registers.call s turns m.registers.spare m.registers.rows (turn_found (want_in m (Swap post root fresh)) (Word word)) h.1 in
      search (rules, no_cause)
  fed_shows word Ended at named may h = absurd may

  abbrev had : (depth : Option ℕ) → Phase → List Taken
  had depth phase = turn_found (want_in m phase) (Turn depth) ∷ turns

  looks : (depth : Option ℕ) (aim : Aim) (node : ℕ) → Shows s turns m (Look aim node) → Goes s (had depth (Look aim node)) (turned_in m depth (Look aim node))
  looks (Some depth) aim node h = (grown (turn_found (want_in m (Look aim node)) (Turn (Some depth))) tt aim h, run_begins p (had (Some depth) (Look aim node)) node, rw (same_test (lock_of p node) _ refl) refl)
  looks None aim node h = grown (turn_found (want_in m (Look aim node)) (Turn None)) tt aim h

  pub turned_shows : (depth : Option ℕ) (phase : Phase) → MayFind (want_in m phase) (Turn depth) → Shows s turns m phase → Goes s (had depth phase) (turned_in m depth phase)
  turned_shows depth phase h1 h2 = search (rules, looks, turn_looks)
