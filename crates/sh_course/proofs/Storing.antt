-- What an update stores, by the leaf that it READ under its lock. First the turns in which a leaf is split.
use Rattle.std.proofs.Common.{rules, ◌≡◌, ◌≢◌, ◌⊎◌, ℕ, suc, ◌+◌, ◌≤◌, Bool, true, false, cond, Option, Some, None, List, [], ◌∷◌, ◌++◌, inl, inr, refl, sym, ap, subst, ◌∙◌, arith, ◌<◌}
use Rattle.std.{proofs.lemmas.List.{append_assoc}, specs.Prelude.{◌==◌}}
use Rattle.sh_logic.proofs.Tests.{is_eq, same_test}
use Rattle.sh_base.specs.{Layout.{first_node, node_word, root_word, entry_at}, Setting.{node_size, last_version, last_entry_version}, declared.config.ConfigParts.{ConfigParts}}
use Rattle.sh_base.specs.declared.event.Event.TheVariants.{Load}
use Rattle.sh_map.specs.declared.call.{Call.{Call, TheVariants.{Del}}, Reply.{Reply}}
use Rattle.sh_alloc.specs.{Spares.{lowest, without_lowest}, declared.state.NodeRange.{NodeRange}}
use Rattle.sh_alloc.specs.{Walks.{server_at, walk_fed, walk_start, walk_wants, walk_wants_in}, declared.state.Phase.{Phase as WalkPhase, TheVariants.{Loading, Adding, Found as FoundChunk, Spent}}}
use Rattle.sh_edit.specs.{Rewriting.{rewritten}, Splitting.{left_half, right_half, separator_of}}
use Rattle.sh_image.specs.{Entries.{entry_words}, Leaf.{leaf_words, Leaf}, declared.inner.Image.{Image, TheVariants.{Leaf as LeafImage}}}
use Rattle.sh_read.specs.Reads.{accepted, Reads}
use Rattle.sh_decide.specs.{Aims.{post_of, written_key, written_value, call_key}, Deciding.{decision_of}, Leaves.{leaf_answer, version_at}, declared.state.Aim.TheVariants.{Own, Posts}}
use Rattle.sh_decide.specs.declared.state.Posting.{Posting}
use Rattle.sh_client.specs.{Bodies.{answer_in, entry_left}, Feeds.{did, fed_by, fed_in}, Rests.{reply_of}, declared.state.{Filling.TheVariants.{RightHalf}, Then.{Then, TheVariants.{Ends, Starts}}}}
use Rattle.sh_client.specs.{Giving.{followed}, Machine.{answering, Machine, sparing, to, storing}, Splitting.{chunk_taken, fill_done, giving_of, halved_by, halved_leaf, needing, sought_by, walked}}
use Rattle.sh_client.specs.{Wants.{count_of, want_in, want_of}, declared.state.{Phase.TheVariants.{Ended, Fill, Root, Seek, Waiting}, Write.TheVariants.{LeftLeaf, Nothing, Entry, Leaf as WholeLeaf}}}
use Rattle.sh_client.specs.declared.state.{Giving.{Giving}, Need.TheVariants.{ToSplit}, Phase.{Phase}, Want.{Want}}
use Rattle.sh_course.proofs.{Courses.{ended_with}, Decided.{full_decides, change_is, entry_is, left_is, slot_decides, with_slot, worn_decides}, Reading.{walk_begins, walk_on, WalkShows}}
use Rattle.sh_course.{proofs.{Deciding.{Decides}, Rising.{turn_looks}, Showing.{WalksOn}}, specs.Found.{AllGotNone}}
use Rattle.sh_course.{proofs.Following.{backs, ends_behind, place_stored, words_stored, Asks, Backs, Frees, Leaves, Past, Stores, EndsBehind}, specs.Causes.{IsFull, slot_of, IsLeafFor, IsWorn}}
use Rattle.sh_course.specs.{Stores.{stores_to, wants_in, AllCount, GaveBack, Split}, Turns.{machine_behind, reached, turn_found, turns_taken, AreFound, Found, MayFind, Taken, Turn, Word}}
use Rattle.sh_map.specs.declared.call.Reply.TheVariants as reply
use Rattle.sh_client.specs.declared.state.Want.TheVariants as want
use Rattle.sh_decide.specs.declared.state.Decision.TheVariants as decision

-- a client has a right half to store to a fresh node, and a left half
pub record IsHalf (p : ConfigParts) (call : Call) (a : Leaf) (node fresh : ℕ) (y : Machine) (giving : Giving) : Type 0 where
  pub setting : y.setting ≡ p
  pub right : y.registers.fresh_words ≡ leaf_words (right_half a (written_key call) (written_value p call))
  pub left : y.registers.body ≡ leaf_words (left_half a (written_key call) (written_value p call) fresh)
  pub post : Posting
  pub giving_is : giving ≡ giving_of node LeftLeaf (Starts (Posts post))

-- what it has done until its lock is to be given back
pub record HasFilled (spare : NodeRange) (p : ConfigParts) (call : Call) (a : Leaf) (node fresh done : ℕ) (y : Machine) (giving : Giving) (t : List Taken) : Type 0 where
  pub half : IsHalf p call a node fresh y giving
  pub walk : List Taken
  pub fills : List Taken
  pub whole : t ≡ fills ++ walk
  pub counted : AllCount p walk
  pub filled : wants_in fills ≡ stores_to (node_word p fresh) (leaf_words (right_half a (written_key call) (written_value p call))) done
  pub got : AllGotNone p walk → spare.count ≡ 0 → ⊥

-- or no chunk was found
pub record IsGivenUp (y : Machine) (giving : Giving) : Type 0 where
  pub ends : giving.after ≡ Ends
  pub full : y.registers.reply ≡ reply.Full

some_left : (r : NodeRange) (fresh : ℕ) → lowest r ≡ Some fresh → r.count ≡ 0 → ⊥
some_left r fresh h none = let e : None ≡ Some fresh = sym (ap (λ b. cond b None (Some r.first)) (same_test r.count 0 none)) ∙ h in cc

module _ (spare : NodeRange) (p : ConfigParts) (call : Call) (a : Leaf) (node depth : ℕ) where
  pub data Halves (t : List Taken) (x : Machine) : Type 0 where
    Walks : x.phase ≡ Seek (ToSplit Own depth) → x.setting ≡ p → x.registers.call ≡ call → (x.registers.reads.node ≡ node) × (accepted p x.registers.reads ≡ Some (LeafImage a)) → WalksOn p x.seat t x.registers.walk → Halves t x
    Fills : (fresh done : ℕ) (y : Machine) (giving : Giving) → HasFilled spare p call a node fresh done y giving t → x ≡ to y (Fill fresh done (RightHalf depth giving)) → Halves t x
    Gives : (y : Machine) (giving : Giving) (later : List Found) (front : List Taken) → ((fresh : ℕ) × HasFilled spare p call a node fresh (node_size p) y giving front) ⊎ IsGivenUp y giving → AreFound (to y (Waiting depth giving)) later → t ≡ turns_taken (to y (Waiting depth giving)) later ++ front → x ≡ reached (to y (Waiting depth giving)) later → Halves t x

  -- with a fresh node
  halves : (t : List Taken) (x : Machine) (fresh : ℕ) → x.setting ≡ p → x.registers.call ≡ call → x.registers.reads.node ≡ node → accepted p x.registers.reads ≡ Some (LeafImage a) → AllCount p t → (AllGotNone p t → spare.count ≡ 0 → ⊥) → Halves t (halved_by x Own depth fresh (accepted x.setting x.registers.reads))
  halves t x fresh same is at image counted got =
      let post = post_of (separator_of a.entries (written_key x.registers.call) (written_value x.setting x.registers.call)) fresh 1 in
      subst (λ (o : Option Image). Halves t (halved_by x Own depth fresh o)) (sym (ap (λ (q : ConfigParts). accepted q x.registers.reads) same ∙ image))
      (Fills fresh 0 (halved_leaf x depth fresh a) (giving_of x.registers.reads.node LeftLeaf (Starts (Posts post))) (record {
        half = record { setting = same; right = ap (λ (q : ConfigParts). leaf_words (right_half a (written_key x.registers.call) (written_value q x.registers.call))) same ∙ ap (λ (c : Call). leaf_words (right_half a (written_key c) (written_value p c))) is; left = ap (λ (q : ConfigParts). leaf_words (left_half a (written_key x.registers.call) (written_value q x.registers.call) fresh)) same ∙ ap (λ (c : Call). leaf_words (left_half a (written_key c) (written_value p c) fresh)) is; post = post; giving_is = ap (λ n. giving_of n LeftLeaf (Starts (Posts post))) at };
        walk = t;
        fills = [];
        whole = refl;
        counted = counted;
        filled = refl;
        got = got;
      }) refl)

  -- behind a turn of the walk
  walks_on : (t : List Taken) (x : Machine) (phase : WalkPhase) → x.setting ≡ p → x.registers.call ≡ call → (x.registers.reads.node ≡ node) × (accepted p x.registers.reads ≡ Some (LeafImage a)) → WalkShows p x.seat t x.registers.walk phase → Halves t (sought_by x (ToSplit Own depth) (walk_wants_in x.setting (server_at x.setting x.registers.walk) phase))
  walks_on t x Loading same is at walks = Walks refl same is at walks
  walks_on t x Adding same is at walks = Walks refl same is at walks
  walks_on t x (FoundChunk c) same is at walks =
      let server = server_at x.setting x.registers.walk in
      halves t (chunk_taken x server c) (first_node x.setting server c) same is at.0 at.1 walks.counted (λ got none. walks.got got)
  walks_on t x Spent same is at walks = Gives (answering x reply.Full) (giving_of x.registers.reads.node Nothing Ends) [] t (inr (record { ends = refl; full = refl })) tt refl refl

  -- a word of the right half is stored
  module _ (t : List Taken) (fresh done word : ℕ) (y : Machine) (giving : Giving) (h : HasFilled spare p call a node fresh done y giving t) where
    abbrev at_fill : Machine
    at_fill = to y (Fill fresh done (RightHalf depth giving))

    abbrev store : Taken
    store = turn_found (want_of at_fill) (Word word)

    abbrev right : List ℕ
    right = leaf_words (right_half a (written_key call) (written_value p call))

    filled : wants_in (store ∷ h.fills) ≡ stores_to (node_word p fresh) right (suc done)
    filled = search (rules, right)

    more : (k : ℕ) → suc done ≡ k → HasFilled spare p call a node fresh k y giving (store ∷ t)
    more k is = record { half = h.half; walk = h.walk; fills = store ∷ h.fills; whole = ap (λ (l : List Taken). store ∷ l) h.whole; counted = h.counted; got = h.got; filled = filled ∙ ap (stores_to (node_word p fresh) right) is }

    fills_on : Halves (store ∷ t) (fed_by at_fill word)
    fills_on = by (done + 1 == node_size y.setting) refl
      where
        by : (b : Bool) → (done + 1 == node_size y.setting) ≡ b → Halves (store ∷ t) (cond b (fill_done at_fill fresh (RightHalf depth giving)) (to at_fill (Fill fresh (done + 1) (RightHalf depth giving))))
        by true e =
            let all : suc done ≡ node_size p = let f = is_eq (done + 1) (node_size y.setting) e in let same = ap node_size (let half = h.half in half.setting) in omega (arith, f, same) in
            Gives y giving [] (store ∷ t) (inl (fresh, more (node_size p) all)) tt refl refl
        by false e = Fills fresh (done + 1) y giving (more (done + 1) (omega arith)) refl

  pub halves_more : 1 ≤ p.servers → (t : List Taken) (x : Machine) (f : Found) → MayFind (want_of x) f → Halves t x → Halves (turn_found (want_of x) f ∷ t) (machine_behind x f)
  halves_more some t x (Word word) may (Walks phase same is at walks) =
      let step : fed_by x word ≡ fed_in x word (Seek (ToSplit Own depth)) = ap (fed_in x word) phase in
      let wants : want_of x ≡ count_of (walk_wants p x.registers.walk) = ap (want_in x) phase ∙ ap (λ (q : ConfigParts). count_of (walk_wants q x.registers.walk)) same in
      let v = walk_fed x.setting x.registers.walk word in
      let shown = walk_on p x.seat word t x.registers.walk walks some in
      subst (Halves (turn_found (want_of x) (Word word) ∷ t)) (sym step) (walks_on (turn_found (want_of x) (Word word) ∷ t) (walked x word) v.phase same is at
      (subst (λ (w : Want). WalkShows p x.seat (turn_found w (Word word) ∷ t) v v.phase) (sym wants) (subst (λ (q : ConfigParts). let v = walk_fed q x.registers.walk word in WalkShows p x.seat (turn_found (count_of (walk_wants p x.registers.walk)) (Word word) ∷ t) v v.phase) (sym same) shown)))
  halves_more some t x (Turn d) may (Walks phase same is at walks) = absurd (turn_looks x d (Seek (ToSplit Own depth)) (subst (λ (ph : Phase). MayFind (want_in x ph) (Turn d)) phase may))
  halves_more some t x (Word word) may (Fills fresh done y giving h ex) = rw ex (fills_on t fresh done word y giving h)
  halves_more some t x (Turn d) may (Fills fresh done y giving h ex) = absurd (subst (λ (z : Machine). MayFind (want_of z) (Turn d)) ex may)
  halves_more some t x f may (Gives y giving later front h ok et ex) = Gives y giving (f ∷ later) front h (subst (λ (z : Machine). MayFind (want_of z) f) ex may, ok) (ap (λ (z : Machine). turn_found (want_of z) f ∷ t) ex ∙ ap (λ (l : List Taken). turn_found (want_of (reached (to y (Waiting depth giving)) later)) f ∷ l) et) (ap (λ (z : Machine). machine_behind z f) ex)

  pub halves_all : 1 ≤ p.servers → (x : Machine) → Halves [] x → (later : List Found) → AreFound x later → Halves (turns_taken x later) (reached x later)
  halves_all some x h [] may = h
  halves_all some x h (f ∷ later) may = halves_more some (turns_taken x later) (reached x later) f may.0 (halves_all some x h later may.1)

  -- the client with the leaf's image, which is to be split
  pub halves_begin : (x : Machine) (o : Option ℕ) → lowest spare ≡ o → x.setting ≡ p → x.registers.call ≡ call → (x.registers.reads.node ≡ node) × (accepted p x.registers.reads ≡ Some (LeafImage a)) → Halves [] (needing x (ToSplit Own depth) o)
  halves_begin x (Some fresh) low same is at = halves [] (sparing x (without_lowest x.registers.spare)) fresh same is at.0 at.1 tt (λ got none. some_left spare fresh low none)
  halves_begin x None low same is at = Walks refl same is at (subst (λ (q : ConfigParts). WalksOn p x.seat [] (walk_start q x.seat)) (sym same) (walk_begins p x.seat))

-- the first turn of a client is the one that it wants
record HasFirst (k : Machine) (t : List Taken) : Type 0 where
  more : List Taken
  found : Found
  whole : t ≡ more ++ (turn_found (want_of k) found ∷ [])

first_turn_is : (k : Machine) (x : Found) (later : List Found) → HasFirst k (turns_taken k (x ∷ later))
first_turn_is k x [] = record { more = []; found = x; whole = refl }
first_turn_is k x (y ∷ later) =
    let h = first_turn_is k y later in
    let t = turn_found (want_of (reached k (y ∷ later))) x in
    record { more = t ∷ h.more; found = h.found; whole = ap (λ (l : List Taken). t ∷ l) h.whole }

got_behind : (p : ConfigParts) (a b : List Taken) → AllGotNone p (a ++ b) → AllGotNone p b
got_behind p [] b h = h
got_behind p (t ∷ a) b h = got_behind p a b h.1

module _ (m n : Machine) (call : Call) (r : Reply) (depth : ℕ) (a : Leaf) (node : ℕ) (words : List ℕ) (since : List Taken) (d : Decides m call n node depth words a since) (is : reply_of n ≡ Some r) where
  abbrev p : ConfigParts
  p = m.setting

  ends_by : (y : Machine) (giving : Giving) → giving.after ≡ Ends → did d.client Own depth (LeafImage a) (decision_of m.setting call Own (LeafImage a)) ≡ to y (Waiting depth giving) → EndsBehind y depth giving since n × (r ≡ y.registers.reply)
  ends_by y giving ends did_is =
      let over = ended_with n n.phase r is in
      let may : AreFound (to y (Waiting depth giving)) d.later = subst (λ (x : Machine). AreFound x d.later) did_is d.may in
      let since_is : since ≡ turns_taken (to y (Waiting depth giving)) d.later = d.since_is ∙ ap (λ (x : Machine). turns_taken x d.later) did_is in
      let n_is : n ≡ reached (to y (Waiting depth giving)) d.later = d.ended_is ∙ ap (λ (x : Machine). reached x d.later) did_is in
      let e = ends_behind y depth giving since n ends over.0 (subst (λ (t : List Taken). Backs y depth giving t n) (sym since_is) (subst (λ (x : Machine). Backs y depth giving (turns_taken (to y (Waiting depth giving)) d.later) x) (sym n_is) (backs y depth giving d.later may))) in
      (e, sym over.1 ∙ e.reply_is)

  -- told of the call's own setting, call and node
  told : (at : ConfigParts → ℕ) (body : ConfigParts → Call → List ℕ) → GaveBack d.client.setting d.client.registers.reads.node depth (node_word d.client.setting d.client.registers.reads.node + at d.client.setting) (body d.client.setting d.client.registers.call) since → GaveBack p node depth (node_word p node + at p) (body p call) since
  told at body h1 = search rules

  answer : r ≡ answer_in d.client.registers.call (LeafImage a) → r ≡ leaf_answer a.entries (call_key call)
  answer e = e ∙ ap (λ (c : Call). answer_in c (LeafImage a)) d.call_is

  pub stores_entry : (index : ℕ) → IsLeafFor a (call_key call) → slot_of a call ≡ Some index → version_at a.entries index < last_entry_version → GaveBack p node depth (node_word p node + entry_at p index) (entry_words (entry_left p call a index)) since × (r ≡ leaf_answer a.entries (call_key call))
  stores_entry index leaf slot below =
      let c = d.client in
      let e = ends_by (storing (answering c (answer_in c.registers.call (LeafImage a))) (entry_words (entry_left c.setting c.registers.call a index))) (giving_of c.registers.reads.node (Entry index) Ends) refl (ap (did c Own depth (LeafImage a)) (slot_decides p call a leaf (Some index) slot ∙ entry_is p call a leaf index below)) in
      let b = e.0 in
      (told (λ q. entry_at q index) (λ q c. entry_words (entry_left q c a index)) b.back, answer e.1)

  pub stores_leaf : (index : ℕ) → IsLeafFor a (call_key call) → slot_of a call ≡ Some index → last_entry_version ≤ version_at a.entries index → a.version < last_version p → GaveBack p node depth (node_word p node + 0) (leaf_words (rewritten a index (written_key call) (written_value p call))) since × (r ≡ leaf_answer a.entries (call_key call))
  stores_leaf index leaf slot last below =
      let c = d.client in
      let e = ends_by (storing (answering c (answer_in c.registers.call (LeafImage a))) (leaf_words (rewritten a index (written_key c.registers.call) (written_value c.setting c.registers.call)))) (giving_of c.registers.reads.node WholeLeaf Ends) refl (ap (did c Own depth (LeafImage a)) (slot_decides p call a leaf (Some index) slot ∙ change_is p call a leaf index last ∙ left_is p call a leaf (decision.Rewrite index) below)) in
      let b = e.0 in
      (told (λ q. 0) (λ q c. leaf_words (rewritten a index (written_key c) (written_value q c))) b.back, answer e.1)

  pub stores_nothing : (key : ℕ) → call ≡ Del key → IsLeafFor a (call_key call) → slot_of a call ≡ None → GaveBack p node depth (node_word p node + 0) [] since × (r ≡ leaf_answer a.entries (call_key call))
  stores_nothing key del leaf slot =
      let c = d.client in
      let e = ends_by (answering c (answer_in c.registers.call (LeafImage a))) (giving_of c.registers.reads.node Nothing Ends) refl (ap (did c Own depth (LeafImage a)) (slot_decides p call a leaf None slot ∙ ap (λ (k : Call). with_slot p a k None) del)) in
      let b = e.0 in
      (told (λ q. 0) (λ q c. []) b.back, answer e.1)

  pub worn_stores_nothing : (version : ℕ) → IsWorn p call a version → GaveBack p node depth (node_word p node + 0) [] since × (r ≡ reply.Worn version)
  worn_stores_nothing version worn =
      let c = d.client in
      let e = ends_by (answering c (reply.Worn version)) (giving_of c.registers.reads.node Nothing Ends) refl (ap (did c Own depth (LeafImage a)) (worn_decides p call a version worn)) in
      let b = e.0 in
      (told (λ q. 0) (λ q c. []) b.back, e.1)

  -- ---- a put that finds a full leaf
  module _ (some : 1 ≤ p.servers) (full : IsFull p call a) where
    abbrev Left : ℕ → List ℕ
    Left fresh = leaf_words (left_half a (written_key call) (written_value p call) fresh)

    abbrev Right : List ℕ
    Right = leaf_words (right_half a (written_key call) (written_value p call))

    over : n.phase ≡ Ended
    over = (ended_with n n.phase r is).0

    begins : Halves m.registers.spare p call a node depth since n
    begins =
        let c = d.client in
        let x = needing c (ToSplit Own depth) (lowest c.registers.spare) in
        let did_is : did c Own depth (LeafImage a) (decision_of p call Own (LeafImage a)) ≡ x = ap (did c Own depth (LeafImage a)) (full_decides p call a full) in
        let image : accepted p c.registers.reads ≡ Some (LeafImage a) = ap (λ (q : ConfigParts). accepted q c.registers.reads) (sym d.setting) ∙ d.image_is in
        let h = halves_all m.registers.spare p call a node depth some x (halves_begin m.registers.spare p call a node depth c (lowest c.registers.spare) (ap lowest (sym d.spare_is)) d.setting d.call_is (ap (λ (r : Reads). r.node) d.reads_is, image)) d.later (subst (λ (z : Machine). AreFound z d.later) did_is d.may) in
        subst (λ (t : List Taken). Halves m.registers.spare p call a node depth t n) (sym (d.since_is ∙ ap (λ (z : Machine). turns_taken z d.later) did_is)) (subst (λ (z : Machine). Halves m.registers.spare p call a node depth (turns_taken x d.later) z) (sym (d.ended_is ∙ ap (λ (z : Machine). reached z d.later) did_is)) h)

    -- behind the left half
    module _ (fresh : ℕ) (y : Machine) (giving : Giving) (front : List Taken) (h : HasFilled m.registers.spare p call a node fresh (node_size p) y giving front) (t : List Taken) (whole : since ≡ t ++ front) where
      gave : (back : List Taken) → GaveBack y.setting giving.node depth (place_stored y.setting giving) (words_stored y giving) back → GaveBack p node depth (node_word p node + 0) (Left fresh) back
      gave back h1 = search (rules, node)

      splits : Backs y depth giving t n → Split p node depth fresh (Left fresh) Right since
      splits (Asks et ex) = let e = ap (λ (z : Machine). z.phase) ex in absurd (cc)
      splits (Stores count done more et e w ex) = let e = ap (λ (z : Machine). z.phase) ex in absurd (cc)
      splits (Frees count more z et none w alike ex) = let e = ap (λ (z : Machine). z.phase) ex in absurd (cc)
      splits (Leaves count more z et w alike ex) = let e = ap (λ (z : Machine). z.phase) ex in absurd (cc)
      splits (Past later back z g alike ok et ex) =
          let half = h.half in
          let after : giving.after ≡ Starts (Posts half.post) = ap (λ (k : Giving). k.after) half.giving_is in
          by later (et ∙ ap (λ (k : Then). turns_taken (followed z k) later ++ back) after) (ex ∙ ap (λ (k : Then). reached (followed z k) later) after)
        where
          by : (later : List Found) → t ≡ turns_taken (to z (Root (Posts h.half.post))) later ++ back → n ≡ reached (to z (Root (Posts h.half.post))) later → Split p node depth fresh (Left fresh) Right since
          by [] et ex = let e = ap (λ (z : Machine). z.phase) ex in absurd (cc)
          by (x ∷ later) et ex =
              let f = first_turn_is (to z (Root (Posts h.half.post))) x later in
              record {
                walk = h.walk;
                fills = h.fills;
                back = back;
                post = f.more;
                found = f.found;
                whole = whole ∙ ap (λ (l : List Taken). l ++ front) (et ∙ ap (λ (l : List Taken). l ++ back) f.whole) ∙ append_assoc (f.more ++ (turn_found (want.Event (Load root_word)) f.found ∷ [])) back front ∙ ap (λ (l : List Taken). (f.more ++ (turn_found (want.Event (Load root_word)) f.found ∷ [])) ++ (back ++ l)) h.whole;
                counted = h.counted;
                filled = h.filled;
                gave = gave back g;
              }

    -- it was split, or no chunk was found
    outcome : ((fresh : ℕ) × Split p node depth fresh (Left fresh) Right since × (AllGotNone p since → m.registers.spare.count ≡ 0 → ⊥)) ⊎ (r ≡ reply.Full)
    outcome = by begins
      where
        by : Halves m.registers.spare p call a node depth since n → ((fresh : ℕ) × Split p node depth fresh (Left fresh) Right since × (AllGotNone p since → m.registers.spare.count ≡ 0 → ⊥)) ⊎ (r ≡ reply.Full)
        by (Walks phase same is at counted) = absurd (let o = over in cc)
        by (Fills fresh done y giving h ex) = let e = ap (λ (z : Machine). z.phase) ex in let o = over in absurd (cc)
        by (Gives y giving later front (inl h) ok et ex) =
            let f = h.1 in
            inl (h.0, splits h.0 y giving front f (turns_taken (to y (Waiting depth giving)) later) et (subst (λ (z : Machine). Backs y depth giving (turns_taken (to y (Waiting depth giving)) later) z) (sym ex) (backs y depth giving later ok)), λ got none. f.got (got_behind p f.fills f.walk (subst (AllGotNone p) f.whole (got_behind p (turns_taken (to y (Waiting depth giving)) later) front (subst (AllGotNone p) et got)))) none)
        by (Gives y giving later front (inr h) ok et ex) =
            let e = ends_behind y depth giving (turns_taken (to y (Waiting depth giving)) later) n h.ends over (subst (λ (z : Machine). Backs y depth giving (turns_taken (to y (Waiting depth giving)) later) z) (sym ex) (backs y depth giving later ok)) in
            inr (sym (ended_with n n.phase r is).1 ∙ e.reply_is ∙ h.full)

    pub stores_halves : r ≢ reply.Full → (fresh : ℕ) × Split p node depth fresh (Left fresh) Right since
    stores_halves not = elim outcome [ inl s ↦ (s.0, s.1) | inr e ↦ absurd (not e) ]

    pub must_be_full : m.registers.spare.count ≡ 0 → AllGotNone p since → r ≡ reply.Full
    must_be_full none got = elim outcome [ inl s ↦ absurd (s.2 got none) | inr e ↦ e ]
