-- What the actors that don't act keep, and the new invariant from its parts.
use Rattle.std.proofs.Common.{rules, ◌≡◌, ◌≢◌, ℕ, suc, ◌+◌, ◌<◌, ◌≤◌, Bool, List, [], ◌∷◌, ◌++◌, length, get_or, Option, Some, None, refl, sym, ap, ◌∙◌, subst, inl, inr, arith, append-nil, length-append}
use Rattle.std.specs.Prelude.{slice_get, ◌%◌}
use mathlib.Core.Logic.{dite}
use native.Mathlib.Decide.{ℕ_discrete}
use Rattle.std.proofs.lemmas.List.{take-append-le}
use Rattle.sh_logic.proofs.Lists.{slice_get-append_left}
use Rattle.sh_base.specs.{declared.config.ConfigParts.{ConfigParts}, Setting.{all_seats, node_size, IsSetting}, Layout.{lock_of}}
use Rattle.sh_map.specs.{declared.{call.{Call.{Call}, Reply.{Reply}}, log.Entry.{Entry as LogEntry}}, Map.{get}, Log.{map_of, map_at}, Made.{entries_by}}
use Rattle.sh_alloc.specs.declared.state.{NodeRange.{NodeRange}, Walk.{Walk}}
use Rattle.sh_image.specs.declared.inner.Pair.{Pair}
use Rattle.sh_read.specs.Reads.{Reads}
use Rattle.sh_state.specs.{Nodes.{low_in, high_in, IsStandingLeaf}, TreeState.{Linked, Pending, Skipped, Owner, Seat, Grant, LockState, Held, Owns, TreeState}, Ground.{Ground}}
use Rattle.sh_state.specs.Change.{ChangeFor, Change}
use Rattle.sh_acts.specs.{Counters.{Bounded}, Images.{IsEntryOf, IsPairOf}}
use Rattle.sh_readers.{specs.{Knows.{fed_from, fed_words}, Hand.{IsNamed}, Ranges.{IsGathered}}, proofs.{RowLemmas.{rows_linked}, Gathering.{gathered_more}, Known.{known_on}}}
use Rattle.sh_decide.specs.{declared.state.{Posting.{Posting}, Aim.{Aim, TheVariants.{Own, Gathers, Posts}}}, Aims.{aimed_key, target}}
use Rattle.sh_client.specs.declared.state.{Then.{Then}, Write.{Write, TheVariants.{Nothing, Entry, Leaf as WholeLeaf, LeftLeaf, Inner as WholeInner, LeftInner}}}
use Rattle.sh_client.specs.declared.state.{Phase.{Phase, TheVariants.{Root, Read, Draw, Look, Grab, ReadLocked, Seek, Fill, Waiting, Body, Unlock, Leave, Swap}}, Giving.{Giving}, Need.{Need}}
use Rattle.sh_client.specs.{declared.state.{Need.TheVariants.{ToSplit, ToGrow}, Filling.{Filling, TheVariants.{RightHalf, NewRoot}}}, Machine.{Registers}}
use Rattle.sh_core.specs.Actors.{Actor, AreAnswered, made_by}
use Rattle.sh_core.specs.Fits.{Gathered, HasEntry, IsPosting, Owes, HasRead, IsOnWay, AreLast, IsSeeking, FillsFresh, ChangesEntry, ChangesLeaf, CutsLeaf, AddsPair, CutsInner, IsUpdate, PlansPair, PlansHalf, HadNone, IsDecided, IsAtNode, Follows, Plans, storing_hold, IsHolding, IsLeaving, IsBelow, PlansRoot, HoldsNode, Needs, FillsWith, Fits}
use Rattle.sh_core.{specs.{Keeps.{holding, Hands, Waits, skips_counted, Skips, KeepsActor}, Core.{WantsAdd, SomeAdds, Inv, Moves}}, proofs.Causes.{causes_on}}
use Rattle.sh_core.proofs.Logs.{made_by-append, made_by_none, answered_longer}

-- ---- what the log's growth and the links' leave

-- The log has only grown, and so have the links and the counters; and the seat's posts are as they were. The seat has seen
-- as much, or more.
pub record Grows (s t : TreeState) (i seen now : ℕ) : Type 0 where
  pub more : List LogEntry
  pub longer : t.log ≡ s.log ++ more
  pub linked : (n l a : ℕ) → s.class n ≡ Linked l a → t.class n ≡ Linked l a
  pub pending : (n : ℕ) → s.post n ≡ Pending i → t.post n ≡ Pending i
  pub counts : (server : ℕ) → s.counter server ≤ t.counter server
  pub later : seen ≤ now

module _ (p : ConfigParts) (s t : TreeState) (i f q e now : ℕ) (gr : Grows s t i e now) where
  pub named_on : (l n k : ℕ) → IsNamed s l n k → IsNamed t l n k
  named_on l n k h = record { low = h.low; linked = gr.linked n l h.low h.linked; below = h.below }

  pub entry_on : (c : Call) (r : Reply) → HasEntry s.log i f q e c r → HasEntry t.log i f q now c r
  entry_on c r h = record { entry = h.entry; is = h.is; stands = subst (λ (es : List LogEntry). slice_get es q ≡ Some h.entry) (sym gr.longer) (slice_get-append_left s.log gr.more q h.entry h.stands); from = h.from; below = omega (arith, h.below, gr.later) }

  pub posting_on : (c : Call) (r : Reply) (post : Posting) → IsPosting s i f q e c r post → IsPosting t i f q now c r post
  posting_on c r post h = record { below = h.below; level = h.level; linked = gr.linked post.node h.below post.separator h.linked; some = h.some; past = h.past; mine = gr.pending post.node h.mine; entry = entry_on c r h.entry }

  pub owes_on : (c : Call) (r : Reply) (duty : Option Posting) → Owes s i f q e c r duty → Owes t i f q now c r duty
  owes_on c r duty h = search (rules, posting_on)

  pub none_on : (k : ℕ) → e ≤ length s.log → HadNone s.log f e k → HadNone t.log f now k
  none_on k le h = record { at = h.at; from = h.from; below = omega (arith, h.below, gr.later); absent = subst (λ (es : List LogEntry). get (map_at es h.at) k ≡ None) (sym gr.longer) (ap (λ (es : List LogEntry). get (map_of es) k) (take-append-le h.at s.log gr.more (omega (arith, h.below, le))) ∙ h.absent) }

  pub decided_on : (c : Call) (r : Reply) → e ≤ length s.log → IsDecided p s i f q e c r → IsDecided p t i f q now c r
  decided_on c r le h = search (rules, entry_on, none_on)

  pub at_on : (c : Call) (aim : Aim) (n : ℕ) (duty : Option Posting) → IsAtNode s c aim n duty → IsAtNode t c aim n duty
  at_on c aim n duty h = record { duty_is = h.duty_is; takes = h.takes; there = named_on (target aim) n (aimed_key c aim) h.there }

  pub follows_on : (c : Call) (r : Reply) (duty : Option Posting) (after : Then) → e ≤ length s.log → Follows p s i f q e c r duty after → Follows p t i f q now c r duty after
  follows_on c r duty after le h = search (rules, decided_on, at_on)

  pub seeking_on : (walk : Walk) (spare : NodeRange) → IsSeeking p s walk spare → IsSeeking p t walk spare
  seeking_on walk spare h = record { walk_is = h.walk_is; wants = h.wants; passed = λ k lt. omega (arith, h.passed k lt, gr.counts ((walk.first + k) % p.servers)); none = h.none }

  pub below_on : (post : Posting) (root : ℕ) (duty : Option Posting) → IsBelow s post root duty → IsBelow t post root duty
  below_on post root duty h = record { duty_is = h.duty_is; below = h.below; level = h.level; named = named_on h.below root post.separator h.named }

-- ---- what a plan for a node keeps

-- what a plan for a node leans on: links and the seat's posts stay, and the node stands as it did, with the map of its keys
pub record StaysUnder (s t : TreeState) (i n : ℕ) : Type 0 where
  pub linked : (m l a : ℕ) → s.class m ≡ Linked l a → t.class m ≡ Linked l a
  pub pends : (m : ℕ) → s.post m ≡ Pending i → t.post m ≡ Pending i
  pub node : (l a : ℕ) → s.class n ≡ Linked l a → t.node n ≡ s.node n
  pub map : (a key : ℕ) → s.class n ≡ Linked 0 a → key ≢ 0 → low_in (s.node n) ≤ key → key < high_in (s.node n) → get (map_of t.log) key ≡ get (map_of s.log) key

module _ (p : ConfigParts) (s t : TreeState) (j n : ℕ) (u : StaysUnder s t j n) where
  entry_fits : (a : ℕ) (x : LogEntry) → t.node n ≡ s.node n → IsEntryOf s j n a x → IsEntryOf t j n a x
  entry_fits a x is h = search rules

  pair_fits : (l a : ℕ) (x : Pair) → t.node n ≡ s.node n → IsPairOf s j n l a x → IsPairOf t j n l a x
  pair_fits l a x is h = search rules

  update_on : (made : List LogEntry) (duty : Option Posting) (h : IsUpdate s j made n duty) → t.node n ≡ s.node n → IsUpdate t j made n duty
  update_on made duty h is = record { none = h.none; low = h.low; entry = h.entry; made_is = h.made_is; fits = entry_fits h.low h.entry is h.fits }

  pair_on : (duty : Option Posting) (h : PlansPair s j n duty) → t.node n ≡ s.node n → PlansPair t j n duty
  pair_on duty h is = record { level = h.level; low = h.low; pair = h.pair; duty_is = h.duty_is; fits = pair_fits h.level h.low h.pair is h.fits }

  leaf_is : (made : List LogEntry) (duty : Option Posting) (h : IsUpdate s j made n duty) → t.node n ≡ s.node n
  leaf_is made duty h = u.node 0 h.low h.fits.linked

  inner_is : (duty : Option Posting) (h : PlansPair s j n duty) → t.node n ≡ s.node n
  inner_is duty h = u.node (suc h.level) h.low h.fits.linked

  pub half_on : (r : Registers) (fresh : ℕ) (write : Write) (after : Then) (duty : Option Posting) → PlansHalf p s j r fresh n write after duty → PlansHalf p t j r fresh n write after duty
  unfolding update_on pair_on
  half_on r fresh LeftLeaf after duty h =
      let is = leaf_is (entries_by j r.call r.reply) duty h.update in
      record { update = update_on (entries_by j r.call r.reply) duty h.update is; key = h.key; value = h.value; put_is = h.put_is; long = h.long; cut = subst (λ (ws : List ℕ). CutsLeaf p ws h.key h.value r.body r.fresh_words fresh after) (sym is) h.cut }
  half_on r fresh LeftInner after duty h =
      let is = inner_is duty h.plan in
      record { plan = pair_on duty h.plan is; cut = subst (λ (ws : List ℕ). CutsInner p ws h.plan.level h.plan.pair r.body r.fresh_words fresh after) (sym is) h.cut }
  half_on r fresh write after duty h = absurd h

  pub plans_on : (f q e now : ℕ) (gr : Grows s t j e now) (r : Registers) (write : Write) (after : Then) (duty : Option Posting) → e ≤ length s.log → ((fresh : ℕ) → FillsFresh s j r.spare r.fresh_words fresh (node_size p) → FillsFresh t j r.spare r.fresh_words fresh (node_size p)) → Plans p s j f q e r n write after duty → Plans p t j f q now r n write after duty
  unfolding update_on pair_on
  plans_on f q e now gr r Nothing after duty le fill h = follows_on p s t j f q e now gr r.call r.reply duty after le h
  plans_on f q e now gr r (Entry index) after duty le fill h =
      let is = leaf_is (entries_by j r.call r.reply) duty h.update in
      record { update = update_on (entries_by j r.call r.reply) duty h.update is; ends = h.ends; change = subst (λ (ws : List ℕ). ChangesEntry p ws h.update.entry r.body index) (sym is) h.change }
  plans_on f q e now gr r WholeLeaf after duty le fill h =
      let is = leaf_is (entries_by j r.call r.reply) duty h.update in
      record { update = update_on (entries_by j r.call r.reply) duty h.update is; ends = h.ends; change = subst (λ (ws : List ℕ). ChangesLeaf p ws h.update.entry r.body) (sym is) h.change }
  plans_on f q e now gr r LeftLeaf after duty le fill h = record { fresh = h.fresh; half = half_on r h.fresh LeftLeaf after duty h.half; filled = fill h.fresh h.filled }
  plans_on f q e now gr r WholeInner after duty le fill h =
      let is = inner_is duty h.plan in
      record { plan = pair_on duty h.plan is; ends = h.ends; add = subst (λ (ws : List ℕ). AddsPair p ws h.plan.pair r.body) (sym is) h.add }
  plans_on f q e now gr r LeftInner after duty le fill h = record { fresh = h.fresh; half = half_on r h.fresh LeftInner after duty h.half; filled = fill h.fresh h.filled }

-- ---- what an act of others leaves

held_owns : (h : LockState) (o : Owner) (d : ℕ) → h ≡ Held o d → Owns h o
held_owns h o d e = subst (λ (x : LockState). Owns x o) (sym e) refl

storing_owns : (h : LockState) (i d n : ℕ) (write : Write) (body : List ℕ) (done : ℕ) → h ≡ storing_hold i d n write body done → Owns h (Seat i)
storing_owns h i d n write body done e = search rules

module _ (p : ConfigParts) (ok : IsSetting p) (Other : Owner → Type 0) (words now : List ℕ) (s t : TreeState) (g : Ground p words s) (g' : Ground p now t) (ch : ChangeFor p Other s t) (rise : (server : ℕ) → s.counter server ≤ t.counter server) (j : ℕ) (ne : Other (Seat j)) where
  grown : (e : ℕ) → Grows s t j e e
  grown e = record { more = ch.more; longer = ch.longer; linked = ch.linked; pending = λ n. (ch.posts j n (Pending j) ne refl).0; counts = rise; later = omega arith }

  -- the locks that the seat has, and the nodes under them
  still : (n : ℕ) (h : LockState) → Owns (s.hold (lock_of p n)) (Seat j) → s.hold (lock_of p n) ≡ h → t.hold (lock_of p n) ≡ h
  still n h o e = ch.holds (Seat j) (lock_of p n) ne o ∙ e

  same : (n l a : ℕ) → s.class n ≡ Linked l a → Owns (s.hold (lock_of p n)) (Seat j) → t.node n ≡ s.node n
  same n l a e o = ch.nodes (Seat j) n l a ne e o

  read_on : (f n l a : ℕ) (loaded : List ℕ) → s.class n ≡ Linked l a → HasRead p s f l n loaded → HasRead p t f l n loaded
  read_on f n l a [] e h = tt
  read_on f n l a (x ∷ loaded) e h = known_on p ok Other words now s t g g' ch n l a f (fed_from p (x ∷ loaded)) (fed_words p (x ∷ loaded)) e h

  way_on : (f : ℕ) (c : Call) (reads : Reads) (aim : Aim) (top : Bool) → IsOnWay p s f c reads aim top → IsOnWay p t f c reads aim top
  way_on f c reads aim top h = record { level = h.level; named = named_on p s t j 0 0 0 0 (grown 0) h.level reads.node (aimed_key c aim) h.named; reach = h.reach; left = h.left; known = read_on f reads.node h.level h.named.low reads.loaded h.named.linked h.known }

  filling_on : (spare : NodeRange) (ready : List ℕ) (fresh done : ℕ) → FillsFresh s j spare ready fresh done → FillsFresh t j spare ready fresh done
  filling_on spare ready fresh done h = let u = ch.fresh j fresh ne h.own in record { own = u.0; under = h.under; words = λ o lt. ap (λ (ws : List ℕ). get_or ws o 0) u.1 ∙ h.words o lt }

  -- nobody else has changed the map at a key of a leaf that stands as it did
  map_same : (n a key : ℕ) → s.class n ≡ Linked 0 a → t.node n ≡ s.node n → key ≢ 0 → low_in (s.node n) ≤ key → key < high_in (s.node n) → get (map_of t.log) key ≡ get (map_of s.log) key
  map_same n a key e is nz lo hi =
      let b = (g.sits n 0 a e).body in
      let b' : IsStandingLeaf p t.log (s.node n) = subst (λ (ws : List ℕ). IsStandingLeaf p t.log ws) is (g'.sits n 0 a (ch.linked n 0 a e)).body in
      sym (b'.map key nz lo hi) ∙ b.map key nz lo hi

  under : (n : ℕ) → Owns (s.hold (lock_of p n)) (Seat j) → StaysUnder s t j n
  under n o = record { linked = ch.linked; pends = λ m. (ch.posts j m (Pending j) ne refl).0; node = λ l a e. same n l a e o; map = λ a key e nz lo hi. map_same n a key e (same n 0 a e o) nz lo hi }

  holding_on : (n : ℕ) (carry : Option ℕ) → IsHolding p s j n carry → IsHolding p t j n carry
  holding_on n carry h = record { real = h.real; depth = h.depth; held = still n (Held (Seat j) h.depth) (held_owns (s.hold (lock_of p n)) (Seat j) h.depth h.held) h.held; carries = h.carries }

  leaving_on : (n : ℕ) (carry : Option ℕ) → IsLeaving p s j n carry → IsLeaving p t j n carry
  leaving_on n carry h = search (rules, holding_on)

  at_node_on : (c : Call) (aim : Aim) (n : ℕ) (duty : Option Posting) → IsAtNode s c aim n duty → IsAtNode t c aim n duty
  at_node_on c aim n duty h = at_on p s t j 0 0 0 0 (grown 0) c aim n duty h

  seeks_on : (walk : Walk) (spare : NodeRange) → IsSeeking p s walk spare → IsSeeking p t walk spare
  seeks_on walk spare h = seeking_on p s t j 0 0 0 0 (grown 0) walk spare h

  root_on : (r : Registers) (post : Posting) (root fresh done : ℕ) (duty : Option Posting) → PlansRoot p s j r post root fresh done duty → PlansRoot p t j r post root fresh done duty
  root_on r post root fresh done duty h = record { below = below_on p s t j 0 0 0 0 (grown 0) post root duty h.below; ready_is = h.ready_is; filling = filling_on r.spare r.fresh_words fresh done h.filling; last = h.last }

  holds_on : (r : Registers) (aim : Aim) (d : ℕ) (duty : Option Posting) → HoldsNode p s j r aim d duty → HoldsNode p t j r aim d duty
  holds_on r aim d duty h = record { at = at_node_on r.call aim r.reads.node duty h.at; held = still r.reads.node (Held (Seat j) d) (held_owns (s.hold (lock_of p r.reads.node)) (Seat j) d h.held) h.held }

  stands_on : (r : Registers) (aim : Aim) (d : ℕ) (duty : Option Posting) → HoldsNode p s j r aim d duty → s.node r.reads.node ≡ t.node r.reads.node
  stands_on r aim d duty h = sym (same r.reads.node (target aim) h.at.there.low h.at.there.linked (held_owns (s.hold (lock_of p r.reads.node)) (Seat j) d h.held))

  needs_on : (r : Registers) (duty : Option Posting) (need : Need) → Needs p s j r duty need → Needs p t j r duty need
  needs_on r duty (ToSplit aim d) h = let k = h.to_split in record { holds = holds_on r aim d duty h.holds; to_split = record { standing = k.standing ∙ stands_on r aim d duty h.holds; image = k.image; accepted_is = k.accepted_is; split = k.split } }
  needs_on r duty (ToGrow post root) h = below_on p s t j 0 0 0 0 (grown 0) post root duty h

  fills_on : (r : Registers) (fresh done : ℕ) (duty : Option Posting) (filling : Filling) → FillsWith p s j r fresh done duty filling → FillsWith p t j r fresh done duty filling
  fills_on r fresh done duty (RightHalf d giving) h =
      let n : ℕ = giving.node in
      let o = held_owns (s.hold (lock_of p n)) (Seat j) d h.held in
      record { real = h.real; held = still n (Held (Seat j) d) o h.held; half = half_on p s t j n (under n o) r fresh giving.write giving.after duty h.half; filling = filling_on r.spare r.fresh_words fresh done h.filling }
  fills_on r fresh done duty (NewRoot post root) h = root_on r post root fresh done duty h

  planned_on : (f q e : ℕ) (r : Registers) (giving : Giving) (duty : Option Posting) → e ≤ length s.log → Owns (s.hold (lock_of p giving.node)) (Seat j) → Plans p s j f q e r giving.node giving.write giving.after duty → Plans p t j f q e r giving.node giving.write giving.after duty
  planned_on f q e r giving duty le o h = plans_on p s t j giving.node (under giving.node o) f q e e (grown e) r giving.write giving.after duty le (λ fresh. filling_on r.spare r.fresh_words fresh (node_size p)) h

  gathered_on : (f : ℕ) (r : Registers) (aim : Aim) → Gathered p s.log f r.call r.rows aim → Gathered p t.log f r.call r.rows aim
  gathered_on f r Own h = h
  gathered_on f r (Posts post) h = tt
  gathered_on f r (Gathers place) h = record { low = h.low; high = h.high; call_is = h.call_is; place_is = h.place_is; within = h.within; left = h.left; gathered = subst (λ (es : List LogEntry). IsGathered es f h.low place r.rows) (sym ch.longer) (gathered_more s.log f h.low ch.more place r.rows h.gathered) }

  pub others_fit : (f q e : ℕ) (r : Registers) (duty : Option Posting) (phase : Phase) → e ≤ length s.log → Fits p s j f q e r duty phase → Fits p t j f q e r duty phase
  others_fit f q e r duty (Root aim) le h = record { duty_is = h.duty_is; rows = gathered_on f r aim h.rows }
  others_fit f q e r duty (Read aim top) le h = record { duty_is = h.duty_is; rows = gathered_on f r aim h.rows; on_way = way_on f r.call r.reads aim top h.on_way }
  others_fit f q e r duty (Draw aim n) le h = at_node_on r.call aim n duty h
  others_fit f q e r duty (Look aim n) le h = at_node_on r.call aim n duty h
  others_fit f q e r duty (Grab aim n) le h = at_node_on r.call aim n duty h
  others_fit f q e r duty (ReadLocked aim d) le h = record { holds = holds_on r aim d duty h.holds; reading = record { left = h.reading.left; standing = subst (λ (ws : List ℕ). AreLast p ws r.reads.loaded) (stands_on r aim d duty h.holds) h.reading.standing } }
  others_fit f q e r duty (Seek need) le h = record { needs = needs_on r duty need h.needs; seeking = seeks_on r.walk r.spare h.seeking }
  others_fit f q e r duty (Fill fresh done filling) le h = record { fills = fills_on r fresh done duty filling h.fills; left = h.left }
  others_fit f q e r duty (Waiting d giving) le h =
      let o = held_owns (s.hold (lock_of p giving.node)) (Seat j) d h.held in
      record { real = h.real; held = still giving.node (Held (Seat j) d) o h.held; plans = planned_on f q e r giving duty le o h.plans }
  others_fit f q e r duty (Body carry done giving) le h =
      let k = h.storing in
      let x : LockState = storing_hold j k.depth giving.node giving.write r.body done in
      let o = storing_owns (s.hold (lock_of p giving.node)) j k.depth giving.node giving.write r.body done k.held in
      record { storing = record { real = k.real; some = k.some; depth = k.depth; held = still giving.node x o k.held; carries = k.carries; left = k.left }; plans = planned_on f q e r giving duty le o h.plans }
  others_fit f q e r duty (Unlock n after) le h = record { holding = holding_on n None h.holding; follows = follows_on p s t j f q e e (grown e) r.call r.reply duty after le h.follows }
  others_fit f q e r duty (Leave n carry after) le h = record { leaving = leaving_on n carry h.leaving; follows = follows_on p s t j f q e e (grown e) r.call r.reply duty after le h.follows }
  others_fit f q e r duty (Swap post root fresh) le h = root_on r post root fresh (node_size p) duty h
  others_fit f q e r duty phase le h = h

  others_hands : (h : Option ℕ) → Hands s j h → Hands t j h
  others_hands h f = search rules

  others_wait : (duty : Option Posting) → Waits s j duty → Waits t j duty
  others_wait None f = λ n e. f n ((ch.posts j n (Pending j) ne refl).1 e)
  others_wait (Some post) f = λ n nn e. f n nn ((ch.posts j n (Pending j) ne refl).1 e)

  others_skip : (count : ℕ) → Skips s j count → Skips t j count
  others_skip count h = record { nodes = h.nodes; once = h.once; are = λ n. let u = ch.posts j n (Skipped j) ne refl in let v = h.are n in ((λ e. u.0 (v.0 e)), (λ e. v.1 (u.1 e))); counted = h.counted }

  -- an act of others keeps all that holds of a seat's actor
  pub others_keep : (b : Actor) → KeepsActor p s j b → KeepsActor p t j b
  others_keep b k =
      let w = k.work in
      let m = b.client in
      let r = m.registers in
      record {
        work = record {
          seated = w.seated;
          duty = w.duty;
          fits = others_fit b.first b.point b.seen r w.duty m.phase k.seen w.fits;
          owes = owes_on p s t j b.first b.point b.seen b.seen (grown b.seen) r.call r.reply w.duty w.owes;
          hands = others_hands (holding p r m.phase) w.hands;
          waits = others_wait w.duty w.waits;
          spares = λ n is. (ch.fresh j n ne (w.spares n is)).0;
          cached = rows_linked p s t ch.linked r.cached w.cached;
          skips = others_skip (skips_counted r.tally) w.skips;
        };
        seen = omega (arith, ap length ch.longer, length-append s.log ch.more, k.seen);
        first = k.first;
        answered = subst (λ (es : List LogEntry). AreAnswered es j b.dones) (sym ch.longer) (answered_longer j b.dones s.log ch.more k.answered);
        causes = causes_on p s.counter t.counter (λ server lt. rise server) s.log ch.more t.log ch.longer j b.dones k.answered k.causes;
        ordered = k.ordered;
        mine = ap (made_by j) ch.longer ∙ made_by-append j s.log ch.more ∙ ap (λ (es : List LogEntry). made_by j s.log ++ es) (made_by_none j ch.more (ch.entries j ne)) ∙ append-nil (made_by j s.log) ∙ k.mine;
      }

-- ---- the new invariant

pub seat_apart : (j i : ℕ) → j ≢ i → Seat j ≢ Seat i
seat_apart j i ne e = ne (cc)

pub right_apart : (c i : ℕ) → Grant c ≢ Seat i
right_apart c i e = cc

-- fewer are to raise a counter
pub bounded_less : (limit seats counter : ℕ) (Wants Now : ℕ → Type 0) → ((j : ℕ) → Now j → Wants j) → Bounded limit seats counter Wants → Bounded limit seats counter Now
bounded_less limit seats counter Wants Now back b = record { late = b.late; bound = b.bound; done = λ j e n. b.done j e (back j n); reached = b.reached }

module _ (p : ConfigParts) (Has Now : ℕ → Actor → Type 0) (i : ℕ) (a : Actor) (mv : Moves Has i a Now) where
  -- an actor of another seat was there before
  pub adds_before : (server : ℕ) → (WantsAdd p server a.client → ⊥) → (j : ℕ) → SomeAdds p Now server j → SomeAdds p Has server j
  adds_before server calm j w = search rules

  pub others_add : (server j : ℕ) → j ≢ i → SomeAdds p Now server j → SomeAdds p Has server j
  others_add server j ne w = search rules

  still_there : (j : ℕ) → (j ≢ i → (b : Actor) × Has j b) → (b : Actor) × Now j b
  still_there j h = dite (ℕ_discrete j i) (λ e. (a, subst (λ (k : ℕ). Now k a) (sym e) mv.here)) (λ n. let k = h n in (k.0, mv.on j k.0 n k.1))

  module _ (ok : IsSetting p) (words now : List ℕ) (s t : TreeState) (g : Ground p words s) (g' : Ground p now t) (here : KeepsActor p t i a)
      (kept : (j : ℕ) (b : Actor) → Has j b → KeepsActor p s j b) (held : (j l : ℕ) → Owns (s.hold l) (Seat j) → (b : Actor) × Has j b)
      (pends : (j n : ℕ) → s.post n ≡ Pending j → (b : Actor) × Has j b) (skips : (j n : ℕ) → s.post n ≡ Skipped j → (b : Actor) × Has j b)
      (makes : (j : ℕ) → made_by j s.log ≢ [] → (b : Actor) × Has j b) where
    pub step_to : (After : ℕ → ℕ → ℕ → Type 0) (Other : Owner → Type 0) → ((j : ℕ) → j ≢ i → Other (Seat j)) → ChangeFor p Other s t → ((server : ℕ) → s.counter server ≤ t.counter server)
        → ((server : ℕ) → server < p.servers → Bounded p.chunks (all_seats p) (t.counter server) (λ j. SomeAdds p Now server j))
        → ((l c d : ℕ) → t.hold l ≡ Held (Grant c) d → After l c d) → ((l c d : ℕ) → After l c d → t.hold l ≡ Held (Grant c) d) → Inv p now t.log Now After
    step_to After Other other ch rise bounded given out = record {
      scene = t;
      log_is = refl;
      ground = g';
      bounded = bounded;
      kept = λ j b h. elim (mv.back j b h) [
        | inl e ↦ subst (λ (x : ℕ × Actor). KeepsActor p t x.0 x.1) (λ z. (sym e.0 z, sym e.1 z)) here
        | inr o ↦ others_keep p ok Other words now s t g g' ch rise j (other j o.0) b (kept j b o.1)
      ];
      held = λ j l o. still_there j (λ n. held j l (ch.back (Seat j) l (other j n) o));
      pends = λ j n e. still_there j (λ ne. pends j n ((ch.posts j n (Pending j) (other j ne) refl).1 e));
      skips = λ j n e. still_there j (λ ne. skips j n ((ch.posts j n (Skipped j) (other j ne) refl).1 e));
      makes = λ j h. still_there j (λ ne. makes j (λ e. h (ap (made_by j) ch.longer ∙ made_by-append j s.log ch.more ∙ ap (λ (es : List LogEntry). es ++ made_by j ch.more) e ∙ made_by_none j ch.more (ch.entries j (other j ne)))));
      given = given;
      out = out;
    }

    -- a turn leaves the rights
    pub turn_to : (Out : ℕ → ℕ → ℕ → Type 0) → Change p i s t → ((server : ℕ) → s.counter server ≤ t.counter server) → ((server : ℕ) → server < p.servers → Bounded p.chunks (all_seats p) (t.counter server) (λ j. SomeAdds p Now server j))
        → ((l c d : ℕ) → s.hold l ≡ Held (Grant c) d → Out l c d) → ((l c d : ℕ) → Out l c d → s.hold l ≡ Held (Grant c) d) → Inv p now t.log Now Out
    turn_to Out ch rise bounded given out = step_to Out (λ o. o ≢ Seat i) (λ j ne. seat_apart j i ne) ch rise bounded
        (λ l c d e. let o = ch.back (Grant c) l (right_apart c i) (held_owns (t.hold l) (Grant c) d e) in given l c d (sym (ch.holds (Grant c) l (right_apart c i) o) ∙ e))
        (λ l c d o. let e = out l c d o in ch.holds (Grant c) l (right_apart c i) (held_owns (s.hold l) (Grant c) d e) ∙ e)
