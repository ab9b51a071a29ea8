-- What the standing words of nodes are seen as, and what a client learns of them; and its turns on a lock.
use Rattle.std.proofs.Common.{rules, ◌≡◌, ℕ, Bool, true, false, List, Option, Some, None, refl, sym, subst, ◌∙◌, eqb-true, ◌≢◌, zero, suc, ◌+◌, ◌-◌, ◌<◌, ◌≤◌, [], ◌∷◌, length, get_or, ap, arith, ◌++◌, set}
use Rattle.std.{proofs.{Common.{drop_of_length-le}, lemmas.Bool.Decides.{nat_tests}}, specs.Prelude.{◌==◌, if◌then◌else◌, ◌^◌, not, nat_lt}}
use Rattle.sh_base.{proofs.{LayoutLemmas.{node_size_is}, PlanLemmas.{lock_below}}, specs.{Layout.{node_word, rear_at, lock_of, lock_word, root_word, compute_of}, Places.{Root as RootSite}}}
use Rattle.sh_base.specs.{Setting.{node_size, IsSetting}, declared.{config.ConfigParts.{ConfigParts}, event.Event.{TheVariants.{Load, Store, Exchange}, Event}}}
use Rattle.sh_image.{proofs.UntornLemmas.{untorn_spelled, untorn_inner}, specs.{Inner.{Inner, inner_in, SpellsInner}, Leaf.{Leaf, leaf_in, Spells}, Node.{seen_as}, Seen.{SeenBy}}}
use Rattle.sh_image.specs.declared.{inner.{Image.{TheVariants.{Leaf as LeafImage, Inner as InnerImage}, Image}, Pair.{Pair}}, read.Seen.{TheVariants.{Leaf as LeafSeen, Inner as InnerSeen}, Seen}}
use Rattle.sh_cache.{proofs.RowLemmas.{forgotten_all, kept_all}}
use Rattle.sh_state.{specs.{TreeState.{TreeState, Linked, writing, Seat, LockState, Nobody, Held}, Ground.{Ground}, Nodes.{level_in}}, proofs.{Spelled.{leaf_is, inner_is}, Puts.{put_here}}}
use Rattle.sh_readers.proofs.{Fed.{fed_first, fed_more, fed_leaf, fed_inner}, HandLemmas.{inner_image, leaf_image, down_inner, down_named, here_is, never_restart, right_named}, RowLemmas.{own_low}}
use Rattle.sh_readers.specs.{Hand.{AreRowsOf, IsImageOf, IsNamed}, Knows.{IsFed}, Points.{HadSince}}
use Rattle.sh_decide.{proofs.IndexLemmas.{once_is}, specs.{Aims.{is_node, aimed_key, takes_lock, target}, Deciding.{decided_by, has_separator}, Ways.{leads_right}, declared.state.Aim.{Aim}}}
use Rattle.sh_decide.specs.declared.state.{Aim.TheVariants.{Own, Gathers, Posts}, Posting.{Posting}}
use Rattle.sh_client.specs.{Cached.{image_kept, keeping, settled, without_origin}, Machine.{Registers}, Wants.{load_of}}
use Rattle.sh_client.specs.declared.state.{Phase.TheVariants.{Read, ReadLocked, Root, Grab, Unlock, Leave}, Then.{Then}}
use Rattle.sh_core.proofs.{Frame.{actor_in, Before, Claim, advance, at, hands_drop, hands_take, quiet, same_call, same_grows, same_hold}, Others.{named_on, follows_on}}
use Rattle.sh_core.specs.{Actors.{Actor, becomes}, Core.{Inv, Moves}, Fits.{Fits, HasRead, Gathered, IsAtRoot, IsThere, IsToStart, Owes, duty_of}, Keeps.{KeepsActor, IsAtWork}}
use Rattle.sh_edit.specs.{Held.{held}, Pairing.{IsNewSeparator}}
use Rattle.sh_read.{proofs.JudgingLemmas.{seen_once, judged_by}, specs.{Judging.{seen_of}, Reads.{Reads, accepted, image_in, reads_with, wanted, reads_start}}}
use Rattle.sh_map.specs.{declared.{call.{Call.{Call}, Reply.{Reply}}, book.Row.{Row}, log.Entry.{Entry as LogEntry}}, Calls.{IsInRange, IsKey}}
use Rattle.sh_descend.specs.{declared.Hop.{TheVariants.{Here, Right, Down, Restart}, Hop}, Descent.{hop_of, high_of}}
use Rattle.sh_acts.{proofs.{Ends.{is_new}, Holds.{take_act, free_act}, Events.{free_lock}}, specs.Acts.{with_hold}}
use Rattle.sh_core_turns.specs.Senses.{is_wrong_here}
use Rattle.sh_decide.specs.declared.state.Decision.TheVariants as decision
use Rattle.sh_client.specs.declared.state.Want.TheVariants as want

module _ (s : TreeState) where
  rows_kept : (room : ℕ) (aim : Aim) (image : Image) (level low : ℕ) → IsImageOf s level low image → (cached : List Inner) → AreRowsOf s cached → AreRowsOf s (keeping room aim image cached)
  rows_kept room aim image level low img cached h = search (rules, eqb-true, kept_all, own_low)

module _ (p : ConfigParts) (s : TreeState) (i : ℕ) (a : Actor) (r : Registers) (aim : Aim) where
  -- a READ without a lock: the image is kept, where it's to be
  pub learns : (top : Bool) → KeepsActor p s i (actor_in p i a r (Read aim top)) → (level low : ℕ) (image : Image) → IsImageOf s level low image → KeepsActor p s i (actor_in p i a (image_kept p.cached aim image (settled aim image r)) (Read aim top))
  learns top k level low image img =
      let w = k.work in
      let rows = rows_kept s p.cached aim image level low img (without_origin r.origin (leads_right r.call aim image) r.cached) (search (rules, forgotten_all)) in
      let fits : Fits p s i a.first a.point a.seen (image_kept p.cached aim image (settled aim image r)) w.duty (Read aim top) = record { duty_is = w.fits.duty_is; rows = w.fits.rows; on_way = w.fits.on_way } in
      let work : IsAtWork p s i a.first a.point a.seen (at p i (image_kept p.cached aim image (settled aim image r)) (Read aim top)) = record { seated = w.seated; duty = w.duty; fits = fits; owes = w.owes; hands = w.hands; waits = w.waits; spares = w.spares; cached = rows; skips = w.skips } in
      assumption (work, k)

  -- and one under the lock
  pub settles : (depth : ℕ) → KeepsActor p s i (actor_in p i a r (ReadLocked aim depth)) → (image : Image) → KeepsActor p s i (actor_in p i a (settled aim image r) (ReadLocked aim depth))
  settles depth k image = search (rules, forgotten_all)

-- ---- the images of accepted READs, and where hops from them lead

-- what a leaf that was accepted holds
pub record IsSeenLeaf (s : TreeState) (first level low : ℕ) (a : Leaf) : Type 0 where
  pub level_is : level ≡ 0
  pub image : IsImageOf s level low (LeafImage a)
  pub holds : (key : ℕ) → key ≢ 0 → low ≤ key → key < a.high → HadSince s.log first key (held a.entries key)

differ : (a : Leaf) (b : Inner) → LeafSeen a ≡ InnerSeen b → ⊥
differ a b e = cc

module _ (p : ConfigParts) (ok : IsSetting p) (words : List ℕ) (s : TreeState) (g : Ground p words s) (f n low : ℕ) where
  -- one word more
  pub more_known : (l : ℕ) (loaded : List ℕ) → s.class n ≡ Linked l low → f ≤ length s.log → length loaded < node_size p → HasRead p s f l n loaded → HasRead p s f l n (get_or words (node_word p n + (node_size p - 1 - length loaded)) 0 ∷ loaded)
  more_known l [] e since lt h =
      let at : rear_at p ≡ node_size p - 1 - 0 = omega (arith, node_size_is p) in
      subst (λ (o : ℕ). HasRead p s f l n (get_or words (node_word p n + o) 0 ∷ [])) at (fed_first p ok words s g n l low f e since)
  more_known l (x ∷ loaded) e since lt h = fed_more p ok words s g n l low f (node_size p - 1 - length (x ∷ loaded)) (x ∷ loaded) e (omega (arith, lt)) h

  module _ (ws : List ℕ) (long : length ws ≡ node_size p) (last : get_or ws 0 0 ≡ get_or words (node_word p n + 0) 0) where
    stands : (l : ℕ) → s.class n ≡ Linked (suc l) low → IsFed p s.log f (suc l) (s.node n) (writing p s n) ws → get_or ws 0 0 ≡ get_or ws (rear_at p) 0 → ws ≡ s.node n
    stands l e k agree = fed_inner p ok words s g n l low f ws e long k last agree

    pub seen_leaf : (l : ℕ) (a : Leaf) → s.class n ≡ Linked l low → IsFed p s.log f l (s.node n) (writing p s n) ws → Spells p ws a → IsSeenLeaf s f l low a
    seen_leaf zero a e k sp =
        let untorn = untorn_spelled p ws a sp in
        let r = fed_leaf p ok words s g n low f ws e long k last untorn in
        let is : leaf_in p ws ≡ a = leaf_is p ws a sp.words sp.lawful in
        let lo = (g.sits n 0 low e).low_is in
        record {
          level_is = refl;
          image = subst (λ (x : Leaf). IsImageOf s 0 low (LeafImage x)) is (leaf_image p words s g n low f ws e r);
          holds = λ key nz from below. subst (λ (x : Leaf). HadSince s.log f key (held x.entries key)) is (r.holds key nz (omega (arith, r.low, lo, from)) (subst (λ (x : Leaf). key < x.high) (sym is) below));
        }
    seen_leaf (suc l) a e k sp =
        let untorn = untorn_spelled p ws a sp in
        let is = stands l e k untorn.node in
        let up = (g.sits n (suc l) low e).level_is in
        let down : level_in ws ≡ 0 = ap level_in sp.words in
        let same : level_in ws ≡ level_in (s.node n) = ap level_in is in
        absurd (omega (arith, up, down, same))

    pub seen_inner : (l : ℕ) (a : Inner) → s.class n ≡ Linked l low → IsFed p s.log f l (s.node n) (writing p s n) ws → SpellsInner p ws a → IsImageOf s l low (InnerImage a)
    seen_inner zero a e k sp =
        let untorn = untorn_inner p ws a ok.ranged.value_words.0 sp in
        let r = fed_leaf p ok words s g n low f ws e long k last untorn in
        absurd (differ (leaf_in p ws) a (seen_once p ws ok.ranged.value_words.0 (LeafSeen (leaf_in p ws)) (InnerSeen a) r.spells sp))
    seen_inner (suc l) a e k sp =
        let untorn = untorn_inner p ws a ok.ranged.value_words.0 sp in
        let is = stands l e k untorn.node in
        let one : inner_in (s.node n) ≡ a = ap inner_in (sym is) ∙ inner_is p ws a sp.words sp.lawful in
        subst (λ (x : Inner). IsImageOf s (suc l) low (InnerImage x)) one (inner_image p words s g n l low e)

-- ---- the image of a node that stands where a descent has come, and where hops from images lead

pub is_lt : (a b : ℕ) → nat_lt a b ≡ true → a < b
is_lt a b e = grind (arith, nat_tests)

pub not_lt : (a b : ℕ) → nat_lt a b ≡ false → b ≤ a
not_lt a b e = grind (arith, nat_tests)

differ_test : (a b : ℕ) → a ≢ b → (a == b) ≡ false
differ_test a b h = grind (arith, nat_tests)

pub names_node : (p : ConfigParts) (words : List ℕ) (s : TreeState) → Ground p words s → (level n key : ℕ) → IsNamed s level n key → is_node p n ≡ true
names_node p words s g level n key h = grind (arith, nat_tests)

-- the place that a range has reached is a key
abbrev pub IsPlaceKey : Aim → Type 0
IsPlaceKey (Gathers place) = IsKey place
IsPlaceKey aim = Unit {0}

-- a range takes no lock
abbrev pub CanLock : Aim → Type 0
CanLock (Gathers place) = ⊥
CanLock aim = Unit {0}

pub can_lock : (c : Call) (aim : Aim) → takes_lock c aim ≡ true → CanLock aim
can_lock c aim h = search rules

pub locked_key : (c : Call) (aim : Aim) → takes_lock c aim ≡ true → IsPlaceKey aim
locked_key c aim h = search rules

-- the key of a descent is a key
pub aim_key : (p : ConfigParts) (s : TreeState) (seat first point seen : ℕ) (c : Call) (reply : Reply) (aim : Aim) (duty : Option Posting) → IsInRange p c → duty ≡ duty_of aim → Owes s seat first point seen c reply duty → IsPlaceKey aim → IsKey (aimed_key c aim)
aim_key p s seat first point seen c r aim duty h is o q = search rules

-- what a range has gathered stays, with the same rows
pub gathered_as : (p : ConfigParts) (log : List LogEntry) (first : ℕ) (r x : Registers) (aim : Aim) → x.call ≡ r.call → x.rows ≡ r.rows → Gathered p log first r.call r.rows aim → Gathered p log first x.call x.rows aim
gathered_as p log first r x aim call rows h = subst (λ (z : Call × List Row). Gathered p log first z.0 z.1 aim) (λ j. (sym call j, sym rows j)) h

-- a descent that takes a lock starts again at the root
pub to_root : (p : ConfigParts) (s : TreeState) (seat first : ℕ) (r : Registers) (aim : Aim) (duty : Option Posting) → IsToStart r.call aim duty → IsAtRoot p s first r aim duty
to_root p s seat first r aim duty h = record { duty_is = h.duty_is; rows = (search rules) }

-- all words of a READ are loaded: their image is accepted
pub whole_accepted : (p : ConfigParts) (node : ℕ) (ws : List ℕ) (image : Image) → nat_lt (length ws) (node_size p) ≡ false → image_in (seen_of p ws) ≡ Some image → accepted p (reads_with node ws) ≡ Some image
whole_accepted p node ws image e q = rw e q

-- the load that a READ wants
pub load_is : (p : ConfigParts) (reads : Reads) (e : Event) → load_of (wanted p reads) ≡ want.Event e → Load (node_word p reads.node + (node_size p - 1 - length reads.loaded)) ≡ e
load_is p reads e = search rules

pub some_image : (x y : Image) → Some x ≡ Some y → x ≡ y
some_image x y e = cc

-- ---- where a hop leads, from the image of a node of a level that begins no later than the key

abbrev pub HopLeads : TreeState → (level key target : ℕ) → Image → Hop → Type 0
HopLeads s level key target image Here = (level ≡ target) × (key < high_of image)
HopLeads s level key target image (Right next) = IsNamed s level next key
HopLeads s level key target image (Down child) = (below : ℕ) × (level ≡ suc below) × IsNamed s below child key × (target ≤ below)
HopLeads s level key target image Restart = ⊥

pub hop_leads : (s : TreeState) (level low key target : ℕ) (image : Image) → IsImageOf s level low image → low ≤ key → key < 2 ^ 64 - 1 → target ≤ level → (hop : Hop) → hop_of image key target ≡ hop → HopLeads s level key target image hop
hop_leads s level low key target image img from past reach Here e = here_is s level low key target image img from e
hop_leads s level low key target image img from past reach (Right next) e = right_named s level low key target image img from next past e
hop_leads s level low key target image img from past reach (Down child) e =
    let below = down_inner s level low key target image img from child e in
    let named = down_named s level low key target image img from below.0 child below.1 e in
    (below.0, below.1, named.0, named.1)
hop_leads s level low key target image img from past reach Restart e = never_restart s level low key target image img from reach e

-- only at this hop a node is split
pub split_here : (p : ConfigParts) (c : Call) (aim : Aim) (image : Image) (hop : Hop) → decided_by p c aim image hop ≡ decision.Split → hop ≡ Here
split_here p c aim image hop d = search rules

-- ---- the node at the end of a descent

-- a leaf for a call, and an inner node for a post
abbrev pub standing_image : ConfigParts → (node : List ℕ) → Aim → Image
standing_image p node Own = LeafImage (leaf_in p node)
standing_image p node (Gathers place) = LeafImage (leaf_in p node)
standing_image p node (Posts post) = InnerImage (inner_in node)

-- its words spell that image, in which nothing is wrong
pub record StandsWell (p : ConfigParts) (s : TreeState) (node : List ℕ) (low : ℕ) (aim : Aim) : Type 0 where
  pub image : IsImageOf s (target aim) low (standing_image p node aim)
  pub seen : seen_of p node ≡ seen_as (standing_image p node aim)
  pub right : is_wrong_here aim (standing_image p node aim) ≡ false

no_pair : (pairs : List Pair) (separator : ℕ) → IsNewSeparator pairs separator → has_separator pairs separator ≡ false
no_pair [] separator h = refl
no_pair (x ∷ xs) separator h = rw (differ_test x.separator separator h.0) (no_pair xs separator h.1)

module _ (p : ConfigParts) (ok : IsSetting p) (words : List ℕ) (s : TreeState) (g : Ground p words s) where
  spelled_seen : (n : ℕ) (v : Seen) → SeenBy p (s.node n) v → seen_of p (s.node n) ≡ v
  spelled_seen n v h = let some = ok.ranged.value_words.0 in seen_once p (s.node n) some (seen_of p (s.node n)) v (judged_by p (s.node n) some (g.long n)) h

  pub stands_well : (seat first point seen n : ℕ) (c : Call) (reply : Reply) (aim : Aim) (duty : Option Posting) → duty ≡ duty_of aim → CanLock aim → Owes s seat first point seen c reply duty → (there : IsThere s c aim n) → StandsWell p s (s.node n) there.low aim
  stands_well seat first point seen n c r (Gathers place) duty is takes owes there = absurd takes
  stands_well seat first point seen n c r Own duty is takes owes there =
      let z = (g.sits n 0 there.low there.linked).body in
      let a : Leaf = leaf_in p (s.node n) in
      record { image = search rules; seen = spelled_seen n (seen_as (LeafImage a)) z.spells; right = ap not (sym (once_is a.entries true ((λ t. z.once), (λ t. refl)))) }
  stands_well seat first point seen n c r (Posts post) duty is takes owes there =
      let w = subst (Owes s seat first point seen c r) is owes in
      let linked : s.class n ≡ Linked (suc w.below) there.low = there.linked ∙ ap (λ (l : ℕ). Linked l there.low) w.level in
      let a : Inner = inner_in (s.node n) in
      record {
        image = subst (λ (l : ℕ). IsImageOf s l there.low (InnerImage a)) (sym w.level) (inner_image p words s g n w.below there.low linked);
        seen = spelled_seen n (seen_as (InnerImage a)) (g.sits n (suc w.below) there.low linked).body.spells;
        right = no_pair a.pairs post.separator (is_new p words s g seat n post.node w.below there.low post.separator linked w.linked w.mine);
      }

  -- a READ of all its words is accepted
  pub standing_accepted : (n : ℕ) (image : Image) (loaded : List ℕ) → seen_of p (s.node n) ≡ seen_as image → loaded ≡ s.node n → accepted p (reads_with n loaded) ≡ Some image
  standing_accepted n image loaded seen is = search (rules, whole_accepted)

-- ---- the turns on lock words and the load of the root word

module _ (p : ConfigParts) (ok : IsSetting p) (words : List ℕ) (Has Now : ℕ → Actor → Type 0) (Out : ℕ → ℕ → ℕ → Type 0) (i : ℕ) (s : TreeState) (b : Before p words Has Out s) (a : Actor) (r : Registers) where
  abbrev N : ℕ
  N = length s.log

  -- the lock is taken, or it isn't free
  takes : (aim : Aim) (n : ℕ) (t : Bool) → (get_or words (lock_word p (lock_of p n)) 0 == 0) ≡ t → Has i (actor_in p i a r (Grab aim n))
      → Moves Has i (becomes i (actor_in p i a r (Grab aim n)) s.log [] (if t then at p i (record r { reads = reads_start n }) (ReadLocked aim 0) else at p i r (Grab aim n))) Now
      → Inv p (if t then set words (lock_word p (lock_of p n)) (compute_of p i + 1) else words) (s.log ++ []) Now Out
  takes aim n true e h mv =
      let k = b.kept i (actor_in p i a r (Grab aim n)) h in
      let f = k.work.fits in
      let l : ℕ = lock_of p n in
      let lt = lock_below p n ok (b.ground.sits n (target aim) f.there.low f.there.linked).real in
      let x : LockState = Held (Seat i) 0 in
      let t : TreeState = with_hold s l x in
      let free = free_lock p words s l b.ground lt (eqb-true (get_or words (lock_word p l) 0) 0 e) in
      let short : length (s.node n) ≤ node_size p - 0 = omega (arith, b.ground.long n) in
      let there = named_on p s t i 0 0 0 0 (same_grows s t i 0 0 (same_hold s l x) (omega arith)) (target aim) n (aimed_key r.call aim) f.there in
      advance p ok words Has Now Out i s b a r (set words (lock_word p l) (compute_of p i + 1)) t (Grab aim n) (ReadLocked aim 0) (record r { reads = reads_start n }) k (same_hold s l x) (take_act p words s b.ground i l lt free) (λ server. refl)
      record { call_is = refl; reply_is = refl; spare_is = refl; skips_are = refl; cached_is = refl }
      record { holds = record { at = record { duty_is = f.duty_is; takes = f.takes; there = there }; held = put_here s.hold l x }; reading = record { left = omega (arith, node_size_is p); standing = drop_of_length-le (s.node n) short } }
      (hands_take s i l x k.work.hands) refl tt mv
  takes aim n false e h mv =
      let k = b.kept i (actor_in p i a r (Grab aim n)) h in
      quiet p ok words Has Now Out i s b a r (Grab aim n) (Grab aim n) r k (same_call r) record { duty_is = k.work.fits.duty_is; takes = k.work.fits.takes; there = k.work.fits.there } k.work.hands refl tt mv

  pub grab : (aim : Aim) (n : ℕ) → Claim p ok words Has Now Out i s b a r (Grab aim n) (Exchange (lock_word p (lock_of p n)) 0 (compute_of p i + 1))
  grab aim n h mv = takes aim n (get_or words (lock_word p (lock_of p n)) 0 == 0) refl h mv

  -- the lock is given back
  pub unlock : (n : ℕ) (after : Then) → Claim p ok words Has Now Out i s b a r (Unlock n after) (Store (lock_word p (lock_of p n)) 0)
  unlock n after h mv =
      let k = b.kept i (actor_in p i a r (Unlock n after)) h in
      let f = k.work.fits in
      let l : ℕ = lock_of p n in
      let t : TreeState = with_hold s l Nobody in
      let follows = follows_on p s t i a.first a.point a.seen N (same_grows s t i a.seen N (same_hold s l Nobody) k.seen) r.call r.reply k.work.duty after k.seen f.follows in
      advance p ok words Has Now Out i s b a r (set words (lock_word p l) 0) t (Unlock n after) (Leave n None after) r k (same_hold s l Nobody) (free_act p words s b.ground i l f.holding.depth (lock_below p n ok f.holding.real) f.holding.held) (λ server. refl)
      (same_call r) record { leaving = tt; follows = follows } (hands_drop s i l Nobody (λ o. o) k.work.hands) refl tt mv

  -- the root word names the root
  root_is : get_or words root_word 0 ≡ s.root
  root_is = b.ground.shows.each RootSite tt

  pub root_named : is_node p (get_or words root_word 0) ≡ true
  root_named = ap (is_node p) root_is ∙ (grind (arith, nat_tests))

  pub root : (aim : Aim) → Claim p ok words Has Now Out i s b a r (Root aim) (Load root_word)
  root aim h =
      let k = b.kept i (actor_in p i a r (Root aim)) h in
      let n : ℕ = get_or words root_word 0 in
      let named : IsNamed s s.height n (aimed_key r.call aim) = record { low = 0; linked = ap s.class root_is ∙ b.ground.root; below = omega arith } in
      subst (λ (t : Bool). Moves Has i (becomes i (actor_in p i a r (Root aim)) s.log [] (if t then at p i (record r { reads = reads_start n; origin = None }) (Read aim true) else at p i r (Root aim))) Now → Inv p words (s.log ++ []) Now Out) (sym root_named)
      (λ mv. quiet p ok words Has Now Out i s b a r (Root aim) (Read aim true) (record r { reads = reads_start n; origin = None }) k record { call_is = refl; reply_is = refl; spare_is = refl; skips_are = refl; cached_is = refl }
      record { duty_is = k.work.fits.duty_is; rows = k.work.fits.rows; on_way = record { level = s.height; named = named; reach = search rules; left = omega (arith, node_size_is p); known = tt } }
      k.work.hands refl tt mv)
