-- READs under the node's lock: all of its words are the standing ones, so nothing that they say is senseless.
use Rattle.std.proofs.Common.{◌≡◌, ℕ, suc, ◌+◌, ◌-◌, ◌<◌, Bool, true, false, List, [], ◌∷◌, ◌++◌, length, get_or, drop, Option, Some, refl, sym, ap, ◌∙◌, subst, arith}
use Rattle.std.{specs.Prelude.{not, if◌then◌else◌, nat_lt}, proofs.Math.Seq.{drop-cons}}
use Rattle.sh_base.{specs.{declared.config.ConfigParts.{ConfigParts}, Setting.{node_size, IsNode, IsSetting}, Layout.{node_word}, Places.{Node}}, proofs.LayoutLemmas.{node_size_is}}
use Rattle.sh_map.specs.Calls.{IsKey}
use Rattle.sh_image.specs.{declared.{inner.Image.{Image, TheVariants.{Leaf as LeafImage, Inner as InnerImage}}, read.Seen.{Seen}}, Node.{seen_as}}
use Rattle.sh_read.specs.{declared.state.Progress.TheVariants.{More}, Judging.{seen_of}, Moments.{word}, Reads.{Reads, accepted, answer_to, reads_left, reads_with}}
use Rattle.sh_descend.specs.{declared.Hop.{Hop, TheVariants.{Here, Right, Down, Restart}}, Descent.{hop_of}}
use Rattle.sh_state.specs.TreeState.{LockState, TreeState, writing_of}
use Rattle.sh_readers.specs.Hand.{IsNamed}
use Rattle.sh_decide.specs.{declared.state.Aim.{Aim}, Aims.{aimed_key, target}, Deciding.{decided_by, decided_here}}
use Rattle.sh_decide.specs.declared.state.Decision.TheVariants as decision
use Rattle.sh_client.specs.{declared.state.{Then.{Then, TheVariants.{Starts, Takes}}, Write.TheVariants.{Nothing}, Phase.{Phase, TheVariants.{ReadLocked, Waiting}}}, Machine.{Machine, Registers, up}}
use Rattle.sh_client.specs.{Feeds.{did, held_by, hold_by}, Cached.{settled}, Splitting.{giving_of}}
use Rattle.sh_core.{specs.{Actors.{Actor, becomes}, Fits.{AreLast, Follows}, Keeps.{pending_aim, pending_then, KeepsActor}, Core.{Inv, Moves}}, proofs.Frame.{Before, SameCall, actor_in, at, quiet}}
use Rattle.sh_core_turns.proofs.Standing.{settles, StandsWell, aim_key, hop_leads, is_lt, names_node, not_lt, standing_accepted, standing_image, stands_well, can_lock, locked_key}
use Rattle.sh_core_turns.specs.Senses.{is_wrong, is_wrong_by, of_image, of_read}

module _ (p : ConfigParts) (ok : IsSetting p) (words : List ℕ) (Has Now : ℕ → Actor → Type 0) (Out : ℕ → ℕ → ℕ → Type 0) (i : ℕ) (s : TreeState) (b : Before p words Has Out s) (a : Actor) (r : Registers) (aim : Aim) (depth : ℕ)
    (K : KeepsActor p s i (actor_in p i a r (ReadLocked aim depth))) where
  abbrev ph : Phase
  ph = ReadLocked aim depth

  -- the machine that the turn leads to keeps the invariant; and what it found wasn't senseless
  abbrev pub Lands : Machine → Type 0
  Lands m = Moves Has i (becomes i (actor_in p i a r ph) s.log [] m) Now → Inv p words (s.log ++ []) Now Out

  abbrev pub LandsWell : (senseless : Bool) → Machine → Type 0
  LandsWell senseless m = (senseless ≡ false) × Lands m

  abbrev n : ℕ
  n = r.reads.node

  pub real : IsNode p n
  real = let there = K.work.fits.holds.at.there in (b.ground.sits n (target aim) there.low there.linked).real

  -- the lock is given back, with nothing stored
  pub gives : (x : Registers) (after : Then) → SameCall r x → Follows p s i a.first a.point (length s.log) x.call x.reply K.work.duty after → pending_then i x.call x.reply after ≡ pending_aim i r.call r.reply aim → Lands (at p i x (Waiting depth (giving_of n Nothing after)))
  gives x after same follows pend mv = quiet p ok words Has Now Out i s b a r ph (Waiting depth (giving_of n Nothing after)) x K same record { real = real; held = K.work.fits.holds.held; plans = follows } K.work.hands pend tt mv

  -- under the lock the words in memory are the standing ones
  stands : (o : ℕ) → o < node_size p → get_or words (node_word p n + o) 0 ≡ get_or (s.node n) o 0
  stands o lt = b.ground.shows.each (Node n o) (real, lt) ∙ ap (λ (x : LockState). word p (s.node n) (writing_of n x) o) K.work.fits.holds.held

  abbrev fed : ℕ
  fed = get_or words (node_word p n + (node_size p - 1 - length r.reads.loaded)) 0

  abbrev ws : List ℕ
  ws = fed ∷ r.reads.loaded

  abbrev pub rd : Reads
  rd = reads_with n ws

  abbrev with : Reads → Machine
  with reads = at p i (record r { reads = reads }) ph

  abbrev pub M : Machine
  M = with rd

  -- one word more of them
  more : AreLast p (s.node n) ws
  more =
      let f = K.work.fits.reading in
      let j : ℕ = node_size p - 1 - length r.reads.loaded in
      let lt : j < node_size p = omega (arith, node_size_is p) in
      let within : j < length (s.node n) = omega (arith, lt, b.ground.long n) in
      let here : node_size p - length ws ≡ j = omega (arith, f.left) in
      let before : suc j ≡ node_size p - length r.reads.loaded = omega (arith, f.left) in
      ap (λ (z : ℕ). drop z (s.node n)) here ∙ drop-cons (s.node n) j 0 within ∙ ap (λ (z : ℕ). get_or (s.node n) j 0 ∷ drop z (s.node n)) before ∙ ap (λ (zs : List ℕ). get_or (s.node n) j 0 ∷ zs) f.standing ∙ ap (λ (z : ℕ). z ∷ r.reads.loaded) (sym (stands j lt))

  -- all are loaded: they are the node's
  whole : length ws ≡ node_size p → ws ≡ s.node n
  whole long = let none : node_size p - length ws ≡ 0 = omega (arith, long) in sym more ∙ ap (λ (z : ℕ). drop z (s.node n)) none

  -- ---- the image is the standing one
  abbrev pub image : Image
  image = standing_image p (s.node n) aim

  abbrev key : ℕ
  key = aimed_key r.call aim

  is_key : IsKey key
  is_key = aim_key p s i a.first a.point a.seen r.call r.reply aim K.work.duty K.work.seated.in_range K.work.fits.holds.at.duty_is K.work.owes (locked_key r.call aim K.work.fits.holds.at.takes)

  well : StandsWell p s (s.node n) K.work.fits.holds.at.there.low aim
  well = stands_well p ok words s b.ground i a.first a.point a.seen n r.call r.reply aim K.work.duty K.work.fits.holds.at.duty_is (can_lock r.call aim K.work.fits.holds.at.takes) K.work.owes K.work.fits.holds.at.there

  -- the descent starts again
  pub restarts : Lands (did M aim depth image decision.Restart)
  restarts mv = gives (record r { reads = rd }) (Starts aim) record { call_is = refl; reply_is = refl; spare_is = refl; skips_are = refl; cached_is = refl } record { duty_is = K.work.fits.holds.at.duty_is; takes = K.work.fits.holds.at.takes } refl mv

  -- the lock to the right is taken
  goes_right : (next : ℕ) → IsNamed s (target aim) next key → Lands (did M aim depth image (decision.Right next))
  goes_right next named mv = gives (record r { reads = rd; tally = record r.tally { rights = up r.tally.rights } }) (Takes aim next) record { call_is = refl; reply_is = refl; spare_is = refl; skips_are = refl; cached_is = refl } record { duty_is = K.work.fits.holds.at.duty_is; takes = K.work.fits.holds.at.takes; there = named } refl mv

  -- what is left is the decision where the node covers the key
  module _ (here : ws ≡ s.node n → accepted p rd ≡ Some image → hop_of image key (target aim) ≡ Here → Lands (did M aim depth image (decided_here p r.call aim image))) where
    pub by_hop : (hop : Hop) → hop_of image key (target aim) ≡ hop → ws ≡ s.node n → accepted p rd ≡ Some image → LandsWell (is_wrong_by p aim image hop) (did M aim depth image (decided_by p r.call aim image hop))
    by_hop Here e is acc = (well.right, here is acc e)
    by_hop (Right next) e is acc =
        let there = K.work.fits.holds.at.there in
        let named = hop_leads s (target aim) there.low key (target aim) image well.image there.below is_key.1 (omega arith) (Right next) e in
        subst (λ (t : Bool). LandsWell (not t) (did M aim depth image (if t then decision.Right next else decision.Restart))) (sym (names_node p words s b.ground (target aim) next key named)) (refl, goes_right next named)
    by_hop (Down child) e is acc =
        let there = K.work.fits.holds.at.there in
        let down = hop_leads s (target aim) there.low key (target aim) image well.image there.below is_key.1 (omega arith) (Down child) e in
        absurd (omega (arith, down.1, down.3))
    by_hop Restart e is acc = let there = K.work.fits.holds.at.there in absurd (hop_leads s (target aim) there.low key (target aim) image well.image there.below is_key.1 (omega arith) Restart e)

-- ---- the word is fed
module _ (p : ConfigParts) (ok : IsSetting p) (words : List ℕ) (Has Now : ℕ → Actor → Type 0) (Out : ℕ → ℕ → ℕ → Type 0) (i : ℕ) (s : TreeState) (b : Before p words Has Out s) (a : Actor) (r : Registers) (aim : Aim) (depth : ℕ)
    (K : KeepsActor p s i (actor_in p i a r (ReadLocked aim depth))) where
  abbrev at_phase : Phase
  at_phase = ReadLocked aim depth

  abbrev loaded : List ℕ
  loaded = ws p ok words Has Now Out i s b a r aim depth K

  abbrev now : Reads
  now = rd p ok words Has Now Out i s b a r aim depth K

  abbrev stood : Image
  stood = image p ok words Has Now Out i s b a r aim depth K

  abbrev machine : Reads → Machine
  machine reads = at p i (record r { reads = reads }) at_phase

  abbrev Leads : (senseless : Bool) → Machine → Type 0
  Leads senseless m = LandsWell p ok words Has Now Out i s b a r aim depth K senseless m

  -- what is wrong of an image, and where the word that is fed leads
  abbrev wrong : Image → Bool
  wrong x = is_wrong p r.call aim x

  abbrev pub Feeds : (t : Bool) → Type 0
  Feeds t = Leads (of_read true (of_image wrong (accepted p (if t then now else reads_left (seen_of p loaded) now))) (if t then More else answer_to (seen_of p loaded))) (hold_by (machine (if t then now else reads_left (seen_of p loaded) now)) aim depth (if t then More else answer_to (seen_of p loaded)))

  -- the client behind the image, which was its first one or a later one
  abbrev pub calm : Registers
  calm = settled aim stood r

  abbrev pub kept : KeepsActor p s i (actor_in p i a calm at_phase)
  kept = settles p s i a r aim depth K stood

  module _ (here : loaded ≡ s.node r.reads.node → accepted p now ≡ Some stood → hop_of stood (aimed_key r.call aim) (target aim) ≡ Here → Lands p ok words Has Now Out i s b a calm aim depth kept (did (M p ok words Has Now Out i s b a calm aim depth kept) aim depth stood (decided_here p r.call aim stood))) where
    sees : (x : Image) → Leads (of_image wrong (accepted p now)) (held_by (machine now) aim depth (accepted p now)) → Leads (of_read true (of_image wrong (accepted p (reads_left (seen_as x) now))) (answer_to (seen_as x))) (hold_by (machine (reads_left (seen_as x) now)) aim depth (answer_to (seen_as x)))
    sees (LeafImage y) z = z
    sees (InnerImage y) z = z

    loads : (t : Bool) → nat_lt (length loaded) (node_size p) ≡ t → Feeds t
    loads true e =
        let f = K.work.fits.holds in (
          refl,
          λ mv. quiet p ok words Has Now Out i s b a r at_phase at_phase (record r { reads = now }) K record { call_is = refl; reply_is = refl; spare_is = refl; skips_are = refl; cached_is = refl }
              record { holds = record { at = f.at; held = f.held }; reading = record { left = is_lt (length loaded) (node_size p) e; standing = more p ok words Has Now Out i s b a r aim depth K } } K.work.hands refl tt mv,
        )
    loads false e =
        let le = not_lt (length loaded) (node_size p) e in
        let is = whole p ok words Has Now Out i s b a r aim depth K (omega (arith, le, K.work.fits.reading.left)) in
        let stands = well p ok words Has Now Out i s b a r aim depth K in
        let acc = standing_accepted p ok words s b.ground r.reads.node stood loaded stands.seen is in
        subst (λ (v : Seen). Leads (of_read true (of_image wrong (accepted p (reads_left v now))) (answer_to v)) (hold_by (machine (reads_left v now)) aim depth (answer_to v))) (sym (ap (seen_of p) is ∙ stands.seen))
        (sees stood (subst (λ (o : Option Image). Leads (of_image wrong o) (held_by (machine now) aim depth o)) (sym acc) (by_hop p ok words Has Now Out i s b a calm aim depth kept here (hop_of stood (aimed_key r.call aim) (target aim)) refl is acc)))

    pub locked_read : Feeds (nat_lt (length loaded) (node_size p))
    locked_read = loads (nat_lt (length loaded) (node_size p)) refl
