-- READs without a lock: each leads on, and finds nothing senseless.
use Rattle.std.proofs.Common.{rules, ◌≡◌, ◌≢◌, ◌⊎◌, ℕ, suc, ◌+◌, ◌-◌, ◌^◌, ◌<◌, ◌≤◌, Bool, true, false, List, [], ◌∷◌, ◌++◌, length, get_or, Option, Some, None, refl, sym, ap, ◌∙◌, subst, inl, inr, arith, eqb-true}
use Rattle.std.{specs.Prelude.{◌==◌, ◌&&◌, not, if◌then◌else◌, nat_lt}, proofs.lemmas.Bool.{cases_lt, Decides.{nat_tests}}}
use Rattle.sh_base.{specs.{declared.{config.ConfigParts.{ConfigParts}, event.Event.TheVariants.{Load}}, Setting.{node_size, IsSetting}, Layout.{node_word}}, proofs.LayoutLemmas.{node_size_is}}
use Rattle.sh_map.specs.{declared.{book.{Done.{Done}, Row.{Row}}, call.Call.{Call}}, Book.{AnswersRange}, Calls.{IsInRange, IsKey}, Made.{entries_by}, Points.{point_of}}
use Rattle.sh_map.proofs.LeastLemmas.{least_is}
use Rattle.sh_map.specs.declared.call.Reply.TheVariants as reply
use Rattle.sh_map.specs.declared.call.Call.TheVariants as call
use Rattle.sh_image.specs.declared.{inner.Image.{Image, TheVariants.{Leaf as LeafImage, Inner as InnerImage}}, read.Seen.{Seen}}
use Rattle.sh_image.specs.{declared.read.Seen.TheVariants.{Leaf as LeafSeen, Inner as InnerSeen, Torn, TornEntry, Odd as OddSeen}, Seen.{SeenBy}, Leaf.{Leaf}}
use Rattle.sh_edit.specs.{Held.{held}, Ranging.{end_in, taken, upto_of}}
use Rattle.sh_read.specs.{declared.state.Progress.TheVariants.{More}, Judging.{seen_of}, Reads.{Reads, accepted, answer_to, image_in, reads_left, reads_with, reads_start}}
use Rattle.sh_read.proofs.JudgingLemmas.{judged_by}
use Rattle.sh_descend.specs.{declared.Hop.{Hop, TheVariants.{Here, Right, Down, Restart}}, Descent.{high_of, hop_of, level_of}}
use Rattle.sh_state.specs.TreeState.{TreeState}
use Rattle.sh_readers.{specs.{Points.{HadSince}, Hand.{IsNamed, IsImageOf}, Ranges.{IsBehind}}, proofs.{Fed.{fed_node}, HandLemmas.{right_named}}}
use Rattle.sh_readers.proofs.Gathering.{done_answers, end_within_leaf, leaf_behind}
use Rattle.sh_decide.specs.{declared.state.Aim.{Aim, TheVariants.{Own, Gathers, Posts}}, Aims.{aim_of, aimed_key, call_key, end_of, is_node, takes_lock, target}, Leaves.{leaf_answer, reply_with}}
use Rattle.sh_decide.specs.Ways.{is_below, way_of, way_by, way_here}
use Rattle.sh_decide.specs.declared.state.Way.TheVariants as way
use Rattle.sh_client.specs.{declared.state.{Need.TheVariants.{ToGrow}, Phase.{Phase, TheVariants.{Root, Read, Draw, Ended}}, Edge.{Edge}}, Machine.{Machine, Registers, answering, reading, to, up}}
use Rattle.sh_client.specs.{Cached.{image_kept, settled}, Ranges.{is_whole, passing, rows_taken}, Rests.{rows_for}, Feeds.{read_by, arrived, went}, Splitting.{root_grown}}
use Rattle.sh_core.specs.{Actors.{Actor, becomes, ending}, Fits.{Gathered, HasGathered, IsBelow, IsOnWay, IsThere, HasRead, Reaches, duty_of}, Causes.{HasCause}, Keeps.{pending_aim, KeepsActor}}
use Rattle.sh_core.{specs.Core.{Inv, Moves}, proofs.{Causes.{ends_by_rows}, Frame.{Before, Claim, IsEnding, SameCall, actor_in, at, ends_now, one_log, quiet, same_here, stays, work_ended}}}
use Rattle.sh_core_turns.{proofs.FreshNodes.{needs_land}, specs.Senses.{is_range, lacks_answer, of_image, of_read, strays, strays_beyond, strays_by}}
use Rattle.sh_core_turns.proofs.Standing.{learns, aim_key, gathered_as, hop_leads, is_lt, names_node, not_lt, whole_accepted, IsSeenLeaf, more_known, seen_leaf, seen_inner}

module _ (p : ConfigParts) (ok : IsSetting p) (words : List ℕ) (Has Now : ℕ → Actor → Type 0) (Out : ℕ → ℕ → ℕ → Type 0) (i : ℕ) (s : TreeState) (b : Before p words Has Out s) (a : Actor) (r : Registers) (aim : Aim) (top : Bool)
    (k : KeepsActor p s i (actor_in p i a r (Read aim top))) where
  abbrev ph : Phase
  ph = Read aim top

  abbrev Lands : Machine → Type 0
  Lands m = Moves Has i (becomes i (actor_in p i a r ph) s.log [] m) Now → Inv p words (s.log ++ []) Now Out

  abbrev LandsWell : (senseless : Bool) → Machine → Type 0
  LandsWell senseless m = (senseless ≡ false) × Lands m

  abbrev key : ℕ
  key = aimed_key r.call aim

  is_key : IsKey key
  is_key = aim_key p s i a.first a.point a.seen r.call r.reply aim k.work.duty k.work.seated.in_range k.work.fits.duty_is k.work.owes (search rules)

  -- to a READ of a node
  reads_on : (x : Registers) (t : Bool) → SameCall r x → x.rows ≡ r.rows → pending_aim i x.call x.reply aim ≡ pending_aim i r.call r.reply aim → IsOnWay p s a.first x.call x.reads aim t → Lands (at p i x (Read aim t))
  reads_on x t same rows pend way mv = quiet p ok words Has Now Out i s b a r ph (Read aim t) x k same record { duty_is = k.work.fits.duty_is; rows = gathered_as p s.log a.first r x aim same.call_is rows k.work.fits.rows; on_way = way } k.work.hands pend tt mv

  begins : (l n : ℕ) (t : Bool) → IsNamed s l n key → Reaches t (target aim) l → IsOnWay p s a.first r.call (reads_start n) aim t
  begins l n t named reach = record { level = l; named = named; reach = reach; left = omega (arith, node_size_is p); known = tt }

  -- to the lock of a node
  locks : (x : Registers) (n : ℕ) → SameCall r x → pending_aim i x.call x.reply aim ≡ pending_aim i r.call r.reply aim → takes_lock x.call aim ≡ true → IsThere s x.call aim n → Lands (at p i x (Draw aim n))
  locks x n same pend takes there mv = quiet p ok words Has Now Out i s b a r ph (Draw aim n) x k same record { duty_is = k.work.fits.duty_is; takes = takes; there = there } k.work.hands pend tt mv

  at_level : (l n t : ℕ) → l ≡ t → IsNamed s l n key → IsNamed s t n key
  at_level l n t e = subst (λ (z : ℕ). IsNamed s z n key) e

  -- ---- an image that was accepted
  module _ (reads : Reads) (level : ℕ) (named : IsNamed s level reads.node key) (reach : Reaches top (target aim) level) where
    abbrev x : Registers
    x = record r { reads = reads }

    abbrev hopped : Reads → Registers
    hopped now = record r { reads = now; tally = record r.tally { rights = up r.tally.rights } }

    abbrev M : Machine
    M = at p i x ph

    same : SameCall r x
    same = record { call_is = refl; reply_is = refl; spare_is = refl; skips_are = refl; cached_is = refl }

    goes_right : (image : Image) (next : ℕ) (t : Bool) → IsImageOf s level named.low image → IsNamed s level next key → target aim ≤ level → (takes_lock r.call aim && (level_of image == target aim)) ≡ t → Lands (went M aim image (if t then way.LockRight next else way.Right next))
    goes_right image next true img right le q mv =
        let here : level_of image ≡ target aim = grind (arith, nat_tests) in
        let takes : takes_lock r.call aim ≡ true = grind arith in
        locks (hopped reads) next record { call_is = refl; reply_is = refl; spare_is = refl; skips_are = refl; cached_is = refl } refl takes (at_level level next (target aim) (sym img.level_is ∙ here) right) mv
    goes_right image next false img right le q mv = reads_on (hopped (reads_start next)) false record { call_is = refl; reply_is = refl; spare_is = refl; skips_are = refl; cached_is = refl } refl refl (begins level next false right le) mv

    goes_down : (image : Image) (below child : ℕ) (t : Bool) → IsImageOf s level named.low image → level ≡ suc below → IsNamed s below child key → target aim ≤ below → (takes_lock r.call aim && (level_of image == target aim + 1)) ≡ t → Lands (went M aim image (if t then way.Lock child else way.Read child))
    goes_down image below child true img up down le q mv =
        let here : level_of image ≡ target aim + 1 = grind (arith, nat_tests) in
        let takes : takes_lock r.call aim ≡ true = grind arith in
        locks x child same refl takes (at_level below child (target aim) (omega (arith, up, img.level_is, here)) down) mv
    goes_down image below child false img up down le q mv = reads_on (record r { reads = reads_start child }) false record { call_is = refl; reply_is = refl; spare_is = refl; skips_are = refl; cached_is = refl } refl refl (begins below child false down le) mv

    -- what a leaf was seen to hold; an inner node isn't of level 0
    abbrev Holds : Image → Type 0
    Holds (LeafImage leaf) = IsSeenLeaf s a.first level named.low leaf
    Holds (InnerImage node) = 1 ≤ node.level

    -- a get is answered
    abbrev ended : (c : Call) → Option (List ℕ) → Done
    ended c had = record { n = a.number; seat = i; call = c; reply = reply_with had; first = a.first; point = point_of s.log a.first a.point c (reply_with had); rows = rows_for c r.rows }

    get_ends : (q : ℕ) (had : Option (List ℕ)) → HadSince s.log a.first q had → IsEnding s.log i (length s.log) (ended (call.Get q) had)
    get_ends q (Some v) at = let l = least_is s.log a.first q (Some v) at.0 at.1 at.2 at.3 in record { answered = record { seat_is = refl; answers = record { within = l.within; row = l.here }; least = l; rows = refl }; from = l.from; past = omega (arith, l.within) }
    get_ends q None at = let l = least_is s.log a.first q None at.0 at.1 at.2 at.3 in record { answered = record { seat_is = refl; answers = record { within = l.within; row = l.here }; least = l; rows = refl }; from = l.from; past = omega (arith, l.within) }

    finds : (q : ℕ) (leaf : Leaf) → r.call ≡ call.Get q → aim ≡ Own → key < leaf.high → IsSeenLeaf s a.first level named.low leaf → Lands (to (answering M (leaf_answer leaf.entries (call_key r.call))) Ended)
    finds q leaf e own lt seen mv =
        let key_at : key ≡ call_key r.call = ap (λ (z : Aim). aimed_key r.call z) own in
        let is : call_key r.call ≡ q = ap call_key e in
        let had : Option (List ℕ) = held leaf.entries (call_key r.call) in
        let nz : q ≢ 0 = λ z. omega (arith, z, is, key_at, is_key.0) in
        let at_key : HadSince s.log a.first q had = subst (λ (z : ℕ). HadSince s.log a.first q (held leaf.entries z)) (sym is) (seen.holds q nz (omega (arith, named.below, key_at, is)) (omega (arith, lt, key_at, is))) in
        let end = subst (λ (c : Call). IsEnding s.log i (length s.log) (ended c had)) (sym e) (get_ends q had at_key) in
        let now : Registers = record r { reads = reads; reply = reply_with had } in
        one_log p ok words Has Now Out i s b words s refl
        (stays p ok words Has Now Out i s b (ending i (actor_in p i a r ph) s.log (at p i now Ended))
        (ends_now p s s i (actor_in p i a r ph) (at p i now Ended) s.log k refl (λ server. omega arith) (omega arith) k.seen
        (work_ended p s s i a.first a.point a.seen (length s.log) r ph k.work (same_here s) k.seen now refl refl refl refl (k.work.fits.duty_is ∙ ap duty_of own) k.work.hands) end.answered (subst (λ (c : Call). HasCause p s.counter s.log a.first (point_of s.log a.first a.point c (reply_with had)) (rows_for c r.rows) c (reply_with had)) (sym e) tt) end.from end.past
        (ap (λ (z : Aim). pending_aim i r.call r.reply z) own ∙ sym (ap (λ (c : Call). entries_by i c (reply_with had)) e)) refl) tt mv)

    -- ---- a range takes the leaf's rows
    module _ (place low high : ℕ) (leaf : Leaf) (e : r.call ≡ call.Range low high) (own : aim ≡ Gathers place) (gone : HasGathered p s.log a.first (call.Range low high) r.rows place) (img : IsImageOf s 0 named.low (LeafImage leaf))
        (seen : IsSeenLeaf s a.first level named.low leaf) (from : named.low ≤ place) (lt : place < leaf.high) where
      abbrev edge : Edge
      edge = record { high = leaf.high; next = leaf.next }

      abbrev rows : (end : ℕ) → List Row
      rows end = r.rows ++ taken leaf.entries (end_in leaf.high end) (p.rows - length r.rows) place

      abbrev took : (end : ℕ) → Registers
      took end = record r { reads = reads; rows = rows end }

      in_range : IsInRange p (call.Range low high)
      in_range = subst (IsInRange p) e k.work.seated.in_range

      behind : IsBehind s.log a.first gone.low leaf.high high p.rows (rows high)
      behind =
          let end : high ≡ gone.high = ap end_of gone.call_is in
          leaf_behind s.log a.first gone.low place leaf.high high p.rows leaf.entries r.rows gone.gathered (omega (arith, lt)) (omega (arith, end, gone.within)) gone.left
          (λ q above below. seen.holds q (λ z. omega (arith, z, above, gone.place_is.0)) (omega (arith, from, above)) (omega (arith, below, end_within_leaf leaf.high high)))

      -- the buffer is full, or the leaf reaches to the end
      whole_is : is_whole p.rows high leaf.high (rows high) ≡ true → (high ≤ leaf.high) ⊎ (p.rows ≤ length (rows high))
      whole_is t = elim (cases_lt leaf.high high) [
        | inl less ↦ inr (grind (arith, nat_tests, less, t))
        | inr past ↦ inl past
      ]

      part_is : is_whole p.rows high leaf.high (rows high) ≡ false → (leaf.high < high) × (length (rows high) ≢ p.rows)
      part_is t = (grind (arith, nat_tests), grind (arith, nat_tests))

      answered_range : (upto : ℕ) → (low ≤ upto) × (upto ≤ high) × AnswersRange s.log a.first (length s.log) low upto (rows high) → IsEnding s.log i (length s.log) (record { n = a.number; seat = i; call = call.Range low high; reply = reply.Rows upto; first = a.first; point = length s.log; rows = rows high })
      answered_range upto h = record { answered = record { seat_is = refl; answers = record { within = omega arith; row = h }; least = tt; rows = tt }; from = omega (arith, k.first, k.seen); past = omega arith }

      ends : is_whole p.rows high leaf.high (rows high) ≡ true → Lands (to (answering (at p i (took high) ph) (reply.Rows (upto_of p.rows high (rows high)))) Ended)
      ends t mv =
          let upto : ℕ = upto_of p.rows high (rows high) in
          let low_is : gone.low ≡ low = sym (ap call_key gone.call_is) in
          let done = done_answers s.log a.first gone.low high p.rows (rows high) (behind.done (whole_is t)) in
          let answer = subst (λ (z : ℕ). (z ≤ upto) × (upto ≤ high) × AnswersRange s.log a.first (length s.log) z upto (rows high)) low_is done in
          let abbrev_done : Call → Done = λ (c : Call). record { n = a.number; seat = i; call = c; reply = reply.Rows upto; first = a.first; point = point_of s.log a.first a.point c (reply.Rows upto); rows = rows_for c (rows high) } in
          let end = subst (λ (c : Call). IsEnding s.log i (length s.log) (abbrev_done c)) (sym e) (answered_range upto answer) in
          let now : Registers = record r { reads = reads; rows = rows high; reply = reply.Rows upto } in
          one_log p ok words Has Now Out i s b words s refl
          (stays p ok words Has Now Out i s b (ending i (actor_in p i a r ph) s.log (at p i now Ended))
          (ends_now p s s i (actor_in p i a r ph) (at p i now Ended) s.log k refl (λ server. omega arith) (omega arith) k.seen
          (work_ended p s s i a.first a.point a.seen (length s.log) r ph k.work (same_here s) k.seen now refl refl refl refl (k.work.fits.duty_is ∙ ap duty_of own) k.work.hands) end.answered
          (subst (λ (c : Call). HasCause p s.counter s.log a.first (point_of s.log a.first a.point c (reply.Rows upto)) (rows_for c (rows high)) c (reply.Rows upto)) (sym e) (ends_by_rows p high (rows high) behind.few)) end.from end.past
          (ap (λ (z : Aim). pending_aim i r.call r.reply z) own ∙ sym (ap (λ (c : Call). entries_by i c (reply.Rows upto)) e)) refl) tt mv)

      passes_on : is_whole p.rows high leaf.high (rows high) ≡ false → LandsWell (not (is_node p leaf.next)) (passing (at p i (took high) ph) edge)
      passes_on t =
          let part = part_is t in
          let past : leaf.high < 2 ^ 64 - 1 = omega (arith, part.0, in_range.2) in
          let next = right_named s 0 named.low leaf.high 0 (LeafImage leaf) img (omega (arith, from, lt)) leaf.next past (hop_past leaf img) in
          subst (λ (t : Bool). LandsWell (not t) (if t then reading (at p i (took high) ph) leaf.next (Read (Gathers leaf.high) false) else to (at p i (took high) ph) (Root (Gathers leaf.high)))) (sym (names_node p words s b.ground 0 leaf.next leaf.high next)) (
            refl,
            λ mv. quiet p ok words Has Now Out i s b a r ph (Read (Gathers leaf.high) false) (record r { reads = reads_start leaf.next; rows = rows high }) k record { call_is = refl; reply_is = refl; spare_is = refl; skips_are = refl; cached_is = refl } record {
              duty_is = k.work.fits.duty_is ∙ ap duty_of own;
              rows = record { low = gone.low; high = high; call_is = e ∙ ap (λ (z : ℕ). call.Range z high) (ap call_key gone.call_is); place_is = (omega (arith, lt), past); within = omega (arith, part.0); left = omega (arith, part.1, behind.few); gathered = behind.on part.0 (omega (arith, part.1, behind.few)) };
              on_way = record { level = 0; named = next; reach = omega arith; left = omega (arith, node_size_is p); known = tt };
            } k.work.hands (sym (ap (pending_aim i r.call r.reply) own)) tt mv,
          )
        where
          hop_past : (leaf : Leaf) → IsImageOf s 0 named.low (LeafImage leaf) → hop_of (LeafImage leaf) leaf.high 0 ≡ Right leaf.next
          hop_past leaf img = grind (arith, nat_tests, img.fences, img.low_is)

      at_end : (whole : Bool) → is_whole p.rows high leaf.high (rows high) ≡ whole → LandsWell (if whole then false else not (is_node p leaf.next)) (if whole then to (answering (at p i (took high) ph) (reply.Rows (upto_of p.rows high (rows high)))) Ended else passing (at p i (took high) ph) edge)
      at_end true t = (refl, ends t)
      at_end false t = passes_on t

      gathers : LandsWell (strays_beyond p r.call r.rows place leaf) (rows_taken M (Gathers place) (LeafImage leaf))
      gathers = subst (λ (end : ℕ). LandsWell (if is_whole p.rows end leaf.high (rows end) then false else not (is_node p leaf.next)) (if is_whole p.rows end leaf.high (rows end) then to (answering (at p i (took end) ph) (reply.Rows (upto_of p.rows end (rows end)))) Ended else passing (at p i (took end) ph) edge)) (sym (ap end_of e)) (at_end (is_whole p.rows high leaf.high (rows high)) refl)

    -- ---- a node that covers the key

    no_range : (c : Call) → r.call ≡ c → aim ≡ Own → is_range c ≡ false
    no_range c e own =
        let point : aim_of c ≡ Own = ap aim_of (sym e) ∙ subst (λ (z : Aim). Gathered p s.log a.first r.call r.rows z) own k.work.fits.rows in
        by c point
      where
        by : (c : Call) → aim_of c ≡ Own → is_range c ≡ false
        by (call.Get q) h = refl
        by (call.Put q v) h = refl
        by (call.Del q) h = refl
        by (call.Range low high) h = cc

    goes_here : (c : Call) (goal : Aim) (image : Image) → r.call ≡ c → aim ≡ goal → level ≡ target aim → level ≡ target goal → key < high_of image → IsImageOf s level named.low image → Holds image → LandsWell (lacks_answer p r.call r.rows goal image) (went M aim image (way_here c goal reads.node image))
    goes_here c (Posts post) (LeafImage leaf) e own here there lt img seen = (refl, locks x reads.node same refl (ap (takes_lock r.call) own) (at_level level reads.node (target aim) here named))
    goes_here c (Posts post) (InnerImage node) e own here there lt img seen = (refl, locks x reads.node same refl (ap (takes_lock r.call) own) (at_level level reads.node (target aim) here named))
    goes_here c (Gathers place) (InnerImage node) e own here there lt img seen = absurd (omega (arith, img.level_is, there, seen))
    goes_here c (Gathers place) (LeafImage leaf) e own here there lt img seen =
        let gone = subst (λ (z : Aim). Gathered p s.log a.first r.call r.rows z) own k.work.fits.rows in
        let key_at : key ≡ place = ap (λ (z : Aim). aimed_key r.call z) own in
        subst (λ (z : Aim). LandsWell (strays_beyond p r.call r.rows place leaf) (rows_taken M z (LeafImage leaf))) (sym own)
        (gathers place gone.low gone.high leaf gone.call_is own (subst (λ (z : Call). HasGathered p s.log a.first z r.rows place) gone.call_is gone) (subst (λ (l : ℕ). IsImageOf s l named.low (LeafImage leaf)) there img) seen (omega (arith, named.below, key_at)) (omega (arith, lt, key_at)))
    goes_here (call.Get q) Own (LeafImage leaf) e own here there lt img seen = (no_range r.call refl own, finds q leaf e own lt seen)
    goes_here (call.Get q) Own (InnerImage node) e own here there lt img seen = absurd (omega (arith, img.level_is, there, seen))
    goes_here (call.Put q v) Own (LeafImage leaf) e own here there lt img seen = (no_range r.call refl own, locks x reads.node same refl (ap (takes_lock r.call) own ∙ ap (λ (c : Call). takes_lock c Own) e) (at_level level reads.node (target aim) here named))
    goes_here (call.Put q v) Own (InnerImage node) e own here there lt img seen = absurd (omega (arith, img.level_is, there, seen))
    goes_here (call.Del q) Own (LeafImage leaf) e own here there lt img seen = (no_range r.call refl own, locks x reads.node same refl (ap (takes_lock r.call) own ∙ ap (λ (c : Call). takes_lock c Own) e) (at_level level reads.node (target aim) here named))
    goes_here (call.Del q) Own (InnerImage node) e own here there lt img seen = absurd (omega (arith, img.level_is, there, seen))
    goes_here (call.Range low high) Own image e own here there lt img seen = absurd (let z = no_range (call.Range low high) e own in cc)

    -- a hop leads to a node
    abbrev Leads : Image → Hop → Type 0
    Leads image hop = LandsWell (strays_by p r.call r.rows aim image hop) (went M aim image (way_by p r.call aim reads.node image hop))

    by_hop : (image : Image) (hop : Hop) → hop_of image key (target aim) ≡ hop → IsImageOf s level named.low image → Holds image → target aim ≤ level → Leads image hop
    by_hop image Here e img seen le =
        let z = hop_leads s level named.low key (target aim) image img named.below is_key.1 le Here e in
        goes_here r.call aim image refl refl z.0 z.0 z.1 img seen
    by_hop image (Right next) e img seen le =
        let right = hop_leads s level named.low key (target aim) image img named.below is_key.1 le (Right next) e in
        subst (λ (t : Bool). LandsWell (not t) (went M aim image (if t then (if takes_lock r.call aim && (level_of image == target aim) then way.LockRight next else way.Right next) else way.Root))) (sym (names_node p words s b.ground level next key right))
        (refl, goes_right image next (takes_lock r.call aim && (level_of image == target aim)) img right le refl)
    by_hop image (Down child) e img seen le =
        let down = hop_leads s level named.low key (target aim) image img named.below is_key.1 le (Down child) e in
        subst (λ (t : Bool). LandsWell (not t) (went M aim image (if t then (if takes_lock r.call aim && (level_of image == target aim + 1) then way.Lock child else way.Read child) else way.Root))) (sym (names_node p words s b.ground down.0 child key down.2))
        (refl, goes_down image down.0 child (takes_lock r.call aim && (level_of image == target aim + 1)) img down.1 down.2 down.3 refl)
    by_hop image Restart e img seen le = absurd (hop_leads s level named.low key (target aim) image img named.below is_key.1 le Restart e)

    -- a new root goes over it
    goes_up : (image : Image) (goal : Aim) → aim ≡ goal → IsImageOf s level named.low image → is_below goal image ≡ true → Lands (root_grown M goal reads.node)
    goes_up image Own own img e = cc
    goes_up image (Gathers place) own img e = cc
    goes_up image (Posts post) own img e =
        let up : level_of image + 1 ≡ post.level = sym (eqb-true post.level (level_of image + 1) e) in
        let below : IsBelow s post reads.node k.work.duty = record { duty_is = k.work.fits.duty_is ∙ ap duty_of own; below = level; level = omega (arith, up, img.level_is); named = subst (λ (z : Aim). IsNamed s level reads.node (aimed_key r.call z)) own named } in
        needs_land p ok words Has Now Out i s b a r ph k reads ph (ToGrow post reads.node) below k.work.hands (sym (ap (pending_aim i r.call r.reply) own))

    leads : (image : Image) → IsImageOf s level named.low image → Holds image → LandsWell (strays p r.call r.rows aim top image) (went M aim image (way_of p r.call aim top reads.node image))
    leads image img seen = by (top && is_below aim image) refl
      where
        both : (x y : Bool) → (x && y) ≡ true → y ≡ true
        both true y q = q
        both false y q = cc

        by : (t : Bool) → (top && is_below aim image) ≡ t → LandsWell (if t then false else strays_by p r.call r.rows aim image (hop_of image key (target aim))) (went M aim image (if t then way.Grow else way_by p r.call aim reads.node image (hop_of image key (target aim))))
        by true e = (refl, goes_up image aim refl img (both top (is_below aim image) e))
        by false e = by_hop image (hop_of image key (target aim)) refl img seen (search (rules, nat_tests))

-- ---- a word is loaded
module _ (p : ConfigParts) (ok : IsSetting p) (words : List ℕ) (Has Now : ℕ → Actor → Type 0) (Out : ℕ → ℕ → ℕ → Type 0) (i : ℕ) (s : TreeState) (b : Before p words Has Out s) (a : Actor) (r : Registers) (aim : Aim) (top : Bool)
    (k : KeepsActor p s i (actor_in p i a r (Read aim top))) where
  abbrev Leading : (senseless : Bool) → Machine → Type 0
  Leading senseless m = LandsWell p ok words Has Now Out i s b a r aim top k senseless m

  abbrev ws : List ℕ
  ws = get_or words (node_word p r.reads.node + (node_size p - 1 - length r.reads.loaded)) 0 ∷ r.reads.loaded

  abbrev rd : Reads
  rd = reads_with r.reads.node ws

  abbrev with : Reads → Machine
  with reads = at p i (record r { reads = reads }) (Read aim top)

  abbrev on_way : IsOnWay p s a.first r.call r.reads aim top
  on_way = k.work.fits.on_way

  known : HasRead p s a.first on_way.level r.reads.node ws
  known = more_known p ok words s b.ground a.first r.reads.node on_way.named.low on_way.level r.reads.loaded on_way.named.linked (omega (arith, k.first, k.seen)) on_way.left on_way.known

  last_word : length ws ≡ node_size p → get_or ws 0 0 ≡ get_or words (node_word p r.reads.node + 0) 0
  last_word long = let none : node_size p - 1 - length r.reads.loaded ≡ 0 = omega (arith, long) in ap (λ (o : ℕ). get_or words (node_word p r.reads.node + o) 0) none

  abbrev stray : Image → Bool
  stray image = strays p r.call r.rows aim top image

  -- what it comes to, by what the words of the node are seen to be
  abbrev Comes : Seen → Type 0
  Comes v = Leading (of_read false (of_image stray (accepted p (reads_left v rd))) (answer_to v)) (read_by (with (reads_left v rd)) aim top (answer_to v))

  accepts : (image : Image) → accepted p rd ≡ Some image → IsImageOf s on_way.level on_way.named.low image → Holds p ok words Has Now Out i s b a r aim top k rd on_way.level on_way.named on_way.reach image → Leading (of_image stray (accepted p rd)) (arrived (with rd) aim top (accepted p rd))
  accepts image is img seen = subst (λ (o : Option Image). Leading (of_image stray o) (arrived (with rd) aim top o)) (sym is)
      (leads p ok words Has Now Out i s b a (image_kept p.cached aim image (settled aim image r)) aim top (learns p s i a r aim top k on_way.level on_way.named.low image img) rd on_way.level on_way.named on_way.reach image img seen)

  again : Lands p ok words Has Now Out i s b a r aim top k (at p i (record r { reads = reads_start r.reads.node; tally = record r.tally { again = up r.tally.again } }) (Read aim top))
  again = reads_on p ok words Has Now Out i s b a r aim top k (record r { reads = reads_start r.reads.node; tally = record r.tally { again = up r.tally.again } }) top record { call_is = refl; reply_is = refl; spare_is = refl; skips_are = refl; cached_is = refl } refl refl (begins p ok words Has Now Out i s b a r aim top k on_way.level r.reads.node top on_way.named on_way.reach)

  comes : (v : Seen) → seen_of p ws ≡ v → nat_lt (length ws) (node_size p) ≡ false → (long : length ws ≡ node_size p) → SeenBy p ws v → Comes v
  comes (LeafSeen leaf) e some long sp =
      let z = seen_leaf p ok words s b.ground a.first r.reads.node on_way.named.low ws long (last_word long) on_way.level leaf on_way.named.linked known sp in
      accepts (LeafImage leaf) (whole_accepted p r.reads.node ws (LeafImage leaf) some (ap image_in e)) z.image z
  comes (InnerSeen node) e some long sp =
      let z = seen_inner p ok words s b.ground a.first r.reads.node on_way.named.low ws long (last_word long) on_way.level node on_way.named.linked known sp in
      accepts (InnerImage node) (whole_accepted p r.reads.node ws (InnerImage node) some (ap image_in e)) z sp.lawful.level.0
  comes (Torn rear front) e some long sp = (refl, again)
  comes (TornEntry index rear front) e some long sp = (refl, again)
  comes OddSeen e some long sp = absurd (fed_node p ok words s b.ground r.reads.node on_way.level on_way.named.low a.first ws on_way.named.linked long known (last_word long) sp)

  abbrev Feeds : Bool → Type 0
  Feeds t = Leading (of_read false (of_image stray (accepted p (if t then rd else reads_left (seen_of p ws) rd))) (if t then More else answer_to (seen_of p ws))) (read_by (with (if t then rd else reads_left (seen_of p ws) rd)) aim top (if t then More else answer_to (seen_of p ws)))

  loads : (t : Bool) → nat_lt (length ws) (node_size p) ≡ t → Feeds t
  loads true e = (refl, reads_on p ok words Has Now Out i s b a r aim top k (record r { reads = rd }) top record { call_is = refl; reply_is = refl; spare_is = refl; skips_are = refl; cached_is = refl } refl refl record { level = on_way.level; named = on_way.named; reach = on_way.reach; left = is_lt (length ws) (node_size p) e; known = known })
  loads false e =
      let le = not_lt (length ws) (node_size p) e in
      let long : length ws ≡ node_size p = omega (arith, le, on_way.left) in
      comes (seen_of p ws) refl e long (judged_by p ws ok.ranged.value_words.0 long)

  pub way_read : Feeds (nat_lt (length ws) (node_size p))
  way_read = loads (nat_lt (length ws) (node_size p)) refl

pub read_claim : (p : ConfigParts) (ok : IsSetting p) (words : List ℕ) (Has Now : ℕ → Actor → Type 0) (Out : ℕ → ℕ → ℕ → Type 0) (i : ℕ) (s : TreeState) (b : Before p words Has Out s) (a : Actor) (r : Registers) (aim : Aim) (top : Bool)
    → Claim p ok words Has Now Out i s b a r (Read aim top) (Load (node_word p r.reads.node + (node_size p - 1 - length r.reads.loaded)))
read_claim p ok words Has Now Out i s b a r aim top h = (way_read p ok words Has Now Out i s b a r aim top (b.kept i (actor_in p i a r (Read aim top)) h)).1
