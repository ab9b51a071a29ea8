-- The stores of a WRITE, one by one, and the last one.
use Rattle.std.proofs.Common.{rules, ◌≡◌, ◌≢◌, ℕ, zero, suc, ◌+◌, ◌<◌, ◌≤◌, List, [], ◌∷◌, ◌++◌, length, get_or, set, Option, refl, sym, ap, ◌∙◌, subst, arith, length-append, Bool, true, false, Some, None}
use Rattle.std.proofs.{Common.{⊎_elim, append-nil, eqb-true}, Math.Seq.{get_or-append_seam}, lemmas.{Bool.Decides.{nat_tests}, List.{ext_get_or}, Option.{slice_get-get_or}}}
use Rattle.std.specs.Prelude.{◌^◌, ◌-◌, ◌==◌, if◌then◌else◌, slice_get}
use Rattle.sh_base.{proofs.LayoutLemmas.{node_size_is, rear_at_low}, specs.{Layout.{lock_of, node_word, entry_at, rear_at}, Setting.{node_size, IsSetting}, declared.config.ConfigParts.{ConfigParts}}}
use Rattle.sh_base.specs.declared.event.Event.TheVariants.{Store}
use Rattle.sh_map.specs.{declared.log.Entry.{Entry as LogEntry}, Log.{change_key}, Made.{entries_by}}
use Rattle.sh_image.{proofs.UntornLemmas.{untorn_spelled, untorn_inner}, specs.{Entries.{entry_words}, Inner.{Inner, IsInner, inner_in, inner_words}, Leaf.{Leaf, IsLeaf, leaf_in, leaf_words}}}
use Rattle.sh_image.specs.declared.{inner.Pair.{Pair}, leaf.LeafEntry.{LeafEntry}}
use Rattle.sh_edit.proofs.{HalvesLemmas.{left_lawful, right_lawful, separator_within}, RiseLemmas.{with_lawful, left_inner_lawful, right_inner_lawful, middle_within}}
use Rattle.sh_edit.specs.{Pairing.{with_pair, left_inner, right_inner, middle_of}, Splitting.{left_half, right_half, separator_of}}
use Rattle.sh_read.specs.Moments.{Writing, Idle as NoWrite, Whole, One, IsVersioned, IsWriting}
use Rattle.sh_state.{proofs.{Puts.{put_here, put_else, put_case}, Scenes.{linked_is}, Spelled.{leaf_long, inner_long}}, specs.{Change.{Change}, Ground.{Ground}}}
use Rattle.sh_state.specs.{Nodes.{Orderly, IsLinked, standing_entries}, TreeState.{Fresh, Linked, LockState, Writes, TreeState, Class, ParentLink, Posted, Pending, Skipped, Seat, Held, put}}
use Rattle.sh_acts.{proofs.{Ends.{is_new, bound_of, entry_end, rewritten_end, leaf_split_end, pair_end, inner_split_end}, Holds.{writer_held, writer_writes, go_act}}, specs.Acts.{with_hold, ended}}
use Rattle.sh_acts.{proofs.StoreLemmas.{whole_begins, whole_goes, one_begins, one_goes}, specs.{Images.{patched}, Stores.{GoesOn}}}
use Rattle.sh_decide.specs.{declared.state.{Posting.{Posting}, Aim.TheVariants.{Posts}}, Aims.{post_of}}
use Rattle.sh_client.specs.{Giving.{released, counted, entries_of as entries_made}, Machine.{Registers, Machine, to}, Splitting.{giving_of}, Wants.{offset_of}, declared.state.Giving.{Giving}}
use Rattle.sh_client.specs.declared.state.{Phase.{TheVariants.{Body, Unlock, Leave}, Phase}, Tally.{Tally}, Then.{TheVariants.{Ends, Starts}, Then}, Write.{Write}}
use Rattle.sh_client.specs.declared.state.Write.TheVariants.{Nothing, Entry, Leaf as WholeLeaf, LeftLeaf, Inner as WholeInner, LeftInner}
use Rattle.sh_core.proofs.{Causes.{causes_on}, Frame.{next, actor_in, at, advance, hands_keep, same_call, same_grows, same_hold, Before, goes_on, same_here, skips_on, moves_to, Claim}}
use Rattle.sh_core.{proofs.{Logs.{made_by-append, made_by_here, answered_longer}, Others.{StaysUnder, plans_on, entry_on}}, specs.{Actors.{Actor, becomes, made_by, updates}, Core.{Inv, Moves}}}
use Rattle.sh_core.specs.Fits.{Plans, PlansInner, PlansLeftInner, PlansLeftLeaf, storing_hold, write_of, AreSpares, Fits, Follows, HasEntry, FillsFresh, IsHolding, IsStoring, Owes}
use Rattle.sh_core.specs.Keeps.{holding, pending, pending_then, skips_counted, Hands, Waits, Skips, IsAtWork, KeepsActor}
use Rattle.sh_readers.proofs.RowLemmas.{rows_linked}
use Rattle.sh_core_turns.proofs.Posts.{decided_by_entry, skips_kept, waits_no_more}

-- ---- the images that are planned obey the rules of nodes

module _ (p : ConfigParts) (ok : IsSetting p) (words : List ℕ) (s : TreeState) (g : Ground p words s) (seat n : ℕ) where
  -- both halves of a leaf, and where the right one begins
  pub record AreLeafHalves (key : ℕ) (value : List ℕ) (fresh : ℕ) : Type 0 where
    pub left : IsLeaf p (left_half (leaf_in p (s.node n)) key value fresh)
    pub right : IsLeaf p (right_half (leaf_in p (s.node n)) key value)
    pub some : 0 < separator_of (leaf_in p (s.node n)).entries key value
    pub past : separator_of (leaf_in p (s.node n)).entries key value < 2 ^ 64 - 1

  pub leaf_halves : (made : List LogEntry) (body ready : List ℕ) (fresh : ℕ) (duty : Option Posting) (after : Then) (h : PlansLeftLeaf p s seat made body ready n fresh duty after) → s.class fresh ≡ Fresh seat → AreLeafHalves h.key h.value fresh
  leaf_halves made body ready fresh duty after h is =
      let x : Leaf = leaf_in p (s.node n) in
      let old = g.sits n 0 h.update.low h.update.fits.linked in
      let own = g.own fresh seat is in
      let f = h.update.fits in
      let c = h.cut in
      let lo : x.low ≤ h.key = omega (arith, f.from, ap change_key h.put_is) in
      let hi : h.key < x.high = omega (arith, f.below, ap change_key h.put_is) in
      let high_word : x.high < 2 ^ 64 = omega (arith, old.past) in
      let lawful = old.body.spells.lawful in
      let within = separator_within p x h.key h.value fresh lawful c.full.some c.full.lacks c.full.full c.full.once lo c.full.is_key hi h.long in
      record {
        left = left_lawful p x h.key h.value fresh lawful c.full.some c.full.lacks c.full.full c.full.once lo c.full.is_key hi h.long c.room own.first own.last high_word;
        right = right_lawful p x h.key h.value fresh lawful c.full.some c.full.lacks c.full.full c.full.once lo c.full.is_key hi h.long;
        some = omega (arith, within.0);
        past = omega (arith, within.1, old.past);
      }

  -- an inner node with a pair more, and both halves of one
  pub inner_with : (body : List ℕ) (duty : Option Posting) (after : Then) (h : PlansInner p s seat body n duty after) → IsInner p (with_pair (inner_in (s.node n)) h.plan.pair)
  inner_with body duty after h =
      let y = h.plan.pair in
      let of = h.plan.fits in
      let new = is_new p words s g seat n y.child h.plan.level h.plan.low y.separator of.linked of.child of.mine in
      let child = (g.sits y.child h.plan.level y.separator of.child).real in
      with_lawful p (inner_in (s.node n)) y (g.sits n (suc h.plan.level) h.plan.low of.linked).body.spells.lawful h.add.space new of.from of.below (child.first, child.last) h.add.room

  pub record AreInnerHalves (pair : Pair) (fresh : ℕ) : Type 0 where
    pub left : IsInner p (left_inner p.leaf (inner_in (s.node n)) pair fresh)
    pub right : IsInner p (right_inner p.leaf (inner_in (s.node n)) pair)
    pub some : 0 < middle_of p.leaf (inner_in (s.node n)).pairs pair
    pub past : middle_of p.leaf (inner_in (s.node n)).pairs pair < 2 ^ 64 - 1

  pub inner_halves : (body ready : List ℕ) (fresh : ℕ) (duty : Option Posting) (after : Then) (h : PlansLeftInner p s seat body ready n fresh duty after) → s.class fresh ≡ Fresh seat → AreInnerHalves h.plan.pair fresh
  inner_halves body ready fresh duty after h is =
      let x : Inner = inner_in (s.node n) in
      let y = h.plan.pair in
      let of = h.plan.fits in
      let old = g.sits n (suc h.plan.level) h.plan.low of.linked in
      let own = g.own fresh seat is in
      let new = is_new p words s g seat n y.child h.plan.level h.plan.low y.separator of.linked of.child of.mine in
      let child = (g.sits y.child h.plan.level y.separator of.child).real in
      let lawful = old.body.spells.lawful in
      let within = middle_within p x y lawful h.cut.full new of.from of.below in
      record {
        left = left_inner_lawful p x y lawful h.cut.full new of.from of.below fresh (child.first, child.last) h.cut.room own.first own.last (omega (arith, old.past));
        right = right_inner_lawful p x y lawful h.cut.full new of.from of.below (child.first, child.last);
        some = omega (arith, within.0);
        past = omega (arith, within.1, old.past);
      }

-- ---- what is to be stored into a linked node, each store of which begins its WRITE or goes on with it

pub record IsStorable (p : ConfigParts) (s : TreeState) (n offset : ℕ) (w : ℕ → Writing) (body : List ℕ) : Type 0 where
  pub level : ℕ
  pub low : ℕ
  pub linked : s.class n ≡ Linked level low
  pub first : 1 < length body → GoesOn p level (s.node n) NoWrite (w 1) (offset + 0) (get_or body 0 0)
  pub more : (done : ℕ) → IsWriting p level (s.node n) (w done) → done + 1 < length body → GoesOn p level (s.node n) (w done) (w (done + 1)) (offset + done) (get_or body done 0)

module _ (p : ConfigParts) (ok : IsSetting p) (s : TreeState) (n : ℕ) (body : List ℕ) where
  whole_storable : (level low : ℕ) → s.class n ≡ Linked level low → IsVersioned p level body → get_or (s.node n) 0 0 < get_or body 0 0 → length body ≡ node_size p → IsStorable p s n 0 (λ done. Whole body done) body
  whole_storable level low linked v rises long = record {
    level = level;
    low = low;
    linked = linked;
    first = λ lt. whole_begins p level (s.node n) body v rises;
    more = λ done w lt. let same : done ≡ 0 + done = omega arith in
        subst (λ (o : ℕ). GoesOn p level (s.node n) (Whole body done) (Whole body (done + 1)) o (get_or body done 0)) same (whole_goes p level (s.node n) body done w (omega (arith, lt, long, node_size_is p)));
  }

  -- what an image's rules and its greater version give
  leaf_storable : (low : ℕ) → s.class n ≡ Linked 0 low → (x : Leaf) → IsLeaf p x → body ≡ leaf_words x → get_or (s.node n) 0 0 < x.version → IsStorable p s n 0 (λ done. Whole body done) body
  leaf_storable low linked x h is rises = search (rules, untorn_spelled, whole_storable, leaf_long)

  inner_storable : (level low : ℕ) → s.class n ≡ Linked (suc level) low → (x : Inner) → IsInner p x → body ≡ inner_words p x → get_or (s.node n) 0 0 < x.version → IsStorable p s n 0 (λ done. Whole body done) body
  inner_storable level low linked x h is rises = search (rules, untorn_inner, whole_storable, inner_long)

  entry_storable : (low : ℕ) → s.class n ≡ Linked 0 low → (index : ℕ) → index < p.leaf → (x : LeafEntry) → length x.value ≡ p.value_words → body ≡ entry_words x → get_or (s.node n) (entry_at p index) 0 < x.version → IsStorable p s n (entry_at p index) (λ done. One index body done) body
  entry_storable low linked index below x long is rises =
      let up : 2 + p.value_words ≡ suc (suc p.value_words) = omega arith in
      let rear : get_or (entry_words x) (2 + p.value_words) 0 ≡ x.version = ap (λ (z : ℕ). get_or (entry_words x) z 0) up ∙ ap (λ (z : ℕ). get_or (x.value ++ x.version ∷ []) z 0) (sym long) ∙ get_or-append_seam x.value x.version [] 0 in
      let all : length (entry_words x) ≡ 3 + p.value_words = omega (arith, length-append x.value (x.version ∷ []), long) in
      let P : List ℕ → Type 0 = λ ws. (get_or (s.node n) (entry_at p index) 0 < get_or ws 0 0) × (get_or ws (2 + p.value_words) 0 ≡ get_or ws 0 0) × (length ws ≡ 3 + p.value_words) in
      let z : P body = subst P (sym is) (rises, rear, all) in
      let none : entry_at p index ≡ entry_at p index + 0 = omega arith in
      record {
        level = 0;
        low = low;
        linked = linked;
        first = λ lt. subst (λ (o : ℕ). GoesOn p 0 (s.node n) NoWrite (One index body 1) o (get_or body 0 0)) none (one_begins p 0 (s.node n) body index refl below z.0 z.1);
        more = λ done w lt. one_goes p 0 (s.node n) body index done w (omega (arith, lt, z.2));
      }

module _ (p : ConfigParts) (ok : IsSetting p) (words : List ℕ) (s : TreeState) (g : Ground p words s) (seat f q e : ℕ) (r : Registers) (n : ℕ) (after : Then) (duty : Option Posting) where
  planned_storable : (write : Write) → write ≢ Nothing → Plans p s seat f q e r n write after duty → IsStorable p s n (offset_of p write) (λ done. write_of write r.body done) r.body
  planned_storable Nothing ne h = absurd (ne refl)
  planned_storable (Entry index) ne h = let c = h.change in entry_storable p ok s n r.body h.update.low h.update.fits.linked index c.index_is c.x c.rules.value c.body_is c.rises
  planned_storable WholeLeaf ne h = let c = h.change in leaf_storable p ok s n r.body h.update.low h.update.fits.linked c.image c.rules c.body_is c.rises
  planned_storable LeftLeaf ne h =
      let k = h.half in
      leaf_storable p ok s n r.body k.update.low k.update.fits.linked (left_half (leaf_in p (s.node n)) k.key k.value h.fresh) (leaf_halves p ok words s g seat n _ r.body r.fresh_words h.fresh duty after k h.filled.own).left k.cut.body_is (omega arith)
  planned_storable WholeInner ne h = inner_storable p ok s n r.body h.plan.level h.plan.low h.plan.fits.linked (with_pair (inner_in (s.node n)) h.plan.pair) (inner_with p ok words s g seat n r.body duty after h) h.add.body_is (omega arith)
  planned_storable LeftInner ne h =
      let k = h.half in
      inner_storable p ok s n r.body k.plan.level k.plan.low k.plan.fits.linked (left_inner p.leaf (inner_in (s.node n)) k.plan.pair h.fresh) (inner_halves p ok words s g seat n r.body r.fresh_words h.fresh duty after k h.filled.own).left k.cut.body_is (omega arith)

-- ---- a store that isn't the last

-- behind the first store a WRITE is under way
pub storing_at : (seat d n : ℕ) (write : Write) (body : List ℕ) (done k : ℕ) → done ≡ k → 0 < k → storing_hold seat d n write body done ≡ Writes seat d n (write_of write body k)
storing_at seat d n write body done k e lt = search rules

module _ (p : ConfigParts) (words : List ℕ) (s : TreeState) (g : Ground p words s) (seat n d : ℕ) (write : Write) (body : List ℕ) (st : IsStorable p s n (offset_of p write) (λ done. write_of write body done) body) where
  store_act : (done : ℕ) → s.hold (lock_of p n) ≡ storing_hold seat d n write body done → done + 1 < length body
      → let t : TreeState = with_hold s (lock_of p n) (Writes seat d n (write_of write body (done + 1))) in Change p seat s t × Ground p (set words (node_word p n + (offset_of p write + done)) (get_or body done 0)) t
  store_act zero e lt =
      let bound = subst (Orderly p s (lock_of p n)) e (g.orderly (lock_of p n)) in
      go_act p words s g seat d n st.level st.low NoWrite (write_of write body (0 + 1)) (offset_of p write + 0) (get_or body 0 0) st.linked (writer_held p (s.hold (lock_of p n)) seat d n e) bound (st.first (omega (arith, lt)))
  store_act (suc done) e lt =
      let w : Writing = write_of write body (suc done) in
      let order = subst (Orderly p s (lock_of p n)) e (g.orderly (lock_of p n)) in
      let u = order.1 in
      let same = linked_is u.level u.low st.level st.low (sym u.linked ∙ st.linked) in
      let under : IsWriting p st.level (s.node n) w = subst (λ (z : ℕ). IsWriting p z (s.node n) w) same.0 u.stores in
      go_act p words s g seat d n st.level st.low w (write_of write body (suc done + 1)) (offset_of p write + suc done) (get_or body (suc done) 0) st.linked (writer_writes p (s.hold (lock_of p n)) seat d n w e) order.0 (st.more (suc done) under lt)

module _ (p : ConfigParts) (ok : IsSetting p) (words : List ℕ) (Has Now : ℕ → Actor → Type 0) (Out : ℕ → ℕ → ℕ → Type 0) (seat : ℕ) (s : TreeState) (b : Before p words Has Out s) (a : Actor) (r : Registers) where
  pub store_more : (carry : Option ℕ) (done : ℕ) (giving : Giving) → done + 1 ≢ length r.body → Has seat (actor_in p seat a r (Body carry done giving)) → Moves Has seat (next a (length s.log) (at p seat r (Body carry (done + 1) giving))) Now
      → Inv p (set words (node_word p giving.node + (offset_of p giving.write + done)) (get_or r.body done 0)) (s.log ++ []) Now Out
  store_more carry done giving off h mv =
      let n : ℕ = giving.node in
      let write : Write = giving.write in
      let k = b.kept seat (actor_in p seat a r (Body carry done giving)) h in
      let u = k.work.fits.storing in
      let lt : done + 1 < length r.body = omega (arith, u.left, off) in
      let x : LockState = Writes seat u.depth n (write_of write r.body (done + 1)) in
      let t : TreeState = with_hold s (lock_of p n) x in
      let st = planned_storable p ok words s b.ground seat a.first a.point a.seen r n giving.after k.work.duty write u.some k.work.fits.plans in
      let same = same_hold s (lock_of p n) x in
      let stays : StaysUnder s t seat n = record { linked = λ y l c q. q; pends = λ y q. q; node = λ l c q. refl; map = λ c key q nz lo hi. refl } in
      advance p ok words Has Now Out seat s b a r (set words (node_word p n + (offset_of p write + done)) (get_or r.body done 0)) t (Body carry done giving) (Body carry (done + 1) giving) r k same
      (store_act p words s b.ground seat n u.depth write r.body st done u.held lt) (λ server. refl) (same_call r) record {
        storing = record { real = u.real; some = u.some; depth = u.depth; held = put_here s.hold (lock_of p n) x ∙ sym (storing_at seat u.depth n write r.body (done + 1) (done + 1) refl (omega arith)); carries = u.carries; left = lt };
        plans = plans_on p s t seat n stays a.first a.point a.seen (length s.log) (same_grows s t seat a.seen (length s.log) same k.seen) r write giving.after k.work.duty k.seen (λ fresh z. record { own = z.own; under = z.under; words = z.words }) k.work.fits.plans;
      } (hands_keep s seat (lock_of p n) x k.work.hands) refl tt mv

-- ---- the last store of a body under its node's lock, and the turn of each store of one

-- ---- behind the last store

-- the lock is given back next
abbrev pub release : ℕ → Option ℕ → Then → Phase
release n None after = Unlock n after
release n (Some depth) after = Leave n (Some depth) after

release_holding : (p : ConfigParts) (r : Registers) (n : ℕ) (carry : Option ℕ) (after : Then) → holding p r (release n carry after) ≡ Some (lock_of p n)
release_holding p r n carry after = search rules

release_pending : (seat : ℕ) (r : Registers) (n : ℕ) (carry : Option ℕ) (after : Then) → pending seat r (release n carry after) ≡ pending_then seat r.call r.reply after
release_pending seat r n carry after = search rules

release_fits : (p : ConfigParts) (t : TreeState) (seat f q e : ℕ) (r : Registers) (duty : Option Posting) (n : ℕ) (carry : Option ℕ) (after : Then) → IsHolding p t seat n carry → Follows p t seat f q e r.call r.reply duty after → Fits p t seat f q e r duty (release n carry after)
release_fits p t seat f q e r duty n carry after h w = search rules

-- the entry that came last
at_last : (log : List LogEntry) (e : LogEntry) → slice_get (log ++ e ∷ []) (length log) ≡ Some e
at_last log e = slice_get-get_or (log ++ e ∷ []) (length log) e (omega (arith, length-append log (e ∷ []))) ∙ ap Some (get_or-append_seam log e [] e)

module _ (p : ConfigParts) (words : List ℕ) (s : TreeState) (g : Ground p words s) (seat d n : ℕ) where
  -- the act of a last store, from what it is to the planned words
  last_act : (write : Write) (last place : ℕ) (body ws : List ℕ) (done : ℕ) (t : TreeState) → done + 1 ≡ length body → body ≡ ws → length ws ≡ last + 1 → 0 < last → offset_of p write + last ≡ place → s.hold (lock_of p n) ≡ storing_hold seat d n write body done
      → (s.hold (lock_of p n) ≡ Writes seat d n (write_of write ws last) → d ≤ p.bound → Change p seat s t × Ground p (set words (node_word p n + place) (get_or ws last 0)) t)
      → Change p seat s t × Ground p (set words (node_word p n + (offset_of p write + done)) (get_or body done 0)) t
  last_act write last place body ws done t all is long some at held act = search (rules, storing_at, bound_of)

  -- of a whole node
  whole_act : (write : Write) (body ws : List ℕ) (done : ℕ) (t : TreeState) → offset_of p write ≡ 0 → done + 1 ≡ length body → body ≡ ws → length ws ≡ node_size p → s.hold (lock_of p n) ≡ storing_hold seat d n write body done
      → (s.hold (lock_of p n) ≡ Writes seat d n (write_of write ws (rear_at p)) → d ≤ p.bound → Change p seat s t × Ground p (set words (node_word p n + rear_at p) (get_or ws (rear_at p) 0)) t)
      → Change p seat s t × Ground p (set words (node_word p n + (offset_of p write + done)) (get_or body done 0)) t
  whole_act write body ws done t none all is long held act = last_act write (rear_at p) (rear_at p) body ws done t all is (omega (arith, long, node_size_is p)) (omega (arith, rear_at_low p)) (omega (arith, none)) held act

  -- an own node that is filled has these words
  filled_is : (r : Registers) (fresh : ℕ) (ws : List ℕ) → FillsFresh s seat r.spare r.fresh_words fresh (node_size p) → r.fresh_words ≡ ws → length ws ≡ node_size p → s.node fresh ≡ ws
  filled_is r fresh ws h is long = let all : length r.fresh_words ≡ node_size p = ap length is ∙ long in ext_get_or 0 (s.node fresh) r.fresh_words (g.long fresh ∙ sym all) (λ o lt. h.words o (omega (arith, lt, g.long fresh))) ∙ is

  -- nobody has skipped it
  not_skipped : (fresh : ℕ) → s.class fresh ≡ Fresh seat → s.post fresh ≢ Skipped seat
  not_skipped fresh own q = let posted : s.post fresh ≡ Posted = ⊎_elim (λ (y : IsLinked (s.class fresh)). absurd (subst IsLinked own y)) (λ y. y) (g.outside fresh) in let z : Posted ≡ Skipped seat = sym posted ∙ q in cc

module _ (p : ConfigParts) (ok : IsSetting p) (words : List ℕ) (Has Now : ℕ → Actor → Type 0) (Out : ℕ → ℕ → ℕ → Type 0) (seat : ℕ) (s : TreeState) (b : Before p words Has Out s) (a : Actor) (r : Registers) where
  abbrev N : ℕ
  N = length s.log

  -- the actor that has made its entry
  abbrev maker : Machine → Actor
  maker m = record a { client = m; seen = N + 1; point = N }

  module _ (carry : Option ℕ) (done : ℕ) (giving : Giving) (h : Has seat (actor_in p seat a r (Body carry done giving))) where
    abbrev ph : Phase
    ph = Body carry done giving

    abbrev K : KeepsActor p s seat (actor_in p seat a r ph)
    K = b.kept seat (actor_in p seat a r ph) h

    abbrev u : IsStoring p s seat r.body giving.node carry done giving.write
    u = K.work.fits.storing

    abbrev t : (image : List ℕ) (class : ℕ → Class) (post : ℕ → ParentLink) → List LogEntry → TreeState
    t image class post es = ended p s giving.node seat u.depth image class post es

    -- the client afterwards, which has counted the store
    abbrev x : Tally → Machine
    x tally = at p seat (record r { tally = tally }) (release giving.node carry giving.after)

    released_work : (tally : Tally) (image : List ℕ) (class : ℕ → Class) (post : ℕ → ParentLink) (es : List LogEntry) (q e : ℕ) (duty : Option Posting) → let z : TreeState = t image class post es in
        ((n l a : ℕ) → s.class n ≡ Linked l a → class n ≡ Linked l a) → Follows p z seat a.first q e r.call r.reply duty giving.after → Owes z seat a.first q e r.call r.reply duty → Waits z seat duty → AreSpares z seat r.spare → Skips z seat (skips_counted tally) → IsAtWork p z seat a.first q e (x tally)
    released_work tally image class post es q e duty linked follows owes waits spares skips =
        let z : TreeState = t image class post es in
        let l : ℕ = lock_of p giving.node in
        let y : LockState = Held (Seat seat) u.depth in
        record {
          seated = K.work.seated;
          duty = duty;
          fits = release_fits p z seat a.first q e (record r { tally = tally }) duty giving.node carry giving.after record { real = u.real; depth = u.depth; held = put_here s.hold l y; carries = u.carries } follows;
          owes = owes;
          hands = subst (Hands z seat) (sym (release_holding p (record r { tally = tally }) giving.node carry giving.after)) (λ k ne o. hands_keep s seat l y K.work.hands k ne o);
          waits = waits;
          spares = spares;
          cached = rows_linked p s z linked r.cached K.work.cached;
          skips = skips;
        }

    -- ---- where an entry is made

    -- the call's entry stands at its point
    entry_here : (entry : LogEntry) → entries_by seat r.call r.reply ≡ entry ∷ [] → HasEntry (s.log ++ entry ∷ []) seat a.first N (N + 1) r.call r.reply
    entry_here entry is = record { entry = entry; is = is; stands = at_last s.log entry; from = omega (arith, K.first, K.seen); below = omega arith }

    makes_entry : (tally : Tally) (now image : List ℕ) (class : ℕ → Class) (post : ℕ → ParentLink) (entry : LogEntry) → let z : TreeState = t image class post (entry ∷ []) in
        entries_by seat r.call r.reply ≡ entry ∷ [] → entry.seat ≡ seat → Change p seat s z × Ground p now z → IsAtWork p z seat a.first N (N + 1) (x tally) → pending seat r ph ≡ [] → pending_then seat r.call r.reply giving.after ≡ entries_by seat r.call r.reply
        → Moves Has seat (maker (x tally)) Now → Inv p now (s.log ++ entries_by seat r.call r.reply) Now Out
    makes_entry tally now image class post entry is by ch work was follow mv =
        let z : TreeState = t image class post (entry ∷ []) in
        let here = release_pending seat (record r { tally = tally }) giving.node carry giving.after ∙ follow ∙ is in
        subst (λ (es : List LogEntry). Inv p now (s.log ++ es) Now Out) (sym is)
        (moves_to p ok words Has Now Out seat s b now z (maker (x tally)) ch record {
          work = work;
          seen = omega (arith, length-append s.log (entry ∷ []));
          first = omega (arith, K.first, K.seen);
          answered = answered_longer seat a.dones s.log (entry ∷ []) K.answered;
          causes = causes_on p s.counter s.counter (λ server lt. omega arith) s.log (entry ∷ []) z.log refl seat a.dones K.answered K.causes;
          ordered = K.ordered;
          mine = made_by-append seat s.log (entry ∷ []) ∙ ap (λ (es : List LogEntry). made_by seat s.log ++ es) (made_by_here seat entry by) ∙ ap (λ (es : List LogEntry). es ++ entry ∷ []) (K.mine ∙ ap (λ (es : List LogEntry). updates a.dones ++ es) was ∙ append-nil (updates a.dones)) ∙ ap (λ (es : List LogEntry). updates a.dones ++ es) (sym here);
        } (λ server. refl) (search rules) mv)

    -- a leaf was written over, by one entry or whole
    over_work : (tally : Tally) (image : List ℕ) (entry : LogEntry) → entries_by seat r.call r.reply ≡ entry ∷ [] → skips_counted tally ≡ skips_counted r.tally → giving.after ≡ Ends → K.work.duty ≡ None → IsAtWork p (t image s.class s.post (entry ∷ [])) seat a.first N (N + 1) (x tally)
    over_work tally image entry is sum ends none =
        let z : TreeState = t image s.class s.post (entry ∷ []) in
        released_work tally image s.class s.post (entry ∷ []) N (N + 1) None (λ n l a q. q)
        (subst (Follows p z seat a.first N (N + 1) r.call r.reply None) (sym ends) record { none = refl; decided = decided_by_entry p z seat a.first N (N + 1) r.call r.reply (entry_here entry is) }) tt
        (subst (Waits s seat) none K.work.waits) K.work.spares (skips_on s z seat (skips_counted r.tally) (skips_counted tally) (λ y. refl) sum K.work.skips)

    -- ---- where none is made

    -- the entry of the call that posts, seen now
    entry_now : (post : Posting) → K.work.duty ≡ Some post → HasEntry (s.log ++ []) seat a.first a.point N r.call r.reply
    entry_now post is =
        let w = subst (Owes s seat a.first a.point a.seen r.call r.reply) is K.work.owes in
        subst (λ (es : List LogEntry). HasEntry es seat a.first a.point N r.call r.reply) (sym (append-nil s.log)) (entry_on p s s seat a.first a.point a.seen N (same_grows s s seat a.seen N (same_here s) K.seen) r.call r.reply w.entry)

    goes_released : (tally : Tally) (now image : List ℕ) (class : ℕ → Class) (post : ℕ → ParentLink) → let z : TreeState = t image class post [] in
        Change p seat s z × Ground p now z → IsAtWork p z seat a.first a.point N (x tally) → pending_then seat r.call r.reply giving.after ≡ pending seat r ph → Moves Has seat (next a N (x tally)) Now → Inv p now (s.log ++ []) Now Out
    goes_released tally now image class post ch work follow mv =
        let z : TreeState = t image class post [] in
        moves_to p ok words Has Now Out seat s b now z (next a N (x tally)) ch
        (goes_on p s z seat N (actor_in p seat a r ph) (x tally) K (append-nil s.log) (λ server. omega arith) K.seen (omega arith) work (release_pending seat (record r { tally = tally }) giving.node carry giving.after ∙ follow))
        (λ server. refl) (search rules) mv

    -- ---- a left half: its right one is hung in, and the seat is to post it
    half_work : (tally : Tally) (image : List ℕ) (links : ℕ → ParentLink) (below separator fresh : ℕ) (es : List LogEntry) (q e : ℕ) → let z : TreeState = t image (put s.class fresh (Linked below separator)) (put links fresh (Pending seat)) es in
        FillsFresh s seat r.spare r.fresh_words fresh (node_size p) → giving.after ≡ Starts (Posts (post_of separator fresh (suc below))) → 0 < separator → separator < 2 ^ 64 - 1 → HasEntry z.log seat a.first q e r.call r.reply
        → ((n : ℕ) → links n ≢ Pending seat) → links fresh ≢ Skipped seat → Skips (record s { post = links }) seat (skips_counted r.tally) → skips_counted tally ≡ skips_counted r.tally → IsAtWork p z seat a.first q e (x tally)
    half_work tally image links below separator fresh es q e f after some past entry waits off skips sum =
        let post : Posting = post_of separator fresh (suc below) in
        let class : ℕ → Class = put s.class fresh (Linked below separator) in
        let z : TreeState = t image class (put links fresh (Pending seat)) es in
        let mid : TreeState = record s { post = links } in
        released_work tally image class (put links fresh (Pending seat)) es q e (Some post)
        (λ n l a w. put_else s.class fresh (Linked below separator) n (λ (u : n ≡ fresh). let v : Fresh seat ≡ Linked l a = sym f.own ∙ sym (ap s.class u) ∙ w in cc) ∙ w)
        (subst (Follows p z seat a.first q e r.call r.reply (Some post)) (sym after) record { duty_is = refl; takes = refl })
        record { below = below; level = refl; linked = put_here s.class fresh (Linked below separator); some = some; past = past; mine = put_here links fresh (Pending seat); entry = entry }
        (λ n ne w. waits n (sym (put_else links fresh (Pending seat) n ne) ∙ w))
        (λ n is. put_else s.class fresh (Linked below separator) n (λ w. omega (arith, w, is.0, f.under)) ∙ K.work.spares n is)
        (subst (Skips z seat) (sym sum) (skips_kept mid z seat (skips_counted r.tally) fresh (Pending seat) (λ n. refl) off (λ q. cc) skips))

  -- ---- by what is stored

  module _ (n : ℕ) (carry : Option ℕ) (done : ℕ) (all : done + 1 ≡ length r.body) (after : Then) where
    -- the words are stored, the lock is given back next, and where the entry comes into the log the actor has made it
    abbrev now : Write → List ℕ
    now write = set words (node_word p n + (offset_of p write + done)) (get_or r.body done 0)

    abbrev after_it : Write → Machine
    after_it write = let m : Machine = at p seat r (Body carry done (giving_of n write after)) in to (counted m write) (release n carry after)

    abbrev Had : Write → Type 0
    Had write = Has seat (actor_in p seat a r (Body carry done (giving_of n write after)))

    abbrev k : (write : Write) → Had write → KeepsActor p s seat (actor_in p seat a r (Body carry done (giving_of n write after)))
    k write h = K carry done (giving_of n write after) h

    abbrev d : (write : Write) → Had write → ℕ
    d write h = (k write h).work.fits.storing.depth

    -- an update's entry, or its rewritten leaf
    entry_last : (index : ℕ) → Had (Entry index) → Moves Has seat (maker (after_it (Entry index))) Now → Inv p (now (Entry index)) (s.log ++ entries_by seat r.call r.reply) Now Out
    entry_last index h mv =
        let g : Giving = giving_of n (Entry index) after in
        let f = (k (Entry index) h).work.fits.plans in
        let w = f.update in
        let z = f.change in
        let v = w.fits in
        let some : 0 < 2 + p.value_words = omega arith in
        let long : length (entry_words z.x) ≡ (2 + p.value_words) + 1 = omega (arith, length-append z.x.value (z.x.version ∷ []), z.rules.value) in
        let image : List ℕ = patched (s.node n) (entry_at p index) (entry_words z.x) in
        let act = last_act p words s b.ground seat (d (Entry index) h) n (Entry index) (2 + p.value_words) (entry_at p index + (2 + p.value_words)) r.body (entry_words z.x) done (t carry done g h image s.class s.post (w.entry ∷ [])) all z.body_is long some refl (k (Entry index) h).work.fits.storing.held
        (λ hold bound. entry_end p words s b.ground seat (d (Entry index) h) n w.low w.entry v.linked bound v.by v.fits v.key v.from v.below index z.x z.index_is hold z.rules z.once z.change) in
        makes_entry carry done g h r.tally (now (Entry index)) image s.class s.post w.entry w.made_is v.by act (over_work carry done g h r.tally image w.entry w.made_is refl f.ends w.none) refl (ap (pending_then seat r.call r.reply) f.ends) mv

    leaf_last : Had WholeLeaf → Moves Has seat (maker (after_it WholeLeaf)) Now → Inv p (now WholeLeaf) (s.log ++ entries_by seat r.call r.reply) Now Out
    leaf_last h mv =
        let g : Giving = giving_of n WholeLeaf after in
        let f = (k WholeLeaf h).work.fits.plans in
        let w = f.update in
        let z = f.change in
        let v = w.fits in
        let tally : Tally = (after_it WholeLeaf).registers.tally in
        let image : List ℕ = leaf_words z.image in
        let act = whole_act p words s b.ground seat (d WholeLeaf h) n WholeLeaf r.body image done (t carry done g h image s.class s.post (w.entry ∷ [])) refl all z.body_is (leaf_long p z.image z.rules) (k WholeLeaf h).work.fits.storing.held
        (λ hold bound. rewritten_end p words s b.ground seat (d WholeLeaf h) n w.low w.entry v.linked bound v.by v.fits v.key v.from v.below z.image hold z.rules z.low_is z.high_is z.next_is z.once z.change) in
        makes_entry carry done g h tally (now WholeLeaf) image s.class s.post w.entry w.made_is v.by act (over_work carry done g h tally image w.entry w.made_is refl f.ends w.none) refl (ap (pending_then seat r.call r.reply) f.ends) mv

    -- the left half of a leaf
    left_leaf_last : Had LeftLeaf → Moves Has seat (maker (after_it LeftLeaf)) Now → Inv p (now LeftLeaf) (s.log ++ entries_by seat r.call r.reply) Now Out
    left_leaf_last h mv =
        let g : Giving = giving_of n LeftLeaf after in
        let f = (k LeftLeaf h).work.fits.plans in
        let w = f.half.update in
        let z = f.half in
        let c = z.cut in
        let v = w.fits in
        let leaf : Leaf = leaf_in p (s.node n) in
        let sep : ℕ = separator_of (standing_entries p (s.node n)) z.key z.value in
        let tally : Tally = (after_it LeftLeaf).registers.tally in
        let halves = leaf_halves p ok words s b.ground seat n (entries_by seat r.call r.reply) r.body r.fresh_words f.fresh (k LeftLeaf h).work.duty after z f.filled.own in
        let left : Leaf = left_half leaf z.key z.value f.fresh in
        let right : Leaf = right_half leaf z.key z.value in
        let right_is : s.node f.fresh ≡ leaf_words right = filled_is p words s b.ground seat (d LeftLeaf h) n r f.fresh (leaf_words right) f.filled c.ready_is (leaf_long p right halves.right) in
        let class : ℕ → Class = put s.class f.fresh (Linked 0 sep) in
        let post : ℕ → ParentLink = put s.post f.fresh (Pending seat) in
        let act = whole_act p words s b.ground seat (d LeftLeaf h) n LeftLeaf r.body (leaf_words left) done (t carry done g h (leaf_words left) class post (w.entry ∷ [])) refl all c.body_is (leaf_long p left halves.left) (k LeftLeaf h).work.fits.storing.held
        (λ hold bound. leaf_split_end p words s b.ground seat (d LeftLeaf h) n w.low w.entry v.linked bound v.by v.fits v.key v.from v.below leaf refl z.key z.value f.fresh z.put_is hold f.filled.own right_is c.full z.long c.room) in
        makes_entry carry done g h tally (now LeftLeaf) (leaf_words left) class post w.entry w.made_is v.by act
        (half_work carry done g h tally (leaf_words left) s.post 0 sep f.fresh (w.entry ∷ []) N (N + 1) f.filled c.after_is halves.some halves.past (entry_here carry done g h w.entry w.made_is) (subst (Waits s seat) w.none (k LeftLeaf h).work.waits) (not_skipped p words s b.ground seat (d LeftLeaf h) n f.fresh f.filled.own) (k LeftLeaf h).work.skips refl)
        refl (ap (pending_then seat r.call r.reply) c.after_is) mv

    -- an inner node with a pair more, which posts its child
    inner_last : Had WholeInner → Moves Has seat (next a N (after_it WholeInner)) Now → Inv p (now WholeInner) (s.log ++ []) Now Out
    inner_last h mv =
        let g : Giving = giving_of n WholeInner after in
        let f = (k WholeInner h).work.fits.plans in
        let y = f.plan.pair in
        let of = f.plan.fits in
        let post : Posting = post_of y.separator y.child (suc f.plan.level) in
        let node : Inner = inner_in (s.node n) in
        let image : List ℕ = inner_words p (with_pair node y) in
        let links : ℕ → ParentLink = put s.post y.child Posted in
        let z : TreeState = t carry done g h image s.class links [] in
        let act = whole_act p words s b.ground seat (d WholeInner h) n WholeInner r.body image done z refl all f.add.body_is (inner_long p (with_pair node y) ok.ranged.value_words.0 (inner_with p ok words s b.ground seat n r.body (k WholeInner h).work.duty after f)) (k WholeInner h).work.fits.storing.held
        (λ hold bound. pair_end p words s b.ground seat (d WholeInner h) n f.plan.level f.plan.low y ok of.linked bound of.child of.mine of.from of.below node refl hold f.add.space f.add.room) in
        let was_off : s.post y.child ≢ Skipped seat = λ q. let z : Pending seat ≡ Skipped seat = sym of.mine ∙ q in cc in
        let decided = decided_by_entry p z seat a.first a.point N r.call r.reply (entry_now carry done g h post f.plan.duty_is) in
        goes_released carry done g h r.tally (now WholeInner) image s.class links act
        (released_work carry done g h r.tally image s.class links [] a.point N None (λ n l a q. q) (subst (Follows p z seat a.first a.point N r.call r.reply None) (sym f.ends) record { none = refl; decided = decided }) tt
        (waits_no_more s seat post Posted (λ q. cc) (subst (Waits s seat) f.plan.duty_is (k WholeInner h).work.waits)) (k WholeInner h).work.spares (skips_kept s z seat (skips_counted r.tally) y.child Posted (λ n. refl) was_off (λ q. cc) (k WholeInner h).work.skips))
        (ap (pending_then seat r.call r.reply) f.ends) mv

    -- the left half of an inner node, which posts that child and is to be posted itself
    left_inner_last : Had LeftInner → Moves Has seat (next a N (after_it LeftInner)) Now → Inv p (now LeftInner) (s.log ++ []) Now Out
    left_inner_last h mv =
        let g : Giving = giving_of n LeftInner after in
        let f = (k LeftInner h).work.fits.plans in
        let c = f.half.cut in
        let l : ℕ = f.half.plan.level in
        let y = f.half.plan.pair in
        let of = f.half.plan.fits in
        let was : Posting = post_of y.separator y.child (suc l) in
        let node : Inner = inner_in (s.node n) in
        let sep : ℕ = middle_of p.leaf node.pairs y in
        let tally : Tally = (after_it LeftInner).registers.tally in
        let halves = inner_halves p ok words s b.ground seat n r.body r.fresh_words f.fresh (k LeftInner h).work.duty after f.half f.filled.own in
        let left : List ℕ = inner_words p (left_inner p.leaf node y f.fresh) in
        let right : List ℕ = inner_words p (right_inner p.leaf node y) in
        let right_is : s.node f.fresh ≡ right = filled_is p words s b.ground seat (d LeftInner h) n r f.fresh right f.filled c.ready_is (inner_long p (right_inner p.leaf node y) ok.ranged.value_words.0 halves.right) in
        let links : ℕ → ParentLink = put s.post y.child Posted in
        let class : ℕ → Class = put s.class f.fresh (Linked (suc l) sep) in
        let post : ℕ → ParentLink = put links f.fresh (Pending seat) in
        let mid : TreeState = record s { post = links } in
        let act = whole_act p words s b.ground seat (d LeftInner h) n LeftInner r.body left done (t carry done g h left class post []) refl all c.body_is (inner_long p (left_inner p.leaf node y f.fresh) ok.ranged.value_words.0 halves.left) (k LeftInner h).work.fits.storing.held
        (λ hold bound. inner_split_end p words s b.ground seat (d LeftInner h) n l f.half.plan.low y ok of.linked bound of.child of.mine of.from of.below node refl f.fresh hold f.filled.own right_is c.full c.room) in
        let off : links f.fresh ≢ Skipped seat = put_case (λ v. v ≢ Skipped seat) s.post y.child Posted f.fresh (λ e q. cc) (λ ne. not_skipped p words s b.ground seat (d LeftInner h) n f.fresh f.filled.own) in
        let was_off : s.post y.child ≢ Skipped seat = λ q. let z : Pending seat ≡ Skipped seat = sym of.mine ∙ q in cc in
        goes_released carry done g h tally (now LeftInner) left class post act
        (half_work carry done g h tally left links (suc l) sep f.fresh [] a.point N f.filled c.after_is halves.some halves.past (entry_now carry done g h was f.half.plan.duty_is)
        (waits_no_more s seat was Posted (λ q. cc) (subst (Waits s seat) f.half.plan.duty_is (k LeftInner h).work.waits)) off (skips_kept s mid seat (skips_counted r.tally) y.child Posted (λ n. refl) was_off (λ q. cc) (k LeftInner h).work.skips) refl)
        (ap (pending_then seat r.call r.reply) c.after_is) mv

  -- ---- each store of a body

  bodies : (n : ℕ) (carry : Option ℕ) (done : ℕ) (write : Write) (after : Then) (t : Bool) → (done + 1 == length r.body) ≡ t → let ph : Phase = Body carry done (giving_of n write after) in let m : Machine = at p seat r ph in Has seat (actor_in p seat a r ph)
      → Moves Has seat (becomes seat (actor_in p seat a r ph) s.log (if t then entries_made m write else []) (if t then released (counted m write) n carry after else to m (Body carry (done + 1) (giving_of n write after)))) Now
      → Inv p (set words (node_word p n + (offset_of p write + done)) (get_or r.body done 0)) (s.log ++ (if t then entries_made m write else [])) Now Out
  bodies n carry done write after false e h mv =
      let off : done + 1 ≢ length r.body = grind (arith, nat_tests) in
      store_more p ok words Has Now Out seat s b a r carry done (giving_of n write after) off h mv
  bodies n carry done Nothing after true e h mv = absurd ((K carry done (giving_of n Nothing after) h).work.fits.storing.some refl)
  bodies n carry done (Entry index) after true e h mv = entry_last n carry done (eqb-true (done + 1) (length r.body) e) after index h (search (rules, actor_in))
  bodies n carry done WholeLeaf after true e h mv = leaf_last n carry done (eqb-true (done + 1) (length r.body) e) after h (search (rules, actor_in))
  bodies n carry done LeftLeaf after true e h mv = left_leaf_last n carry done (eqb-true (done + 1) (length r.body) e) after h (search (rules, actor_in))
  bodies n carry done WholeInner after true e h mv = inner_last n carry done (eqb-true (done + 1) (length r.body) e) after h (search rules)
  bodies n carry done LeftInner after true e h mv = left_inner_last n carry done (eqb-true (done + 1) (length r.body) e) after h (search rules)

  pub body : (carry : Option ℕ) (done : ℕ) (giving : Giving) → Claim p ok words Has Now Out seat s b a r (Body carry done giving) (Store (node_word p giving.node + (offset_of p giving.write + done)) (get_or r.body done 0))
  body carry done giving h mv = bodies giving.node carry done giving.write giving.after (done + 1 == length r.body) refl h mv
