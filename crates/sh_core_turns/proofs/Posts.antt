-- Posts that a client owes: they're skipped, or a new root makes them.
use Rattle.std.proofs.Common.{rules, ◌≡◌, ◌≢◌, ℕ, ◌+◌, Bool, true, false, List, [], ◌∷◌, Some, refl, sym, ap, ◌∙◌, subst, inl, inr, arith, ◌<◌, length, None, append-nil, suc, ◌≤◌, ◌++◌, get_or, set}
use Rattle.std.{proofs.{Common.{eqb-true}, lemmas.{Bool.Decides.{nat_tests}, List.{ext_get_or}}}, specs.{List.{AllByRecursion}, Prelude.{◌-◌, ◌^◌, ◌==◌, ◌*◌, if◌then◌else◌}}}
use Rattle.sh_base.{proofs.LayoutLemmas.{nodes_small}, specs.{Layout.{lock_of, root_word}, Places.{Root as RootSite}, Setting.{IsNode, IsSetting, node_size}}}
use Rattle.sh_base.specs.declared.{config.ConfigParts.{ConfigParts}, event.Event.TheVariants.{Exchange}}
use Rattle.sh_map.specs.{declared.{call.{Call.{Call}, Reply.{Reply}}, log.Entry.{Entry as LogEntry}}, Made.{entries_by}}
use Rattle.sh_tree.{specs.Lists.{is_in}, proofs.ListLemmas.{in_head, in_more, in_cases, few_nodes}}
use Rattle.sh_state.{proofs.{Joins.{join_after}, Puts.{put_else, put_case}, Scenes.{linked_is}}, specs.{Change.{Change}, Ground.{Ground}, Nodes.{IsLinked}}}
use Rattle.sh_state.specs.TreeState.{ParentLink, Pending, Skipped, TreeState, put, Class, Linked, Posted, Seat, Held}
use Rattle.sh_acts.{specs.Acts.{skipped, grown}, proofs.Holds.{skip_act, root_act}}
use Rattle.sh_decide.specs.declared.state.{Posting.{Posting}, Aim.TheVariants.{Posts}}
use Rattle.sh_core.{proofs.{Causes.{decided_cause}, Others.{owes_on}}, specs.{Actors.{Actor, ending, becomes}, Core.{Inv, Moves}, Fits.{HasEntry, IsDecided, Owes, Fits}}}
use Rattle.sh_core.proofs.Frame.{next, actor_in, at, goes_on, ends_now, decided_ends, SameNodes, same_grows, skips_on, moves_to, one_log, quiet_with, same_here, Before, Claim}
use Rattle.sh_core.specs.Keeps.{Waits, Skips, holding, pending, skips_counted, Hands, IsAtWork, KeepsActor}
use Rattle.sh_readers.proofs.RowLemmas.{rows_linked}
use Rattle.sh_alloc.specs.{declared.state.Walk.{Walk}, Spares.{with_lowest}}
use Rattle.sh_read.specs.Reads.{Reads}
use Rattle.sh_client.specs.{Machine.{Registers, up}, Rests.{rows_for}, Splitting.{giving_of}, declared.state.{Phase.{TheVariants.{Waiting, Ended, Root, Swap}, Phase}, Tally.{Tally}}}
use Rattle.sh_client.specs.declared.state.{Then.TheVariants.{Ends}, Write.TheVariants.{Nothing}}
use mathlib.Core.Logic.{dite}
use native.Mathlib.Decide.{ℕ_discrete}
use Rattle.sh_image.{specs.Inner.{inner_words}, proofs.InnerLemmas.{length-inner_words}}
use Rattle.sh_edit.specs.Pairing.{root_over}

no_entry : (e : LogEntry) → [] ≡ e ∷ [] → ⊥
no_entry e q = cc

-- a call that has made its entry is answered by it
pub decided_by_entry : (p : ConfigParts) (s : TreeState) (seat f q e : ℕ) (c : Call) (r : Reply) → HasEntry s.log seat f q e c r → IsDecided p s seat f q e c r
decided_by_entry p s seat f q e c r h = search (rules, no_entry)

-- the post of one node changes, which wasn't skipped and isn't now
pub skips_kept : (s t : TreeState) (seat count c : ℕ) (x : ParentLink) → ((n : ℕ) → t.post n ≡ put s.post c x n) → s.post c ≢ Skipped seat → x ≢ Skipped seat → Skips s seat count → Skips t seat count
skips_kept s t seat count c x is was now h = search (rules, put_else, put_case)

-- one more is skipped
pub skips_more : (s : TreeState) (seat count c : ℕ) → s.post c ≢ Skipped seat → Skips s seat count → Skips (skipped s c seat) seat (count + 1)
skips_more s seat count c off h = record {
  nodes = c ∷ h.nodes;
  once = (search rules, h.once);
  are = λ n. (
    λ e. put_case (λ z. z ≡ Skipped seat) s.post c (Skipped seat) n (λ q. refl) (λ ne. elim (in_cases c n h.nodes e) [ inl q ↦ absurd (ne (sym q)) | inr rest ↦ (h.are n).0 rest ]),
    put_case (λ z. z ≡ Skipped seat → is_in (c ∷ h.nodes) n ≡ true) s.post c (Skipped seat) n (λ q e. subst (λ (m : ℕ). is_in (c ∷ h.nodes) m ≡ true) (sym q) (in_head c h.nodes)) (λ ne e. in_more c n h.nodes ((h.are n).1 e)),
  );
  counted = omega (arith, h.counted);
}

-- the one node that was to be posted isn't to be posted any more
pub waits_no_more : (s : TreeState) (seat : ℕ) (post : Posting) (x : ParentLink) → x ≢ Pending seat → Waits s seat (Some post) → (n : ℕ) → put s.post post.node x n ≢ Pending seat
waits_no_more s seat post x now w n = put_case (λ z. z ≢ Pending seat) s.post post.node x n (λ e. now) (λ ne. w n ne)

-- ---- a post is skipped: its node is one of those that the seat skipped, and the seat has none to post

-- a counter that isn't at its last value is counted on
counts_up : (x : ℕ) → x < 2 ^ 64 - 1 → up x ≡ x + 1
counts_up x lt = grind (arith, nat_tests)

module _ (p : ConfigParts) (ok : IsSetting p) (words : List ℕ) (s : TreeState) (g : Ground p words s) (seat : ℕ) where
  real : (n : ℕ) → s.post n ≡ Skipped seat → IsNode p n
  real n e = elim (g.outside n) [ inl h ↦ go (s.class n) refl h | inr h ↦ let z : Posted ≡ Skipped seat = sym h ∙ e in absurd (cc) ]
    where
      go : (c : Class) → s.class n ≡ c → IsLinked c → IsNode p n
      go (Linked l a) e h = (g.sits n l a e).real
      go c e h = absurd h

  all_real : (ns : List ℕ) → ((n : ℕ) → is_in ns n ≡ true → s.post n ≡ Skipped seat) → AllByRecursion (IsNode p) ns
  all_real [] h = tt
  all_real (n ∷ ns) h = (real n (h n (in_head n ns)), all_real ns (λ m e. h m (in_more n m ns e)))

  -- as many were skipped as there are nodes, at most
  few_skipped : (count : ℕ) → Skips s seat count → count < 2 ^ 64 - 1
  few_skipped count h = omega (arith, h.counted, few_nodes p h.nodes (all_real h.nodes (λ n. (h.are n).0)) h.once, (nodes_small p ok).1)

-- The client's part. The post is skipped in the scene u, which is of the same nodes, posts and log as the one before the turn.
module _ (p : ConfigParts) (ok : IsSetting p) (now : List ℕ) (s u : TreeState) (seat : ℕ) (a : Actor) (r : Registers) (ph : Phase) (k : KeepsActor p s seat (actor_in p seat a r ph)) (ch : Change p seat s u × Ground p now u) (same : SameNodes s u)
    (post : Posting) (duty : k.work.duty ≡ Some post) where
  abbrev N : ℕ
  N = length s.log

  abbrev t : TreeState
  t = skipped u post.node seat

  owed : Owes u seat a.first a.point N r.call r.reply (Some post)
  owed = subst (Owes u seat a.first a.point N r.call r.reply) duty (owes_on p s u seat a.first a.point a.seen N (same_grows s u seat a.seen N same k.seen) r.call r.reply k.work.duty k.work.owes)

  -- neither counter is at its last value
  here : Skips u seat (skips_counted r.tally)
  here = skips_on s u seat (skips_counted r.tally) (skips_counted r.tally) same.post refl k.work.skips

  few : skips_counted r.tally < 2 ^ 64 - 1
  few = few_skipped p ok now u ch.1 seat (skips_counted r.tally) here

  pub spent_more : up r.tally.skipped_spent + r.tally.skipped_worn ≡ skips_counted r.tally + 1
  spent_more = omega (arith, counts_up r.tally.skipped_spent (omega (arith, few)))

  pub worn_more : r.tally.skipped_spent + up r.tally.skipped_worn ≡ skips_counted r.tally + 1
  worn_more = omega (arith, counts_up r.tally.skipped_worn (omega (arith, few)))

  pub skips_act : Change p seat s t × Ground p now t
  skips_act =
      let act = skip_act p now u ch.1 seat post.node owed.below post.separator owed.linked owed.some owed.mine in
      (join_after p (λ o. o ≢ Seat seat) s u t ch.0 act.0 (λ n. refl) (λ n. refl), act.1)

  -- the client afterwards has counted it
  module _ (tally : Tally) (reads : Reads) (walk : Walk) (sum : skips_counted tally ≡ skips_counted r.tally + 1) where
    abbrev x : Registers
    x = record r { tally = tally; reads = reads; walk = walk }

    work_skipped : (first : ℕ) (to : Phase) → Fits p t seat first a.point N x None to → Hands u seat (holding p x to) → IsAtWork p t seat first a.point N (at p seat x to)
    work_skipped first to fits hands = record {
      seated = k.work.seated;
      duty = None;
      fits = fits;
      owes = tt;
      hands = hands;
      waits = waits_no_more u seat post (Skipped seat) (λ q. cc) (λ n ne c. subst (Waits s seat) duty k.work.waits n ne (sym (same.post n) ∙ c));
      spares = λ n is. same.class n ∙ k.work.spares n is;
      cached = rows_linked p s t (λ n l a q. same.class n ∙ q) r.cached k.work.cached;
      skips = subst (Skips t seat) (sym sum) (skips_more u seat (skips_counted r.tally) post.node (λ q. let z : Pending seat ≡ Skipped seat = sym owed.mine ∙ q in cc) here);
    }

    -- it gives its lock back, and then ends, answered by its entry
    pub keeps_skipped : (node depth : ℕ) → u.hold (lock_of p node) ≡ Held (Seat seat) depth → IsNode p node → Hands u seat (Some (lock_of p node)) → pending seat r ph ≡ entries_by seat r.call r.reply → KeepsActor p t seat (next a N (at p seat x (Waiting depth (giving_of node Nothing Ends))))
    keeps_skipped node depth held real hands was =
        let to : Phase = Waiting depth (giving_of node Nothing Ends) in
        let decided = decided_by_entry p t seat a.first a.point N r.call r.reply owed.entry in
        goes_on p s t seat N (actor_in p seat a r ph) (at p seat x to) k same.log same.counts k.seen (omega arith) (work_skipped a.first to record { real = real; held = held; plans = record { none = refl; decided = decided } } hands) (sym was)

    -- or it has no lock, and ends now
    pub keeps_ended : Hands u seat None → pending seat r ph ≡ entries_by seat r.call r.reply → KeepsActor p t seat (ending seat (actor_in p seat a r ph) s.log (at p seat x Ended))
    keeps_ended hands was =
        let w = subst (Owes s seat a.first a.point a.seen r.call r.reply) duty k.work.owes in
        let decided = decided_by_entry p s seat a.first a.point a.seen r.call r.reply w.entry in
        let end = decided_ends p s s.log [] seat a r.rows (sym (append-nil s.log)) k.seen k.first r.call r.reply decided in
        ends_now p s t seat (actor_in p seat a r ph) (at p seat x Ended) s.log k same.log same.counts (omega arith) k.seen (work_skipped N Ended refl hands) end.answered (decided_cause p s s.log seat a k.seen (rows_for r.call r.rows) r.call r.reply decided) end.from end.past was refl

-- ---- the exchange of the root word, for a new root

module _ (p : ConfigParts) (ok : IsSetting p) (words : List ℕ) (Has Now : ℕ → Actor → Type 0) (Out : ℕ → ℕ → ℕ → Type 0) (seat : ℕ) (s : TreeState) (b : Before p words Has Out s) (a : Actor) (r : Registers) where
  swaps : (post : Posting) (root fresh : ℕ) (t : Bool) → (get_or words root_word 0 == root) ≡ t → Has seat (actor_in p seat a r (Swap post root fresh))
      → Moves Has seat (becomes seat (actor_in p seat a r (Swap post root fresh)) s.log [] (if t then at p seat r Ended else at p seat (record r { spare = with_lowest fresh r.spare }) (Root (Posts post)))) Now → Inv p (if t then set words root_word fresh else words) (s.log ++ []) Now Out
  swaps post root fresh true e h mv =
      let k = b.kept seat (actor_in p seat a r (Swap post root fresh)) h in
      let f = k.work.fits in
      let c : ℕ = post.node in
      let w = subst (Owes s seat a.first a.point a.seen r.call r.reply) f.below.duty_is k.work.owes in
      let root_is : s.root ≡ root = sym (b.ground.shows.each RootSite tt) ∙ eqb-true (get_or words root_word 0) root e in
      let top = linked_is s.height 0 f.below.below f.below.named.low (sym b.ground.root ∙ ap s.class root_is ∙ f.below.named.linked) in
      let below : w.below ≡ s.height = omega (arith, w.level, f.below.level, top.0) in
      let up : post.level ≡ suc s.height = omega (arith, w.level, below) in
      let few : 2 ≤ 2 * p.leaf = omega (arith, ok.ranged.leaf.0) in
      let long : length r.fresh_words ≡ node_size p = ap length f.ready_is ∙ length-inner_words p (root_over post.level root post.separator post.node) ok.ranged.value_words.0 few in
      let node : s.node fresh ≡ r.fresh_words = ext_get_or 0 (s.node fresh) r.fresh_words (b.ground.long fresh ∙ sym long) (λ o lt. f.filling.words o (omega (arith, lt, b.ground.long fresh))) in
      let words_are = node ∙ f.ready_is ∙ ap (λ (l : ℕ). inner_words p (root_over l root post.separator c)) up in
      let child : s.class c ≡ Linked s.height post.separator = w.linked ∙ ap (λ (l : ℕ). Linked l post.separator) below in
      let ch = root_act p words s b.ground seat fresh root c post.separator ok root_is child w.some w.past w.mine f.filling.own words_are in
      let t : TreeState = grown s fresh c in
      let decided = decided_by_entry p s seat a.first a.point a.seen r.call r.reply w.entry in
      let end = decided_ends p s s.log [] seat a r.rows (sym (append-nil s.log)) k.seen k.first r.call r.reply decided in
      let off : s.post c ≢ Skipped seat = λ q. let z : Pending seat ≡ Skipped seat = sym w.mine ∙ q in cc in
      one_log p ok words Has Now Out seat s b (set words root_word fresh) t refl
      (moves_to p ok words Has Now Out seat s b (set words root_word fresh) t (ending seat (actor_in p seat a r (Swap post root fresh)) s.log (at p seat r Ended)) ch
      (ends_now p s t seat (actor_in p seat a r (Swap post root fresh)) (at p seat r Ended) s.log k refl (λ server. omega arith) (omega arith) k.seen record {
        seated = k.work.seated;
        duty = None;
        fits = refl;
        owes = tt;
        hands = k.work.hands;
        waits = waits_no_more s seat post Posted (λ q. cc) (subst (Waits s seat) f.below.duty_is k.work.waits);
        cached = rows_linked p s t ch.0.linked r.cached k.work.cached;
        spares = λ n is. put_else s.class fresh (Linked (suc s.height) 0) n (λ q. omega (arith, q, is.0, f.filling.under)) ∙ k.work.spares n is;
        skips = skips_kept s t seat (skips_counted r.tally) c Posted (λ n. refl) off (λ q. cc) k.work.skips;
      } end.answered (decided_cause p s s.log seat a k.seen (rows_for r.call r.rows) r.call r.reply decided) end.from end.past refl refl) (λ server. refl) tt mv)
  swaps post root fresh false e h mv =
      let k = b.kept seat (actor_in p seat a r (Swap post root fresh)) h in
      let f = k.work.fits in
      quiet_with p ok words Has Now Out seat s b a r (Swap post root fresh) (Root (Posts post)) (record r { spare = with_lowest fresh r.spare }) k refl refl record { duty_is = f.below.duty_is; rows = tt }
      (owes_on p s s seat a.first a.point a.seen (length s.log) (same_grows s s seat a.seen (length s.log) (same_here s) k.seen) r.call r.reply k.work.duty k.work.owes)
      (λ x is. dite (ℕ_discrete x fresh) (λ (q : x ≡ fresh). ap s.class q ∙ f.filling.own) (λ (ne : x ≢ fresh). k.work.spares x (omega (arith, is.0, ne, f.last), omega (arith, is.1, f.last))))
      k.work.cached
      k.work.hands refl tt mv

  pub swap : (post : Posting) (root fresh : ℕ) → Claim p ok words Has Now Out seat s b a r (Swap post root fresh) (Exchange root_word root fresh)
  swap post root fresh h mv = swaps post root fresh (get_or words root_word 0 == root) refl h mv
