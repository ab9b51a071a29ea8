-- The last store of a WRITE: of a leaf, of an entry, and of an inner node.
use Rattle.std.proofs.Common.{rules, ◌≡◌, ◌≢◌, ◌⊎◌, None, ℕ, suc, ◌<◌, ◌≤◌, List, ◌++◌, length, set, refl, ap, sym, ◌∙◌, subst, ⊎_elim, inl, inr, arith, ◌*◌, [], ◌∷◌, take, drop, get_or, append-nil, zero}
use Rattle.std.{proofs.{Common.{◌+◌}, lemmas.{Bool.{cases_lt, cases_eq}, List.{take-append-drop}}}, specs.{List.{AllByRecursion}, Prelude.{◌-◌, ◌^◌, ◌↔◌}}}
use mathlib.Core.Logic.{dite}
use native.Mathlib.Decide.{ℕ_discrete}
use Rattle.sh_base.specs.{Layout.{lock_of, rear_at, entry_at, entry_rear_at}, Places.{Site, Own, Root, Counter, Lock, Node, address, IsSite}, Setting.{node_size, last_version, IsSetting}}
use Rattle.sh_base.specs.declared.config.ConfigParts.{ConfigParts}
use Rattle.sh_map.{proofs.{LogLemmas.{map_of-push, changed_other, IsLegal-push}, MapLemmas.{get-put, get-put_other, get-del, get-del_other}}, specs.Log.{map_of, IsLegal, change_key, changed, IsNext}}
use Rattle.sh_map.specs.{Map.{get, Map}, declared.log.{Change.{TheVariants.{Put}, Change as MapChange}, Entry.{Entry}}}
use Rattle.sh_read.specs.Moments.{Writing, Idle, word, Next, still, Whole, One}
use Rattle.sh_state.{proofs.{Puts.{put_here, put_else, put_case, shows_store}, Spelled.{inner_is, inner_long, inner_stands, leaf_long, leaf_stands}}, specs.Change.{IsPostOf, HasNoneOf, Change}}
use Rattle.sh_state.proofs.Scenes.{Links, linked_is, fresh_linked, fresh_is, undrawn_fresh, links_on, follows_on, sits_on, orderly_on, child_linked, led_down, leads_join, leads_left, leads_right}
use Rattle.sh_state.{proofs.Scenes.{lead_on, body_on, inner_on}, specs.Ground.{Ground, HasParent}}
use Rattle.sh_state.specs.Nodes.{level_in, low_in, high_in, next_in, IsLinked, LeadsTo, standing_pairs, Body, LeadsRight, Sits, AreApart, Orderly, LeadDown, IsStandingInner, standing_entries}
use Rattle.sh_state.specs.Nodes.{IsStandingLeaf}
use Rattle.sh_state.specs.TreeState.{Class, Undrawn, Fresh, Linked, ParentLink, Posted, Pending, Owner, Seat, LockState, Held, Writes, Owns, hold_word, TreeState, put, writing_of, writing, shown}
use Rattle.sh_acts.{proofs.{EntryStores.{entries_patched, leaf_patched, spelled_patched}, Holds.{IsWriter, none_else, pending_of, posted_of, writer_writes}}, specs.{Acts.{ended}, Stores.{Ends}}}
use Rattle.sh_acts.{proofs.StoreLemmas.{whole_ends, one_ends, patched_word, length-patched}, specs.Images.{IsOver, IsHalved, PostsOver, patched}}
use Rattle.sh_logic.proofs.{Lists.{all_drop, all_take}, Tests.{less_test, not_less_test}}
use Rattle.sh_image.specs.{Entries.{entry_words}, Inner.{Inner, IsInner, inner_in, inner_words, HasChild}, Leaf.{Leaf, IsEntry, IsLeaf, leaf_in, leaf_words}, declared.inner.Pair.{Pair}}
use Rattle.sh_image.specs.declared.leaf.LeafEntry.{LeafEntry}
use Rattle.sh_edit.proofs.{HalvesLemmas.{left_once, right_once, separator_within, left_lawful, right_lawful}, HeldLemmas.{get-map_of_entries}, SplitLemmas.{sides}}
use Rattle.sh_edit.{proofs.RiseLemmas.{with_lawful, middle_within, left_inner_lawful, right_inner_lawful}, specs.Held.{held, map_of_entries, HasKeysOnce}}
use Rattle.sh_edit.specs.{Pairing.{pairs_with, with_pair, middle_of, left_inner, right_inner, IsNewSeparator}, Splitting.{left_half, right_half, separator_of, IsSplit}}
use Rattle.sh_map.specs.Map as map

module _ (p : ConfigParts) (words : List ℕ) (s : TreeState) (g : Ground p words s) (i d n lv a : ℕ) (image : List ℕ) (w : Writing) (at x : ℕ) (more : List Entry)
    (link : s.class n ≡ Linked lv a) (k : IsWriter p (s.hold (lock_of p n)) i d n w) (bound : d ≤ p.bound) (e : Ends p (s.node n) w image at x)
    (mades : (j : ℕ) → Seat j ≢ Seat i → HasNoneOf j more) (legal : IsLegal (s.log ++ more)) (bare : (key : ℕ) → (key ≡ 0) ⊎ (2 ^ 64 - 1 ≤ key) → get (map_of (s.log ++ more)) key ≡ None) where
  old : Sits p s n lv a
  old = g.sits n lv a link

  pub end_act : (class : ℕ → Class) (post : ℕ → ParentLink) → let t : TreeState = ended p s n i d image class post more in
      Links s t
      → ((j m : ℕ) → Seat j ≢ Seat i → s.class m ≡ Fresh j → class m ≡ Fresh j)
      → ((j m : ℕ) → class m ≡ Fresh j → s.class m ≡ Fresh j)
      → ((m : ℕ) → s.class m ≡ Undrawn → class m ≡ Undrawn)
      → ((m l b : ℕ) → class m ≡ Linked l b → Sits p t m l b)
      → ((m q l b c : ℕ) → class m ≡ Linked l b → class q ≡ Linked l c → m ≢ q → AreApart t m q b c)
      → ((j m : ℕ) (y : ParentLink) → Seat j ≢ Seat i → IsPostOf j y → (s.post m ≡ y) ↔ (post m ≡ y))
      → ((m l b : ℕ) → class m ≡ Linked l b → l ≤ s.height)
      → ((m : ℕ) → IsLinked (class m) ⊎ (post m ≡ Posted))
      → ((m l : ℕ) → class m ≡ Linked l 0 → post m ≡ Posted)
      → ((q l b m : ℕ) → class q ≡ Linked (suc l) b → LeadsTo (standing_pairs (t.node q)) m → post m ≡ Posted)
      → ((m l b : ℕ) → class m ≡ Linked l b → post m ≡ Posted → (b ≡ 0) ⊎ HasParent t l m)
      → Change p i s t × Ground p (set words (address p (Node n at)) x) t
  end_act class post on fresh back undrawn sits apart posts heights outside firsts children posted =
      let t : TreeState = ended p s n i d image class post more in
      let l : ℕ = lock_of p n in
      let y : LockState = Held (Seat i) d in
      let mine : (o : Owner) → o ≢ Seat i → Owns (s.hold l) o → ⊥ = none_else p (s.hold l) i d n w k in (
        record {
          more = more;
          longer = refl;
          entries = mades;
          linked = on;
          fresh = λ j m ne f. (fresh j m ne f, put_else s.node n image m (λ q. fresh_linked j lv a (sym f ∙ ap s.class q ∙ link)));
          posts = posts;
          back = λ o m ne. put_case (λ h. Owns h o → Owns (s.hold m) o) s.hold l y m (λ q h. absurd (ne (sym h))) (λ q h. h);
          holds = λ o m ne h. put_else s.hold l y m (λ q. mine o ne (subst (λ (z : ℕ). Owns (s.hold z) o) q h));
          nodes = λ o m c b ne f h. put_else s.node n image m (λ q. mine o ne (subst (λ (z : ℕ). Owns (s.hold (lock_of p z)) o) q h));
          moves = λ m c b f. dite (ℕ_discrete m n)
              (λ (q : m ≡ n). subst (λ (z : ℕ). Next p (s.node z) (writing p s z) (t.node z) (writing p t z)) (sym q)
              (subst (λ (z : Writing × List ℕ × Writing). Next p (s.node n) z.0 z.1 z.2) (λ z. (sym k.here z, sym (put_here s.node n image) z, sym (idle_here n) z)) e.next))
              (λ (ne : m ≢ n). subst (λ (z : List ℕ × Writing). Next p (s.node m) (writing p s m) z.0 z.1) (λ z. (sym (put_else s.node n image m ne) z, idle_else m ne z)) still);
        },
        record {
          shows = shows_store p words (shown p s) g.shows (shown p t) (Node n at) x (old.real, e.within) (ap (λ (v : Writing). word p (put s.node n image n) v at) (idle_here n) ∙ ap (λ (zs : List ℕ). word p zs Idle at) (put_here s.node n image) ∙ e.here) (places class post);
          long = λ m. put_case (λ zs. length zs ≡ node_size p) s.node n image m (λ q. e.long) (λ q. g.long m);
          orderly = λ m. put_case (λ h. Orderly p t m h) s.hold l y m (λ q. bound)
              (λ nm. orderly_on p s t on m (s.hold m) (λ j b q v z. put_else s.node n image q (λ u. nm (sym (of_lock m (s.hold m) j b q v z (g.orderly m)) ∙ ap (lock_of p) u))) (g.orderly m));
          sits = sits;
          apart = apart;
          own = λ m j f. g.own m j (back j m f);
          undrawn = λ v c m lv lc le h. undrawn m (g.undrawn v c m lv lc le h);
          root = on s.root s.height 0 g.root;
          heights = heights;
          outside = outside;
          firsts = firsts;
          children = children;
          posted = posted;
          legal = legal;
          bare = bare;
        },
      )
    where
      after : ℕ → LockState
      after = put s.hold (lock_of p n) (Held (Seat i) d)

      idle_here : (m : ℕ) → writing_of n (after (lock_of p n)) ≡ Idle
      idle_here m = ap (writing_of n) (put_here s.hold (lock_of p n) (Held (Seat i) d))

      idle_else : (m : ℕ) → m ≢ n → writing p s m ≡ writing_of m (after (lock_of p m))
      idle_else m ne = put_case (λ h. writing p s m ≡ writing_of m h) s.hold (lock_of p n) (Held (Seat i) d) (lock_of p m) (λ q. ap (λ (z : ℕ). writing_of m (s.hold z)) q ∙ k.others m ne) (λ q. refl)

      of_lock : (c : ℕ) (h : LockState) (j b m : ℕ) (v : Writing) → h ≡ Writes j b m v → Orderly p s c h → lock_of p m ≡ c
      of_lock c h j b m v q o = let u : Orderly p s c (Writes j b m v) = subst (Orderly p s c) q o in u.1.lock_is

      places : (class : ℕ → Class) (post : ℕ → ParentLink) (b : Site) → IsSite p b → b ≢ Node n at → shown p s b ≡ shown p (ended p s n i d image class post more) b
      places class post Own ib ne = refl
      places class post Root ib ne = refl
      places class post (Counter server) ib ne = refl
      places class post (Lock m) ib ne = put_case (λ h. hold_word p (s.hold m) ≡ hold_word p h) s.hold (lock_of p n) (Held (Seat i) d) m (λ z. ap (λ (j : ℕ). hold_word p (s.hold j)) z ∙ k.word_is) (λ away. refl)
      places class post (Node m o) ib ne = dite (ℕ_discrete m n)
          (λ (q : m ≡ n).
          let Q : ℕ → Type 0 = λ z. word p (s.node z) (writing p s z) o ≡ word p (put s.node n image z) (writing_of z (after (lock_of p z))) o in
          subst Q (sym q) (ap (λ (v : Writing). word p (s.node n) v o) k.here ∙ e.others o ib.1 (λ z. ne (λ u. Node (q u) (z u))) ∙ ap (λ (zs : List ℕ). word p zs Idle o) (sym (put_here s.node n image)) ∙ ap (λ (v : Writing). word p (put s.node n image n) v o) (sym (idle_here n))))
          (λ (nm : m ≢ n). ap (λ (v : Writing). word p (s.node m) v o) (idle_else m nm) ∙ ap (λ (zs : List ℕ). word p zs (writing_of m (after (lock_of p m))) o) (sym (put_else s.node n image m nm)))

  -- over the same fences
  pub over_end : (post : ℕ → ParentLink) → let t : TreeState = ended p s n i d image s.class post more in
      PostsOver s i lv (standing_pairs (s.node n)) (standing_pairs image) post → IsOver (s.node n) image → Body p t lv image → ((m l b : ℕ) → m ≢ n → s.class m ≡ Linked l b → Body p s l (s.node m) → Body p t l (s.node m))
      → Change p i s t × Ground p (set words (address p (Node n at)) x) t
  over_end post po h body others =
      let t : TreeState = ended p s n i d image s.class post more in
      let now : t.node n ≡ image = put_here s.node n image in
      let high : (m : ℕ) → high_in (t.node m) ≡ high_in (s.node m) = λ m. put_case (λ ys. high_in ys ≡ high_in (s.node m)) s.node n image m (λ q. h.high ∙ ap (λ (z : ℕ). high_in (s.node z)) (sym q)) (λ q. refl) in
      end_act s.class post (λ m l b f. f) (λ j m ne f. f) (λ j m f. f) (λ m f. f)
      (λ m l b f. dite (ℕ_discrete m n)
      (λ (q : m ≡ n).
      let v = linked_is l b lv a (sym f ∙ ap s.class q ∙ link) in
      let P : List ℕ → Type 0 = λ ws. (level_in ws ≡ lv) × (low_in ws ≡ a) × (a < high_in ws) × (high_in ws ≤ 2 ^ 64 - 1) × LeadsRight t lv (high_in ws) (next_in ws) × Body p t lv ws in
      let r : P (t.node n) = subst P (sym now) (h.level ∙ old.level_is, h.low ∙ old.low_is, subst (λ (z : ℕ). a < z) (sym h.high) old.fences, subst (λ (z : ℕ). z ≤ 2 ^ 64 - 1) (sym h.high) old.past, subst (λ (z : ℕ × ℕ). LeadsRight t lv z.0 z.1) (λ z. (sym h.high z, sym h.next z)) (follows_on p s t (λ n l a f. f) lv (high_in (s.node n)) (next_in (s.node n)) old.next), body) in
      subst (λ (z : ℕ × ℕ × ℕ). Sits p t z.0 z.1 z.2) (λ z. (sym q z, sym v.0 z, sym v.1 z)) record { real = old.real; level_is = r.0; low_is = r.1; fences = r.2; past = r.3; next = r.4; body = r.5 })
      (λ (ne : m ≢ n). sits_on p s t (λ n l a f. f) m l b (put_else s.node n image m ne) (others m l b ne f) (g.sits m l b f)))
      (λ m q l b c f o ne. subst (λ (z : ℕ × ℕ). (z.0 ≤ c) ⊎ (z.1 ≤ b)) (λ z. (sym (high m) z, sym (high q) z)) (g.apart m q l b c f o ne))
      po.others g.heights po.outside (λ m l f. po.stays m l 0 f (g.firsts m l f))
      (λ q l b m f c. dite (ℕ_discrete q n)
      (λ (z : q ≡ n). let v = linked_is (suc l) b lv a (sym f ∙ ap s.class z ∙ link) in po.kids l m (sym v.0) (subst (λ (zs : List ℕ). LeadsTo (standing_pairs zs) m) (ap t.node z ∙ now) c))
      (λ (ne : q ≢ n). let c' : LeadsTo (standing_pairs (s.node q)) m = subst (λ (zs : List ℕ). LeadsTo (standing_pairs zs) m) (put_else s.node n image q ne) c in let u = of_child q l b m f c' in po.stays m l u.0 u.1 (g.children q l b m f c')))
      (λ m l b f z. ⊎_elim
      (λ (was : s.post m ≡ Posted). ⊎_elim (λ (q : b ≡ 0). inl q) (λ (u : HasParent s l m). inr record {
        parent = u.parent;
        low = u.low;
        linked = u.linked;
        leads = dite (ℕ_discrete u.parent n)
            (λ (q : u.parent ≡ n). let v = linked_is (suc l) u.low lv a (sym u.linked ∙ ap s.class q ∙ link) in subst (λ (zs : List ℕ). LeadsTo (standing_pairs zs) m) (sym (ap t.node q ∙ now)) (po.keeps l m (sym v.0) (subst (λ (y : ℕ). LeadsTo (standing_pairs (s.node y)) m) q u.leads)))
            (λ (ne : u.parent ≢ n). subst (λ (zs : List ℕ). LeadsTo (standing_pairs zs) m) (sym (put_else s.node n image u.parent ne)) u.leads);
      }) (g.posted m l b f was))
      (λ (u : (q : ℕ) × (c : ℕ) × (lv ≡ suc q) × (s.class m ≡ Linked q c) × LeadsTo (standing_pairs image) m).
      let v = linked_is u.0 u.1 l b (sym u.3 ∙ f) in
      inr record { parent = n; low = a; linked = link ∙ ap (λ (y : ℕ). Linked y a) (u.2 ∙ ap suc v.0); leads = subst (λ (zs : List ℕ). LeadsTo (standing_pairs zs) m) (sym now) u.4 })
      (po.newly m z))
    where
      of_child : (parent l b m : ℕ) → s.class parent ≡ Linked (suc l) b → LeadsTo (standing_pairs (s.node parent)) m → (c : ℕ) × (s.class m ≡ Linked l c)
      of_child parent l b m f c = child_linked p words s g parent l b m f c

  -- as a split: the right half is a node of the seat's own, which is to be posted
  module _ (r sep : ℕ) (right : List ℕ) (fresh : s.class r ≡ Fresh i) (is : s.node r ≡ right) (h : IsHalved (s.node n) image right r sep) where
    on : (m l b : ℕ) → s.class m ≡ Linked l b → put s.class r (Linked lv sep) m ≡ Linked l b
    on m l b f = put_else s.class r (Linked lv sep) m (λ q. fresh_linked i l b (sym fresh ∙ ap s.class (sym q) ∙ f)) ∙ f

    from : (m l b : ℕ) → m ≢ r → put s.class r (Linked lv sep) m ≡ Linked l b → s.class m ≡ Linked l b
    from m l b ne f = sym (put_else s.class r (Linked lv sep) m ne) ∙ f

    r_is : put s.class r (Linked lv sep) r ≡ Linked lv sep
    r_is = put_here s.class r (Linked lv sep)

    n_r : n ≢ r
    n_r q = fresh_linked i lv a (sym fresh ∙ ap s.class (sym q) ∙ link)

    at_n : put s.node n image n ≡ image
    at_n = put_here s.node n image

    at_r : put s.node n image r ≡ right
    at_r = put_else s.node n image r (λ q. n_r (sym q)) ∙ is

    unposted : s.post r ≡ Posted
    unposted = ⊎_elim (λ (z : IsLinked (s.class r)). absurd (subst IsLinked fresh z)) (λ z. z) (g.outside r)

    -- highs only fall
    falls : (m : ℕ) → high_in (put s.node n image m) ≤ high_in (s.node m)
    falls m = put_case (λ ys. high_in ys ≤ high_in (s.node m)) s.node n image m (λ q. omega (arith, h.high, h.below, ap (λ (z : ℕ). high_in (s.node z)) q)) (λ q. omega arith)

    -- the right half and an older node
    new_apart : (q c : ℕ) → s.class q ≡ Linked lv c → (high_in right ≤ c) ⊎ (high_in (put s.node n image q) ≤ sep)
    new_apart q c f = dite (ℕ_discrete q n)
        (λ (z : q ≡ n). let v : high_in (put s.node n image q) ≡ sep = ap (λ (y : ℕ). high_in (put s.node n image y)) z ∙ ap high_in at_n ∙ h.high in inr (omega (arith, v)))
        (λ (ne : q ≢ n). ⊎_elim (λ (le : high_in (s.node n) ≤ c). inl (omega (arith, le, h.right_high))) (λ (le : high_in (s.node q) ≤ a). inr (omega (arith, le, falls q, h.above, old.low_is)))
        (g.apart n q lv a c link f (λ z. ne (sym z))))

    pub split_end : (post : ℕ → ParentLink) → let t : TreeState = ended p s n i d image (put s.class r (Linked lv sep)) (put post r (Pending i)) more in
        PostsOver s i lv (standing_pairs (s.node n)) (standing_pairs image ++ standing_pairs right) post → Body p t lv image → Body p t lv right → ((m l b : ℕ) → m ≢ n → s.class m ≡ Linked l b → Body p s l (s.node m) → Body p t l (s.node m))
        → Change p i s t × Ground p (set words (address p (Node n at)) x) t
    split_end post po left_body right_body others =
        let t : TreeState = ended p s n i d image (put s.class r (Linked lv sep)) (put post r (Pending i)) more in
        let not_r : (l m c : ℕ) → lv ≡ suc l → t.class m ≡ Linked l c → m ≢ r = λ l m c q f z. let u = linked_is l c lv sep (sym f ∙ ap t.class z ∙ r_is) in omega (arith, u.0, q) in
        end_act t.class t.post on
        (λ j m ne f. put_else s.class r (Linked lv sep) m (λ q. ne (ap Seat (fresh_is j i (sym f ∙ ap s.class q ∙ fresh)))) ∙ f)
        (λ j m. put_case (λ y. y ≡ Fresh j → s.class m ≡ Fresh j) s.class r (Linked lv sep) m (λ q f. absurd (fresh_linked j lv sep (sym f))) (λ q f. f))
        (λ m f. put_else s.class r (Linked lv sep) m (λ q. undrawn_fresh i (sym f ∙ ap s.class q ∙ fresh)) ∙ f)
        (λ m l b f. dite (ℕ_discrete m r)
        (λ (q : m ≡ r).
        let v = linked_is l b lv sep (sym f ∙ ap t.class q ∙ r_is) in
        let P : List ℕ → Type 0 = λ ws. (level_in ws ≡ lv) × (low_in ws ≡ sep) × (sep < high_in ws) × (high_in ws ≤ 2 ^ 64 - 1) × LeadsRight t lv (high_in ws) (next_in ws) × Body p t lv ws in
        let z : P (t.node r) = subst P (sym at_r) (h.right_level ∙ old.level_is, h.right_low, subst (λ (y : ℕ). sep < y) (sym h.right_high) h.below, subst (λ (y : ℕ). y ≤ 2 ^ 64 - 1) (sym h.right_high) old.past, subst (λ (y : ℕ × ℕ). LeadsRight t lv y.0 y.1) (λ y. (sym h.right_high y, sym h.right_next y)) (follows_on p s t on lv (high_in (s.node n)) (next_in (s.node n)) old.next), right_body) in
        subst (λ (y : ℕ × ℕ × ℕ). Sits p t y.0 y.1 y.2) (λ y. (sym q y, sym v.0 y, sym v.1 y)) record { real = g.own r i fresh; level_is = z.0; low_is = z.1; fences = z.2; past = z.3; next = z.4; body = z.5 })
        (λ (nr : m ≢ r). let f' = from m l b nr f in dite (ℕ_discrete m n)
        (λ (q : m ≡ n).
        let v = linked_is l b lv a (sym f' ∙ ap s.class q ∙ link) in
        let P : List ℕ → Type 0 = λ ws. (level_in ws ≡ lv) × (low_in ws ≡ a) × (a < high_in ws) × (high_in ws ≤ 2 ^ 64 - 1) × LeadsRight t lv (high_in ws) (next_in ws) × Body p t lv ws in
        let z : P (t.node n) = subst P (sym at_n) (h.level ∙ old.level_is, h.low ∙ old.low_is, omega (arith, h.high, h.above, old.low_is), omega (arith, h.high, h.below, old.past), inr (ap t.class h.next ∙ r_is ∙ ap (λ (y : ℕ). Linked lv y) (sym h.high)), left_body) in
        subst (λ (y : ℕ × ℕ × ℕ). Sits p t y.0 y.1 y.2) (λ y. (sym q y, sym v.0 y, sym v.1 y)) record { real = old.real; level_is = z.0; low_is = z.1; fences = z.2; past = z.3; next = z.4; body = z.5 })
        (λ (ne : m ≢ n). sits_on p s t on m l b (put_else s.node n image m ne) (others m l b ne f') (g.sits m l b f'))))
        (λ m q l b c f o ne. dite (ℕ_discrete m r)
        (λ (z : m ≡ r).
        let v = linked_is l b lv sep (sym f ∙ ap t.class z ∙ r_is) in
        let o' = from q l c (λ y. ne (z ∙ sym y)) o in
        let u : high_in (t.node m) ≡ high_in right = ap (λ (y : ℕ). high_in (t.node y)) z ∙ ap high_in at_r in
        ⊎_elim (λ (le : high_in right ≤ c). inl (omega (arith, le, u))) (λ (le : high_in (t.node q) ≤ sep). inr (omega (arith, le, v.1))) (new_apart q c (o' ∙ ap (λ (y : ℕ). Linked y c) v.0)))
        (λ (nr : m ≢ r). let f' = from m l b nr f in dite (ℕ_discrete q r)
        (λ (z : q ≡ r).
        let v = linked_is l c lv sep (sym o ∙ ap t.class z ∙ r_is) in
        let u : high_in (t.node q) ≡ high_in right = ap (λ (y : ℕ). high_in (t.node y)) z ∙ ap high_in at_r in
        ⊎_elim (λ (le : high_in right ≤ b). inr (omega (arith, le, u))) (λ (le : high_in (t.node m) ≤ sep). inl (omega (arith, le, v.1))) (new_apart m b (f' ∙ ap (λ (y : ℕ). Linked y b) v.0)))
        (λ (nq : q ≢ r). ⊎_elim (λ (le : high_in (s.node m) ≤ c). inl (omega (arith, le, falls m))) (λ (le : high_in (s.node q) ≤ b). inr (omega (arith, le, falls q))) (g.apart m q l b c f' (from q l c nq o) ne))))
        (λ j m y ne z. (
          λ f. put_else post r (Pending i) m (λ q. posted_of j y z (sym unposted ∙ ap s.post (sym q) ∙ f)) ∙ (po.others j m y ne z).0 f,
          put_case (λ u. u ≡ y → s.post m ≡ y) post r (Pending i) m (λ q f. absurd (ne (ap Seat (sym (pending_of i j y z f))))) (λ q f. (po.others j m y ne z).1 f),
        ))
        (λ m l b f. dite (ℕ_discrete m r)
        (λ (q : m ≡ r). let v = linked_is l b lv sep (sym f ∙ ap t.class q ∙ r_is) in subst (λ (y : ℕ). y ≤ s.height) (sym v.0) (g.heights n lv a link))
        (λ (nr : m ≢ r). g.heights m l b (from m l b nr f)))
        (λ m. dite (ℕ_discrete m r)
        (λ (q : m ≡ r). inl (subst IsLinked (sym (ap t.class q ∙ r_is)) tt))
        (λ (nr : m ≢ r). ⊎_elim (λ z. inl (links_on p s t on m z)) (λ z. inr (put_else post r (Pending i) m nr ∙ z)) (po.outside m)))
        (λ m l f. dite (ℕ_discrete m r)
        (λ (q : m ≡ r). let v = linked_is l 0 lv sep (sym f ∙ ap t.class q ∙ r_is) in absurd (omega (arith, v.1, h.above)))
        (λ (nr : m ≢ r). let f' = from m l 0 nr f in put_else post r (Pending i) m nr ∙ po.stays m l 0 f' (g.firsts m l f')))
        (λ q l b m f c. dite (ℕ_discrete q r)
        (λ (z : q ≡ r).
        let v = linked_is (suc l) b lv sep (sym f ∙ ap t.class z ∙ r_is) in
        let c' : LeadsTo (standing_pairs right) m = subst (λ (zs : List ℕ). LeadsTo (standing_pairs zs) m) (ap t.node z ∙ at_r) c in
        let u = of_half t l m right (subst (λ (y : ℕ). Body p t y right) (sym v.0) right_body) c' in
        put_else post r (Pending i) m (not_r l m u.0 (sym v.0) u.1) ∙ po.kids l m (sym v.0) (leads_right m (standing_pairs image) (standing_pairs right) c'))
        (λ (nr : q ≢ r). let f' = from q (suc l) b nr f in dite (ℕ_discrete q n)
        (λ (z : q ≡ n).
        let v = linked_is (suc l) b lv a (sym f' ∙ ap s.class z ∙ link) in
        let c' : LeadsTo (standing_pairs image) m = subst (λ (zs : List ℕ). LeadsTo (standing_pairs zs) m) (ap t.node z ∙ at_n) c in
        let u = of_half t l m image (subst (λ (y : ℕ). Body p t y image) (sym v.0) left_body) c' in
        put_else post r (Pending i) m (not_r l m u.0 (sym v.0) u.1) ∙ po.kids l m (sym v.0) (leads_left m (standing_pairs image) (standing_pairs right) c'))
        (λ (ne : q ≢ n).
        let c' : LeadsTo (standing_pairs (s.node q)) m = subst (λ (zs : List ℕ). LeadsTo (standing_pairs zs) m) (put_else s.node n image q ne) c in
        let u = child_linked p words s g q l b m f' c' in
        put_else post r (Pending i) m (λ z. fresh_linked i l u.0 (sym fresh ∙ ap s.class (sym z) ∙ u.1)) ∙ po.stays m l u.0 u.1 (g.children q l b m f' c'))))
        (λ m l b f z. dite (ℕ_discrete m r)
        (λ (q : m ≡ r). absurd (pending_posted i (sym (ap t.post q ∙ put_here post r (Pending i)) ∙ z)))
        (λ (nr : m ≢ r).
        let z' : post m ≡ Posted = sym (put_else post r (Pending i) m nr) ∙ z in
        let f' = from m l b nr f in
        ⊎_elim
        (λ (was : s.post m ≡ Posted). ⊎_elim (λ (q : b ≡ 0). inl q) (λ (u : HasParent s l m). dite (ℕ_discrete u.parent n)
        (λ (q : u.parent ≡ n). let v = linked_is (suc l) u.low lv a (sym u.linked ∙ ap s.class q ∙ link) in there t l m (sym v.0) on r_is (po.keeps l m (sym v.0) (subst (λ (y : ℕ). LeadsTo (standing_pairs (s.node y)) m) q u.leads)) refl refl)
        (λ (ne : u.parent ≢ n). inr record { parent = u.parent; low = u.low; linked = on u.parent (suc l) u.low u.linked; leads = subst (λ (zs : List ℕ). LeadsTo (standing_pairs zs) m) (sym (put_else s.node n image u.parent ne)) u.leads })) (g.posted m l b f' was))
        (λ (u : (q : ℕ) × (c : ℕ) × (lv ≡ suc q) × (s.class m ≡ Linked q c) × LeadsTo (standing_pairs image ++ standing_pairs right) m).
        let v = linked_is u.0 u.1 l b (sym u.3 ∙ f') in there t l m (u.2 ∙ ap suc v.0) on r_is u.4 refl refl)
        (po.newly m z')))
      where
        pending_posted : (j : ℕ) → Pending j ≡ Posted → ⊥
        pending_posted j q = cc

        of_half : (t : TreeState) (l m : ℕ) (ws : List ℕ) → Body p t (suc l) ws → LeadsTo (standing_pairs ws) m → (c : ℕ) × (t.class m ≡ Linked l c)
        of_half t l m ws b c = led_down t l m (standing_pairs ws) b.children c

        there : (t : TreeState) (l m : ℕ) {b : ℕ} → lv ≡ suc l → Links s t → t.class r ≡ Linked lv sep → LeadsTo (standing_pairs image ++ standing_pairs right) m → t.node n ≡ put s.node n image n → t.node r ≡ put s.node n image r → (b ≡ 0) ⊎ HasParent t l m
        there t l m q on' r_is' c e_n e_r = elim (leads_join m (standing_pairs image) (standing_pairs right) c) [
          | inl v ↦ inr record { parent = n; low = a; linked = on' n (suc l) a (link ∙ ap (λ (y : ℕ). Linked y a) q); leads = subst (λ (zs : List ℕ). LeadsTo (standing_pairs zs) m) (sym (e_n ∙ at_n)) v }
          | inr v ↦ inr record { parent = r; low = sep; linked = r_is' ∙ ap (λ (y : ℕ). Linked y sep) q; leads = subst (λ (zs : List ℕ). LeadsTo (standing_pairs zs) m) (sym (e_r ∙ at_r)) v }
        ]

-- ---- an inner node's WRITE ends: a pair was added, or the node was split at one

all_with : (P : Pair → Type 0) (xs : List Pair) (new : Pair) → P new → AllByRecursion P xs → AllByRecursion P (pairs_with xs new)
all_with P [] new q h = (q, tt)
all_with P (x ∷ xs) new q h = elim (cases_lt x.separator new.separator) [
  | inl below ↦ rw (less_test x.separator new.separator below) (h.0, all_with P xs new q h.1)
  | inr from ↦ rw (not_less_test x.separator new.separator from) (q, h)
]

-- whom the pairs with a new one lead to
leads_with : (n : ℕ) (xs : List Pair) (new : Pair) → LeadsTo (pairs_with xs new) n → (new.child ≡ n) ⊎ LeadsTo xs n
leads_with n [] new (inl e) = inl e
leads_with n [] new (inr h) = absurd h
leads_with n (x ∷ xs) new h = elim (cases_lt x.separator new.separator) [
  | inl below ↦
      let first : pairs_with (x ∷ xs) new ≡ x ∷ pairs_with xs new = rw (less_test x.separator new.separator below) refl in
      elim (subst (λ (ys : List Pair). LeadsTo ys n) first h) [ inl e ↦ inr (inl e) | inr k ↦ elim (leads_with n xs new k) [ inl e ↦ inl e | inr z ↦ inr (inr z) ] ]
  | inr from ↦
      let first : pairs_with (x ∷ xs) new ≡ new ∷ x ∷ xs = rw (not_less_test x.separator new.separator from) refl in
      elim (subst (λ (ys : List Pair). LeadsTo ys n) first h) [ inl e ↦ inl e | inr k ↦ inr k ]
]

with_new : (n : ℕ) (xs : List Pair) (new : Pair) → new.child ≡ n → LeadsTo (pairs_with xs new) n
with_new n [] new e = inl e
with_new n (x ∷ xs) new e = elim (cases_lt x.separator new.separator) [
  | inl below ↦ rw (less_test x.separator new.separator below) (inr (with_new n xs new e))
  | inr from ↦ rw (not_less_test x.separator new.separator from) (inl e)
]

with_old : (n : ℕ) (xs : List Pair) (new : Pair) → LeadsTo xs n → LeadsTo (pairs_with xs new) n
with_old n [] new h = absurd h
with_old n (x ∷ xs) new h = elim (cases_lt x.separator new.separator) [
  | inl below ↦ rw (less_test x.separator new.separator below) (elim h [ inl e ↦ inl e | inr k ↦ inr (with_old n xs new k) ])
  | inr from ↦ rw (not_less_test x.separator new.separator from) (inr h)
]

posted_pending : (i : ℕ) → Posted ≡ Pending i → ⊥
posted_pending i e = cc

module _ (p : ConfigParts) (words : List ℕ) (s : TreeState) (g : Ground p words s) where
  -- a level and a low fence name one node
  pub unique : (m n l a : ℕ) → s.class m ≡ Linked l a → s.class n ≡ Linked l a → m ≡ n
  unique m n l a e f = search rules

  -- the separator of a node that is to be posted isn't there
  pub is_new : (i n c l a sep : ℕ) → s.class n ≡ Linked (suc l) a → s.class c ≡ Linked l sep → s.post c ≡ Pending i → IsNewSeparator (standing_pairs (s.node n)) sep
  is_new i n c l a sep link child mine = go (standing_pairs (s.node n)) (g.sits n (suc l) a link).body.children (g.children n l a)
    where
      go : (pairs : List Pair) → LeadDown s l pairs → ((m : ℕ) → s.class n ≡ Linked (suc l) a → LeadsTo pairs m → s.post m ≡ Posted) → IsNewSeparator pairs sep
      go [] h led = tt
      go (x ∷ xs) h led = (
        (λ q. posted_pending i (sym (led x.child link (inl refl)) ∙ ap s.post (unique x.child c l sep (h.0 ∙ ap (λ (z : ℕ). Linked l z) q) child) ∙ mine)),
        go xs h.1 (λ m f k. led m f (inr k)),
      )

module _ (p : ConfigParts) (words : List ℕ) (s : TreeState) (g : Ground p words s) (i d n l a : ℕ) (x : Pair) (ok : IsSetting p)
    (link : s.class n ≡ Linked (suc l) a) (bound : d ≤ p.bound) (child : s.class x.child ≡ Linked l x.separator) (mine : s.post x.child ≡ Pending i)
    (lo : low_in (s.node n) ≤ x.separator) (hi : x.separator < high_in (s.node n)) where
  abbrev inner : Inner
  inner = inner_in (s.node n)

  stands : IsStandingInner p s l (s.node n)
  stands = (g.sits n (suc l) a link).body

  new : IsNewSeparator inner.pairs x.separator
  new = is_new p words s g i n x.child l a x.separator link child mine

  real : HasChild p x
  real = let r = (g.sits x.child l x.separator child).real in (r.first, r.last)

  posts : PostsOver s i (suc l) inner.pairs (pairs_with inner.pairs x) (put s.post x.child Posted)
  posts = search (rules, put_else, pending_of, put_case, posted_of, with_new, leads_with, old, with_old)

  same_log : s.log ≡ s.log ++ []
  same_log = sym (append-nil s.log)

  -- the pair was added
  pair_at : s.hold (lock_of p n) ≡ Writes i d n (Whole (inner_words p (with_pair inner x)) (rear_at p)) → length inner.pairs < 2 * p.leaf → inner.version < last_version p
      → let t : TreeState = ended p s n i d (inner_words p (with_pair inner x)) s.class (put s.post x.child Posted) [] in
      Change p i s t × Ground p (set words (address p (Node n (rear_at p))) (get_or (inner_words p (with_pair inner x)) (rear_at p) 0)) t
  pair_at e room version =
      let b : Inner = with_pair inner x in
      let t : TreeState = ended p s n i d (inner_words p b) s.class (put s.post x.child Posted) [] in
      let lawful : IsInner p b = with_lawful p inner x stands.spells.lawful room new lo hi real version in
      let pairs : standing_pairs (inner_words p b) ≡ pairs_with inner.pairs x = ap (λ (c : Inner). c.pairs) (inner_is p (inner_words p b) b refl lawful) in
      over_end p words s g i d n (suc l) a (inner_words p b) (Whole (inner_words p b) (rear_at p)) (rear_at p) (get_or (inner_words p b) (rear_at p) 0) [] link (writer_writes p (s.hold (lock_of p n)) i d n _ e) bound
      (whole_ends p (suc l) (s.node n) (inner_words p b) (inner_long p b ok.ranged.value_words.0 lawful)) (λ j ne. tt) (subst IsLegal same_log g.legal) (subst (λ (log : List Entry). (key : ℕ) → (key ≡ 0) ⊎ (2 ^ 64 - 1 ≤ key) → get (map_of log) key ≡ None) same_log g.bare) (put s.post x.child Posted)
      (subst (λ (xs : List Pair). PostsOver s i (suc l) inner.pairs xs (put s.post x.child Posted)) (sym pairs) posts)
      record { level = refl; low = refl; high = refl; next = refl }
      (inner_stands p t l (inner_words p b) b refl lawful (all_with (λ (y : Pair). s.class y.child ≡ Linked l y.separator) inner.pairs x child stands.children))
      (λ m k c ne f body. body_on p s t (λ n l a z. z) same_log k (s.node m) body)

  -- the node was split: the left half was written, the right one before
  split_at : (r : ℕ) → s.hold (lock_of p n) ≡ Writes i d n (Whole (inner_words p (left_inner p.leaf inner x r)) (rear_at p)) → s.class r ≡ Fresh i → s.node r ≡ inner_words p (right_inner p.leaf inner x)
      → length inner.pairs ≡ 2 * p.leaf → inner.version < last_version p
      → let sep : ℕ = middle_of p.leaf inner.pairs x in
      let image : List ℕ = inner_words p (left_inner p.leaf inner x r) in
      let t : TreeState = ended p s n i d image (put s.class r (Linked (suc l) sep)) (put (put s.post x.child Posted) r (Pending i)) [] in
      Change p i s t × Ground p (set words (address p (Node n (rear_at p))) (get_or image (rear_at p) 0)) t
  split_at r e fresh is full version =
      let left : Inner = left_inner p.leaf inner x r in
      let right : Inner = right_inner p.leaf inner x in
      let sep : ℕ = middle_of p.leaf inner.pairs x in
      let t : TreeState = ended p s n i d (inner_words p left) (put s.class r (Linked (suc l) sep)) (put (put s.post x.child Posted) r (Pending i)) [] in
      let own = g.own r i fresh in
      let old = g.sits n (suc l) a link in
      let within = middle_within p inner x stands.spells.lawful full new lo hi in
      let left_ok : IsInner p left = left_inner_lawful p inner x stands.spells.lawful full new lo hi r real version own.first own.last (omega (arith, old.past)) in
      let right_ok : IsInner p right = right_inner_lawful p inner x stands.spells.lawful full new lo hi real in
      let on : Links s t = λ m k b f. put_else s.class r (Linked (suc l) sep) m (λ q. fresh_linked i k b (sym fresh ∙ ap s.class (sym q) ∙ f)) ∙ f in
      let all : LeadDown s l (pairs_with inner.pairs x) = all_with (λ (y : Pair). s.class y.child ≡ Linked l y.separator) inner.pairs x child stands.children in
      let left_pairs : standing_pairs (inner_words p left) ≡ take p.leaf (pairs_with inner.pairs x) = ap (λ (c : Inner). c.pairs) (inner_is p (inner_words p left) left refl left_ok) in
      let right_pairs : standing_pairs (inner_words p right) ≡ drop p.leaf (pairs_with inner.pairs x) = ap (λ (c : Inner). c.pairs) (inner_is p (inner_words p right) right refl right_ok) in
      let joined : standing_pairs (inner_words p left) ++ standing_pairs (inner_words p right) ≡ pairs_with inner.pairs x = (λ z. left_pairs z ++ right_pairs z) ∙ take-append-drop p.leaf (pairs_with inner.pairs x) in
      split_end p words s g i d n (suc l) a (inner_words p left) (Whole (inner_words p left) (rear_at p)) (rear_at p) (get_or (inner_words p left) (rear_at p) 0) [] link (writer_writes p (s.hold (lock_of p n)) i d n _ e) bound
      (whole_ends p (suc l) (s.node n) (inner_words p left) (inner_long p left ok.ranged.value_words.0 left_ok)) (λ j ne. tt) (subst IsLegal same_log g.legal) (subst (λ (log : List Entry). (key : ℕ) → (key ≡ 0) ⊎ (2 ^ 64 - 1 ≤ key) → get (map_of log) key ≡ None) same_log g.bare) r sep (inner_words p right) fresh is
      record { above = within.0; below = within.1; level = refl; low = refl; high = refl; next = refl; right_level = refl; right_low = refl; right_high = refl; right_next = refl }
      (put s.post x.child Posted)
      (subst (λ (xs : List Pair). PostsOver s i (suc l) inner.pairs xs (put s.post x.child Posted)) (sym joined) posts)
      (inner_stands p t l (inner_words p left) left refl left_ok (lead_on p s t on l (take p.leaf (pairs_with inner.pairs x)) (all_take (λ (y : Pair). s.class y.child ≡ Linked l y.separator) p.leaf (pairs_with inner.pairs x) all)))
      (inner_stands p t l (inner_words p right) right refl right_ok (lead_on p s t on l (drop p.leaf (pairs_with inner.pairs x)) (all_drop (λ (y : Pair). s.class y.child ≡ Linked l y.separator) p.leaf (pairs_with inner.pairs x) all)))
      (λ m k c ne f body. body_on p s t on same_log k (s.node m) body)

  -- both, of the node as it was read
  pub pair_end : (b : Inner) → b ≡ inner → s.hold (lock_of p n) ≡ Writes i d n (Whole (inner_words p (with_pair b x)) (rear_at p)) → length b.pairs < 2 * p.leaf → b.version < last_version p
      → let t : TreeState = ended p s n i d (inner_words p (with_pair b x)) s.class (put s.post x.child Posted) [] in
      Change p i s t × Ground p (set words (address p (Node n (rear_at p))) (get_or (inner_words p (with_pair b x)) (rear_at p) 0)) t
  pair_end b same = search (rules, pair_at)

  pub inner_split_end : (b : Inner) → b ≡ inner → (r : ℕ) → s.hold (lock_of p n) ≡ Writes i d n (Whole (inner_words p (left_inner p.leaf b x r)) (rear_at p)) → s.class r ≡ Fresh i → s.node r ≡ inner_words p (right_inner p.leaf b x)
      → length b.pairs ≡ 2 * p.leaf → b.version < last_version p
      → let sep : ℕ = middle_of p.leaf b.pairs x in
      let image : List ℕ = inner_words p (left_inner p.leaf b x r) in
      let t : TreeState = ended p s n i d image (put s.class r (Linked (suc l) sep)) (put (put s.post x.child Posted) r (Pending i)) [] in
      Change p i s t × Ground p (set words (address p (Node n (rear_at p))) (get_or image (rear_at p) 0)) t
  inner_split_end b same r = subst (λ (b : Inner). s.hold (lock_of p n) ≡ Writes i d n (Whole (inner_words p (left_inner p.leaf b x r)) (rear_at p)) → s.class r ≡ Fresh i → s.node r ≡ inner_words p (right_inner p.leaf b x)
      → length b.pairs ≡ 2 * p.leaf → b.version < last_version p
      → let sep : ℕ = middle_of p.leaf b.pairs x in
      let image : List ℕ = inner_words p (left_inner p.leaf b x r) in
      let t : TreeState = ended p s n i d image (put s.class r (Linked (suc l) sep)) (put (put s.post x.child Posted) r (Pending i)) [] in
      Change p i s t × Ground p (set words (address p (Node n (rear_at p))) (get_or image (rear_at p) 0)) t) (sym same) (split_at r)

-- ---- a leaf's WRITE ends, and its entry comes into the log

-- two maps that agree at a key agree there after the same change
changed_alike : (m n : Map) (c : MapChange) (q : ℕ) → get m q ≡ get n q → get (changed m c) q ≡ get (changed n c) q
changed_alike m n c q e = search (rules, cases_eq, get-put, get-put_other, get-del, get-del_other)

-- the map of a leaf that has another entry
pub map_changed : (log : List Entry) (entry : Entry) (es fs : List LeafEntry) (q : ℕ) → q ≢ 0 → get (map_of_entries fs) q ≡ get (changed (map_of_entries es) entry.change) q → held es q ≡ get (map_of log) q → held fs q ≡ get (map_of (log ++ entry ∷ [])) q
map_changed log entry es fs q nz h e = search (rules, get-map_of_entries, changed_alike, map_of-push)

-- a leaf whose keys the entry isn't about
pub leaf_else : (p : ConfigParts) (log : List Entry) (entry : Entry) (ws : List ℕ) → ((q : ℕ) → q ≢ 0 → low_in ws ≤ q → q < high_in ws → q ≢ change_key entry.change) → IsStandingLeaf p log ws → IsStandingLeaf p (log ++ entry ∷ []) ws
leaf_else p log entry ws away h = record {
  spells = h.spells;
  once = h.once;
  map = λ q nz lo hi. h.map q nz lo hi ∙ sym (ap (λ (m : Map). get m q) (map_of-push log entry) ∙ changed_other (map_of log) entry.change q (away q nz lo hi));
}

module _ (p : ConfigParts) (words : List ℕ) (s : TreeState) (g : Ground p words s) (i d n a : ℕ) (image : List ℕ) (w : Writing) (at x : ℕ) (entry : Entry)
    (link : s.class n ≡ Linked 0 a) (k : IsWriter p (s.hold (lock_of p n)) i d n w) (bound : d ≤ p.bound) (e : Ends p (s.node n) w image at x)
    (by : entry.seat ≡ i) (next : IsNext (map_of s.log) entry) (some : 1 ≤ change_key entry.change) (lo : low_in (s.node n) ≤ change_key entry.change) (hi : change_key entry.change < high_in (s.node n)) where
  mades : (j : ℕ) → Seat j ≢ Seat i → HasNoneOf j (entry ∷ [])
  mades j ne = ((λ q. ne (ap Seat (sym q ∙ by))), tt)

  legal : IsLegal (s.log ++ entry ∷ [])
  legal = IsLegal-push s.log entry g.legal next

  bare : (key : ℕ) → (key ≡ 0) ⊎ (2 ^ 64 - 1 ≤ key) → get (map_of (s.log ++ entry ∷ [])) key ≡ None
  bare key out = ap (λ (m : Map). get m key) (map_of-push s.log entry) ∙ changed_other (map_of s.log) entry.change key (λ z. ⊎_elim (λ (e : key ≡ 0). omega (arith, e, z, some)) (λ (le : 2 ^ 64 - 1 ≤ key). omega (arith, le, z, hi, (g.sits n 0 a link).past)) out) ∙ g.bare key out

  old_low : low_in (s.node n) ≡ a
  old_low = (g.sits n 0 a link).low_is

  -- the other nodes
  others : (t : TreeState) → t.log ≡ s.log ++ entry ∷ [] → Links s t → (m l b : ℕ) → m ≢ n → s.class m ≡ Linked l b → Body p s l (s.node m) → Body p t l (s.node m)
  others t log on m zero b ne f body =
      let low : low_in (s.node m) ≡ b = (g.sits m 0 b f).low_is in
      subst (λ (es : List Entry). IsStandingLeaf p es (s.node m)) (sym log) (leaf_else p s.log entry (s.node m)
      (λ q nz ge lt is. ⊎_elim (λ (le : high_in (s.node n) ≤ b). omega (arith, le, hi, is, ge, low)) (λ (le : high_in (s.node m) ≤ a). omega (arith, le, lo, is, lt, old_low)) (g.apart n m 0 a b link f (λ z. ne (sym z)))) body)
  others t log on m (suc l) b ne f body = inner_on p s t on l (s.node m) body

  none_new : (news : List Pair) → PostsOver s i 0 (standing_pairs (s.node n)) news s.post
  none_new news = search (rules, others)

  pub leaf_end : IsOver (s.node n) image → IsStandingLeaf p (s.log ++ entry ∷ []) image
      → Change p i s (ended p s n i d image s.class s.post (entry ∷ [])) × Ground p (set words (address p (Node n at)) x) (ended p s n i d image s.class s.post (entry ∷ []))
  leaf_end over body = over_end p words s g i d n 0 a image w at x (entry ∷ []) link k bound e mades legal bare s.post (none_new (standing_pairs image)) over body (others (ended p s n i d image s.class s.post (entry ∷ [])) refl (λ m l b f. f))

  pub leaf_split : (r sep : ℕ) (right : List ℕ) → s.class r ≡ Fresh i → s.node r ≡ right → IsHalved (s.node n) image right r sep → IsStandingLeaf p (s.log ++ entry ∷ []) image → IsStandingLeaf p (s.log ++ entry ∷ []) right
      → Change p i s (ended p s n i d image (put s.class r (Linked 0 sep)) (put s.post r (Pending i)) (entry ∷ [])) × Ground p (set words (address p (Node n at)) x) (ended p s n i d image (put s.class r (Linked 0 sep)) (put s.post r (Pending i)) (entry ∷ []))
  leaf_split r sep right fresh is halved left_body right_body =
      split_end p words s g i d n 0 a image w at x (entry ∷ []) link k bound e mades legal bare r sep right fresh is halved s.post (none_new (standing_pairs image ++ standing_pairs right)) left_body right_body
      (others (ended p s n i d image (put s.class r (Linked 0 sep)) (put s.post r (Pending i)) (entry ∷ [])) refl (λ m l b f. put_else s.class r (Linked 0 sep) m (λ q. fresh_linked i l b (sym fresh ∙ ap s.class (sym q) ∙ f)) ∙ f))

-- a writer's handovers
pub bound_of : (p : ConfigParts) (words : List ℕ) (s : TreeState) → Ground p words s → (i d n : ℕ) (w : Writing) → s.hold (lock_of p n) ≡ Writes i d n w → d ≤ p.bound
bound_of p words s g i d n w e = let o : Orderly p s (lock_of p n) (Writes i d n w) = subst (Orderly p s (lock_of p n)) e (g.orderly (lock_of p n)) in o.0

-- What the last store of a leaf's WRITE is, by how the leaf changes.
module _ (p : ConfigParts) (words : List ℕ) (s : TreeState) (g : Ground p words s) (i d n a : ℕ) (entry : Entry)
    (link : s.class n ≡ Linked 0 a) (bound : d ≤ p.bound)
    (by : entry.seat ≡ i) (next : IsNext (map_of s.log) entry) (some : 1 ≤ change_key entry.change) (lo : low_in (s.node n) ≤ change_key entry.change) (hi : change_key entry.change < high_in (s.node n)) where
  abbrev leaf : Leaf
  leaf = leaf_in p (s.node n)

  leaf_here : IsStandingLeaf p s.log (s.node n)
  leaf_here = (g.sits n 0 a link).body

  -- one entry was written
  pub entry_end : (j : ℕ) (x : LeafEntry) → j < p.leaf → s.hold (lock_of p n) ≡ Writes i d n (One j (entry_words x) (2 + p.value_words)) → IsEntry p leaf.low leaf.high x
      → HasKeysOnce (set leaf.entries j x) → map_of_entries (set leaf.entries j x) ≡ changed (map_of_entries leaf.entries) entry.change
      → let t : TreeState = ended p s n i d (patched (s.node n) (entry_at p j) (entry_words x)) s.class s.post (entry ∷ []) in
      Change p i s t × Ground p (set words (address p (Node n (entry_rear_at p j))) (get_or (entry_words x) (2 + p.value_words) 0)) t
  entry_end j x lt e good once map =
      let node : List ℕ = s.node n in
      let image : List ℕ = patched node (entry_at p j) (entry_words x) in
      let size : length (entry_words x) ≡ 3 + p.value_words = Rattle.sh_image.proofs.EntriesLemmas.length-entry_words p.value_words x good.value in
      let es : standing_entries p image ≡ set leaf.entries j x = entries_patched p node j x (g.long n) lt good.value in
      let is = leaf_patched p node j x (g.long n) lt good.value in
      leaf_end p words s g i d n a image (One j (entry_words x) (2 + p.value_words)) (entry_rear_at p j) (get_or (entry_words x) (2 + p.value_words) 0) entry link (writer_writes p (s.hold (lock_of p n)) i d n _ e) bound
      (one_ends p 0 node (entry_words x) j image lt (length-patched node (entry_at p j) (entry_words x) ∙ g.long n) (patched_word p node j (entry_words x) lt (g.long n) size))
      by next some lo hi
      record { level = patched_level j x; low = ap (λ (b : Leaf). b.low) is; high = ap (λ (b : Leaf). b.high) is; next = ap (λ (b : Leaf). b.next) is }
      record {
        spells = spelled_patched p node j x (g.long n) lt good.value leaf_here.spells good;
        once = subst HasKeysOnce (sym es) once;
        map = λ q nz ge less. map_changed s.log entry leaf.entries (standing_entries p image) q nz (ap (λ (fs : List LeafEntry). get (map_of_entries fs) q) es ∙ ap (λ (m : Map). get m q) map)
            (leaf_here.map q nz (subst (λ (b : Leaf). b.low ≤ q) is ge) (subst (λ (b : Leaf). q < b.high) is less));
      }
    where
      patched_level : (j : ℕ) (x : LeafEntry) → get_or (patched (s.node n) (entry_at p j) (entry_words x)) 1 0 ≡ get_or (s.node n) 1 0
      patched_level j x = Rattle.sh_acts.proofs.StoreLemmas.patched_outside (s.node n) (entry_at p j) (entry_words x) 1 (inl (omega (arith, Rattle.sh_base.proofs.LayoutLemmas.entry_low p j)))

  -- the whole leaf was written
  pub rewritten_end : (b : Leaf) → s.hold (lock_of p n) ≡ Writes i d n (Whole (leaf_words b) (rear_at p)) → IsLeaf p b → b.low ≡ leaf.low → b.high ≡ leaf.high → b.next ≡ leaf.next
      → HasKeysOnce b.entries → map_of_entries b.entries ≡ changed (map_of_entries leaf.entries) entry.change
      → let t : TreeState = ended p s n i d (leaf_words b) s.class s.post (entry ∷ []) in
      Change p i s t × Ground p (set words (address p (Node n (rear_at p))) (get_or (leaf_words b) (rear_at p) 0)) t
  rewritten_end b e lawful low high after once map =
      leaf_end p words s g i d n a (leaf_words b) (Whole (leaf_words b) (rear_at p)) (rear_at p) (get_or (leaf_words b) (rear_at p) 0) entry link (writer_writes p (s.hold (lock_of p n)) i d n _ e) bound
      (whole_ends p 0 (s.node n) (leaf_words b) (leaf_long p b lawful)) by next some lo hi
      record { level = sym (g.sits n 0 a link).level_is; low = low; high = high; next = after }
      (leaf_stands p (s.log ++ entry ∷ []) (leaf_words b) b refl lawful once (λ q nz ge less. map_changed s.log entry leaf.entries b.entries q nz (ap (λ (m : Map). get m q) map) (leaf_here.map q nz (omega (arith, ge, low)) (omega (arith, less, high)))))

  -- the left half was written, the right one before
  leaf_splits : (key : ℕ) (value : List ℕ) (r : ℕ) → entry.change ≡ Put key value → s.hold (lock_of p n) ≡ Writes i d n (Whole (leaf_words (left_half leaf key value r)) (rear_at p)) → s.class r ≡ Fresh i → s.node r ≡ leaf_words (right_half leaf key value)
      → IsSplit leaf key → length value ≡ p.value_words → leaf.version < last_version p
      → let sep : ℕ = separator_of leaf.entries key value in
      let image : List ℕ = leaf_words (left_half leaf key value r) in
      let t : TreeState = ended p s n i d image (put s.class r (Linked 0 sep)) (put s.post r (Pending i)) (entry ∷ []) in
      Change p i s t × Ground p (set words (address p (Node n (rear_at p))) (get_or image (rear_at p) 0)) t
  leaf_splits key value r put_is e fresh is full words_are version =
      let left : Leaf = left_half leaf key value r in
      let right : Leaf = right_half leaf key value in
      let sep : ℕ = separator_of leaf.entries key value in
      let lo' : leaf.low ≤ key = omega (arith, lo, ap change_key put_is) in
      let hi' : key < leaf.high = omega (arith, hi, ap change_key put_is) in
      let nz : key ≢ 0 = λ z. omega (arith, z, full.is_key) in
      let old = g.sits n 0 a link in
      let real = g.own r i fresh in
      let lawful : IsLeaf p leaf = leaf_here.spells.lawful in
      let within = separator_within p leaf key value r lawful full.some full.lacks full.full full.once lo' full.is_key hi' words_are in
      let high_word : leaf.high < 2 ^ 64 = omega (arith, old.past) in
      let left_ok : IsLeaf p left = left_lawful p leaf key value r lawful full.some full.lacks full.full full.once lo' full.is_key hi' words_are version real.first real.last high_word in
      let right_ok : IsLeaf p right = right_lawful p leaf key value r lawful full.some full.lacks full.full full.once lo' full.is_key hi' words_are in
      let side = sides leaf key value r full.some nz full.lacks full.full full.once in
      let change : (m : Map) (q : ℕ) → get (map.put m key value) q ≡ get (changed m entry.change) q = λ m q. ap (λ (c : MapChange). get (changed m c) q) (sym put_is) in
      leaf_split p words s g i d n a (leaf_words left) (Whole (leaf_words left) (rear_at p)) (rear_at p) (get_or (leaf_words left) (rear_at p) 0) entry link (writer_writes p (s.hold (lock_of p n)) i d n _ e) bound
      (whole_ends p 0 (s.node n) (leaf_words left) (leaf_long p left left_ok)) by next some lo hi r sep (leaf_words right) fresh is
      record { above = within.0; below = within.1; level = sym old.level_is; low = refl; high = refl; next = refl; right_level = sym old.level_is; right_low = refl; right_high = refl; right_next = refl }
      (leaf_stands p (s.log ++ entry ∷ []) (leaf_words left) left refl left_ok (left_once leaf key value r nz) (λ q nq ge less. map_changed s.log entry leaf.entries left.entries q nq (((side q).0 less).0 ∙ change (map_of_entries leaf.entries) q) (leaf_here.map q nq ge (omega (arith, less, within.1)))))
      (leaf_stands p (s.log ++ entry ∷ []) (leaf_words right) right refl right_ok (right_once leaf key value r nz) (λ q nq ge less. map_changed s.log entry leaf.entries right.entries q nq (((side q).1 ge).1 ∙ change (map_of_entries leaf.entries) q) (leaf_here.map q nq (omega (arith, ge, within.0)) less)))

  pub leaf_split_end : (b : Leaf) → b ≡ leaf → (key : ℕ) (value : List ℕ) (r : ℕ) → entry.change ≡ Put key value → s.hold (lock_of p n) ≡ Writes i d n (Whole (leaf_words (left_half b key value r)) (rear_at p)) → s.class r ≡ Fresh i → s.node r ≡ leaf_words (right_half b key value)
      → IsSplit b key → length value ≡ p.value_words → b.version < last_version p
      → let sep : ℕ = separator_of b.entries key value in
      let image : List ℕ = leaf_words (left_half b key value r) in
      let t : TreeState = ended p s n i d image (put s.class r (Linked 0 sep)) (put s.post r (Pending i)) (entry ∷ []) in
      Change p i s t × Ground p (set words (address p (Node n (rear_at p))) (get_or image (rear_at p) 0)) t
  leaf_split_end b same key value r put_is = subst (λ (b : Leaf). s.hold (lock_of p n) ≡ Writes i d n (Whole (leaf_words (left_half b key value r)) (rear_at p)) → s.class r ≡ Fresh i → s.node r ≡ leaf_words (right_half b key value)
      → IsSplit b key → length value ≡ p.value_words → b.version < last_version p
      → let sep : ℕ = separator_of b.entries key value in
      let image : List ℕ = leaf_words (left_half b key value r) in
      let t : TreeState = ended p s n i d image (put s.class r (Linked 0 sep)) (put s.post r (Pending i)) (entry ∷ []) in
      Change p i s t × Ground p (set words (address p (Node n (rear_at p))) (get_or image (rear_at p) 0)) t) (sym same) (leaf_splits key value r put_is)
