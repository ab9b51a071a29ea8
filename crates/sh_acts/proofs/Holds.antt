-- A lock changes its holder, or its holder's WRITE begins or goes on; a node's post is skipped; and a new root posts one.
use Rattle.std.proofs.{Common.{rules, ◌≡◌, ◌≢◌, ℕ, ◌+◌, ◌<◌, ◌≤◌, List, [], set, refl, ap, sym, ◌∙◌, subst, inl, inr, arith, append-nil, ◌⊎◌, ⊎_elim, zero, suc, ◌-◌, ◌∷◌}, lemmas.Bool.{cases_lt}}
use Rattle.std.specs.Prelude.{◌^◌}
use mathlib.Core.Logic.{dite}
use native.Mathlib.Decide.{ℕ_discrete}
use Rattle.sh_base.specs.{Layout.{lock_of, compute_of}, Places.{Site, Own, Root, Counter, Lock, Node, address, IsSite}, Setting.{all_locks, nodes, IsNode, IsSetting}}
use Rattle.sh_base.specs.declared.config.ConfigParts.{ConfigParts}
use Rattle.sh_read.specs.Moments.{Writing, Idle, word, Next, still}
use Rattle.sh_state.{proofs.{Puts.{put_here, put_else, put_case, shows_same, shows_store}, Spelled.{inner_is, inner_stands}}, specs.{Change.{ChangeFor, Change, IsPostOf}, Ground.{Ground, HasParent}}}
use Rattle.sh_state.proofs.Scenes.{writes_else, writes_here, body_on, sits_on, orderly_on, linked_is, is_linked, Links, fresh_linked, fresh_is, undrawn_fresh, links_on}
use Rattle.sh_state.specs.Nodes.{Orderly, level_in, low_in, high_in, next_in, IsLinked, LeadsTo, LeadDown, standing_pairs, Body, LeadsRight, Sits}
use Rattle.sh_state.specs.TreeState.{Linked, Owner, Seat, LockState, Nobody, Held, Writes, Owns, owner_word, hold_word, TreeState, writing_of, shown, Shows, ParentLink, Posted, Pending, Skipped}
use Rattle.sh_state.specs.TreeState.{Fresh}
use Rattle.sh_acts.specs.{Stores.{GoesOn}, Acts.{with_hold, skipped, grown}}
use Rattle.sh_logic.proofs.Pigeons.{at_most}
use Rattle.sh_image.specs.{declared.inner.Pair.{Pair}, Inner.{Inner, inner_words, IsInner, AreSeparators}}
use Rattle.sh_edit.{specs.Pairing.{root_over}, proofs.RiseLemmas.{root_lawful}}

-- a holder with no WRITE under way, or nobody
abbrev pub Rests : LockState → Type 0
Rests Nobody = Unit {0}
Rests (Held owner depth) = Unit {0}
Rests (Writes seat depth node w) = ⊥

pub rests_idle : (n : ℕ) (h : LockState) → Rests h → writing_of n h ≡ Idle
rests_idle n h r = search rules

-- a seat holds the lock, and w is under way of node n, no other
pub record IsWriter (p : ConfigParts) (h : LockState) (seat depth n : ℕ) (w : Writing) : Type 0 where
  pub owns : (o : Owner) → Owns h o → Seat seat ≡ o
  pub word_is : hold_word p h ≡ compute_of p seat + 1
  pub here : writing_of n h ≡ w
  pub others : (m : ℕ) → m ≢ n → writing_of m h ≡ Idle

pub writer_held : (p : ConfigParts) (h : LockState) (seat depth n : ℕ) → h ≡ Held (Seat seat) depth → IsWriter p h seat depth n Idle
writer_held p h seat depth n e = subst (λ (x : LockState). IsWriter p x seat depth n Idle) (sym e) record { owns = λ o h. h; word_is = refl; here = refl; others = λ m ne. refl }

pub writer_writes : (p : ConfigParts) (h : LockState) (seat depth n : ℕ) (w : Writing) → h ≡ Writes seat depth n w → IsWriter p h seat depth n w
writer_writes p h seat depth n w e = subst (λ (x : LockState). IsWriter p x seat depth n w) (sym e) record { owns = λ o h. h; word_is = refl; here = writes_here n seat depth w; others = λ m ne. writes_else m seat depth n w (λ q. ne (sym q)) }

-- no other owner has the lock
pub none_else : (p : ConfigParts) (h : LockState) (seat depth n : ℕ) (w : Writing) → IsWriter p h seat depth n w → (o : Owner) → o ≢ Seat seat → Owns h o → ⊥
none_else p h seat depth n w k o ne own = ne (sym (k.owns o own))

module _ (p : ConfigParts) (words : List ℕ) (s : TreeState) (g : Ground p words s) where
  -- where the holders alone are others
  pub held_ground : (now : List ℕ) (hold : ℕ → LockState) → let t : TreeState = record s { hold = hold } in Shows p now (shown p t) → ((l : ℕ) → Orderly p t l (hold l)) → Ground p now t
  held_ground now hold shows orderly =
      let t : TreeState = record s { hold = hold } in
      let sits : (n k a : ℕ) → s.class n ≡ Linked k a → Sits p t n k a = λ n k a e. sits_on p s t (λ n l a e. e) n k a refl (body_on p s t (λ n l a e. e) refl k (s.node n)) (g.sits n k a e) in
      let posted : (n k a : ℕ) → s.class n ≡ Linked k a → s.post n ≡ Posted → (a ≡ 0) ⊎ HasParent t k n = λ n k a e z. let u = g.posted n k a e z in elim u [ inl q ↦ inl q | inr h ↦ inr record { parent = h.parent; low = h.low; linked = h.linked; leads = h.leads } ] in
      assumption (shows, orderly, sits, posted, g)

  -- the standing words stay
  pub hold_act : (Other : Owner → Type 0) (now : List ℕ) (l : ℕ) (x : LockState) → Shows p now (shown p (with_hold s l x)) → Orderly p s l x
      → ((o : Owner) → Other o → Owns x o → ⊥) → ((o : Owner) → Other o → Owns (s.hold l) o → ⊥)
      → ((n lv a : ℕ) → s.class n ≡ Linked lv a → lock_of p n ≡ l → Next p (s.node n) (writing_of n (s.hold l)) (s.node n) (writing_of n x))
      → ChangeFor p Other s (with_hold s l x) × Ground p now (with_hold s l x)
  hold_act Other now l x shows order new old next =
      let t : TreeState = with_hold s l x in (
        record {
          more = [];
          longer = sym (append-nil s.log);
          entries = λ j ne. tt;
          linked = λ n k a e. e;
          fresh = λ j n ne e. (e, refl);
          posts = λ j n y ne i. (λ e. e, λ e. e);
          back = λ o k ne. put_case (λ h. Owns h o → Owns (s.hold k) o) s.hold l x k (λ e h. absurd (new o ne h)) (λ n h. h);
          holds = λ o k ne h. put_else s.hold l x k (λ e. old o ne (subst (λ (z : ℕ). Owns (s.hold z) o) e h));
          nodes = λ o n k a ne e h. refl;
          moves = λ n k a e. put_case (λ h. Next p (s.node n) (writing_of n (s.hold (lock_of p n))) (s.node n) (writing_of n h)) s.hold l x (lock_of p n)
              (λ at. subst (λ (z : ℕ). Next p (s.node n) (writing_of n (s.hold z)) (s.node n) (writing_of n x)) (sym at) (next n k a e at)) (λ away. still);
        },
        held_ground now t.hold shows (λ k. put_case (λ h. Orderly p t k h) s.hold l x k
            (λ e. subst (λ (z : ℕ). Orderly p t z x) (sym e) (orderly_on p s t (λ n l a e. e) l x (λ i d n w q. refl) order))
            (λ ne. orderly_on p s t (λ n l a e. e) k (s.hold k) (λ i d n w q. refl) (g.orderly k))),
      )

  -- the places but the lock's, where no WRITE is under way before and after
  rest_places : (l : ℕ) (x : LockState) → Rests (s.hold l) → Rests x → (b : Site) → IsSite p b → b ≢ Lock l → shown p s b ≡ shown p (with_hold s l x) b
  rest_places l x r q b ib ne = search (rules, put_else, put_case, rests_idle)

  rest_next : (l : ℕ) (x : LockState) → Rests (s.hold l) → Rests x → (n : ℕ) → Next p (s.node n) (writing_of n (s.hold l)) (s.node n) (writing_of n x)
  rest_next l x r q n = subst (λ (w : Writing). Next p (s.node n) (writing_of n (s.hold l)) (s.node n) w) (rests_idle n (s.hold l) r ∙ sym (rests_idle n x q)) still

  -- a free lock is taken
  pub take_act : (i l : ℕ) → l < all_locks p → s.hold l ≡ Nobody → Change p i s (with_hold s l (Held (Seat i) 0)) × Ground p (set words (address p (Lock l)) (compute_of p i + 1)) (with_hold s l (Held (Seat i) 0))
  take_act i l lt e =
      let x : LockState = Held (Seat i) 0 in
      let r : Rests (s.hold l) = subst Rests (sym e) tt in
      hold_act (λ o. o ≢ Seat i) _ l x
      (shows_store p words (shown p s) g.shows (shown p (with_hold s l x)) (Lock l) (compute_of p i + 1) lt (ap (hold_word p) (put_here s.hold l x)) (rest_places l x r tt))
      (omega arith) (λ o ne h. ne (sym h)) (λ o ne h. subst (λ (y : LockState). Owns y o) e h) (λ n lv a f at. rest_next l x r tt n)

  -- a lock is given back
  pub free_act : (i l d : ℕ) → l < all_locks p → s.hold l ≡ Held (Seat i) d → Change p i s (with_hold s l Nobody) × Ground p (set words (address p (Lock l)) 0) (with_hold s l Nobody)
  free_act i l d lt e =
      let r : Rests (s.hold l) = subst Rests (sym e) tt in
      hold_act (λ o. o ≢ Seat i) _ l Nobody
      (shows_store p words (shown p s) g.shows (shown p (with_hold s l Nobody)) (Lock l) 0 lt (ap (hold_word p) (put_here s.hold l Nobody)) (rest_places l Nobody r tt))
      tt (λ o ne h. h) (λ o ne h. ne (sym (subst (λ (y : LockState). Owns y o) e h))) (λ n lv a f at. rest_next l Nobody r tt n)

  -- a right goes from one owner to another, and no word changes
  pub hand_act : (l d e : ℕ) (u v : Owner) → s.hold l ≡ Held u d → owner_word p u ≡ owner_word p v → e ≤ p.bound → ChangeFor p (λ o. (o ≢ u) × (o ≢ v)) s (with_hold s l (Held v e)) × Ground p words (with_hold s l (Held v e))
  hand_act l d e u v at same bound =
      let x : LockState = Held v e in
      let r : Rests (s.hold l) = subst Rests (sym at) tt in
      hold_act (λ o. (o ≢ u) × (o ≢ v)) words l x
      (shows_same p words (shown p s) g.shows (shown p (with_hold s l x)) (λ b ib. places b ib (ap (hold_word p) at ∙ same) r))
      bound (λ o ne h. ne.1 (sym h)) (λ o ne h. ne.0 (sym (subst (λ (y : LockState). Owns y o) at h))) (λ n lv a f q. rest_next l x r tt n)
    where
      places : (b : Site) → IsSite p b → hold_word p (s.hold l) ≡ owner_word p v → Rests (s.hold l) → shown p s b ≡ shown p (with_hold s l (Held v e)) b
      places Own ib q r = refl
      places Root ib q r = refl
      places (Counter server) ib q r = refl
      places (Lock m) ib q r = put_case (λ h. hold_word p (s.hold m) ≡ hold_word p h) s.hold l (Held v e) m (λ z. ap (λ (k : ℕ). hold_word p (s.hold k)) z ∙ q) (λ away. refl)
      places (Node n o) ib q r = rest_places l (Held v e) r tt (Node n o) ib (λ z. cc)

  -- a store begins the WRITE of a linked node, or goes on with it
  pub go_act : (i d n lv a : ℕ) (w v : Writing) (at x : ℕ) → s.class n ≡ Linked lv a → IsWriter p (s.hold (lock_of p n)) i d n w → d ≤ p.bound → GoesOn p lv (s.node n) w v at x
      → Change p i s (with_hold s (lock_of p n) (Writes i d n v)) × Ground p (set words (address p (Node n at)) x) (with_hold s (lock_of p n) (Writes i d n v))
  go_act i d n lv a w v at x link k bound go =
      let l : ℕ = lock_of p n in
      let y : LockState = Writes i d n v in
      hold_act (λ o. o ≢ Seat i) _ l y
      (shows_store p words (shown p s) g.shows (shown p (with_hold s l y)) (Node n at) x ((g.sits n lv a link).real, go.within)
      (ap (λ (h : LockState). word p (s.node n) (writing_of n h) at) (put_here s.hold l y) ∙ ap (λ (z : Writing). word p (s.node n) z at) (writes_here n i d v) ∙ go.here) places)
      (bound, record { level = lv; low = a; lock_is = refl; linked = link; stores = go.stores })
      (λ o ne h. ne (sym h)) (none_else p (s.hold l) i d n w k)
      (λ m lv' a' f q. dite (ℕ_discrete m n)
      (λ (e : m ≡ n). subst (λ (z : ℕ). Next p (s.node z) (writing_of z (s.hold l)) (s.node z) (writing_of z y)) (sym e) (subst (λ (z : Writing × Writing). Next p (s.node n) z.0 (s.node n) z.1) (λ z. (sym k.here z, sym (writes_here n i d v) z)) go.next))
      (λ (ne : m ≢ n). subst (λ (z : Writing). Next p (s.node m) (writing_of m (s.hold l)) (s.node m) z) (k.others m ne ∙ sym (writes_else m i d n v (λ q. ne (sym q)))) still))
    where
      places : (b : Site) → IsSite p b → b ≢ Node n at → shown p s b ≡ shown p (with_hold s (lock_of p n) (Writes i d n v)) b
      places Own ib ne = refl
      places Root ib ne = refl
      places (Counter server) ib ne = refl
      places (Lock m) ib ne = put_case (λ h. hold_word p (s.hold m) ≡ hold_word p h) s.hold (lock_of p n) (Writes i d n v) m (λ z. ap (λ (j : ℕ). hold_word p (s.hold j)) z ∙ k.word_is) (λ away. refl)
      places (Node m o) ib ne = put_case (λ h. word p (s.node m) (writing_of m (s.hold (lock_of p m))) o ≡ word p (s.node m) (writing_of m h) o) s.hold (lock_of p n) (Writes i d n v) (lock_of p m)
          (λ z. ap (λ (j : ℕ). word p (s.node m) (writing_of m (s.hold j)) o) z ∙ dite (ℕ_discrete m n)
          (λ (e : m ≡ n).
          let Q : ℕ → Type 0 = λ j. word p (s.node j) (writing_of j (s.hold (lock_of p n))) o ≡ word p (s.node j) (writing_of j (Writes i d n v)) o in
          subst Q (sym e) (ap (λ (j : Writing). word p (s.node n) j o) k.here ∙ go.others o ib.1 (λ q. ne ((λ u. Node (e u) (q u)))) ∙ ap (λ (j : Writing). word p (s.node n) j o) (sym (writes_here n i d v))))
          (λ (nm : m ≢ n). ap (λ (j : Writing). word p (s.node m) j o) (k.others m nm ∙ sym (writes_else m i d n v (λ q. nm (sym q))))))
          (λ away. refl)

-- ---- a post is skipped

pub posted_of : (i : ℕ) (x : ParentLink) → IsPostOf i x → Posted ≡ x → ⊥
posted_of i x h e = search rules

pub pending_of : (i j : ℕ) (x : ParentLink) → IsPostOf j x → Pending i ≡ x → i ≡ j
pending_of i j x h e = search rules

pub skipped_of : (i j : ℕ) (x : ParentLink) → IsPostOf j x → Skipped i ≡ x → i ≡ j
skipped_of i j x h e = search rules

pending_posted : (i : ℕ) → Pending i ≡ Posted → ⊥
pending_posted i e = cc

skipped_posted : (i : ℕ) → Skipped i ≡ Posted → ⊥
skipped_posted i e = cc

module _ (p : ConfigParts) (words : List ℕ) (s : TreeState) (g : Ground p words s) where
  pub skip_act : (i n l a : ℕ) → s.class n ≡ Linked l a → 0 < a → s.post n ≡ Pending i → Change p i s (skipped s n i) × Ground p words (skipped s n i)
  skip_act i n l a link some mine =
      let t : TreeState = skipped s n i in (
        record {
          more = [];
          longer = sym (append-nil s.log);
          entries = λ j ne. tt;
          linked = λ m k b e. e;
          fresh = λ j m ne e. (e, refl);
          posts = λ j m x ne h. (
            λ e. put_else s.post n (Skipped i) m (λ q. ne (ap Seat (sym (pending_of i j x h (sym mine ∙ ap s.post (sym q) ∙ e))))) ∙ e,
            put_case (λ z. z ≡ x → s.post m ≡ x) s.post n (Skipped i) m (λ q e. absurd (ne (ap Seat (sym (skipped_of i j x h e))))) (λ q e. e),
          );
          back = λ j k ne o. o;
          holds = λ j k ne o. refl;
          nodes = λ j m k b ne e o. refl;
          moves = λ m k b e. still;
        },
        let shows : Shows p words (shown p t) = shows_same p words (shown p s) g.shows (shown p t) (λ b ib. same b) in
            let orderly : (k : ℕ) → Orderly p t k (s.hold k) = λ k. orderly_on p s t (λ m l b e. e) k (s.hold k) (λ j d m w q. refl) (g.orderly k) in
            let sits : (m k b : ℕ) → s.class m ≡ Linked k b → Sits p t m k b = λ m k b e. sits_on p s t (λ m l b e. e) m k b refl (body_on p s t (λ m l b e. e) refl k (s.node m)) (g.sits m k b e) in
            let outside : (m : ℕ) → IsLinked (s.class m) ⊎ (t.post m ≡ Posted) = λ m. dite (ℕ_discrete m n) (λ q. inl (is_linked s m l a (ap s.class q ∙ link))) (λ ne. ⊎_elim (λ z. inl z) (λ z. inr (put_else s.post n (Skipped i) m ne ∙ z)) (g.outside m)) in
            let firsts : (m k : ℕ) → s.class m ≡ Linked k 0 → t.post m ≡ Posted = λ m k e. put_else s.post n (Skipped i) m (λ q. let w = linked_is k 0 l a (sym e ∙ ap s.class q ∙ link) in omega (arith, w.1, some)) ∙ g.firsts m k e in
            let children : (q k b m : ℕ) → s.class q ≡ Linked (suc k) b → LeadsTo (standing_pairs (s.node q)) m → t.post m ≡ Posted = λ q k b m e h. let z = g.children q k b m e h in put_else s.post n (Skipped i) m (λ v. pending_posted i (sym mine ∙ ap s.post (sym v) ∙ z)) ∙ z in
            let posted : (m k b : ℕ) → s.class m ≡ Linked k b → t.post m ≡ Posted → (b ≡ 0) ⊎ HasParent t k m = λ m k b e. put_case (λ z. z ≡ Posted → (b ≡ 0) ⊎ HasParent t k m) s.post n (Skipped i) m (λ q z. absurd (skipped_posted i z)) (λ q z. ⊎_elim (λ v. inl v) (λ (h : HasParent s k m). inr record { parent = h.parent; low = h.low; linked = h.linked; leads = h.leads }) (g.posted m k b e z)) in
            assumption (shows, orderly, sits, outside, firsts, children, posted, g),
      )
    where
      same : (b : Rattle.sh_base.specs.Places.Site) → shown p s b ≡ shown p (skipped s n i) b
      same Rattle.sh_base.specs.Places.Own = refl
      same Rattle.sh_base.specs.Places.Root = refl
      same (Rattle.sh_base.specs.Places.Counter server) = refl
      same (Rattle.sh_base.specs.Places.Lock m) = refl
      same (Rattle.sh_base.specs.Places.Node m o) = refl

-- ---- a new root is hung in

-- the first pair's separator is the low fence
first_pair : (pairs : List Pair) (low high l : ℕ) (s : TreeState) → AreSeparators low high pairs → LeadDown s l pairs → (1 ≤ Rattle.std.proofs.Common.length pairs) → (n : ℕ) × (s.class n ≡ Linked l low) × LeadsTo pairs n
first_pair [] low high l s h d some = absurd (omega (arith, some))
first_pair (x ∷ xs) low high l s h d some = (x.child, d.0 ∙ ap (λ (z : ℕ). Linked l z) h.first, inl refl)

module _ (p : ConfigParts) (words : List ℕ) (s : TreeState) (g : Ground p words s) where
  -- the first node of each level, from the root down
  pub first_at : (d l : ℕ) → l + d ≡ s.height → (n : ℕ) × (s.class n ≡ Linked l 0)
  first_at zero l e = (s.root, g.root ∙ ap (λ (y : ℕ). Linked y 0) (omega (arith, e)))
  first_at (suc d) l e =
      let u = first_at d (suc l) (omega (arith, e)) in
      let z = g.sits u.0 (suc l) 0 u.1 in
      let b = z.body in
      let r = first_pair (standing_pairs (s.node u.0)) (low_in (s.node u.0)) (high_in (s.node u.0)) l s b.spells.lawful.separators b.children b.spells.lawful.count.0 in
      (r.0, r.1 ∙ ap (λ (y : ℕ). Linked l y) z.low_is)

  -- a seat with a node of its own may raise the root: there are fewer levels than nodes
  pub taller : (r i : ℕ) → s.class r ≡ Fresh i → s.height + 1 < nodes p
  taller r i e =
      let le = at_most (s.height + 2) (nodes p) (λ l. (pick l).0) (λ l lt. let k = (pick l).1 in (k.first, k.last)) apart in
      omega (arith, le)
    where
      pick : (l : ℕ) → (n : ℕ) × IsNode p n × (l ≤ s.height → s.class n ≡ Linked l 0) × (s.height < l → s.class n ≡ Fresh i)
      pick l = elim (cases_lt s.height l) [
        | inl lt ↦ (r, g.own r i e, (λ le. absurd (omega (arith, le, lt))), λ z. e)
        | inr ge ↦ let u = first_at (s.height - l) l (omega (arith, ge)) in (u.0, (g.sits u.0 l 0 u.1).real, (λ le. u.1), λ lt. absurd (omega (arith, lt, ge)))
      ]

      clash : (a b m n : ℕ) → m ≡ n → (a ≤ s.height → s.class m ≡ Linked a 0) → (b ≤ s.height → s.class n ≡ Linked b 0) → (s.height < b → s.class n ≡ Fresh i) → a < b → b < s.height + 2 → ⊥
      clash a b m n q fa fb fr lt below =
          let f = fa (omega (arith, lt, below)) in
          elim (cases_lt s.height b) [
            | inl past ↦ fresh_linked i a 0 (sym (fr past) ∙ ap s.class (sym q) ∙ f)
            | inr in_range ↦ let k = linked_is a 0 b 0 (sym f ∙ ap s.class q ∙ fb in_range) in omega (arith, k.0, lt)
          ]

      apart : (a b : ℕ) → a < b → b < s.height + 2 → (pick a).0 ≢ (pick b).0
      apart a b lt below q = clash a b (pick a).0 (pick b).0 q (pick a).2 (pick b).2 (pick b).3 lt below

  pub root_act : (i r n c sep : ℕ) → IsSetting p → s.root ≡ n → s.class c ≡ Linked s.height sep → 0 < sep → sep < 2 ^ 64 - 1 → s.post c ≡ Pending i → s.class r ≡ Fresh i → s.node r ≡ inner_words p (root_over (suc s.height) n sep c)
      → Change p i s (grown s r c) × Ground p (set words (address p Root) r) (grown s r c)
  root_act i r n c sep ok at child some past mine fresh is =
      let t : TreeState = grown s r c in
      let h : ℕ = s.height in
      let r_is : t.class r ≡ Linked (suc h) 0 = put_here s.class r (Linked (suc h) 0) in
      let on : Links s t = λ m k b f. put_else s.class r (Linked (suc h) 0) m (λ q. fresh_linked i k b (sym fresh ∙ ap s.class (sym q) ∙ f)) ∙ f in
      let from : (m k b : ℕ) → m ≢ r → t.class m ≡ Linked k b → s.class m ≡ Linked k b = λ m k b ne f. sym (put_else s.class r (Linked (suc h) 0) m ne) ∙ f in
      let n_is : s.class n ≡ Linked h 0 = ap s.class (sym at) ∙ g.root in
      let real : IsNode p r = g.own r i fresh in
      let left : IsNode p n = (g.sits n h 0 n_is).real in
      let right : IsNode p c = (g.sits c h sep child).real in
      let lawful : IsInner p (root_over (suc h) n sep c) = root_lawful p (suc h) n sep c (omega (arith, ok.ranged.leaf.0)) (omega arith) (omega (arith, taller r i fresh)) left.first left.last right.first right.last some past in
      let pairs : standing_pairs (s.node r) ≡ (root_over (suc h) n sep c).pairs = ap (λ (a : Inner). a.pairs) (inner_is p (s.node r) (root_over (suc h) n sep c) is lawful) in
      let P : List ℕ → Type 0 = λ ws. (level_in ws ≡ suc h) × (low_in ws ≡ 0) × (0 < high_in ws) × (high_in ws ≤ 2 ^ 64 - 1) × LeadsRight t (suc h) (high_in ws) (next_in ws) in
      let q : P (s.node r) = subst P (sym is) (refl, refl, omega arith, omega arith, inl (refl, refl)) in
      let body : Body p t (suc h) (s.node r) = inner_stands p t h (s.node r) (root_over (suc h) n sep c) is lawful (on n h 0 n_is, (on c h sep child, tt)) in (
        record {
          more = [];
          longer = sym (append-nil s.log);
          entries = λ j m. tt;
          linked = on;
          fresh = λ j m ne f. (put_else s.class r (Linked (suc h) 0) m (λ q. ne (ap Seat (fresh_is j i (sym f ∙ ap s.class q ∙ fresh)))) ∙ f, refl);
          posts = λ j m x ne z. (
            λ f. put_else s.post c Posted m (λ v. ne (ap Seat (sym (pending_of i j x z (sym mine ∙ ap s.post (sym v) ∙ f))))) ∙ f,
            put_case (λ y. y ≡ x → s.post m ≡ x) s.post c Posted m (λ v f. absurd (posted_of j x z f)) (λ v f. f),
          );
          back = λ j k ne o. o;
          holds = λ j k ne o. refl;
          nodes = λ j m k b ne f o. refl;
          moves = λ m k b f. still;
        },
        record {
          shows = shows_store p words (shown p s) g.shows (shown p t) Root r tt refl (places t);
          long = g.long;
          orderly = λ k. orderly_on p s t on k (s.hold k) (λ j d m w z. refl) (g.orderly k);
          sits = λ m k b f. dite (ℕ_discrete m r)
              (λ (v : m ≡ r). let w = linked_is k b (suc h) 0 (sym f ∙ ap t.class v ∙ r_is) in subst (λ (z : ℕ × ℕ × ℕ). Sits p t z.0 z.1 z.2) (λ z. (sym v z, sym w.0 z, sym w.1 z)) record { real = real; level_is = q.0; low_is = q.1; fences = q.2; past = q.3; next = q.4; body = body })
              (λ (ne : m ≢ r). sits_on p s t on m k b refl (body_on p s t on refl k (s.node m)) (g.sits m k b (from m k b ne f)));
          apart = λ m k lv b d f o ne. dite (ℕ_discrete m r)
              (λ (v : m ≡ r). let w = linked_is lv b (suc h) 0 (sym f ∙ ap t.class v ∙ r_is) in absurd (omega (arith, w.0, g.heights k lv d (from k lv d (λ z. ne (v ∙ sym z)) o))))
              (λ (nr : m ≢ r). dite (ℕ_discrete k r)
              (λ (v : k ≡ r). let w = linked_is lv d (suc h) 0 (sym o ∙ ap t.class v ∙ r_is) in absurd (omega (arith, w.0, g.heights m lv b (from m lv b nr f))))
              (λ (nk : k ≢ r). g.apart m k lv b d (from m lv b nr f) (from k lv d nk o) ne));
          own = λ m j. put_case (λ y. y ≡ Fresh j → IsNode p m) s.class r (Linked (suc h) 0) m (λ v f. absurd (fresh_linked j (suc h) 0 (sym f))) (λ v f. g.own m j f);
          undrawn = λ v k m lv lk le z. let u = g.undrawn v k m lv lk le z in put_else s.class r (Linked (suc h) 0) m (λ y. undrawn_fresh i (sym u ∙ ap s.class y ∙ fresh)) ∙ u;
          root = r_is;
          heights = λ m k b f. dite (ℕ_discrete m r) (λ (v : m ≡ r). let w = linked_is k b (suc h) 0 (sym f ∙ ap t.class v ∙ r_is) in omega (arith, w.0)) (λ (ne : m ≢ r). let le = g.heights m k b (from m k b ne f) in omega (arith, le));
          outside = λ m. ⊎_elim (λ z. inl (links_on p s t on m z)) (λ z. inr (put_case (λ y. y ≡ Posted) s.post c Posted m (λ v. refl) (λ v. z))) (g.outside m);
          firsts = λ m k f. put_case (λ y. y ≡ Posted) s.post c Posted m (λ v. refl) (λ nc. dite (ℕ_discrete m r) (λ (v : m ≡ r). ap s.post v ∙ ⊎_elim (λ (z : IsLinked (s.class r)). absurd (subst IsLinked fresh z)) (λ z. z) (g.outside r)) (λ (ne : m ≢ r). g.firsts m k (from m k 0 ne f)));
          children = λ o k b m f z. put_case (λ y. y ≡ Posted) s.post c Posted m (λ v. refl) (λ nc. dite (ℕ_discrete o r)
              (λ (v : o ≡ r).
              let z' : LeadsTo (root_over (suc h) n sep c).pairs m = subst (λ (xs : List Pair). LeadsTo xs m) (ap (λ (y : ℕ). standing_pairs (s.node y)) v ∙ pairs) z in
              elim z' [ inl e ↦ g.firsts m h (ap s.class (sym e) ∙ n_is) | inr rest ↦ elim rest [ inl e ↦ absurd (nc (sym e)) | inr none ↦ absurd none ] ])
              (λ (ne : o ≢ r). g.children o k b m (from o (suc k) b ne f) z));
          posted = λ m k b f. put_case (λ y. y ≡ Posted → (b ≡ 0) ⊎ HasParent t k m) s.post c Posted m
              (λ v z.
              let w = linked_is k b h sep (sym f ∙ on m h sep (ap s.class v ∙ child)) in
              inr record { parent = r; low = 0; linked = r_is ∙ ap (λ (y : ℕ). Linked (suc y) 0) (sym w.0); leads = subst (λ (xs : List Pair). LeadsTo xs m) (sym pairs) (inr (inl (sym v))) })
              (λ nc z. dite (ℕ_discrete m r)
              (λ (v : m ≡ r). let w = linked_is k b (suc h) 0 (sym f ∙ ap t.class v ∙ r_is) in inl w.1)
              (λ (ne : m ≢ r). ⊎_elim (λ (v : b ≡ 0). inl v) (λ (u : HasParent s k m). inr record { parent = u.parent; low = u.low; linked = on u.parent (suc k) u.low u.linked; leads = u.leads }) (g.posted m k b (from m k b ne f) z)));
          legal = g.legal;
          bare = g.bare;
        },
      )
    where
      places : (t : TreeState) → (b : Site) → IsSite p b → b ≢ Root → shown p s b ≡ shown p (grown s r c) b
      places t Own ib ne = refl
      places t Root ib ne = absurd (ne refl)
      places t (Counter server) ib ne = refl
      places t (Lock m) ib ne = refl
      places t (Node m o) ib ne = refl
