-- Who has a lock; the standing words at each moment, and the lock words.
use Rattle.std.proofs.Common.{rules, ◌≡◌, ◌≤◌, ◌≢◌, ℕ, zero, suc, Option, Some, None, refl, sym, ap, ◌∙◌, subst, ◌⊎◌, ◌+◌, ◌<◌, List, length, get_or, set, inl, inr, arith, get_or-set_same}
use Rattle.std.proofs.lemmas.{Bool.{cases_eq}, List.{length-set}}
use Rattle.sh_base.{proofs.{LayoutLemmas.{node_word_high}, PlacesLemmas.{stores_keep_apart}}, specs.{Layout.{lock_of, node_word}, Places.{Site, Lock, Node, address, IsSite}}}
use Rattle.sh_base.specs.{Setting.{node_size, nodes, pool_words, IsNode}, declared.config.ConfigParts.{ConfigParts}}
use Rattle.sh_read.specs.Moments.{Writing, Idle}
use Rattle.sh_state.{proofs.Scenes.{is_linked, writes_else}, specs.{Ground.{Ground}, Nodes.{Orderly, IsLinked}}}
use Rattle.sh_state.specs.TreeState.{Seat, LockState, Held, Writes, Owns, TreeState, Owner, Grant, Nobody, owner_word, hold_word, writing, writing_of, shown}
use Rattle.sh_decide.specs.declared.state.Posting.{Posting}
use Rattle.sh_client.specs.{Machine.{Registers}, declared.state.{Filling.TheVariants.{RightHalf}, Need.TheVariants.{ToSplit}, Phase.{Phase}}}
use Rattle.sh_client.specs.declared.state.Phase.TheVariants.{ReadLocked, Seek, Fill, Waiting, Body, Leave}
use Rattle.sh_acts.proofs.Holds.{held_ground}
use Rattle.sh_core.specs.{Actors.{Actor}, Fits.{Carries, Fits}, Keeps.{holding, KeepsActor}, Core.{Inv}}
use Rattle.sh_core_says.{specs.{Moments.{handed_to, written_node, IsWritten, IsStill, HoldsLock, IsStanding, AreLocks, EachMoment}}, proofs.Trees.{holds_tree}}
use Rattle.sh_map.specs.{declared.log.Entry.{Entry as LogEntry}, Log.{map_of}}

-- the hold of a lock by a seat that writes this node, or none
abbrev pub HeldBy : TreeState → (seat lock : ℕ) → Option ℕ → Type 0
HeldBy s i l None = (d : ℕ) × (s.hold l ≡ Held (Seat i) d)
HeldBy s i l (Some n) = (d : ℕ) × (w : Writing) × (s.hold l ≡ Writes i d n w)

-- what a client holds, if anything, its seat holds so
abbrev pub HoldsSo : TreeState → (seat : ℕ) → (lock node : Option ℕ) → Type 0
HoldsSo s i None n = Unit {0}
HoldsSo s i (Some l) n = HeldBy s i l n

-- a depth, where it's known, is within the bound
abbrev pub IsBounded : ConfigParts → Option ℕ → Type 0
IsBounded p None = Unit {0}
IsBounded p (Some d) = d ≤ p.bound

module _ (p : ConfigParts) (s : TreeState) (i f q e : ℕ) (r : Registers) (duty : Option Posting) where
  holds_so : (ph : Phase) → Fits p s i f q e r duty ph → HoldsSo s i (holding p r ph) (written_node ph)
  holds_so ph h = search rules

  pub written_held : (ph : Phase) (k : ℕ) → written_node ph ≡ Some k → holding p r ph ≡ Some (lock_of p k)
  written_held ph k at = search rules

  -- a lock is handed over within the bound
  module _ (orderly : (lock : ℕ) → Orderly p s lock (s.hold lock)) where
    below : (n d : ℕ) → s.hold (lock_of p n) ≡ Held (Seat i) d → d ≤ p.bound
    below n d h = subst (Orderly p s (lock_of p n)) h (orderly (lock_of p n))

    carried : (d : ℕ) (carry : Option ℕ) → Carries p d carry → IsBounded p carry
    carried d None h = tt
    carried d (Some now) h = h.within

    pub within_bound : (ph : Phase) → Fits p s i f q e r duty ph → IsBounded p (handed_to ph)
    within_bound (ReadLocked aim d) h = below r.reads.node d h.holds.held
    within_bound (Seek (ToSplit aim d)) h = below r.reads.node d h.needs.holds.held
    within_bound (Fill fresh done (RightHalf d giving)) h = below giving.node d h.fills.held
    within_bound (Waiting d giving) h = below giving.node d h.held
    within_bound (Body carry done giving) h = carried h.storing.depth carry h.storing.carries
    within_bound (Leave n (Some d) after) h = h.leaving.carries.within
    within_bound ph h = tt

module _ (p : ConfigParts) (s : TreeState) (i : ℕ) (a : Actor) (k : KeepsActor p s i a) where
  pub by_client : (l : ℕ) → holding p a.client.registers a.client.phase ≡ Some l → HeldBy s i l (written_node a.client.phase)
  by_client l at = subst (λ (o : Option ℕ). HoldsSo s i o (written_node a.client.phase)) at (holds_so p s i a.first a.point a.seen a.client.registers k.work.duty a.client.phase k.work.fits)

  pub owns : (l : ℕ) → holding p a.client.registers a.client.phase ≡ Some l → Owns (s.hold l) (Seat i)
  owns l at = search rules

  pub holds : (l : ℕ) → Owns (s.hold l) (Seat i) → holding p a.client.registers a.client.phase ≡ Some l
  holds l o = search rules

  -- the node of a client's WRITE under way is the scene's
  pub written_is : (n : ℕ) → written_node a.client.phase ≡ Some n → (d : ℕ) × (w : Writing) × (s.hold (lock_of p n) ≡ Writes i d n w)
  written_is n at = subst (HeldBy s i (lock_of p n)) at (by_client (lock_of p n) (written_held p s i a.first a.point a.seen a.client.registers k.work.duty a.client.phase n at))

  pub is_written : (l d n : ℕ) (w : Writing) → s.hold l ≡ Writes i d n w → written_node a.client.phase ≡ Some n
  is_written l d n w e = search (rules, by_client, holds)

-- ---- the standing words at each moment, and the lock words

-- ---- words whose nodes show another scene
module _ (p : ConfigParts) (t : TreeState) where
  abbrev Shown : List ℕ → Site → Type 0
  Shown words b = get_or words (address p b) 0 ≡ shown p t b

  -- the first k words of node n
  abbrev fill : List ℕ → (n k : ℕ) → List ℕ
  fill words n zero = words
  fill words n (suc k) = set (fill words n k) (address p (Node n k)) (shown p t (Node n k))

  -- the first k nodes
  abbrev filled : List ℕ → (k : ℕ) → List ℕ
  filled words zero = words
  filled words (suc k) = fill (filled words k) (suc k) (node_size p)

  fill_long : (words : List ℕ) (n k : ℕ) → length (fill words n k) ≡ length words
  fill_long words n zero = refl
  fill_long words n (suc k) = length-set (fill words n k) (address p (Node n k)) (shown p t (Node n k)) ∙ fill_long words n k

  filled_long : (words : List ℕ) (k : ℕ) → length (filled words k) ≡ length words
  filled_long words zero = refl
  filled_long words (suc k) = fill_long (filled words k) (suc k) (node_size p) ∙ filled_long words k

  same_site : (n k : ℕ) (b : Site) → (Node n k ≡ b) ⊎ (Node n k ≢ b)
  same_site n k b = search (rules, cases_eq)

  -- a word is shown that was shown before, or is one of these
  fill_shows : (words : List ℕ) (n k : ℕ) → length words ≡ pool_words p → IsNode p n → k ≤ node_size p → (b : Site) → IsSite p b → (((o : ℕ) → o < k → Node n o ≢ b) → Shown words b) → Shown (fill words n k) b
  fill_shows words n zero long real le b ib h = h (λ o lt. absurd (omega (arith, lt)))
  fill_shows words n (suc k) long real le b ib h = elim (same_site n k b) [
    | inl e ↦ subst (Shown (fill words n (suc k))) e (get_or-set_same (fill words n k) (node_word p n + k) (shown p t (Node n k)) 0 (omega (arith, fill_long words n k, long, node_word_high p n real, le)))
    | inr ne ↦
        (stores_keep_apart p).place (fill words n k) (Node n k) b (shown p t (Node n k)) (real, omega (arith, le)) ib ne
        ∙ fill_shows words n k long real (omega (arith, le)) b ib (λ away. h (λ o lt. elim (cases_eq o k) [ inl e ↦ λ q. ne (ap (Node n) (sym e) ∙ q) | inr less ↦ away o (omega (arith, lt, less)) ]))
  ]

  filled_shows : (words : List ℕ) (k : ℕ) → length words ≡ pool_words p → k ≤ nodes p → (b : Site) → IsSite p b → (((n o : ℕ) → IsNode p n → n ≤ k → o < node_size p → Node n o ≢ b) → Shown words b) → Shown (filled words k) b
  filled_shows words zero long le b ib h = h (λ n o real most lt. absurd (omega (arith, most, real.first)))
  filled_shows words (suc k) long le b ib h = fill_shows (filled words k) (suc k) (node_size p) (filled_long words k ∙ long) (record { first = omega arith; last = le }) (omega arith) b ib (λ here. filled_shows words k long (omega (arith, le)) b ib
      (λ away. h (λ n o real most lt. elim (cases_eq n (suc k)) [ inl e ↦ λ q. here o lt (ap (λ (m : ℕ). Node m o) (sym e) ∙ q) | inr ne ↦ away n o real (omega (arith, most, ne)) lt ])))

-- ---- the scene without its WRITEs
abbrev calm_hold : LockState → LockState
calm_hold Nobody = Nobody
calm_hold (Held o d) = Held o d
calm_hold (Writes i d n w) = Held (Seat i) d

abbrev pub calm : TreeState → TreeState
calm s = record s { hold = λ l. calm_hold (s.hold l) }

calm_idle : (n : ℕ) (h : LockState) → writing_of n (calm_hold h) ≡ Idle
calm_idle n h = search rules

module _ (p : ConfigParts) (words : List ℕ) (s : TreeState) (g : Ground p words s) where
  abbrev pub W : List ℕ
  W = filled p (calm s) words (nodes p)

  before : (a : Site) → IsSite p a → ((n o : ℕ) → IsNode p n → n ≤ nodes p → o < node_size p → Node n o ≢ a) → Shown p (calm s) words a
  before a ia away = search rules

  places : (a : Site) → IsSite p a → Shown p (calm s) W a
  places a ia = filled_shows p (calm s) words (nodes p) g.shows.size (omega arith) a ia (before a ia)

  pub calm_ground : Ground p W (calm s)
  calm_ground = held_ground p words s g W (calm s).hold (record { size = filled_long p (calm s) words (nodes p) ∙ g.shows.size; each = places }) (λ l. search rules)

-- ---- each moment
module _ (p : ConfigParts) (words : List ℕ) (log : List LogEntry) (Has : ℕ → Actor → Type 0) (Out : ℕ → ℕ → ℕ → Type 0) (inv : Inv p words log Has Out) where
  abbrev S : TreeState
  S = inv.scene

  -- a node that no client writes
  idle : (n : ℕ) → (IsWritten Has n → ⊥) → writing p S n ≡ Idle
  idle n off = by (S.hold (lock_of p n)) refl
    where
      by : (h : LockState) → S.hold (lock_of p n) ≡ h → writing_of n h ≡ Idle
      by Nobody e = refl
      by (Held o d) e = refl
      by (Writes i d m w) e = elim (cases_eq m n) [
        | inl q ↦
            let h = inv.held i (lock_of p n) (subst (λ (x : LockState). Owns x (Seat i)) (sym e) refl) in
            absurd (off (record { seat = i; actor = h.0; has = h.1; node = is_written p S i h.0 (inv.kept i h.0 h.1) (lock_of p n) d m w e ∙ ap Some q }))
        | inr ne ↦ writes_else n i d m w ne
      ]

  still : (a : Site) → IsStill Has a → shown p (calm S) a ≡ shown p S a
  still a off = search (rules, calm_idle, idle)

  linked : (n : ℕ) → IsWritten Has n → IsLinked (S.class n)
  linked n w =
      let u = written_is p S w.seat w.actor (inv.kept w.seat w.actor w.has) n w.node in
      let o : Orderly p S (lock_of p n) (Writes w.seat u.0 n u.1) = subst (Orderly p S (lock_of p n)) u.2 (inv.ground.orderly (lock_of p n)) in
      let k = o.1 in
      is_linked S n k.level k.low k.linked

  stands : IsStanding p words log Has
  stands =
      let h = holds_tree p (W p words S inv.ground) (calm S) (calm_ground p words S inv.ground) (λ n l a e. calm_idle n (S.hold (lock_of p n))) in
      record {
        standing = W p words S inv.ground;
        long = filled_long p (calm S) words (nodes p) ∙ inv.ground.shows.size;
        same = λ a ia off. places p words S inv.ground a ia ∙ still a off ∙ sym (inv.ground.shows.each a ia);
        levels = h.levels;
        tree = h.tree;
        map = h.map ∙ ap map_of inv.log_is;
        within = λ n w. (h.linked n).1 (linked n w);
      }

  one_owner : (h : LockState) (o u : Owner) → Owns h o → Owns h u → o ≡ u
  one_owner h o u a b = search rules

  word_of : (h : LockState) (o : Owner) → Owns h o → hold_word p h ≡ owner_word p o
  word_of h o a = search rules

  by_seat : (l i : ℕ) → Owns (S.hold l) (Seat i) → (o : Owner) × HoldsLock p Has Out l o
  by_seat l i o = let h = inv.held i l o in (Seat i, (h.0, h.1, holds p S i h.0 (inv.kept i h.0 h.1) l o))

  some_holder : (l : ℕ) (h : LockState) → S.hold l ≡ h → ((o : Owner) × HoldsLock p Has Out l o) ⊎ (hold_word p h ≡ 0)
  some_holder l Nobody e = inr refl
  some_holder l (Held (Seat i) d) e = inl (by_seat l i (subst (λ (x : LockState). Owns x (Seat i)) (sym e) refl))
  some_holder l (Held (Grant c) d) e = inl (Grant c, (d, inv.given l c d e))
  some_holder l (Writes i d n w) e = inl (by_seat l i (subst (λ (x : LockState). Owns x (Seat i)) (sym e) refl))

  locks : AreLocks p words Has Out
  locks = record {
    one = λ l o u a b. one_owner (S.hold l) o u (search (rules, owns)) (search (rules, owns));
    held = λ l o lt h. inv.ground.shows.each (Lock l) lt ∙ word_of (S.hold l) o (search (rules, owns));
    free = λ l lt. elim (some_holder l (S.hold l) refl) [ inl h ↦ inl h | inr e ↦ inr (inv.ground.shows.each (Lock l) lt ∙ e) ];
    writers = λ n w. let k = inv.kept w.seat w.actor w.has in (w.actor, w.has, written_held p S w.seat w.actor.first w.actor.point w.actor.seen w.actor.client.registers k.work.duty w.actor.client.phase n w.node);
    rights = λ l c d o. subst (Orderly p S l) (inv.out l c d o) (inv.ground.orderly l);
    seats = λ i d a h at. let k = inv.kept i a h in subst (IsBounded p) at (within_bound p S i a.first a.point a.seen a.client.registers k.work.duty inv.ground.orderly a.client.phase k.work.fits);
  }

pub each_moment : (p : ConfigParts) → EachMoment p
each_moment p words log Has Out inv = record { tree = stands p words log Has Out inv; locks = locks p words log Has Out inv }
