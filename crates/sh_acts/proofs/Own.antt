-- A seat's own nodes, the chunks and the counters that they come from, and a laid pool.
use Rattle.std.proofs.Common.{rules, ◌≡◌, ℕ, ◌+◌, ◌*◌, ◌<◌, ◌≤◌, true, inl, inr, arith, ◌≢◌, ◌⊎◌, suc, Bool, false, List, [], length, set, refl, ap, sym, ◌∙◌, subst, ⊎_elim, append-nil, length-set}
use Rattle.std.{proofs.{Common.{get_or-set_same, get_or-set_other, get_or, replicate, zero}, Math.Nat.{mul-le-mul_right}, lemmas.Bool.{Decides.{nat_tests}, cases_lt}}, specs.FinMap.{get-empty}}
use Rattle.std.{proofs.lemmas.List.{length-replicate, get_or-replicate}, specs.{Ordering.{nat_cmp}, Prelude.{if◌then◌else◌, ◌-◌, ◌^◌}}}
use Rattle.sh_base.{proofs.LayoutLemmas.{part_word}, specs.{Layout.{first_node}, Places.{Site, Own, Root, Counter, Lock, Node, address, IsSite}, Setting.{IsNode, node_size, IsSetting}}}
use Rattle.sh_base.specs.declared.config.ConfigParts.{ConfigParts}
use Rattle.sh_state.{proofs.{Puts.{put_here, put_else, put_case, shows_store}, Spelled.{leaf_long, leaf_stands}}, specs.{Change.{Change}, Ground.{IsInChunk, Ground, HasParent}}}
use Rattle.sh_state.proofs.Scenes.{Links, fresh_linked, fresh_is, undrawn_fresh, undrawn_linked, links_on, writes_else, body_on, sits_on, orderly_on, linked_is}
use Rattle.sh_state.specs.Nodes.{high_in, LeadsTo, standing_pairs, Orderly, IsStandingLeaf, Sits}
use Rattle.sh_state.specs.TreeState.{Class, Undrawn, Fresh, Linked, Seat, LockState, Writes, TreeState, put, writing, shown, Reserved}
use Rattle.sh_acts.specs.{Acts.{in_chunk, filled, counted, drawn}, Laid.{laid_class, none_drawn, laid_scene}, Counters.{one_where, count, Bounded}}
use Rattle.sh_read.specs.Moments.{Writing, Idle, word, Next, still}
use Rattle.sh_image.{specs.{declared.leaf.LeafEntry.{LeafEntry}, Leaf.{leaf_words, empty_entry}, Laid.{blank_leaf, AreLaid}}, proofs.LaidLemmas.{blank_lawful, laid_zero}}
use Rattle.sh_edit.{specs.Held.{key_at, no_entry}, proofs.HeldLemmas.{held_none}}
use Rattle.sh_logic.proofs.Tests.{not_true}
use mathlib.Core.Logic.{dite}
use native.Mathlib.{Decide.{ℕ_discrete, dec_le}, Nat.{lt_of_not-le}}

module _ (p : ConfigParts) where
  pub chunk_node : (server chunk n : ℕ) → server < p.servers → chunk < p.chunks → IsInChunk p server chunk n → IsNode p n
  unfolding first_node
  chunk_node server chunk n s c h =
      let row : (server + 1) * p.chunks ≤ p.servers * p.chunks = mul-le-mul_right p.chunks (omega arith) in
      let all : (server * p.chunks + chunk + 1) * p.chunk_nodes ≤ p.servers * p.chunks * p.chunk_nodes = mul-le-mul_right p.chunk_nodes (omega (arith, row)) in
      record { first = omega (arith, h.from); last = omega (arith, h.below, all) }

  -- a chunk ends before a later one
  later : (a b c d n : ℕ) → a * p.chunks + b < c * p.chunks + d → IsInChunk p a b n → IsInChunk p c d n → ⊥
  unfolding first_node
  later a b c d n lt g h =
      let row : (a * p.chunks + b + 1) * p.chunk_nodes ≤ (c * p.chunks + d) * p.chunk_nodes = mul-le-mul_right p.chunk_nodes (omega (arith, lt)) in
      omega (arith, row, g.below, h.from)

  before : (a b c d : ℕ) → b < p.chunks → a < c → a * p.chunks + b < c * p.chunks + d
  before a b c d lb lt = let row : (a + 1) * p.chunks ≤ c * p.chunks = mul-le-mul_right p.chunks (omega arith) in omega (arith, row)

  pub chunk_once : (a b c d n : ℕ) → b < p.chunks → d < p.chunks → IsInChunk p a b n → IsInChunk p c d n → (a ≡ c) × (b ≡ d)
  chunk_once a b c d n lb ld g h = elim (cases_lt a c) [
    | inl lt ↦ absurd (later a b c d n (before a b c d lb lt) g h)
    | inr ge ↦ elim (cases_lt c a) [
      | inl lt ↦ absurd (later c d a b n (before c d a b ld lt) h g)
      | inr le ↦
          let e : a ≡ c = omega arith in
          elim (cases_lt b d) [
            | inl lt ↦ absurd (later a b c d n (rw e (omega arith)) g h)
            | inr from ↦ elim (cases_lt d b) [
              | inl lt ↦ absurd (later c d a b n (rw e (omega arith)) h g)
              | inr to ↦ (e, omega arith)
            ]
          ]
    ]
  ]

  pub in_chunk_is : (server chunk n : ℕ) → in_chunk p server chunk n ≡ true → IsInChunk p server chunk n
  in_chunk_is server chunk n e = record { from = grind (arith, nat_tests); below = grind (arith, nat_tests) }

  pub is_in_chunk : (server chunk n : ℕ) → IsInChunk p server chunk n → in_chunk p server chunk n ≡ true
  is_in_chunk server chunk n h = let a = h.from in let b = h.below in grind (arith, nat_tests)

-- ---- a seat's own nodes: a store into one, and a chunk that is drawn

module _ (p : ConfigParts) (words : List ℕ) (s : TreeState) (g : Ground p words s) where
  not_linked : (r j n l a : ℕ) → s.class r ≡ Fresh j → s.class n ≡ Linked l a → n ≢ r
  not_linked r j n l a e f q = fresh_linked j l a (sym e ∙ ap s.class (sym q) ∙ f)

  -- no WRITE of a linked node is of a seat's own
  pub unwritten : (r j : ℕ) → s.class r ≡ Fresh j → writing p s r ≡ Idle
  unwritten r j e = search (rules, writes_else, not_linked)

  pub fresh_act : (i r o x : ℕ) → s.class r ≡ Fresh i → o < node_size p → Change p i s (filled s r o x) × Ground p (set words (address p (Node r o)) x) (filled s r o x)
  fresh_act i r o x e lt =
      let t : TreeState = filled s r o x in
      let ys : List ℕ = set (s.node r) o x in
      let stays : (n l a : ℕ) → s.class n ≡ Linked l a → t.node n ≡ s.node n = λ n l a f. put_else s.node r ys n (not_linked r i n l a e f) in
      let high : (n l a : ℕ) → s.class n ≡ Linked l a → high_in (t.node n) ≡ high_in (s.node n) = λ n l a f. ap high_in (stays n l a f) in (
        record {
          more = [];
          longer = sym (append-nil s.log);
          entries = λ j n. tt;
          linked = λ n k a f. f;
          fresh = λ j n ne f. (f, put_else s.node r ys n (λ q. ne (ap Seat (fresh_is j i (sym f ∙ ap s.class q ∙ e)))));
          posts = λ j n y ne z. (λ f. f, λ f. f);
          back = λ j k ne h. h;
          holds = λ j k ne h. refl;
          nodes = λ j n k a ne f h. stays n k a f;
          moves = λ n k a f. subst (λ (zs : List ℕ). Next p (s.node n) (writing p s n) zs (writing p s n)) (sym (stays n k a f)) still;
        },
        record {
          shows = shows_store p words (shown p s) g.shows (shown p t) (Node r o) x (g.own r i e, lt) here places;
          long = λ n. put_case (λ zs. length zs ≡ node_size p) s.node r ys n (λ q. length-set (s.node r) o x ∙ g.long r) (λ q. g.long n);
          orderly = λ k. orderly_on p s t (λ n l a f. f) k (s.hold k) (λ j d n w q. let u = of_write k (s.hold k) j d n w q (g.orderly k) in stays n u.0 u.1 u.2) (g.orderly k);
          sits = λ n k a f. sits_on p s t (λ n l a h. h) n k a (stays n k a f) (body_on p s t (λ n l a h. h) refl k (s.node n)) (g.sits n k a f);
          apart = λ m n l a b f h ne. subst (λ (q : ℕ × ℕ). (q.0 ≤ b) ⊎ (q.1 ≤ a)) (λ z. (sym (high m l a f) z, sym (high n l b h) z)) (g.apart m n l a b f h ne);
          own = g.own;
          undrawn = g.undrawn;
          root = g.root;
          heights = g.heights;
          outside = g.outside;
          firsts = g.firsts;
          children = λ q l b n f h. g.children q l b n f (subst (λ (zs : List ℕ). LeadsTo (standing_pairs zs) n) (stays q (suc l) b f) h);
          posted = λ n l a f q. ⊎_elim (λ z. inl z) (λ (z : HasParent s l n). inr record { parent = z.parent; low = z.low; linked = z.linked; leads = subst (λ (zs : List ℕ). LeadsTo (standing_pairs zs) n) (sym (stays z.parent (suc l) z.low z.linked)) z.leads }) (g.posted n l a f q);
          legal = g.legal;
          bare = g.bare;
        },
      )
    where
      idle : writing p s r ≡ Idle
      idle = unwritten r i e

      in_range : o < length (s.node r)
      in_range = omega (arith, g.long r)

      here : shown p (filled s r o x) (Node r o) ≡ x
      here = ap (λ (w : Writing). word p (put s.node r (set (s.node r) o x) r) w o) idle ∙ ap (λ (zs : List ℕ). Rattle.std.proofs.Common.get_or zs o 0) (put_here s.node r (set (s.node r) o x)) ∙ get_or-set_same (s.node r) o x 0 in_range

      places : (b : Site) → IsSite p b → b ≢ Node r o → shown p s b ≡ shown p (filled s r o x) b
      places Own ib ne = refl
      places Root ib ne = refl
      places (Counter server) ib ne = refl
      places (Lock m) ib ne = refl
      places (Node m k) ib ne = put_case (λ zs. word p (s.node m) (writing p s m) k ≡ word p zs (writing p s m) k) s.node r (set (s.node r) o x) m
          (λ q. let w : writing p s m ≡ Idle = ap (writing p s) q ∙ idle in
          ap (λ (v : Writing). word p (s.node m) v k) w ∙ ap (λ (z : ℕ). Rattle.std.proofs.Common.get_or (s.node z) k 0) q
          ∙ sym (get_or-set_other (s.node r) o k x 0 (λ z. ne ((λ u. Node (q u) (z u))))) ∙ ap (λ (v : Writing). word p (set (s.node r) o x) v k) (sym w))
          (λ away. refl)

      of_write : (k : ℕ) (h : LockState) (j d n : ℕ) (w : Writing) → h ≡ Writes j d n w → Orderly p s k h → (l : ℕ) × (a : ℕ) × (s.class n ≡ Linked l a)
      of_write k h j d n w q o = let u : Orderly p s k (Writes j d n w) = subst (Orderly p s k) q o in (u.1.level, u.1.low, u.1.linked)

  -- A counter is counted on, and classes change of nodes that aren't linked
  count_act : (i server : ℕ) (class : ℕ → Class) → let t : TreeState = record s { class = class; counter = put s.counter server (s.counter server + 1) } in
      server < p.servers → ((n l a : ℕ) → class n ≡ Linked l a → s.class n ≡ Linked l a) → Links s t → ((j n : ℕ) → s.class n ≡ Fresh j → class n ≡ Fresh j) → ((n j : ℕ) → class n ≡ Fresh j → IsNode p n)
      → ((v chunk n : ℕ) → v < p.servers → chunk < p.chunks → put s.counter server (s.counter server + 1) v ≤ chunk → IsInChunk p v chunk n → class n ≡ Undrawn)
      → Change p i s t × Ground p (set words (address p (Counter server)) (s.counter server + 1)) t
  count_act i server class lt from on fresh own undrawn =
      let t : TreeState = record s { class = class; counter = put s.counter server (s.counter server + 1) } in (
        record {
          more = [];
          longer = sym (append-nil s.log);
          entries = λ j n. tt;
          linked = on;
          fresh = λ j n ne e. (fresh j n e, refl);
          posts = λ j n y ne z. (λ f. f, λ f. f);
          back = λ j k ne o. o;
          holds = λ j k ne o. refl;
          nodes = λ j n k a ne e o. refl;
          moves = λ n k a f. still;
        },
        record {
          shows = shows_store p words (shown p s) g.shows (shown p t) (Counter server) (s.counter server + 1) lt (put_here s.counter server (s.counter server + 1)) places;
          long = g.long;
          orderly = λ k. orderly_on p s t on k (s.hold k) (λ j d n w q. refl) (g.orderly k);
          sits = λ n k a e. sits_on p s t on n k a refl (body_on p s t on refl k (s.node n)) (g.sits n k a (from n k a e));
          apart = λ m n l a b e f ne. g.apart m n l a b (from m l a e) (from n l b f) ne;
          own = own;
          undrawn = undrawn;
          root = on s.root s.height 0 g.root;
          heights = λ n l a e. g.heights n l a (from n l a e);
          outside = λ n. ⊎_elim (λ z. inl (links_on p s t on n z)) (λ z. inr z) (g.outside n);
          firsts = λ n l e. g.firsts n l (from n l 0 e);
          children = λ q l b n e h. g.children q l b n (from q (suc l) b e) h;
          posted = λ n l a e q. ⊎_elim (λ z. inl z) (λ (z : HasParent s l n). inr record { parent = z.parent; low = z.low; linked = on z.parent (suc l) z.low z.linked; leads = z.leads }) (g.posted n l a (from n l a e) q);
          legal = g.legal;
          bare = g.bare;
        },
      )
    where
      places : (b : Site) → IsSite p b → b ≢ Counter server → shown p s b ≡ shown p (record s { class = class; counter = put s.counter server (s.counter server + 1) }) b
      places Own ib ne = refl
      places Root ib ne = refl
      places (Counter v) ib ne = sym (put_else s.counter server (s.counter server + 1) v (λ q. ne (ap Counter q)))
      places (Lock m) ib ne = refl
      places (Node m k) ib ne = refl

  -- the counter that an add raised says less of undrawn nodes
  less : (server v chunk : ℕ) → put s.counter server (s.counter server + 1) v ≤ chunk → s.counter v ≤ chunk
  less server v chunk = put_case (λ z. z ≤ chunk → s.counter v ≤ chunk) s.counter server (s.counter server + 1) v (λ q le. omega (arith, le, ap s.counter q)) (λ q le. le)

  -- a counter that was at its limit is counted on
  pub spent_act : (i server : ℕ) → server < p.servers → Change p i s (counted s server) × Ground p (set words (address p (Counter server)) (s.counter server + 1)) (counted s server)
  spent_act i server lt = count_act i server s.class lt (λ n l a e. e) (λ n l a e. e) (λ j n e. e) g.own (λ v chunk n lv lc le h. g.undrawn v chunk n lv lc (less server v chunk le) h)

  -- a chunk is drawn
  pub draw_act : (i server : ℕ) → server < p.servers → s.counter server < p.chunks → Change p i s (drawn p s server i) × Ground p (set words (address p (Counter server)) (s.counter server + 1)) (drawn p s server i)
  draw_act i server lt room =
      let c : ℕ = s.counter server in
      let free : (n : ℕ) → in_chunk p server c n ≡ true → s.class n ≡ Undrawn = λ n e. g.undrawn server c n lt room (omega arith) (in_chunk_is p server c n e) in
      count_act i server (λ n. if in_chunk p server c n then Fresh i else s.class n) lt
      (λ n l a. by_test (in_chunk p server c n) (λ x. x ≡ Linked l a → s.class n ≡ Linked l a) (Fresh i) (s.class n) (λ e f. absurd (fresh_linked i l a f)) (λ e f. f))
      (λ n l a f. by_test (in_chunk p server c n) (λ x. x ≡ Linked l a) (Fresh i) (s.class n) (λ e. absurd (undrawn_linked l a (sym (free n e) ∙ f))) (λ e. f))
      (λ j n f. by_test (in_chunk p server c n) (λ x. x ≡ Fresh j) (Fresh i) (s.class n) (λ e. absurd (undrawn_fresh j (sym (free n e) ∙ f))) (λ e. f))
      (λ n j. by_test (in_chunk p server c n) (λ x. x ≡ Fresh j → IsNode p n) (Fresh i) (s.class n) (λ e f. chunk_node p server c n lt room (in_chunk_is p server c n e)) (λ e f. g.own n j f))
      (λ v chunk n lv lc le h. by_test (in_chunk p server c n) (λ x. x ≡ Undrawn) (Fresh i) (s.class n)
      (λ e. let same = chunk_once p server c v chunk n room lc (in_chunk_is p server c n e) h in absurd (past v chunk server (sym same.0) (sym same.1) le))
      (λ e. g.undrawn v chunk n lv lc (less server v chunk le) h))
    where
      by_test : (b : Bool) (P : Class → Type 0) (x y : Class) → (b ≡ true → P x) → (b ≡ false → P y) → P (if b then x else y)
      by_test true P x y f h = f refl
      by_test false P x y f h = h refl

      past : (v chunk u : ℕ) → v ≡ u → chunk ≡ s.counter u → put s.counter u (s.counter u + 1) v ≤ chunk → ⊥
      past v chunk u e f le = omega (arith, le, f, ap (put s.counter u (s.counter u + 1)) e ∙ put_here s.counter u (s.counter u + 1))

-- its nodes are the seat's own
pub drawn_mine : (p : ConfigParts) (s : TreeState) (seat server n : ℕ) → IsInChunk p server (s.counter server) n → (drawn p s server seat).class n ≡ Fresh seat
drawn_mine p s seat server n h = ap (λ (b : Bool). if b then Fresh seat else s.class n) (is_in_chunk p server (s.counter server) n h)

-- ---- a laid pool shows its scene, and all holds of it

module _ (p : ConfigParts) (ok : IsSetting p) where
  no_key : (n i : ℕ) → i < length (replicate n (empty_entry p)) → key_at (replicate n (empty_entry p)) i ≡ 0
  no_key n i lt = ap (λ (e : LeafEntry). e.key) (get_or-replicate n i (empty_entry p) no_entry (omega (arith, lt, length-replicate n (empty_entry p))))

  stands : IsStandingLeaf p [] (leaf_words (blank_leaf p))
  stands = leaf_stands p [] (leaf_words (blank_leaf p)) (blank_leaf p) refl (blank_lawful p) (λ i j lt below e. no_key p.leaf i (omega (arith, lt, below)))
      (λ key nz lo hi. held_none (blank_leaf p).entries key (λ j below e. nz (sym e ∙ no_key p.leaf j below)) ∙ sym (get-empty nat_cmp key))

  first_is : first_node p 0 0 ≡ 1
  unfolding first_node
  first_is = omega arith

  first_chunk : IsInChunk p 0 0 1
  first_chunk = record { from = omega (arith, first_is); below = omega (arith, first_is, ok.ranged.chunk_nodes.0) }

  first_real : IsNode p 1
  first_real = chunk_node p 0 0 1 (omega (arith, ok.ranged.servers.0)) (omega (arith, ok.ranged.chunks.0)) first_chunk

  -- only node 1 is linked, and no node is a seat's own
  by_test : (b : Bool) (P : Class → Type 0) → P Reserved → P Undrawn → P (if b then Reserved else Undrawn)
  by_test b h1 r u = search rules

  only : (n l a : ℕ) → laid_class p n ≡ Linked l a → (n ≡ 1) × (l ≡ 0) × (a ≡ 0)
  only n l a = search (rules, put_case, linked_is, by_test)

  no_own : (n i : ℕ) → laid_class p n ≡ Fresh i → ⊥
  no_own n i = put_case (λ c. c ≡ Fresh i → ⊥) (λ n. if in_chunk p 0 0 n then Reserved else Undrawn) 1 (Linked 0 0) n (λ q e. cc) (λ ne. by_test (in_chunk p 0 0 n) (λ c. c ≡ Fresh i → ⊥) (λ e. cc) (λ e. cc))

  undrawn : (server chunk n : ℕ) → chunk < p.chunks → put none_drawn 0 1 server ≤ chunk → IsInChunk p server chunk n → laid_class p n ≡ Undrawn
  undrawn server chunk n lt le h =
      let room : 0 < p.chunks = omega (arith, ok.ranged.chunks.0) in
      let away : IsInChunk p 0 0 n → ⊥ = λ k.
      let same = chunk_once p 0 0 server chunk n room lt k h in
      past server chunk (sym same.0) (sym same.1) le in
      put_else (λ n. if in_chunk p 0 0 n then Reserved else Undrawn) 1 (Linked 0 0) n (λ q. away (subst (IsInChunk p 0 0) (sym q) first_chunk))
      ∙ ap (λ (b : Bool). if b then Reserved else Undrawn) (not_true (in_chunk p 0 0 n) (λ e. away (in_chunk_is p 0 0 n e)))
    where
      past : (v c : ℕ) → v ≡ 0 → c ≡ 0 → put none_drawn 0 1 v ≤ c → ⊥
      past v c e f le =
          let here : put none_drawn 0 1 v ≡ put none_drawn 0 1 0 = ap (put none_drawn 0 1) e in
          let one : put none_drawn 0 1 0 ≡ 1 = put_here none_drawn 0 1 in
          omega (arith, le, f, here, one)

  module _ (words : List ℕ) (laid : AreLaid p words) where
    places : (a : Site) → IsSite p a → get_or words (address p a) 0 ≡ shown p (laid_scene p) a
    places Own ia = laid_zero p ok words laid first_real Own ia (λ q. cc) (λ q. cc) (λ o q. cc)
    places Root ia = laid.root
    places (Counter v) ia = put_case (λ x. get_or words (address p (Counter v)) 0 ≡ x) none_drawn 0 1 v (λ q. ap (λ (z : ℕ). get_or words (address p (Counter z)) 0) q ∙ laid.counter) (λ ne. laid_zero p ok words laid first_real (Counter v) ia (λ q. cc) (λ q. ne (counter_is v 0 q)) (λ o q. cc))
      where
        counter_is : (u v : ℕ) → Counter u ≡ Counter v → u ≡ v
        counter_is u v e = cc
    places (Lock l) ia = laid_zero p ok words laid first_real (Lock l) ia (λ q. cc) (λ q. cc) (λ o q. cc)
    places (Node n o) ia = put_case (λ (ws : List ℕ). get_or words (address p (Node n o)) 0 ≡ get_or ws o 0) (λ (m : ℕ). replicate (node_size p) 0) 1 (leaf_words (blank_leaf p)) n
        (λ q. ap (λ (z : ℕ). get_or words (address p (Node z o)) 0) q ∙ sym (part_word p words 1 o ia.1) ∙ ap (λ (ws : List ℕ). get_or ws o 0) laid.leaf)
        (λ ne. laid_zero p ok words laid first_real (Node n o) ia (λ q. cc) (λ q. cc) (λ k q. ne (node_is n 1 o k q)) ∙ sym (get_or-replicate (node_size p) o 0 0 ia.1))
      where
        node_is : (m n o k : ℕ) → Node m o ≡ Node n k → m ≡ n
        node_is m n o k e = cc

    pub laid_ground : Ground p words (laid_scene p)
    laid_ground =
        let s : TreeState = laid_scene p in
        let blank : List ℕ = leaf_words (blank_leaf p) in
        let here : s.node 1 ≡ blank = put_here (λ (n : ℕ). replicate (node_size p) 0) 1 blank in
        let first : Sits p s 1 0 0 = subst (λ (ws : List ℕ). (get_or ws 1 0 ≡ 0) × (get_or ws 2 0 ≡ 0) × (0 < get_or ws 3 0) × (get_or ws 3 0 ≤ 2 ^ 64 - 1) × (get_or ws 4 0 ≡ 0) × (get_or ws 3 0 ≡ 2 ^ 64 - 1) × IsStandingLeaf p [] ws → Sits p s 1 0 0) here
        (λ h. record { real = first_real; level_is = ap (λ (ws : List ℕ). get_or ws 1 0) here ∙ h.0; low_is = ap (λ (ws : List ℕ). get_or ws 2 0) here ∙ h.1; fences = omega (arith, ap (λ (ws : List ℕ). get_or ws 3 0) here, h.2); past = omega (arith, ap (λ (ws : List ℕ). get_or ws 3 0) here, h.3); next = inl (ap (λ (ws : List ℕ). get_or ws 4 0) here ∙ h.4, ap (λ (ws : List ℕ). get_or ws 3 0) here ∙ h.5); body = subst (IsStandingLeaf p []) (sym here) stands })
        (refl, refl, omega arith, omega arith, refl, refl, stands) in
        record {
          shows = record { size = laid.long; each = places };
          long = λ n. put_case (λ ws. length ws ≡ node_size p) (λ (m : ℕ). replicate (node_size p) 0) 1 blank n (λ q. leaf_long p (blank_leaf p) (blank_lawful p)) (λ q. length-replicate (node_size p) 0);
          orderly = λ lock. tt;
          sits = λ n l a e. let w = only n l a e in subst (λ (z : ℕ × ℕ × ℕ). Sits p s z.0 z.1 z.2) (λ z. (sym w.0 z, sym w.1 z, sym w.2 z)) first;
          apart = λ m n l a b e f ne. absurd (ne ((only m l a e).0 ∙ sym (only n l b f).0));
          own = λ n i e. absurd (no_own n i e);
          undrawn = λ v c n lv lc le h. undrawn v c n lc le h;
          root = put_here (λ n. if in_chunk p 0 0 n then Reserved else Undrawn) 1 (Linked 0 0);
          heights = λ n l a e. let w = only n l a e in omega (arith, w.1);
          outside = λ n. inr refl;
          firsts = λ n l e. refl;
          children = λ q l b n e h. refl;
          posted = λ n l a e q. inl (only n l a e).2;
          legal = tt;
          bare = λ key out. get-empty nat_cmp key;
        }

-- ---- a counter that seats raise after they have found it below a limit doesn't pass the limit by more than the seats

one_le : (b : Bool) → one_where b ≤ 1
one_le b = search rules

count_le : (k : ℕ) (f : ℕ → Bool) → count k f ≤ k
count_le zero f = omega arith
count_le (suc k) f = let a = one_le (f k) in let b = count_le k f in omega (arith, a, b)

count_past : (k : ℕ) (f : ℕ → Bool) (i : ℕ) → k ≤ i → count k (put f i true) ≡ count k f
count_past zero f i le = refl
count_past (suc k) f i le = let a : put f i true k ≡ f k = put_else f i true k (λ e. omega (arith, e, le)) in let b = count_past k f i (omega (arith, le)) in omega (arith, ap one_where a, b)

count_put : (k : ℕ) (f : ℕ → Bool) (i : ℕ) → i < k → f i ≡ false → count k (put f i true) ≡ count k f + 1
count_put zero f i lt not_yet = absurd (omega (arith, lt))
count_put (suc k) f i lt not_yet = dite (ℕ_discrete k i)
    (λ (e : k ≡ i).
    let a : put f i true k ≡ true = ap (put f i true) e ∙ put_here f i true in
    let b = count_past k f i (omega (arith, e)) in
    let c : f k ≡ false = ap f e ∙ not_yet in
    omega (arith, ap one_where a, b, ap one_where c))
    (λ (ne : k ≢ i).
    let a : put f i true k ≡ f k = put_else f i true k ne in
    let b = count_put k f i (omega (arith, lt, ne)) not_yet in
    omega (arith, ap one_where a, b))

module _ (limit seats counter : ℕ) (Wants : ℕ → Type 0) (b : Bounded limit seats counter Wants) where
  pub bounded : counter ≤ limit + seats
  bounded = let a = count_le seats b.late in omega (arith, a, b.bound)

  -- a seat finds it below the limit
  pub finds_below : (i : ℕ) (Now : ℕ → Type 0) → counter < limit → ((j : ℕ) → j ≢ i → Now j → Wants j) → Bounded limit seats counter Now
  finds_below i h1 lt back = search rules

  -- a seat raises it
  pub raises : (i : ℕ) (Now : ℕ → Type 0) → i < seats → Wants i → (Now i → ⊥) → ((j : ℕ) → j ≢ i → Now j → Wants j) → Bounded limit seats (counter + 1) Now
  raises i Now lt wants ends back = dite (dec_le limit counter)
      (λ (le : limit ≤ counter).
      let fresh : b.late i ≡ false = not_true (b.late i) (λ e. b.done i e wants) in
      let more = count_put seats b.late i lt fresh in
      record {
        late = put b.late i true;
        bound = omega (arith, b.bound, more);
        done = λ j e. dite (ℕ_discrete j i) (λ (q : j ≡ i). λ n. ends (subst Now q n)) (λ (ne : j ≢ i). λ n. b.done j (sym (put_else b.late i true j ne) ∙ e) (back j ne n));
        reached = λ j e. omega (arith, le);
      })
      (λ far.
      let below : counter < limit = lt_of_not-le far in
      record {
        late = b.late;
        bound = omega (arith, below);
        done = λ j e. absurd (omega (arith, below, b.reached j e));
        reached = λ j e. absurd (omega (arith, below, b.reached j e));
      })

-- no seat is to raise a counter that has 0 or 1
pub bounded_begin : (limit seats counter : ℕ) (Wants : ℕ → Type 0) → counter ≤ limit → Bounded limit seats counter Wants
bounded_begin limit seats counter Wants le = record { late = λ i. false; bound = omega (arith, le); done = λ i e. absurd (cc); reached = λ i e. absurd (cc) }
