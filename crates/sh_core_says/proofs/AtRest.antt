-- The tree and the book at rest, and how many nodes aren't posted.
use Rattle.std.proofs.Common.{rules, ◌≡◌, ◌≢◌, ℕ, suc, ◌+◌, ◌<◌, Bool, true, false, List, [], ◌∷◌, length, get_or, refl, ap, sym, ◌∙◌, ⊎_elim, arith, zero, ◌++◌, None, subst, inl, inr, length-append}
use Rattle.std.{proofs.lemmas.Bool.{cases_eq}, specs.{List.{concat, AllByRecursion}, Prelude.{◌↔◌, if◌then◌else◌}}}
use Rattle.sh_base.specs.{declared.config.ConfigParts.{ConfigParts}, Setting.{all_locks, all_seats, IsSetting}, Layout.{lock_of, lock_word}, Places.{Lock}}
use Rattle.sh_tree.{proofs.{ChainLemmas.{trees_are_one}, ListLemmas.{outside_all, in_front, outside_none}}, specs.Lists.{is_in, outside, AreDifferent}}
use Rattle.sh_tree.specs.Tree.{IsTree, unposted_in, AreLevels, top_of}
use Rattle.sh_state.specs.{TreeState.{Linked, ParentLink, Posted, Pending, Skipped, Nobody, hold_word, TreeState, writing_of, Grant, LockState, Seat, Held, Writes, Owns}, Ground.{Ground}}
use Rattle.sh_core_says.{proofs.{Books.{books_are_lawful}, Trees.{all_from, different_join, in_behind, in_joined, holds_tree, only}}, specs.Quiescent.{IsAtRest, is_posted, unposted}}
use Rattle.sh_core_says.specs.Rest.{sum_below, HasSkipped, AreAtRest, AtRest}
use Rattle.sh_map.specs.{declared.log.Entry.{Entry as LogEntry}, Log.{map_of}}
use Rattle.sh_client.specs.Rests.{is_resting}
use Rattle.sh_core.{specs.{Actors.{Actor}, Core.{Inv}, Keeps.{Hands, Waits}}, proofs.Frame.{nothing_left, NothingLeft}}

-- each number is outside a list, or in it
counts_join : (s : TreeState) (ks ns : List ℕ) → ((n : ℕ) → is_in ks n ≡ true → s.post n ≢ Posted) → ((n : ℕ) → is_in ks n ≡ false → s.post n ≡ Posted) → unposted s ns + outside ks ns ≡ length ns
counts_join s ks [] are others = refl
counts_join s ks (n ∷ ns) are others = go (s.post n) (is_in ks n) (are n) (others n) (counts_join s ks ns are others)
  where
    go : (x : ParentLink) (b : Bool) → (b ≡ true → x ≢ Posted) → (b ≡ false → x ≡ Posted) → unposted s ns + outside ks ns ≡ length ns → (if is_posted x then unposted s ns else unposted s ns + 1) + (if b then outside ks ns else outside ks ns + 1) ≡ suc (length ns)
    go Posted true f h e = absurd (f refl refl)
    go Posted false f h e = omega (arith, e)
    go (Pending i) true f h e = omega (arith, e)
    go (Pending i) false f h e = absurd (let q = h refl in cc)
    go (Skipped i) true f h e = omega (arith, e)
    go (Skipped i) false f h e = absurd (let q = h refl in cc)

module _ (p : ConfigParts) (words : List ℕ) (s : TreeState) (g : Ground p words s) where
  -- a list of all nodes that aren't posted is as long as there are unposted ones
  pub skipped_are : IsAtRest p s → (ks : List ℕ) → AreDifferent ks → ((n : ℕ) → (is_in ks n ≡ true) ↔ (s.post n ≢ Posted)) → (levels : List (List ℕ)) → IsTree p words levels → unposted_in p words levels ≡ length ks
  skipped_are rest ks different are levels tree =
      let h = holds_tree p words s g rest in
      let ns : List ℕ = concat h.levels in
      let among : AllByRecursion (λ k. is_in ns k ≡ true) ks = all_from (λ k. is_in ns k ≡ true) ks (λ n k. (h.linked n).1 (⊎_elim (λ z. z) (λ z. absurd ((are n).0 k z)) (g.outside n))) in
      let all = outside_all ks ns different h.tree.apart among in
      let joined = counts_join s ks ns (λ n. (are n).0) (λ n k. by_post n (s.post n) refl k) in
      let count : unposted s ns ≡ length ks = omega (arith, all, joined) in
      ap (unposted_in p words) (trees_are_one p words levels h.levels tree h.tree) ∙ h.unposted_are ∙ count
    where
      by_post : (n : ℕ) (x : ParentLink) → s.post n ≡ x → is_in ks n ≡ false → s.post n ≡ Posted
      by_post n Posted e k = e
      by_post n (Pending i) e k = absurd (let w = sym ((are n).1 (λ z. let q = sym e ∙ z in cc)) ∙ k in cc)
      by_post n (Skipped i) e k = absurd (let w = sym ((are n).1 (λ z. let q = sym e ∙ z in cc)) ∙ k in cc)

  -- a posted node of the top level is the root
  pub top_is : (n a : ℕ) → s.class n ≡ Linked s.height a → s.post n ≡ Posted → n ≡ s.root
  top_is n a e q = search (rules, only)

  -- where nobody holds a lock
  pub all_free : ((lock : ℕ) → s.hold lock ≡ Nobody) → IsAtRest p s
  all_free free n l a e = ap (writing_of n) (free (lock_of p n))

  pub free_words : ((lock : ℕ) → s.hold lock ≡ Nobody) → (lock : ℕ) → lock < all_locks p → get_or words (lock_word p lock) 0 ≡ 0
  free_words free lock lt = g.shows.each (Lock lock) lt ∙ ap (hold_word p) (free lock)

-- ---- where all clients rest

-- ---- where all nodes are posted the top level has one node

top_of_one : (p : ConfigParts) (words : List ℕ) (levels : List (List ℕ)) → AreLevels p words levels → unposted_in p words levels ≡ 0 → length (top_of levels) ≡ 1
top_of_one p words levels h e = search (rules, outside_none)

module _ (p : ConfigParts) (words : List ℕ) (log : List LogEntry) (Has : ℕ → Actor → Type 0) (Out : ℕ → ℕ → ℕ → Type 0) (inv : Inv p words log Has Out) where
  abbrev post : ℕ → ParentLink
  post = inv.scene.post

  -- ---- the nodes that the seats below one skipped
  record AreSkipped (skipped : ℕ → ℕ) (n : ℕ) : Type 0 where
    nodes : List ℕ
    once : AreDifferent nodes
    are : (m : ℕ) → is_in nodes m ≡ true → (seat : ℕ) × (seat < n) × (post m ≡ Skipped seat)
    all : (m seat : ℕ) → seat < n → post m ≡ Skipped seat → is_in nodes m ≡ true
    long : length nodes ≡ sum_below n skipped

  one_seat : (skipped : ℕ → ℕ) (n : ℕ) → HasSkipped Has n (skipped n) → AreSkipped skipped n → AreSkipped skipped (suc n)
  one_seat skipped n (inl h) r =
      let k = (inv.kept n h.0 h.1).work.skips in
      record {
        nodes = k.nodes ++ r.nodes;
        once = different_join k.nodes r.nodes k.once r.once (λ m x y. let u = r.are m y in let q = sym ((k.are m).0 x) ∙ u.2 in let e : n ≡ u.0 = cc in omega (arith, e, u.1));
        are = λ m w. elim (in_joined k.nodes r.nodes m w) [ inl x ↦ (n, omega arith, (k.are m).0 x) | inr y ↦ let u = r.are m y in (u.0, omega (arith, u.1), u.2) ];
        all = λ m seat lt e. elim (cases_eq seat n) [
          | inl q ↦ in_front k.nodes r.nodes m ((k.are m).1 (e ∙ ap Skipped q))
          | inr ne ↦ in_behind k.nodes r.nodes m (r.all m seat (omega (arith, lt, ne)) e)
        ];
        long = omega (arith, length-append k.nodes r.nodes, k.counted, h.2, r.long);
      }
  one_seat skipped n (inr h) r = record {
    nodes = r.nodes;
    once = r.once;
    are = λ m w. let u = r.are m w in (u.0, omega (arith, u.1), u.2);
    all = λ m seat lt e. elim (cases_eq seat n) [
      | inl q ↦ let k = inv.skips n m (e ∙ ap Skipped q) in absurd (h.0 k.0 k.1)
      | inr ne ↦ r.all m seat (omega (arith, lt, ne)) e
    ];
    long = omega (arith, h.1, r.long);
  }

  skipped_below : (skipped : ℕ → ℕ) (n : ℕ) → ((seat : ℕ) → seat < n → HasSkipped Has seat (skipped seat)) → AreSkipped skipped n
  skipped_below skipped zero h = record { nodes = []; once = tt; are = λ m w. absurd (cc); all = λ m seat lt e. absurd (omega (arith, lt)); long = refl }
  skipped_below skipped (suc n) h = one_seat skipped n (h n (omega arith)) (skipped_below skipped n (λ seat lt. h seat (omega (arith, lt))))

  module _ (ok : IsSetting p) (rest : (seat : ℕ) (a : Actor) → Has seat a → is_resting a.client ≡ true) (none : (lock compute depth : ℕ) → Out lock compute depth → ⊥) where
    -- a client has nothing to post and holds no lock, so nobody does
    left : (j : ℕ) (h : (b : Actor) × Has j b) → NothingLeft p j h.0.client.registers (inv.kept j h.0 h.1).work.duty h.0.client.phase
    left j h = let a = h.0 in let w = (inv.kept j a h.1).work in nothing_left p inv.scene j a.first a.point a.seen a.client.registers w.duty a.client.phase (rest j a h.1) w.fits

    waits : (j : ℕ) → (b : Actor) × Has j b → Waits inv.scene j None
    waits j h = let w = (inv.kept j h.0 h.1).work in subst (Waits inv.scene j) (left j h).none w.waits

    hands : (j : ℕ) → (b : Actor) × Has j b → Hands inv.scene j None
    hands j h = let w = (inv.kept j h.0 h.1).work in subst (Hands inv.scene j) (left j h).free w.hands

    away : (j l : ℕ) (h : LockState) → inv.scene.hold l ≡ h → Owns h (Seat j) → ⊥
    away j l h e o = let w = subst (λ (x : LockState). Owns x (Seat j)) (sym e) o in hands j (inv.held j l w) l w

    free : (l : ℕ) (h : LockState) → inv.scene.hold l ≡ h → h ≡ Nobody
    free l Nobody e = refl
    free l (Held (Seat j) d) e = absurd (away j l (Held (Seat j) d) e refl)
    free l (Held (Grant c) d) e = absurd (none l c d (inv.given l c d e))
    free l (Writes j d n w) e = absurd (away j l (Writes j d n w) e refl)

    calm : (l : ℕ) → inv.scene.hold l ≡ Nobody
    calm l = free l (inv.scene.hold l) refl

    count : (levels : List (List ℕ)) → IsTree p words levels → (skipped : ℕ → ℕ) → ((seat : ℕ) → seat < all_seats p → HasSkipped Has seat (skipped seat)) → unposted_in p words levels ≡ sum_below (all_seats p) skipped
    count levels tree skipped h =
        let k = skipped_below skipped (all_seats p) h in
        skipped_are p words inv.scene inv.ground (all_free p words inv.scene inv.ground calm) k.nodes k.once (λ m. ((λ w e. let u = k.are m w in let q = sym u.2 ∙ e in cc), (λ off. by m (post m) refl off k))) levels tree ∙ k.long
      where
        by : (m : ℕ) (x : ParentLink) → post m ≡ x → post m ≢ Posted → (k : AreSkipped skipped (all_seats p)) → is_in k.nodes m ≡ true
        by m Posted e off k = absurd (off e)
        by m (Pending i) e off k = absurd (waits i (inv.pends i m e) m e)
        by m (Skipped i) e off k = let a = inv.skips i m e in k.all m i (inv.kept i a.0 a.1).work.seated.within e

    rests : AreAtRest p words log Has
    rests =
        let h = holds_tree p words inv.scene inv.ground (all_free p words inv.scene inv.ground calm) in
        record {
          locks = free_words p words inv.scene inv.ground calm;
          levels = h.levels;
          tree = h.tree;
          map = h.map ∙ ap map_of inv.log_is;
          books = λ dones book. let b = books_are_lawful p words log Has Out dones inv book in (b.lawful, b.closed rest);
          unposted = count h.levels h.tree;
          top = top_of_one p words h.levels h.tree.lawful;
        }

pub at_rest : (p : ConfigParts) → IsSetting p → AtRest p
at_rest p ok words log Has Out inv rest none = rests p words log Has Out inv ok rest none
