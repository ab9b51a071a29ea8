-- What would break the words' hold on the scene.
use Rattle.std.proofs.Common.{rules, ◌≡◌, ◌≢◌, ℕ, ◌<◌, List, get_or, set, ap, sym, ◌∙◌, arith, get_or-set_other}
use Rattle.sh_base.{specs.{declared.config.ConfigParts.{ConfigParts}, Setting.{node_size, IsSetting}, Layout.{lock_of, rear_at}, Places.{Node, Lock, address}}, proofs.PlacesLemmas.{are_places_apart}}
use Rattle.sh_base.proofs.{PlanLemmas.{lock_below}, LayoutLemmas.{rear_at_low, node_size_is}}
use Rattle.sh_map.specs.declared.log.Entry.{Entry}
use Rattle.sh_read.{specs.Moments.{Writing, Idle, Whole, word, IsVersioned}, proofs.Words.{not_stored}}
use Rattle.sh_state.specs.{TreeState.{Fresh, Linked, ParentLink, Pending, Nobody, Writes, LockState, TreeState, put, writing_of}, Nodes.{low_in, next_in}, Ground.{Ground}}
use Rattle.sh_state.proofs.{Puts.{put_here, put_else}, Scenes.{writes_here, fresh_linked}}
use Rattle.sh_acts.specs.{Stores.{GoesOn}, Acts.{with_hold, ended}}

-- the rear version is stored first
pub rear_first : (p : ConfigParts) (level : ℕ) (node new : List ℕ) → IsVersioned p level node → IsVersioned p level new → get_or node 0 0 < get_or new 0 0 → GoesOn p level node Idle (Whole new 1) (rear_at p) (get_or new (rear_at p) 0) → ⊥
rear_first p level node new v w newer go = omega (arith, newer, v.node, w.node, sym (not_stored 1 (rear_at p) (get_or new (rear_at p) 0) (get_or node (rear_at p) 0) (omega (arith, rear_at_low p))) ∙ go.here)

module _ (p : ConfigParts) (words : List ℕ) (s : TreeState) (g : Ground p words s) where
  -- the lock is given back before the last word
  pub early_unlock : IsSetting p → (i d n l a : ℕ) (new : List ℕ) → s.class n ≡ Linked l a → s.hold (lock_of p n) ≡ Writes i d n (Whole new 1) → get_or (s.node n) 0 0 < get_or new 0 0
      → Ground p (set words (address p (Lock (lock_of p n))) 0) (with_hold s (lock_of p n) Nobody) → ⊥
  early_unlock ok i d n l a new e h newer g' =
      let real = (g.sits n l a e).real in
      let in_range : 0 < node_size p = omega (arith, node_size_is p) in
      let lock : ℕ = lock_of p n in
      let apart : address p (Node n 0) ≢ address p (Lock lock) = λ q. node_lock (sym ((are_places_apart p).apart (Lock lock) (Node n 0) (lock_below p n ok real) (real, in_range) (sym q))) in
      let memory : get_or words (address p (Node n 0)) 0 ≡ get_or new 0 0 = g.shows.each (Node n 0) (real, in_range) ∙ ap (λ (x : LockState). word p (s.node n) (writing_of n x) 0) h ∙ ap (λ (w : Writing). word p (s.node n) w 0) (writes_here n i d (Whole new 1)) in
      let after : get_or (set words (address p (Lock lock)) 0) (address p (Node n 0)) 0 ≡ get_or (s.node n) 0 0 = g'.shows.each (Node n 0) (real, in_range) ∙ ap (λ (x : LockState). word p (s.node n) (writing_of n x) 0) (put_here s.hold lock Nobody) in
      omega (arith, newer, sym memory ∙ sym (get_or-set_other words (address p (Lock lock)) (address p (Node n 0)) 0 0 apart) ∙ after)
    where
      node_lock : {n o l : ℕ} → Node n o ≡ Lock l → ⊥
      node_lock e = cc

  -- a right half is linked before it is written
  pub unwritten_half : (now : List ℕ) (i d n r sep : ℕ) (image : List ℕ) (more : List Entry) → r ≢ n → low_in (s.node r) ≢ sep → Ground p now (ended p s n i d image (put s.class r (Linked 0 sep)) (put s.post r (Pending i)) more) → ⊥
  unwritten_half now i d n r sep image more ne low g' = low (ap low_in (sym (put_else s.node n image r ne)) ∙ (g'.sits r 0 sep (put_here s.class r (Linked 0 sep))).low_is)

  -- a node that is hung in stays its seat's own
  pub kept_number : (now : List ℕ) (i d n l a r : ℕ) (image : List ℕ) (post : ℕ → ParentLink) (more : List Entry) → s.class n ≡ Linked l a → s.class r ≡ Fresh i → next_in image ≡ r → Ground p now (ended p s n i d image s.class post more) → ⊥
  kept_number now i d n l a r image post more e fresh next g' = search (rules, put_here, fresh_linked)
