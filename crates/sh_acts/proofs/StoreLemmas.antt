-- The stores of a WRITE, one by one.
use Rattle.std.proofs.{Common.{rules, ◌≡◌, ◌≢◌, ◌⊎◌, ℕ, zero, suc, ◌+◌, ◌-◌, ◌<◌, ◌≤◌, List, [], ◌∷◌, length, get_or, set, refl, sym, ap, ◌∙◌, inl, inr, arith, length-set}, lemmas.Bool.{cases_lt}}
use Rattle.std.proofs.lemmas.List.{get_or-set_same, get_or-set_other}
use Rattle.sh_base.{specs.{declared.config.ConfigParts.{ConfigParts}, Setting.{node_size}, Layout.{entry_at, entry_rear_at, rear_at}}, proofs.LayoutLemmas.{node_size_is, entry_within}}
use Rattle.sh_read.proofs.Words.{stored, not_stored, inside, outside}
use Rattle.sh_read.specs.Moments.{Idle, Whole, One, word, IsVersioned, IsWriting, begin_whole, more_whole, end_whole, begin_one, more_one, end_one}
use Rattle.sh_acts.specs.{Stores.{GoesOn, Ends}, Images.{patched}}

module _ (p : ConfigParts) (level : ℕ) (node new : List ℕ) where
  whole_other : (done o : ℕ) → o ≢ done → word p node (Whole new done) o ≡ word p node (Whole new (done + 1)) o
  whole_other done o ne = search (rules, cases_lt, stored, not_stored)

  -- a node's WRITE begins with its front version, goes on, and ends with its rear version
  pub whole_begins : IsVersioned p level new → get_or node 0 0 < get_or new 0 0 → GoesOn p level node Idle (Whole new 1) 0 (get_or new 0 0)
  whole_begins v newer = record {
    next = begin_whole refl;
    stores = (v, newer, omega arith, omega (arith, Rattle.sh_base.proofs.LayoutLemmas.rear_at_low p));
    within = omega (arith, node_size_is p);
    here = stored 1 0 (get_or new 0 0) (get_or node 0 0) (omega arith);
    others = λ o lt ne. sym (not_stored 1 o _ _ (omega (arith, ne)));
  }

  pub whole_goes : (done : ℕ) → IsWriting p level node (Whole new done) → done < rear_at p → GoesOn p level node (Whole new done) (Whole new (done + 1)) done (get_or new done 0)
  whole_goes done w lt = record {
    next = more_whole refl;
    stores = (w.0, w.1, omega arith, omega (arith, lt));
    within = omega (arith, lt, node_size_is p);
    here = stored (done + 1) done _ _ (omega arith);
    others = λ o less ne. whole_other done o ne;
  }

  pub whole_ends : length new ≡ node_size p → Ends p node (Whole new (rear_at p)) new (rear_at p) (get_or new (rear_at p) 0)
  whole_ends long = record {
    next = end_whole refl;
    long = long;
    within = omega (arith, node_size_is p);
    here = refl;
    others = λ o lt ne. stored (rear_at p) o _ _ (omega (arith, lt, ne, node_size_is p));
  }

  one_other : (i done o : ℕ) → o ≢ entry_at p i + done → word p node (One i new done) o ≡ word p node (One i new (done + 1)) o
  one_other i done o ne = search (rules, cases_lt, outside, inside)

  one_here : (i done : ℕ) → word p node (One i new (done + 1)) (entry_at p i + done) ≡ get_or new done 0
  one_here i done = search (rules, inside)

  -- an entry's WRITE begins with its front version, goes on, and ends with its rear version
  pub one_begins : (i : ℕ) → level ≡ 0 → i < p.leaf → get_or node (entry_at p i) 0 < get_or new 0 0 → get_or new (2 + p.value_words) 0 ≡ get_or new 0 0 → GoesOn p level node Idle (One i new 1) (entry_at p i) (get_or new 0 0)
  one_begins i leaf lt newer same = record {
    next = begin_one refl;
    stores = (lt, newer, same, omega arith, omega arith, leaf);
    within = omega (arith, entry_within p i lt, node_size_is p);
    here = let none : entry_at p i - entry_at p i ≡ 0 = omega arith in inside (entry_at p i) 1 (entry_at p i) _ _ (omega arith) (omega arith) ∙ ap (λ (k : ℕ). get_or new k 0) none;
    others = λ o less ne. sym (outside (entry_at p i) 1 o _ _ (elim (cases_lt o (entry_at p i)) [ inl z ↦ inl z | inr z ↦ inr (omega (arith, z, ne)) ]));
  }

  pub one_goes : (i done : ℕ) → IsWriting p level node (One i new done) → done < 2 + p.value_words → GoesOn p level node (One i new done) (One i new (done + 1)) (entry_at p i + done) (get_or new done 0)
  one_goes i done w lt = record {
    next = more_one refl;
    stores = (w.0, w.1, w.2, omega arith, omega (arith, lt), w.5);
    within = omega (arith, entry_within p i w.0, node_size_is p, lt);
    here = one_here i done;
    others = λ o less ne. one_other i done o ne;
  }

  pub one_ends : (i : ℕ) (image : List ℕ) → i < p.leaf → length image ≡ node_size p → ((o : ℕ) → get_or image o 0 ≡ word p node (One i new (2 + p.value_words + 1)) o) → Ends p node (One i new (2 + p.value_words)) image (entry_rear_at p i) (get_or new (2 + p.value_words) 0)
  one_ends i image lt long same = record {
    next = end_one refl same;
    long = long;
    within = omega (arith, entry_within p i lt, node_size_is p);
    here = same (entry_rear_at p i) ∙ one_here i (2 + p.value_words);
    others = λ o less ne. one_other i (2 + p.value_words) o ne ∙ sym (same o);
  }

-- words stored one behind the other
pub length-patched : (ws : List ℕ) (at : ℕ) (new : List ℕ) → length (patched ws at new) ≡ length ws
length-patched ws at [] = refl
length-patched ws at (x ∷ new) = length-patched (set ws at x) (at + 1) new ∙ length-set ws at x

pub patched_outside : (ws : List ℕ) (at : ℕ) (new : List ℕ) (o : ℕ) → (o < at) ⊎ (at + length new ≤ o) → get_or (patched ws at new) o 0 ≡ get_or ws o 0
patched_outside ws at [] o h = refl
patched_outside ws at (x ∷ new) o h =
    patched_outside (set ws at x) (at + 1) new o (elim h [ inl lt ↦ inl (omega (arith, lt)) | inr le ↦ inr (omega (arith, le)) ])
    ∙ get_or-set_other ws at o x 0 (λ e. elim h [ inl lt ↦ omega (arith, e, lt) | inr le ↦ omega (arith, e, le) ])

pub patched_inside : (ws : List ℕ) (at : ℕ) (new : List ℕ) (k : ℕ) → k < length new → at + length new ≤ length ws → get_or (patched ws at new) (at + k) 0 ≡ get_or new k 0
patched_inside ws at [] k lt room = absurd (omega (arith, lt))
patched_inside ws at (x ∷ new) zero lt room =
    let none : at + 0 ≡ at = omega arith in
    ap (λ (o : ℕ). get_or (patched (set ws at x) (at + 1) new) o 0) none ∙ patched_outside (set ws at x) (at + 1) new at (inl (omega arith)) ∙ get_or-set_same ws at x 0 (omega (arith, room))
patched_inside ws at (x ∷ new) (suc k) lt room =
    let step : at + suc k ≡ at + 1 + k = omega arith in
    ap (λ (o : ℕ). get_or (patched (set ws at x) (at + 1) new) o 0) step ∙ patched_inside (set ws at x) (at + 1) new k (omega (arith, lt)) (omega (arith, room, length-set ws at x))

-- an entry's words, stored in its node
pub patched_word : (p : ConfigParts) (ws : List ℕ) (i : ℕ) (new : List ℕ) → i < p.leaf → length ws ≡ node_size p → length new ≡ 3 + p.value_words → (o : ℕ) → get_or (patched ws (entry_at p i) new) o 0 ≡ word p ws (One i new (2 + p.value_words + 1)) o
patched_word p ws i new lt long size o = search (rules, cases_lt, patched_outside, outside, patched_inside, entry_within, node_size_is, inside)
