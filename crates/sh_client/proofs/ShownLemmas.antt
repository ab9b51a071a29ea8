-- What the image that a word shows does to the cached nodes.
use Rattle.std.{proofs.Common.{◌≡◌, ◌⊎◌, ℕ, ◌<◌, ◌≤◌, Bool, true, false, List, length, Option, Some, None, refl, sym, ap, ◌∙◌, subst, inl, inr, arith}, specs.Prelude.{if◌then◌else◌}}
use Rattle.std.{specs.{List.{Contains}, Option.{unwrap_or}}, proofs.lemmas.Bool.Decides.{nat_tests}}
use Rattle.sh_logic.proofs.Tests.{same_test}
use Rattle.sh_image.specs.{Inner.{Inner}, declared.inner.Image.{Image, TheVariants.{Leaf as LeafImage, Inner as InnerImage}}}
use Rattle.sh_cache.{specs.Cached.{forgotten, kept, HaveOwnLows, IsOldest}, proofs.RowLemmas.{forgotten_gone, forgotten_was, kept_was}}
use Rattle.sh_cache.proofs.StayLemmas.{forgotten_stays, kept_here, kept_stays, lacks_each, oldest_before}
use Rattle.sh_decide.specs.{declared.state.Aim.{Aim}, Aims.{target}, Ways.{leads_right}}
use Rattle.sh_client.specs.{declared.state.Phase.{Phase, TheVariants.{Read, ReadLocked}}, Machine.{Machine}, Cached.{is_kept, keeping, without_origin}}
use Rattle.sh_client.{specs.{CachedTurns.{image_shown, learnt, learnt_by, learnt_in, read_aim, settles, IsReplaced, IsStale, ShowsParent}, Feeds.{fed_by, loaded}}, proofs.CachedLemmas.{fed_learns}}

-- a node that is kept is one of level 1 on the way to a leaf
kept_parent : (aim : Aim) (a : Inner) → is_kept aim a ≡ true → (target aim ≡ 0) × (a.level ≡ 1)
kept_parent aim a e = (grind (arith, nat_tests, e), grind (arith, nat_tests, e))

-- ---- a keep
module _ (room : ℕ) (aim : Aim) (before : List Inner) (row : Inner) where
  keeps_or_shows : (image : Image) → Contains (keeping room aim image before) row → Contains before row ⊎ ((image ≡ InnerImage row) × (is_kept aim row ≡ true))
  keeps_or_shows (LeafImage a) h = inl h
  keeps_or_shows (InnerImage a) h = by (is_kept aim a) refl h
    where
      by : (t : Bool) → is_kept aim a ≡ t → Contains (if t then kept room before a else before) row → Contains before row ⊎ ((InnerImage a ≡ InnerImage row) × (is_kept aim row ≡ true))
      by true e h = elim (kept_was room before a row h) [ inl was ↦ inl was | inr is ↦ inr (ap InnerImage (sym is), ap (is_kept aim) is ∙ e) ]
      by false e h = inl h

  -- a row stays, or one of its low fence is kept, or it is the oldest one
  keeps_row : (image : Image) → Contains before row → Contains (keeping room aim image before) row ⊎ ((a : Inner) × (image ≡ InnerImage a) × (is_kept aim a ≡ true) × ((row.low ≡ a.low) ⊎ IsOldest room before row))
  keeps_row (LeafImage a) h = inl h
  keeps_row (InnerImage a) h = by (is_kept aim a) refl
    where
      by : (t : Bool) → is_kept aim a ≡ t → Contains (if t then kept room before a else before) row ⊎ ((x : Inner) × (InnerImage a ≡ InnerImage x) × (is_kept aim x ≡ true) × ((row.low ≡ x.low) ⊎ IsOldest room before row))
      by true e = elim (kept_stays room a before row h) [ inl there ↦ inl there | inr goes ↦ inr (a, refl, e, goes) ]
      by false e = inl h

  keeps_here : 0 < room → is_kept aim row ≡ true → Contains (keeping room aim (InnerImage row) before) row
  keeps_here some e = rw e (kept_here room row before some)

-- ---- a forget
module _ (row : Inner) where
  was_before : (origin : Option ℕ) (right : Bool) (before : List Inner) → Contains (without_origin origin right before) row → Contains before row
  was_before None right before h = h
  was_before (Some low) true before h = forgotten_was before low row h
  was_before (Some low) false before h = h

  stays_behind : (origin : Option ℕ) (right : Bool) (before : List Inner) → Contains before row → Contains (without_origin origin right before) row ⊎ ((origin ≡ Some row.low) × (right ≡ true))
  stays_behind None right before h = inl h
  stays_behind (Some low) true before h = elim (forgotten_stays before low row h) [ inl there ↦ inl there | inr is ↦ inr (ap Some (sym is), refl) ]
  stays_behind (Some low) false before h = inl h

  oldest_was : (room : ℕ) (origin : Option ℕ) (right : Bool) (before : List Inner) → length before ≤ room → IsOldest room (without_origin origin right before) row → IsOldest room before row
  oldest_was room None right before within h = h
  oldest_was room (Some low) true before within h = oldest_before room before low row within h
  oldest_was room (Some low) false before within h = h

  gone_behind : (origin : Option ℕ) (right : Bool) (before : List Inner) → HaveOwnLows before → origin ≡ Some row.low → right ≡ true → Contains (without_origin origin right before) row → ⊥
  gone_behind (Some low) true before apart is e h = lacks_each (forgotten before low) low row (forgotten_gone before low apart) h (sym (ap (λ (o : Option ℕ). unwrap_or o 0) is))
  gone_behind None right before apart is e h = cc
  gone_behind (Some low) false before apart is e h = cc

-- ---- a word that shows an image, or none
module _ (m : Machine) (word : ℕ) (row : Inner) where
  abbrev shown : Option Image
  shown = image_shown m word

  abbrev right_by : Aim → Image → Bool
  right_by aim image = leads_right m.registers.call aim image

  abbrev forgets : Aim → Image → List Inner
  forgets aim image = without_origin m.registers.origin (right_by aim image) m.registers.cached

  abbrev GoesBy : Type 0
  GoesBy = IsStale m word row.low ⊎ IsReplaced m word row

  module _ (aim : Aim) (top : Bool) (reads : m.phase ≡ Read aim top) where
    parent : (a : Inner) → shown ≡ Some (InnerImage a) → is_kept aim a ≡ true → ShowsParent m word a
    parent a is e = let k = kept_parent aim a e in record { aim = aim; top = top; reads = reads; leaf_bound = k.0; level = k.1; image_is = is }

    old_or_shown : (o : Option Image) → shown ≡ o → Contains (learnt (loaded m word) aim o).registers.cached row → Contains m.registers.cached row ⊎ ShowsParent m word row
    old_or_shown None is h = inl h
    old_or_shown (Some image) is h = elim (keeps_or_shows m.setting.cached aim (forgets aim image) row image h) [
      | inl was ↦ inl (was_before row m.registers.origin (right_by aim image) m.registers.cached was)
      | inr new ↦ inr (parent row (is ∙ ap Some new.0) new.1)
    ]

    stays_or_goes : (o : Option Image) → shown ≡ o → length m.registers.cached ≤ m.setting.cached → Contains m.registers.cached row → Contains (learnt (loaded m word) aim o).registers.cached row ⊎ GoesBy
    stays_or_goes None is within h = inl h
    stays_or_goes (Some image) is within h = elim (stays_behind row m.registers.origin (right_by aim image) m.registers.cached h) [
      | inr stale ↦ inr (inl record { origin = stale.0; aim = aim; reads = ap read_aim reads; image = image; image_is = is; right = stale.1 })
      | inl there ↦ elim (keeps_row m.setting.cached aim (forgets aim image) row image there) [
        | inl here ↦ inl here
        | inr goes ↦ inr (inr record { by = goes.0; shown = parent goes.0 (is ∙ ap Some goes.1) goes.2; place = elim goes.3 [ inl low ↦ inl low | inr old ↦ inr (oldest_was row m.setting.cached m.registers.origin (right_by aim image) m.registers.cached within old) ] })
      ]
    ]

    gone_or_shown : (image : Image) → shown ≡ Some image → HaveOwnLows m.registers.cached → m.registers.origin ≡ Some row.low → right_by aim image ≡ true → Contains (learnt (loaded m word) aim (Some image)).registers.cached row → ShowsParent m word row
    gone_or_shown image is apart origin right h = elim (keeps_or_shows m.setting.cached aim (forgets aim image) row image h) [
      | inl was ↦ absurd (gone_behind row m.registers.origin (right_by aim image) m.registers.cached apart origin right was)
      | inr new ↦ parent row (is ∙ ap Some new.0) new.1
    ]

  -- a READ under the lock keeps none
  module _ (aim : Aim) where
    settled_was : (o : Option Image) → Contains (settles (loaded m word) aim o).registers.cached row → Contains m.registers.cached row
    settled_was None h = h
    settled_was (Some image) h = was_before row m.registers.origin (right_by aim image) m.registers.cached h

    settled_stays : (o : Option Image) → shown ≡ o → read_aim m.phase ≡ Some aim → Contains m.registers.cached row → Contains (settles (loaded m word) aim o).registers.cached row ⊎ GoesBy
    settled_stays None is reads h = inl h
    settled_stays (Some image) is reads h = elim (stays_behind row m.registers.origin (right_by aim image) m.registers.cached h) [
      | inl there ↦ inl there
      | inr stale ↦ inr (inl record { origin = stale.0; aim = aim; reads = reads; image = image; image_is = is; right = stale.1 })
    ]

  shown_in : (phase : Phase) → m.phase ≡ phase → Contains (learnt_in m word phase).registers.cached row → Contains m.registers.cached row ⊎ ShowsParent m word row
  shown_in (Read aim top) e h = old_or_shown aim top e shown refl h
  shown_in (ReadLocked aim depth) e h = inl (settled_was aim shown h)
  shown_in phase e h = inl h

  goes_in : (phase : Phase) → m.phase ≡ phase → length m.registers.cached ≤ m.setting.cached → Contains m.registers.cached row → Contains (learnt_in m word phase).registers.cached row ⊎ GoesBy
  goes_in (Read aim top) e within h = stays_or_goes aim top e shown refl within h
  goes_in (ReadLocked aim depth) e within h = settled_stays aim shown refl (ap read_aim e) h
  goes_in phase e within h = inl h

  module _ (apart : HaveOwnLows m.registers.cached) (k : IsStale m word row.low) where
    same_aim : (aim : Aim) → read_aim m.phase ≡ Some aim → right_by aim k.image ≡ true
    same_aim aim e = let same : k.aim ≡ aim = let a = k.reads in cc in subst (λ (a : Aim). right_by a k.image ≡ true) same k.right

    gone_in : (phase : Phase) → m.phase ≡ phase → Contains (learnt_in m word phase).registers.cached row → ShowsParent m word row
    gone_in (Read aim top) e h = gone_or_shown aim top e k.image k.image_is apart k.origin (same_aim aim (ap read_aim e)) (subst (λ (o : Option Image). Contains (learnt (loaded m word) aim o).registers.cached row) k.image_is h)
    gone_in (ReadLocked aim depth) e h = absurd (gone_behind row m.registers.origin (right_by aim k.image) m.registers.cached apart k.origin (same_aim aim (ap read_aim e)) (subst (λ (o : Option Image). Contains (settles (loaded m word) aim o).registers.cached row) k.image_is h))
    gone_in phase e h = let a = k.reads in let b = ap read_aim e in absurd cc

  -- ---- and so of the turn
  cached_is : (fed_by m word).registers.cached ≡ (learnt_by m word).registers.cached
  cached_is = (fed_learns m word).0

  pub fed_shows : Contains (fed_by m word).registers.cached row → Contains m.registers.cached row ⊎ ShowsParent m word row
  fed_shows h = shown_in m.phase refl (subst (λ (l : List Inner). Contains l row) cached_is h)

  pub fed_keeps_shown : 0 < m.setting.cached → ShowsParent m word row → Contains (fed_by m word).registers.cached row
  fed_keeps_shown some k =
      let kept : is_kept k.aim row ≡ true = rw (same_test (target k.aim) 0 k.leaf_bound, same_test row.level 1 k.level) refl in
      let here : Contains (learnt (loaded m word) k.aim (Some (InnerImage row))).registers.cached row = keeps_here m.setting.cached k.aim (forgets k.aim (InnerImage row)) row some kept in
      subst (λ (l : List Inner). Contains l row) (sym cached_is)
      (subst (λ (ph : Phase). Contains (learnt_in m word ph).registers.cached row) (sym k.reads)
      (subst (λ (o : Option Image). Contains (learnt (loaded m word) k.aim o).registers.cached row) (sym k.image_is) here))

  pub fed_stays : length m.registers.cached ≤ m.setting.cached → Contains m.registers.cached row → Contains (fed_by m word).registers.cached row ⊎ GoesBy
  fed_stays within h = elim (goes_in m.phase refl within h) [ inl there ↦ inl (subst (λ (l : List Inner). Contains l row) (sym cached_is) there) | inr goes ↦ inr goes ]

  pub fed_forgets : HaveOwnLows m.registers.cached → IsStale m word row.low → Contains (fed_by m word).registers.cached row → ShowsParent m word row
  fed_forgets apart k h = gone_in apart k m.phase refl (subst (λ (l : List Inner). Contains l row) cached_is h)
