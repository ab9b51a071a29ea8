-- Images that were accepted, and where their hops lead.
use Rattle.std.proofs.Common.{rules, ◌≡◌, ◌⊎◌, ℕ, zero, suc, ◌<◌, ◌≤◌, Bool, true, false, List, refl, ap, sym, ◌∙◌, ⊎_elim, arith}
use Rattle.std.{specs.Prelude.{◌-◌, ◌^◌, ◌||◌, ◌==◌, if◌then◌else◌, nat_le, nat_lt}, proofs.lemmas.Bool.Decides.{nat_tests}}
use Rattle.sh_logic.proofs.{Lists.{all_at}, Tests.{is_le, not_le, is_eq, not_eq}}
use Rattle.sh_base.specs.declared.config.ConfigParts.{ConfigParts}
use Rattle.sh_image.specs.{declared.inner.{Image.{Image, TheVariants.{Leaf as LeafImage, Inner as InnerImage}}, Pair.{Pair}}, Leaf.{leaf_in}, Inner.{inner_in, no_pair, separator_at}}
use Rattle.sh_descend.{specs.{declared.Hop.TheVariants.{Here, Right, Down, Restart}, Descent.{level_of, low_of, high_of, next_of, image_pairs, child_of, hop_of}}, proofs.ChildLemmas.{down_covers}}
use Rattle.sh_state.{specs.{TreeState.{Linked, Owner, TreeState}, Ground.{Ground}, Change.{ChangeFor}}, proofs.Scenes.{follows_on, lead_on}}
use Rattle.sh_readers.specs.{Points.{IsReadLeaf}, Hand.{IsNamed, IsImageOf}}

-- ---- the four answers by their tests
by_right : (a b c : Bool) (n d r : ℕ) → (if a then Restart else if b then Right n else if c then Here else Down d) ≡ Right r → (a ≡ false) × (b ≡ true) × (n ≡ r)
by_right a b c n d r e = search rules

by_down : (a b c : Bool) (n d r : ℕ) → (if a then Restart else if b then Right n else if c then Here else Down d) ≡ Down r → (a ≡ false) × (b ≡ false) × (c ≡ false)
by_down a b c n d r e = search rules

by_here : (a b c : Bool) (n d : ℕ) → (if a then Restart else if b then Right n else if c then Here else Down d) ≡ Here → (a ≡ false) × (b ≡ false) × (c ≡ true)
by_here a b c n d e = search rules

by_restart : (a b c : Bool) (n d : ℕ) → (if a then Restart else if b then Right n else if c then Here else Down d) ≡ Restart → a ≡ true
by_restart a b c n d e = search rules

restarts : (l t k a : ℕ) → (nat_lt l t || nat_lt k a) ≡ true → (l < t) ⊎ (k < a)
restarts l t k a e = grind (arith, nat_tests)

reaches : (l t k a : ℕ) → (nat_lt l t || nat_lt k a) ≡ false → t ≤ l
reaches l t k a e = grind (arith, nat_tests)

module _ (s : TreeState) (level low key target : ℕ) (image : Image) (h : IsImageOf s level low image) (from : low ≤ key) where
  -- to the right
  pub right_named : (r : ℕ) → key < 2 ^ 64 - 1 → hop_of image key target ≡ Right r → IsNamed s level r key
  right_named r past e =
      let t = by_right (nat_lt (level_of image) target || nat_lt key (low_of image)) (nat_le (high_of image) key) (level_of image == target) (next_of image) (child_of (image_pairs image) key) r e in
      let le = is_le (high_of image) key t.1 in
      ⊎_elim (λ (z : (next_of image ≡ 0) × (high_of image ≡ 2 ^ 64 - 1)). absurd (omega (arith, le, past, z.1)))
      (λ (z : s.class (next_of image) ≡ Linked level (high_of image)). record { low = high_of image; linked = ap s.class (sym t.2) ∙ z; below = le }) h.next

  -- down
  pub down_named : (below c : ℕ) → level ≡ suc below → hop_of image key target ≡ Down c → IsNamed s below c key × (target ≤ below)
  down_named below c is e =
      let t = by_down (nat_lt (level_of image) target || nat_lt key (low_of image)) (nat_le (high_of image) key) (level_of image == target) (next_of image) (child_of (image_pairs image) key) c e in
      let v = down_covers image key target c h.sorted e in
      let led = all_at (λ (x : Pair). s.class x.child ≡ Linked below x.separator) (image_pairs image) v.index no_pair (h.children below is) v.in_range in (
        record { low = separator_at (image_pairs image) v.index; linked = ap s.class v.here ∙ led; below = v.not_above },
        (let le = reaches (level_of image) target key (low_of image) t.0 in let ne = not_eq (level_of image) target t.2 in omega (arith, le, ne, h.level_is, is)),
      )

  -- a leaf has no hop down
  pub down_inner : (c : ℕ) → hop_of image key target ≡ Down c → (below : ℕ) × (level ≡ suc below)
  down_inner c e = go level refl
    where
      go : (l : ℕ) → level ≡ l → (below : ℕ) × (level ≡ suc below)
      go (suc l) q = (l, q)
      go zero q =
          let t = by_down (nat_lt (level_of image) target || nat_lt key (low_of image)) (nat_le (high_of image) key) (level_of image == target) (next_of image) (child_of (image_pairs image) key) c e in
          let le = reaches (level_of image) target key (low_of image) t.0 in
          let ne = not_eq (level_of image) target t.2 in
          absurd (omega (arith, le, ne, h.level_is, q))

  -- here
  pub here_is : hop_of image key target ≡ Here → (level ≡ target) × (key < high_of image)
  here_is e = search (rules, by_here, is_eq, not_le)

  -- never back to the root
  pub never_restart : target ≤ level → hop_of image key target ≡ Restart → ⊥
  never_restart le e = search (rules, by_restart, restarts)

-- while linked nodes stay linked an image stays in hand
pub image_linked : (p : ConfigParts) (s t : TreeState) (linked : (n l a : ℕ) → s.class n ≡ Linked l a → t.class n ≡ Linked l a) (level low : ℕ) (image : Image) → IsImageOf s level low image → IsImageOf t level low image
image_linked p s t linked level low image h = record { level_is = h.level_is; low_is = h.low_is; fences = h.fences; past = h.past; next = follows_on p s t linked level (high_of image) (next_of image) h.next; children = λ below e. lead_on p s t linked below (image_pairs image) (h.children below e); sorted = h.sorted }

-- an act of others keeps what a client has in hand
module _ (p : ConfigParts) (Other : Owner → Type 0) (s t : TreeState) (ch : ChangeFor p Other s t) where
  pub named_on : (level n key : ℕ) → IsNamed s level n key → IsNamed t level n key
  named_on level n key h = record { low = h.low; linked = ch.linked n level h.low h.linked; below = h.below }

  pub image_on : (level low : ℕ) (image : Image) → IsImageOf s level low image → IsImageOf t level low image
  image_on level low image h = image_linked p s t ch.linked level low image h

module _ (p : ConfigParts) (words : List ℕ) (s : TreeState) (g : Ground p words s) where
  -- an inner node that stands
  pub inner_image : (n l low : ℕ) → s.class n ≡ Linked (suc l) low → IsImageOf s (suc l) low (InnerImage (inner_in (s.node n)))
  inner_image n l low e = search rules

  -- a leaf that was read and accepted
  pub leaf_image : (n low first : ℕ) (got : List ℕ) → s.class n ≡ Linked 0 low → IsReadLeaf p s.log first (s.node n) got → IsImageOf s 0 low (LeafImage (leaf_in p got))
  leaf_image n low first got e r = search rules

  -- the root
  pub root_named : (key : ℕ) → IsNamed s s.height s.root key
  root_named key = record { low = 0; linked = g.root; below = omega arith }
