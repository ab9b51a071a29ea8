-- What a scene keeps where its nodes' links only grow.
use Rattle.std.{proofs.Common.{rules, ◌≡◌, ◌≢◌, ◌⊎◌, ℕ, zero, suc, List, [], ◌∷◌, ◌++◌, refl, ap, sym, ◌∙◌, subst, inl, inr, arith, ne_eqb, eq-eqb}}
use Rattle.sh_base.specs.{declared.config.ConfigParts.{ConfigParts}, Setting.{IsSetting}, Layout.{lock_of}}
use Rattle.sh_map.specs.declared.log.Entry.{Entry}
use Rattle.sh_image.{specs.{declared.inner.Pair.{Pair}, Leaf.{leaf_in}, Inner.{inner_in}}, proofs.UntornLemmas.{untorn_spelled, untorn_inner}}
use Rattle.sh_read.specs.Moments.{Writing, Idle, IsWriting, IsVersioned, IsNodeMoment}
use Rattle.sh_state.specs.TreeState.{Undrawn, Fresh, Linked, LockState, Nobody, Held, Writes, TreeState, writing_of, writing}
use Rattle.sh_state.specs.{Nodes.{level_in, IsLinked, LeadsTo, standing_pairs, LeadDown, IsStandingLeaf, IsStandingInner, Body, LeadsRight, Sits, Orderly}, Ground.{Ground}}

-- what one pair leads to is linked
pub led_down : (s : TreeState) (l n : ℕ) (pairs : List Pair) → LeadDown s l pairs → LeadsTo pairs n → (a : ℕ) × (s.class n ≡ Linked l a)
led_down s l n [] h k = absurd k
led_down s l n (x ∷ xs) h (inl q) = (x.separator, ap s.class (sym q) ∙ h.0)
led_down s l n (x ∷ xs) h (inr q) = led_down s l n xs h.1 q

-- a node that joined pairs lead to
pub leads_join : (n : ℕ) (xs ys : List Pair) → LeadsTo (xs ++ ys) n → LeadsTo xs n ⊎ LeadsTo ys n
leads_join n [] ys h = inr h
leads_join n (x ∷ xs) ys (inl e) = inl (inl e)
leads_join n (x ∷ xs) ys (inr h) = elim (leads_join n xs ys h) [ inl z ↦ inl (inr z) | inr z ↦ inr z ]

pub leads_left : (n : ℕ) (xs ys : List Pair) → LeadsTo xs n → LeadsTo (xs ++ ys) n
leads_left n [] ys h = absurd h
leads_left n (x ∷ xs) ys (inl e) = inl e
leads_left n (x ∷ xs) ys (inr h) = inr (leads_left n xs ys h)

pub leads_right : (n : ℕ) (xs ys : List Pair) → LeadsTo ys n → LeadsTo (xs ++ ys) n
leads_right n [] ys h = h
leads_right n (x ∷ xs) ys h = inr (leads_right n xs ys h)

-- the links of s are t's
abbrev pub Links : TreeState → TreeState → Type 0
Links s t = (n level low : ℕ) → s.class n ≡ Linked level low → t.class n ≡ Linked level low

pub linked_is : (l a m b : ℕ) → Linked l a ≡ Linked m b → (l ≡ m) × (a ≡ b)
linked_is l a m b e = search rules

pub fresh_linked : (i l a : ℕ) → Fresh i ≡ Linked l a → ⊥
fresh_linked i l a e = cc

pub fresh_is : (i j : ℕ) → Fresh i ≡ Fresh j → i ≡ j
fresh_is i j e = cc

pub undrawn_fresh : (i : ℕ) → Undrawn ≡ Fresh i → ⊥
undrawn_fresh i e = cc

pub undrawn_linked : (l a : ℕ) → Undrawn ≡ Linked l a → ⊥
undrawn_linked l a e = cc

pub is_linked : (s : TreeState) (n l a : ℕ) → s.class n ≡ Linked l a → IsLinked (s.class n)
is_linked s n l a e = subst IsLinked (sym e) tt

pub writes_else : (n i d m : ℕ) (w : Writing) → m ≢ n → writing_of n (Writes i d m w) ≡ Idle
writes_else n i d m w ne = rw (ne_eqb m n ne)

pub writes_here : (n i d : ℕ) (w : Writing) → writing_of n (Writes i d n w) ≡ w
writes_here n i d w = rw (eq-eqb n n refl)

module _ (p : ConfigParts) (s t : TreeState) (on : Links s t) where
  pub links_on : (n : ℕ) → IsLinked (s.class n) → IsLinked (t.class n)
  links_on n h = search rules

  pub follows_on : (l high next : ℕ) → LeadsRight s l high next → LeadsRight t l high next
  follows_on l high next h3 = search rules

  pub lead_on : (l : ℕ) (pairs : List Pair) → LeadDown s l pairs → LeadDown t l pairs
  lead_on l [] h = tt
  lead_on l (x ∷ xs) h = (on x.child l x.separator h.0, lead_on l xs h.1)

  pub inner_on : (l : ℕ) (ws : List ℕ) → IsStandingInner p s l ws → IsStandingInner p t l ws
  inner_on l ws h = record { spells = h.spells; children = lead_on l (standing_pairs ws) h.children }

  -- the log is the same
  pub body_on : s.log ≡ t.log → (l : ℕ) (ws : List ℕ) → Body p s l ws → Body p t l ws
  body_on e zero ws b = subst (λ (log : List Entry). IsStandingLeaf p log ws) e b
  body_on e (suc l) ws b = inner_on l ws b

  -- a node that stands as it did
  pub sits_on : (n l a : ℕ) → t.node n ≡ s.node n → (Body p s l (s.node n) → Body p t l (s.node n)) → Sits p s n l a → Sits p t n l a
  sits_on n l a e body h = search (rules, follows_on)

  -- a holder whose node stands as it did
  pub orderly_on : (lock : ℕ) (h : LockState) → ((i d n : ℕ) (w : Writing) → h ≡ Writes i d n w → t.node n ≡ s.node n) → Orderly p s lock h → Orderly p t lock h
  orderly_on lock h e o = search rules

module _ (p : ConfigParts) (words : List ℕ) (s : TreeState) (set : IsSetting p) (g : Ground p words s) where
  versioned : (l : ℕ) (ws : List ℕ) → level_in ws ≡ l → Body p s l ws → IsVersioned p l ws
  versioned zero ws e b = let u = untorn_spelled p ws (leaf_in p ws) b.spells in record { node = sym u.node; entries = λ z i h. sym (u.entries e i h) }
  versioned (suc l) ws e b = let u = untorn_inner p ws (inner_in ws) set.ranged.value_words.0 b.spells in record { node = sym u.node; entries = λ z. absurd (omega (arith, z)) }

  -- a linked node and its WRITE under way, as a moment
  pub moment_of : (n l a : ℕ) → s.class n ≡ Linked l a → IsNodeMoment p l (s.node n) (writing p s n)
  moment_of n l a e =
      let h = g.sits n l a e in
      record { versioned = versioned l (s.node n) h.level_is h.body; writing = under (s.hold (lock_of p n)) (g.orderly (lock_of p n)) }
    where
      under : (h : LockState) → Orderly p s (lock_of p n) h → IsWriting p l (s.node n) (writing_of n h)
      under Nobody o = tt
      under (Held owner depth) o = tt
      under (Writes i d m w) o = elim (Rattle.std.proofs.lemmas.Bool.cases_eq m n) [
        | inl q ↦
            let u = o.1 in
            let k = linked_is u.level u.low l a (sym u.linked ∙ ap s.class q ∙ e) in
            subst (IsWriting p l (s.node n)) (sym (ap (λ (z : ℕ). writing_of n (Writes i d z w)) q ∙ writes_here n i d w)) (subst (λ (z : ℕ × ℕ). IsWriting p z.0 (s.node z.1) w) (λ z. (k.0 z, q z)) u.stores)
        | inr ne ↦ subst (IsWriting p l (s.node n)) (sym (writes_else n i d m w ne)) tt
      ]

module _ (p : ConfigParts) (words : List ℕ) (s : TreeState) (g : Ground p words s) where
  -- what a linked node's pair leads to is linked
  pub child_linked : (parent l b n : ℕ) → s.class parent ≡ Linked (suc l) b → LeadsTo (standing_pairs (s.node parent)) n → (a : ℕ) × (s.class n ≡ Linked l a)
  child_linked parent l b n e k = led_down s l n (standing_pairs (s.node parent)) (g.sits parent (suc l) b e).body.children k
