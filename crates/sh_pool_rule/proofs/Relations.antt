-- Which seat has which actor, and which rights are out, as one view changes.
use Rattle.std.proofs.Common.{rules, ◌≡◌, ◌≢◌, ℕ, ◌+◌, ◌≤◌, List, [], ◌∷◌, ◌++◌, length, set, refl, ap, sym, ◌∙◌, subst, inl, inr, ⊎_elim, arith, append_assoc, length-append}
use mathlib.Core.{Option.{some, some-ne-none}, Logic.{dite}}
use native.Mathlib.Decide.{ℕ_discrete}
use lib.ListN.{get_elem?}
use Rattle.atomic_table.proofs.Lists.{at_set, set_here, set_else}
use Rattle.sh_base.specs.declared.config.ConfigParts.{ConfigParts}
use Rattle.sh_logic.proofs.Lists.{all_weaker}
use Rattle.sh_map.specs.declared.log.Entry.{Entry}
use Rattle.sh_core.{specs.{Actors.{Actor}, Core.{Inv, Moves}}, proofs.Moves.{same_keeps}}
use Rattle.sh_local.{specs.Calls.{weight}, proofs.Sums.{at_lt, same_at, total_set, total_snoc}}
use Rattle.sh_pool_rule.specs.{declared.view.{PassView.{PassView}, Member.{Member}, Past.{Past}}, Views.{member, empty_view, Begins, AllBegin, In, Has, Out}, Rule.{all_given, all_taken, all_out}}

pub only : (k j : ℕ) (a b : Actor) → In (member j b) (member k a ∷ []) → (j ≡ k) × (b ≡ a)
only k j a b h4 = search rules

pub one : (k : ℕ) (a : Actor) → In (member k a) (member k a ∷ [])
one k a = (0, refl)

pub none_in : (m : Member) → In m [] → ⊥
none_in m (i, e) = some-ne-none m (sym e)

pub begins_on : (xs ys more : List Entry) → Begins xs ys → Begins xs (ys ++ more)
begins_on xs ys more (rest, e) = (rest ++ more, ap (λ (zs : List Entry). zs ++ more) e ∙ append_assoc xs rest more)

pub all_begin_on : (log more : List Entry) (ess : List Past) → AllBegin ess log → AllBegin ess (log ++ more)
all_begin_on log more ess h = all_weaker (λ (g : Past). Begins g.seen log) (λ (g : Past). Begins g.seen (log ++ more)) ess (λ g b. begins_on g.seen log more b) h

pub begins_length : (xs ys : List Entry) → Begins xs ys → length xs ≤ length ys
begins_length xs ys (rest, e) = omega (arith, length-append xs rest, ap length e)

-- the invariant with the same rights, said otherwise
pub rights_same : (p : ConfigParts) (words : List ℕ) (log : List Entry) (Has' : ℕ → Actor → Type 0) (Out' After : ℕ → ℕ → ℕ → Type 0) → Inv p words log Has' Out' → ((l c d : ℕ) → Out' l c d → After l c d) → ((l c d : ℕ) → After l c d → Out' l c d) → Inv p words log Has' After
rights_same p words log Has' Out' After inv on back = same_keeps p words log Has' Has' Out' After inv record { on = λ k a h. h; back = λ k a h. h } record { on = on; back = back }

-- each member is of one view
abbrev pub Homes : List PassView → (home : ℕ → ℕ) → Type 0
Homes views home = (i : ℕ) (u : PassView) → get_elem? views i ≡ some u → (j : ℕ) (c : Actor) → In (member j c) u.members → home j ≡ i

-- a view with one seat has its new actor
pub moves_at : (views : List PassView) (id k : ℕ) (v w : PassView) (a b : Actor) (home : ℕ → ℕ) → Homes views home → get_elem? views id ≡ some v → v.members ≡ member k a ∷ [] → w.members ≡ member k b ∷ [] → Moves (Has views) k b (Has (set views id w))
moves_at views id k v w a b home homes at is now = record {
  back = λ j c h. ⊎_elim
      (λ (t : (h.0 ≡ id) × (w ≡ h.1)). inl (only k j b c (subst (In (member j c)) (ap (λ (u : PassView). u.members) (sym t.1) ∙ now) h.3)))
      (λ (t : (h.0 ≢ id) × (get_elem? views h.0 ≡ some h.1)).
      inr ((λ (e : j ≡ k). t.0 (sym (homes h.0 h.1 t.1 j c h.3) ∙ ap home e ∙ homes id v at k a (subst (In (member k a)) (sym is) (one k a)))), (h.0, h.1, t.1, h.3)))
      (at_set views id h.0 w h.1 h.2);
  here = (id, w, set_here views id w (at_lt views id v at), subst (In (member k b)) (sym now) (one k b));
  on = λ j c n h. dite (ℕ_discrete h.0 id)
      (λ (e : h.0 ≡ id).
      let same : h.1 ≡ v = same_at views id h.1 v (ap (get_elem? views) (sym e) ∙ h.2) at in
      absurd (n (only k j a c (subst (In (member j c)) (ap (λ (u : PassView). u.members) same ∙ is) h.3)).0))
      (λ (ne : h.0 ≢ id). (h.0, h.1, set_else views id h.0 w ne ∙ h.2, h.3));
}

-- a right is out as before
pub out_to : (views : List PassView) (id : ℕ) (v w : PassView) → get_elem? views id ≡ some v → w.right ≡ v.right → (l c d : ℕ) → Out views l c d → Out (set views id w) l c d
out_to views id v w at same l c d (i, u, e, r) = dite (ℕ_discrete i id)
    (λ (q : i ≡ id). let is : u ≡ v = same_at views id u v (ap (get_elem? views) (sym q) ∙ e) at in
    (id, w, set_here views id w (at_lt views id v at), same ∙ ap (λ (x : PassView). x.right) (sym is) ∙ r))
    (λ (ne : i ≢ id). (i, u, set_else views id i w ne ∙ e, r))

pub out_from : (views : List PassView) (id : ℕ) (v w : PassView) → get_elem? views id ≡ some v → w.right ≡ v.right → (l c d : ℕ) → Out (set views id w) l c d → Out views l c d
out_from views id v w at same l c d h9 = search (rules, at_set)

-- ---- how many rights were parted with, taken up, and are out

abbrev gave_of : PassView → ℕ
gave_of v = v.gave

abbrev took_of : PassView → ℕ
took_of v = v.took

abbrev weight_of : PassView → ℕ
weight_of v = weight v.right

-- so many more of each
abbrev pub Counts : (before after : List PassView) → (gave took out : ℕ) → Type 0
Counts before after gave took out = (all_given after ≡ all_given before + gave) × (all_taken after ≡ all_taken before + took) × (all_out after ≡ all_out before + out)

pub counts_set : (views : List PassView) (id : ℕ) (v w : PassView) (g t n : ℕ) → get_elem? views id ≡ some v → w.gave ≡ v.gave + g → w.took ≡ v.took + t → weight w.right ≡ weight v.right + n → Counts views (set views id w) g t n
counts_set views id v w g t n at gave took out = search (rules, total_set)

pub counts_snoc : (views : List PassView) (w : PassView) (n : ℕ) → w.gave ≡ 0 → w.took ≡ 0 → weight w.right ≡ n → Counts views (views ++ w ∷ []) 0 0 n
counts_snoc views w n gave took out = search (rules, total_snoc)

-- a view is spent: what it had is counted no more
pub counts_spent : (views : List PassView) (id : ℕ) (w : PassView) → get_elem? views id ≡ some w → Counts (set views id empty_view) views w.gave w.took (weight w.right)
counts_spent views id w at = search (rules, total_set)
