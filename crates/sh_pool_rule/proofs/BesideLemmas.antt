-- A view with no actor and no right comes beside the others.
use Rattle.std.proofs.Common.{rules, ◌≡◌, ℕ, ◌+◌, None, List, [], ◌∷◌, ◌++◌, length, refl, ap, sym, ◌∙◌, subst, ⊎_elim, arith}
use mathlib.Core.Option.{some}
use lib.ListN.{get_elem?}
use Rattle.atomic_table.{specs.Table.{Enters}, proofs.Lists.{at_longer}}
use Rattle.sh_base.specs.declared.config.ConfigParts.{ConfigParts}
use Rattle.sh_core.{specs.{Actors.{Actor}, Core.{AreSame, AreSameRights}}, proofs.Moves.{same_keeps}}
use Rattle.sh_local.specs.Calls.{weight}
use Rattle.sh_logic.proofs.Options.{none_some}
use Rattle.sh_pool_rule.specs.{declared.view.{PassView.{PassView}}, Views.{empty_view, member, AllBegin, Begins, Has, In, Out}, Notes.{KnowsNotes}}
use Rattle.sh_pool_rule.{specs.Rule.{all_given, all_out, all_taken, KeepsPool, KnowsLog}, proofs.{NoteLemmas.{bare_notes, notes_snoc}, Relations.{counts_snoc, none_in}, Allowed.{Pooled}, Changed.{at_length}}}

module _ (p : ConfigParts) (words : List ℕ) (views : List PassView) (r : KeepsPool p words views) (w : PassView) (none : w.members ≡ []) (no_right : w.right ≡ None) (fresh : (w.gave ≡ 0) × (w.took ≡ 0)) (begins : Begins w.seen r.log) (pasts : AllBegin w.pasts r.log) (new : KnowsNotes r.noted w) where
  abbrev now : List PassView
  now = views ++ w ∷ []

  none_here : (j : ℕ) (b : Actor) (u : PassView) → w ≡ u → In (member j b) u.members → ⊥
  none_here j b u e m = none_in (member j b) (subst (In (member j b)) (ap (λ (x : PassView). x.members) (sym e) ∙ none) m)

  same : AreSame (Has views) (Has now)
  same = record {
    on = λ j b h. (h.0, h.1, at_longer views (w ∷ []) h.0 h.1 h.2, h.3);
    back = λ j b h. ⊎_elim (λ (t : get_elem? views h.0 ≡ some h.1). (h.0, h.1, t, h.3)) (λ (t : (h.0 ≡ length views) × (w ≡ h.1)). absurd (none_here j b h.1 t.1 h.3)) (at_length views w h.0 h.1 h.2);
  }

  rights : AreSameRights (Out views) (Out now)
  rights = record {
    on = λ l c d h. (h.0, h.1, at_longer views (w ∷ []) h.0 h.1 h.2, h.3);
    back = λ l c d h. ⊎_elim (λ (t : get_elem? views h.0 ≡ some h.1). (h.0, h.1, t, h.3)) (λ (t : (h.0 ≡ length views) × (w ≡ h.1)). absurd (none_some (sym no_right ∙ ap (λ (x : PassView). x.right) t.1 ∙ h.3))) (at_length views w h.0 h.1 h.2);
  }

  knows : KnowsLog r.log r.home r.bearer (length views) w
  knows = search (rules, none_here, none_some)

  even : all_given now ≡ all_taken now + all_out now
  even =
      let q = r.even in
      let a = counts_snoc views w 0 fresh.0 fresh.1 (ap weight no_right) in
      let a0 = a.0 in let a1 = a.1 in let a2 = a.2 in
      omega (arith, q, a0, a1, a2)

  pub beside_kept : KeepsPool p words now
  beside_kept = record {
    ok = r.ok;
    log = r.log;
    inv = same_keeps p words r.log (Has views) (Has now) (Out views) (Out now) r.inv same rights;
    top = let t = r.top in record { id = t.id; view = t.view; at = at_longer views (w ∷ []) t.id t.view t.at; whole = t.whole; some = t.some; live = t.live };
    home = r.home;
    bearer = r.bearer;
    even = even;
    each = λ i u e. ⊎_elim (λ (t : get_elem? views i ≡ some u). r.each i u t) (λ (t : (i ≡ length views) × (w ≡ u)). subst (λ (q : ℕ × PassView). KnowsLog r.log r.home r.bearer q.0 q.1) (λ z. (sym t.0 z, t.1 z)) knows) (at_length views w i u e);
    noted = r.noted;
    notes = notes_snoc r.noted views w r.notes new;
  }

-- a new seat, which knows nothing
pub entering : (p : ConfigParts) (slots word : ℕ) → Enters (Pooled p) slots word (λ n w. w ≡ empty_view)
entering p slots word s r homes small = (empty_view, beside_kept p s.words s.views r empty_view refl refl (refl, refl) (r.log, refl) tt (bare_notes r.noted empty_view refl refl refl), refl)
