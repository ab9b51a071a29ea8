-- A pass is taken in, with all that its view isn't told of yet.
use Rattle.std.proofs.Common.{◌≡◌, ℕ, zero, suc, None, List, [], ◌∷◌, set, refl, ap, sym, ◌∙◌, subst}
use mathlib.Core.Option.{some}
use lib.ListN.{get_elem?}
use Rattle.atomic_table.{specs.Table.{Joins}, proofs.Lists.{set_else, set_here}}
use Rattle.sh_base.specs.declared.config.ConfigParts.{ConfigParts}
use Rattle.sh_core.specs.Actors.{Actor}
use Rattle.sh_local.proofs.Sums.{at_lt}
use Rattle.sh_logic.proofs.Lists.{all_join}
use Rattle.sh_pool_rule.{specs.{declared.view.{PassView.{PassView}, Past.{Past}}, Views.{empty_view, Begins, Tale}, Untold.{IsActorOf}, Rights.{joined_view, past_of, told_view}, Rule.{KeepsPool}}, proofs.Allowed.{Pooled}}
use Rattle.sh_pool_rule.proofs.{JoinLemmas.{joined_notes, joining_kept}, SettleLemmas.{settle_kept}}

pub set_twice : {A : Type 0} (xs : List A) (o : ℕ) (w e : A) → set (set xs o w) o e ≡ set xs o e
set_twice [] o w e = refl
set_twice (x ∷ xs) zero w e = refl
set_twice {A} (x ∷ xs) (suc o) w e = ap (λ (ys : List A). x ∷ ys) (set_twice xs o w e)

set_between : {A : Type 0} (xs : List A) (o i : ℕ) (w b e : A) → set (set (set xs o w) i b) o e ≡ set (set xs i b) o e
set_between [] o i w b e = refl
set_between (x ∷ xs) zero zero w b e = refl
set_between (x ∷ xs) zero (suc i) w b e = refl
set_between {A} (x ∷ xs) (suc o) zero w b e = ap (λ (ys : List A). b ∷ ys) (set_twice xs o w e)
set_between {A} (x ∷ xs) (suc o) (suc i) w b e = ap (λ (ys : List A). x ∷ ys) (set_between xs o i w b e)

pub taking_in : (p : ConfigParts) (id : ℕ) (v : PassView) (other : ℕ) (w : PassView) (a : Actor) (tale : Tale) → IsActorOf p w a → w.right ≡ None → Joins (Pooled p) id v other w (joined_view v (told_view a tale w)) empty_view
taking_in p id v other w a tale is no_right s r at apart there =
    let told : PassView = told_view a tale w in
    let both : PassView = joined_view v told in
    let other_at : get_elem? s.views other ≡ some w = sym (set_else s.views id other both apart) ∙ there in
    let views : List PassView = set s.views other told in
    let k : KeepsPool p s.words views = settle_kept p s.words s.views r other w other_at a is tale in
    let told_at : get_elem? views other ≡ some told = set_here s.views other told (at_lt s.views other w other_at) in
    let id_at : get_elem? views id ≡ some v = set_else s.views other id told (λ (e : id ≡ other). apart (sym e)) ∙ at in
    let known = k.each id v id_at in
    subst (KeepsPool p s.words) (set_between s.views other id told both empty_view)
    (joining_kept p s.words views k id v id_at other told apart both.pasts both.cards (set_else views id other both apart ∙ told_at) no_right
    (all_join (λ (g : Past). Begins g.seen k.log) v.pasts (past_of told ∷ []) known.pasts ((k.each other told told_at).begins, tt))
    (joined_notes k.noted v told a refl is.alone (k.notes id v id_at) (k.notes other told told_at)))
