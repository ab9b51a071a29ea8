-- A pass that rests, whose view is told of all that it has done, with a note that was made or learnt.
use Rattle.std.proofs.Common.{rules, ◌≡◌, true, List, [], ◌∷◌, ◌++◌, length, drop, sym, subst}
use Rattle.std.{proofs.Math.Seq.{drop-length}, specs.List.{AllByRecursion}}
use Rattle.atomic_table.specs.Seated.{TableId}
use Rattle.sh_map.specs.declared.log.Entry.{Entry}
use Rattle.sh_client.specs.Rests.{is_resting}
use Rattle.sh_pool_rule.specs.{declared.view.{Card.{Card}, PassView.{PassView}}, Untold.{StaysAnswered}, Views.{longer, view_seat}, Rights.{told_view}}
use Rattle.sh_pool.specs.{Passes.{pass_actor, tale_of, IsPass, Standing}, Cards.{KeepsCalls}}
use Rattle.sh_pool.proofs.{Acting.{moved_actor}, RestLemmas.{rest_stays}, Steps.{answered_now, moved_pass, no_begun, standing, stays_now}}

-- its view, where it has seen this, with these cards
abbrev pub settled : Standing → List Entry → List Card → Standing
settled p s cs = standing p.table p.client p.begun (record (told_view (pass_actor p) (tale_of p (length p.chair.view.calls)) p.view) { seen = s; cards = cs }) p.chair

pub settled_keeps : (p : Standing) (s : List Entry) (cs : List Card) → IsPass p → is_resting p.client ≡ true → StaysAnswered p.client.setting (view_seat p.view) s (pass_actor p) → KeepsCalls p (settled p s cs)
settled_keeps p s cs i rest stays = search (rules, drop-length, no_begun, standing, moved_pass, moved_actor)

pub noted_keeps : (p : Standing) → IsPass p → is_resting p.client ≡ true → KeepsCalls p (settled p p.view.seen p.view.cards)
noted_keeps p i rest = settled_keeps p p.view.seen p.view.cards i rest (stays_now p i)

pub learnt_keeps : (p : Standing) (saw : List Entry) (cs : List Card) → IsPass p → is_resting p.client ≡ true → KeepsCalls p (settled p (longer p.view.seen saw) cs)
learnt_keeps p saw cs i rest = settled_keeps p (longer p.view.seen saw) cs i rest (rest_stays p.client.setting (view_seat p.view) p.view.seen (drop (length p.view.seen) saw) (pass_actor p) (subst (λ m. is_resting m ≡ true) i.tied rest) (answered_now p i))

-- said of a pass by equations
pub settled_so : (p : Standing) (s : List Entry) (cs : List Card) (z : TableId) (v : PassView) → KeepsCalls p (settled p s cs) → z ≡ p.table → v ≡ (settled p s cs).view → KeepsCalls p (standing z p.client p.begun v p.chair)
settled_so p s cs z v h table view = subst (λ (q : TableId × PassView). KeepsCalls p (standing q.0 p.client p.begun q.1 p.chair)) (λ i. (sym table i, sym view i)) h

-- what holds of each card holds of the last
pub of_last : (P : Card → Type 0) (cs : List Card) (c : Card) → AllByRecursion P (cs ++ c ∷ []) → P c
of_last P [] c h = h.0
of_last P (x ∷ cs) c h = of_last P cs c h.1
