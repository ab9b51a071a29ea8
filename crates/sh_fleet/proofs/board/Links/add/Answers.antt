use Rattle.std.proofs.Common.{◌≡◌, length, arith}
use Rattle.sh_fleet.proofs.BoardLemmas.{added_after, added_mark, added_other, linked_within}
use Rattle.sh_fleet.proofs.board.Links.add.Goals as goal

pub lead-other-requires : goal.lead-other-requires
lead-other-requires c = linked_within _ _ _ _ _ c.in-After.number c.mark.result c.requires.linked c.mark.ensures

pub returns-in_ok-push-in-Mark : goal.returns-in_ok-push-in-Mark
returns-in_ok-push-in-Mark c = rw c.in_ok-push-in-Mark.ensures.items (added_mark c.args.items.now c.args.at c.index-items-at.result c.requires.at c.index-items-at.is _ _ _ c.requires.linked c.in-Mark.seat c.in-Mark.number _ c.in-Mark.is c.in_ok-insert-in-Mark.ensures.updates)

pub returns-in_ok-push-in-After-2 : goal.returns-in_ok-push-in-After-2
returns-in_ok-push-in-After-2 c =
    let long : c.len-place.result ≡ length c.args.self.now.next.items = omega (arith, c.len-place.ensures, c.args.self.now.next.ok.0) in
    let add = added_after c.args.items.now c.args.at c.index-items-at.result c.requires.at c.index-items-at.is _ _ _ c.requires.linked c.in-After.seat c.in-After.number c.len-place.result c.mark.result c.in-After.is long c.mark.ensures in
    rw (c.in_ok-push-in-After-2.ensures.items, c.in_ok-push-in-After.ensures.items, c.lead-other.ensures.links, c.lead-other.ensures.next, c.lead-other.ensures.marks, c.lead-other.ensures.link) add

pub returns-in_ok-push-in_default : goal.returns-in_ok-push-in_default
returns-in_ok-push-in_default c = rw c.in_ok-push-in_default.ensures.items (added_other c.args.items.now c.args.at c.index-items-at.result c.requires.at c.index-items-at.is _ _ _ c.requires.linked (λ seat n. c.in_default.not-Mark seat n) (λ seat n. c.in_default.not-After seat n))
