use Rattle.std.proofs.Common.{◌≡◌, Some, List, subst, sym}
use Rattle.std.specs.Prelude.{slice_get}
use Rattle.std.proofs.lemmas.Option.{slice_get_within}
use Rattle.sh_base.specs.{declared.config.ConfigParts.{ConfigParts}, Parts.{parts_of}}
use Rattle.sh_sheet.specs.{declared.item.Item.{Item}, Sheet.{IsLawfulItem}}
use Rattle.sh_fleet.{specs.{Boards.{want_at, StandsAt}, Sharing.{HasServedItem}}, proofs.SeatLemmas.{item_served, next_item, next_room, read_item, read_there, same_places, stands_here}}
use Rattle.sh_fleet.proofs.work.Work.serve_next.Goals as goal

pub item_at-item-requires : goal.item_at-item-requires
item_at-item-requires g c =
    let h = next_item _ _ _ _ c.args.self.now c.index-place.result.now c.requires.work c.requires.next c.index-place.ensures in
    slice_get_within _ _ h.0 h.1

pub serve_item-requires-clause-lawful : goal.serve_item-requires-clause-lawful
serve_item-requires-clause-lawful g c =
    let h = next_item _ _ _ _ c.args.self.now c.index-place.result.now c.requires.work c.requires.next c.index-place.ensures in
    subst (λ (p : ConfigParts). IsLawfulItem p c.item_at-item.result.now) (sym c.requires.work.ready.2) (subst (λ (it : Item). IsLawfulItem (parts_of c.args.floor.now.cfg.now) it) (sym c.item_at-item.ensures) (c.requires.lawful _ c.item_at-item.result.now (slice_get_within _ _ h.0 h.1)))

pub serve_item-requires-clause-room : goal.serve_item-requires-clause-room
serve_item-requires-clause-room g c =
    let here = read_item _ _ _ _ c.args.self.now c.index-place.result.now c.item_at-item.result.now c.requires.work c.requires.next c.index-place.ensures c.item_at-item.ensures in
    next_room _ _ _ _ _ _ c.requires.work here

pub serve_item-requires-clause-here : goal.serve_item-requires-clause-here
serve_item-requires-clause-here g c = subst (λ (xs : List Item). slice_get xs c.index-place.result.now.at ≡ Some c.item_at-item.result.now) c.requires.named.1 (read_there _ _ _ _ c.args.self.now c.index-place.result.now c.item_at-item.result.now c.requires.work c.requires.next c.index-place.ensures c.item_at-item.ensures)

pub serve_item-requires-clause-stands : goal.serve_item-requires-clause-stands
serve_item-requires-clause-stands g c = subst (λ (xs : List Item). StandsAt (want_at xs c.index-place.result.now.at) c.item_at-item.result.now c.args.self.now.pass) c.requires.named.1 (stands_here _ _ _ _ c.args.self.now c.index-place.result.now c.item_at-item.result.now c.requires.work c.requires.next c.index-place.ensures c.item_at-item.ensures)

pub returns-clause-work : goal.returns-clause-work
returns-clause-work g c =
    let served = subst (λ (xs : List Item). HasServedItem (want_at xs c.index-place.result.now.at) c.item_at-item.result.now c.args.self.now c.serve_item.new.self) (sym c.requires.named.1) c.serve_item.ensures.served in
    item_served _ _ _ _ c.args.self.now c.index-place.result.now c.item_at-item.result.now c.requires.work c.requires.next c.index-place.ensures c.item_at-item.ensures c.serve_item.new.self c.serve_item.ensures.ready served

pub returns-clause-places : goal.returns-clause-places
returns-clause-places g c = (same_places _ _ _ _ c.serve_item.ensures.served).0
