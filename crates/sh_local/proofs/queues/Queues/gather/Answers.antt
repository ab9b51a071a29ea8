use Rattle.std.{proofs.Common.{◌≡◌, length, ◌∙◌, sym, ap}, specs.Mem.Slots.{slots_items, slots_counts}}
use Rattle.sh_local.proofs.Taking.{ends_none, ends_gathered}
use Rattle.sh_local.proofs.queues.Queues.gather.Goals as goal

pub discard-requires : goal.discard-requires
discard-requires g c =
    let key = c.self.inside.table.shared.key in
    let last = c.take_in-last.result in
    let v = c.close_with.ensures.values in
    let chairs : length c.args.chairs.items ≡ key.chairs = c.requires.all ∙ ap (λ r. r.chairs) (sym c.self.view_is) in
    record {
      full = v.1;
      none = ends_none g.T.Carried.fits key.key key.chairs (slots_items c.close_with.result.words) (slots_items c.close_with.result.slots) last.id last.me.0 c.args.chairs.items c.take_in-last.ensures.taken chairs v.2;
    }

pub returns : goal.returns
returns g c =
    let key = c.self.inside.table.shared.key in
    let last = c.take_in-last.result in
    let v = c.close_with.ensures.values in
    let chairs : length c.args.chairs.items ≡ key.chairs = c.requires.all ∙ ap (λ r. r.chairs) (sym c.self.view_is) in
    let cells : c.args.self.cells ≡ length (slots_items c.close_with.result.slots) = ap (λ r. r.cells) (sym c.self.view_is) ∙ sym c.self.invariant.1 ∙ sym c.close_with.ensures.counts.1 ∙ (slots_counts c.close_with.result.slots).0 in
    ends_gathered g.T.Carried.fits key.key key.chairs (slots_items c.close_with.result.words) (slots_items c.close_with.result.slots) last.id last.me.0 c.args.chairs.items c.take_in-last.ensures.taken chairs v.2 c.args.self.cells cells
