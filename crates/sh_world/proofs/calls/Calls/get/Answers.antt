use Rattle.std.proofs.Common.{rules, ◌+◌, ◌-◌, ◌*◌, ◌≡◌, ◌<◌, ◌∙◌, ℕ, Some, ap, arith, drop, length, refl, sym, take}
use Rattle.std.{specs.Prelude.{slice_get}, proofs.lemmas.Option.{slice_get_read}}
use Rattle.sh_world.{specs.{States.{rows_in}, Columns.{Listed, call_of, reply_read}}, proofs.RowLemmas.{call_at, kept_long}}
use Rattle.sh_world.proofs.calls.Calls.get.Goals as goal

pub prove-unreachable-requires : goal.prove-unreachable-requires
prove-unreachable-requires c = search (rules, kept_long)

pub returns : goal.returns
returns c =
    let i = c.self.inside in
    let k = c.index-kept.result.now in
    let w = c.value_words-width.result in
    let W = i.cfg.parts.value_words in
    let is : w ≡ W = c.value_words-width.ensures in
    let at : c.args.index * (2 * w) ≡ c.args.index * (2 * W) = ap (λ (n : ℕ). c.args.index * (2 * n)) is in
    let behind : c.args.index * (2 * w) + w ≡ c.args.index * (2 * W) + W = omega (arith, at, is) in
    let lt : c.args.index < length i.kept.items = omega (arith, c.if-prove.false, c.len.ensures, i.kept.ok.0) in
    let a : c.args.index * (2 * w) + w - c.args.index * (2 * w) ≡ W = omega (arith, is) in
    let b : c.args.index * (2 * w) + 2 * w - (c.args.index * (2 * w) + w) ≡ W = omega (arith, is) in
    let here = ap (λ (l : Listed). slice_get l.calls c.args.index) (sym c.self.view_is) ∙ call_at W i.kept.items i.words.items i.rows.items c.args.index k (slice_get_read i.kept.items _ c.args.index k refl lt c.index-kept.ensures) in
    here ∙ sym (λ t. Some (record {
      seat = k.seat;
      call = (c.call_in.ensures ∙ λ z. call_of k.call k.key (take (a z) (drop (at z) (c.deref.ensures.value z)))) t;
      reply = (c.reply_in.ensures ∙ λ z. reply_read k.reply (take (b z) (drop (behind z) (c.deref-2.ensures.value z)))) t;
      first = k.first;
      point = k.point;
      rows = (ap rows_in here) t;
    }))
