use Rattle.std.proofs.Common.{length, refl, ap, sym, subst, arith}
use Rattle.sh_base.specs.Parts.{parts_of}
use Rattle.sh_client.proofs.WithinLemmas.{root_within}
use Rattle.sh_image.specs.Laid.{AreLaid}
use Rattle.sh_pool_rule.proofs.{BesideLemmas.{entering}, OpenLemmas.{opening_kept}}
use Rattle.sh_pool.proofs.pool.LaidPool.open.Goals as goal

pub of_words-requires : goal.of_words-requires
of_words-requires c = opening_kept (parts_of c.args.cfg.now) c.args.cfg.now.lawful c.as_slice.result.now (subst (AreLaid (parts_of c.args.cfg.now)) (sym c.as_slice.ensures.value) c.in_ok-words.ensures)

pub load_new_seat-seat-requires : goal.load_new_seat-seat-requires
load_new_seat-seat-requires c =
    let words = c.in_ok-table.ensures.0 in
    let same = ap length c.as_slice.ensures.value in
    let laid : AreLaid (parts_of c.args.cfg.now) c.in_ok-words.words.items = c.in_ok-words.ensures in
    let long = laid.long in
    let low = root_within (parts_of c.args.cfg.now) in (
      omega (arith, words, same, long, low),
      (λ s r homes small. let e = entering (parts_of c.in_ok-table.table.shared.key) c.in_ok-table.table.shared.table_id.slots 0 s r homes small in (e.0, e.1, (e.2, refl))),
    )
