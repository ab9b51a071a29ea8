use Rattle.std.proofs.Common.{◌∙◌, ap, length, drop, sym, arith}
use Rattle.sh_base.specs.{Parts.{parts_of}, Setting.{pool_words}}
use Rattle.sh_picture.proofs.{PictureLemmas.{numbers_long}, FaultLemmas.{lawful_of, refused_of}}
use Rattle.sh_picture.proofs.checking.check.Goals as goal

pub first_in_pool-requires : goal.first_in_pool-requires
first_in_pool-requires c = ap length (c.deref.ensures.value ∙ c.in_ok-words.ensures) ∙ numbers_long 8 (pool_words (parts_of c.in-Ok.cfg)) (drop 56 c.args.bytes.now)

pub returns-in-Some : goal.returns-in-Some
returns-in-Some c = refused_of c.args.bytes.now (parts_of c.in-Ok.cfg) c.deref.result.now c.in_ok-place.field-0 c.in-Some.place c.in-Some.is c.in-Ok.ensures (c.deref.ensures.value ∙ c.in_ok-words.ensures) c.in_ok-place.ensures

pub pairs_in-requires : goal.pairs_in-requires
pairs_in-requires c = ap length (c.deref-2.ensures.value ∙ c.in_ok-words.ensures) ∙ numbers_long 8 (pool_words (parts_of c.in-Ok.cfg)) (drop 56 c.args.bytes.now)

pub returns : goal.returns
returns c = lawful_of c.args.bytes.now (parts_of c.in-Ok.cfg) c.deref.result.now c.deref-2.result.now c.in_ok-place.field-0 c.in_ok-pairs.pairs (λ k. omega (arith, c.type_inv.bytes k)) c.in-Ok.cfg.lawful c.in-Ok.ensures (c.deref.ensures.value ∙ c.in_ok-words.ensures) (c.deref-2.ensures.value ∙ sym c.deref.ensures.value) c.in_default.is c.in_ok-place.ensures c.in_ok-pairs.ensures
