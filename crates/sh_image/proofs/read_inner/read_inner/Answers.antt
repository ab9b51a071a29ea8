use Rattle.std.proofs.Common.{rules, refl, arith}
use Rattle.sh_image.proofs.InnerLemmas.{inner_spelled, inner_passed, inner_failed, length_decoded, zeros_spelled}
use Rattle.sh_image.proofs.read_inner.read_inner.Goals as goal

pub returns-then-not-has_zeros_behind-clause-always : goal.returns-then-not-has_zeros_behind-clause-always
returns-then-not-has_zeros_behind-clause-always c = λ a s. c.if-not-has_zeros_behind.ensures.1 (zeros_spelled c.args.cfg.now.parts c.args.words.now a s)

pub returns-then-not-fill-clause-always : goal.returns-then-not-fill-clause-always
returns-then-not-fill-clause-always c = λ a s. c.if-not-fill.ensures.always (inner_spelled c.args.cfg.now.parts c.args.words.now a s).0.children

pub is_inner-requires-clause-count : goal.is_inner-requires-clause-count
is_inner-requires-clause-count c =
    omega (arith, length_decoded c.args.cfg.now.parts c.args.words.now c.fill.new.image (c.if-not-fill.ensures.filled refl), c.if-count-from.false, c.leaf.ensures, c.from-else-words-from.ensures)

pub returns-clause-spelled : goal.returns-clause-spelled
returns-clause-spelled c = search (rules, inner_passed)

pub returns-clause-always : goal.returns-clause-always
returns-clause-always c = λ a s. c.is_inner.ensures.1 (inner_failed c.args.cfg.now.parts c.args.words.now c.fill.new.image a (c.if-not-fill.ensures.filled refl) s)
