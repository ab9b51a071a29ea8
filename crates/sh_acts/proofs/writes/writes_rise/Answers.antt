use Rattle.std.proofs.Common.{refl, sym, arith}
use Rattle.sh_image.proofs.UntornLemmas.{untorn_spelled, untorn_inner}
use Rattle.sh_acts.proofs.StoreLemmas.{whole_begins, whole_goes, one_begins, one_goes}
use Rattle.sh_acts.proofs.writes.writes_rise.Goals as goal

pub returns-clause-leaf : goal.returns-clause-leaf
returns-clause-leaf c = λ a h.
    let u = untorn_spelled c.args.cfg.now.parts _ a record { words = refl; lawful = h } in
    record { node = sym u.node; entries = λ e i lt. sym (u.entries refl i lt) }

pub returns-clause-inner : goal.returns-clause-inner
returns-clause-inner c = λ level a h.
    let u = untorn_inner c.args.cfg.now.parts _ a c.args.cfg.now.lawful.ranged.value_words.0 record { words = refl; lawful = h } in
    record { node = sym u.node; entries = λ e. absurd (omega (arith, e)) }

pub returns-clause-whole_begins : goal.returns-clause-whole_begins
returns-clause-whole_begins c = λ level node new. whole_begins c.args.cfg.now.parts level node new

pub returns-clause-whole_goes_on : goal.returns-clause-whole_goes_on
returns-clause-whole_goes_on c = λ level done node new. whole_goes c.args.cfg.now.parts level node new done

pub returns-clause-one_begins : goal.returns-clause-one_begins
returns-clause-one_begins c = λ i node new. one_begins c.args.cfg.now.parts 0 node new i refl

pub returns-clause-one_goes_on : goal.returns-clause-one_goes_on
returns-clause-one_goes_on c = λ i done node new. one_goes c.args.cfg.now.parts 0 node new i done
