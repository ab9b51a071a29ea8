use Rattle.std.proofs.Common.{◌≢◌}
use Rattle.sh_state.specs.TreeState.{Seat}
use Rattle.sh_readers.proofs.HandLemmas.{leaf_image, inner_image, root_named, image_on, named_on}
use Rattle.sh_readers.proofs.hops.images_in_hand.Goals as goal

pub returns-clause-leaf : goal.returns-clause-leaf
returns-clause-leaf c = λ words s n low first got g e r. leaf_image c.args.cfg.now.parts words s g n low first got e r

pub returns-clause-inner : goal.returns-clause-inner
returns-clause-inner c = λ words s n level low g e. inner_image c.args.cfg.now.parts words s g n level low e

pub returns-clause-root : goal.returns-clause-root
returns-clause-root c = λ words s key g. root_named c.args.cfg.now.parts words s g key

pub returns-clause-kept : goal.returns-clause-kept
returns-clause-kept c = λ s t seat level low image ch h. image_on c.args.cfg.now.parts (λ o. o ≢ Seat seat) s t ch level low image h

pub returns-clause-named : goal.returns-clause-named
returns-clause-named c = λ s t seat level n key ch h. named_on c.args.cfg.now.parts (λ o. o ≢ Seat seat) s t ch level n key h
