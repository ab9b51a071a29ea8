use Rattle.sh_picture.proofs.header.first_differing.Goals as goal

pub returns-then-bytes-at : goal.returns-then-bytes-at
returns-then-bytes-at c = record { below = c.loop-at-test.true; before = c.loop-at.invariant; here = c.if-bytes-at.true }
