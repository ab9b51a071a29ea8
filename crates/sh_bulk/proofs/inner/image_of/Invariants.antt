use Rattle.std.{proofs.Common.{◌≡◌, ◌-◌, map}, specs.List.{range_with_len}}
use Rattle.sh_bulk.specs.Nodes.{inner_of, pair_to}
use Rattle.sh_bulk.proofs.inner.image_of.Given as goal

-- the pairs so far
abbrev pub invariant-loop-i : goal.invariant-loop-i
invariant-loop-i l = l.image ≡ record (inner_of l.cfg.parts l.rows l.below.number l.j) { pairs = map (pair_to l.cfg.parts l.rows l.below.number) (range_with_len l.from (l.i - l.from)) }
