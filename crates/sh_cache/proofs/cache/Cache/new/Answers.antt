use Rattle.std.proofs.Common.{rules, arith}
use Rattle.sh_cache.{proofs.{ColumnLemmas.{cache_empty}, SlotLemmas.{no_rows}}}
use Rattle.sh_cache.proofs.cache.Cache.new.Goals as goal

pub invariant_of-result : goal.invariant_of-result
invariant_of-result c =
    rw (c.in_ok-with_capacity.ensures.items, c.in_ok-with_capacity-2.ensures.items)
    (cache_empty _ _ _ _ _ (omega (arith, c.in_ok-with_capacity.ensures.capacity), omega (arith, c.in_ok-with_capacity-2.ensures.capacity)) c.in_ok-free_slots.ensures c.in_ok-blank_images.ensures)

pub returns : goal.returns
returns c = search (rules, no_rows)
