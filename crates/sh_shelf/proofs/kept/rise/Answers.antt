use Rattle.std.proofs.{Common.{rules, subst}, lemmas.List.Sorted.{IsNonDecreasingBy-from_sort_by_key}}
use Rattle.std.specs.List.Sorted.{IsPermutation}
use Rattle.sh_image.specs.Inner.{Inner}
use Rattle.sh_shelf.proofs.kept.rise.Goals as goal

pub returns-clause-rows : goal.returns-clause-rows
returns-clause-rows c =
    let s = c.sort_unstable_by_key in
    record {
      same = subst (λ l. IsPermutation l s.new.self.items) c.replace.ensures.rows s.ensures.permutation;
      rises = IsNonDecreasingBy-from_sort_by_key (λ (r : Inner). r.low) _ s.ensures.sorted (λ a r q k. search rules);
    }
