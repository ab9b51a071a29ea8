use Rattle.std.proofs.{Common.{arith}, lemmas.{Bool.Decides.{nat_tests}, List.Elements.{All-from_recursion, recursion_from_All}}}
use Rattle.sh_image.{specs.Leaf.{IsEntry}, proofs.FillLemmas.{spelled_many}}
use Rattle.sh_image.proofs.read_leaf.is_leaf.Goals as goal

pub returns : goal.returns
returns c = (
  λ t. record {
    version = omega (arith, c.if-words-last_version.false, c.last_version.ensures);
    fences = c.if-low-high.false;
    next = c.requires.next;
    end = grind (arith, nat_tests, c.if-next-high.false);
    count = spelled_many c.args.cfg.now.parts c.args.words.now;
    entries = recursion_from_All (IsEntry c.args.cfg.now.parts _ _) _ (c.are_entries.ensures.0 t);
  },
  λ h. c.are_entries.ensures.1 (All-from_recursion (IsEntry c.args.cfg.now.parts _ _) _ h.entries),
)
