use Rattle.std.proofs.{Common.{sym, ap, ◌∙◌, length, map, arith}, lemmas.List.{same_lists, length-map}}
use Rattle.sh_edit.{specs.Rewriting.{cleared}, proofs.FindLemmas.{length_of_keys}}
use Rattle.sh_edit.proofs.cleared.Goals as goal

pub returns : goal.returns
returns c =
    let es = c.args.leaf.now.entries in
    let count = ap length c.keys.ensures.keys ∙ length_of_keys es in
    let same = same_lists c.loop-index.image.entries (map cleared es) (c.loop-index.invariant.count ∙ sym (length-map _ _)) (λ i d h. c.loop-index.invariant.done i d (omega (arith, count))) in
    c.loop-index.invariant.others ∙ ap (λ l. record c.args.leaf.now { entries = l }) same
