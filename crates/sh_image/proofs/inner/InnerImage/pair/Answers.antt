use Rattle.std.{proofs.{Common.{rules, Some, ap, ◌∙◌, sym, arith}, lemmas.Option.{slice_get-get_or}}, specs.Prelude.{slice_get}}
use Rattle.sh_image.{specs.{Inner.{Inner}, PairColumns.{pair_at, pairs_of_columns}}, proofs.PairLemmas.{length_pairs_of, get_or_pairs_of}}
use Rattle.sh_image.proofs.inner.InnerImage.pair.Goals as goal

pub prove-unreachable-requires : goal.prove-unreachable-requires
prove-unreachable-requires c = search (rules, length_pairs_of)

pub returns : goal.returns
returns c =
    let i = c.self.inside in
    let x = pair_at i.separators i.children c.args.index in
    ap (λ (a : Inner). slice_get a.pairs c.args.index) (sym c.self.view_is)
    ∙ slice_get-get_or (pairs_of_columns i.count i.separators i.children) c.args.index x (omega (arith, length_pairs_of i.separators i.children i.count))
    ∙ ap Some (get_or_pairs_of i.separators i.children i.count c.args.index x c.if-prove.false)
