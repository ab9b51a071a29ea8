use Rattle.std.{proofs.{Common.{rules, Some, [], ap, ◌∙◌, sym, arith}, lemmas.{List.{get_or_default}, Option.{slice_get-get_or}}}, specs.Prelude.{slice_get}}
use Rattle.sh_image.{specs.{Leaf.{Leaf}, Columns.{entry_of_columns, entries_of_columns}}, proofs.ColumnLemmas.{length_entries_of, get_or_entries_of}}
use Rattle.sh_image.proofs.leaf.LeafImage.entry.Goals as goal

pub prove-unreachable-requires : goal.prove-unreachable-requires
prove-unreachable-requires c = search (rules, length_entries_of)

pub returns : goal.returns
returns c =
    let i = c.self.inside in
    let e = entry_of_columns i.versions i.keys i.values c.args.index in
    let read = slice_get-get_or (entries_of_columns i.count i.versions i.keys i.values) c.args.index e (omega (arith, length_entries_of i.versions i.keys i.values i.count)) in
    ap (λ (a : Leaf). slice_get a.entries c.args.index) (sym c.self.view_is)
    ∙ read
    ∙ ap Some (get_or_entries_of i.versions i.keys i.values i.count c.args.index e c.if-prove.false)
    ∙ ap (λ v. Some (record e { value = v })) (get_or_default i.values c.args.index [] _ (omega arith))
