use Rattle.std.proofs.Common.{rules, ◌+◌, ◌*◌, ◌<◌, ◌∙◌, ℕ, List, ap, arith, drop, length, take}
use Rattle.std.specs.Prelude.{slice_get, slice_index_or}
use Rattle.sh_map.specs.declared.book.Row.{Row}
use Rattle.sh_world.proofs.RowLemmas.{row_read, kept_long, row_ends, row_of}
use Rattle.sh_world.proofs.calls.Calls.row.Goals as goal

pub prove-unreachable-requires : goal.prove-unreachable-requires
prove-unreachable-requires c = search (rules, kept_long)

pub row_in-requires-clause-within : goal.row_in-requires-clause-within
row_in-requires-clause-within c =
    let i = c.self.inside in
    let lt : c.args.index < length i.kept.items = omega (arith, c.if-prove.false, c.len.ensures, i.kept.ok.0) in
    let ends = row_ends _ _ _ _ _ _ c.self.invariant _ c.self.view_is c.args.index _ lt c.index.ensures c.args.row c.requires.row _ c.value_words-width.ensures in
    omega (arith, ends, ap length c.deref.ensures.value)

pub returns : goal.returns
returns c =
    let i = c.self.inside in
    let k = c.index.result.now in
    let w = c.value_words-width.result in
    let lt : c.args.index < length i.kept.items = omega (arith, c.if-prove.false, c.len.ensures, i.kept.ok.0) in
    let own = row_of i.cfg.parts i.kept.items i.words.items i.rows.items i.owed _ c.self.invariant c.args.self.now c.self.view_is c.args.index k lt c.index.ensures c.args.row c.requires.row in
    let at : ℕ = k.start + c.args.row * (w + 1) in
    ap (λ (rs : List Row). slice_get rs c.args.row) own.rows_are
    ∙ row_read i.cfg.parts.value_words w c.args.row k.start k.count i.rows.items c.row_in.result.key c.row_in.result.value c.value_words-width.ensures own.count own.inside
    (c.row_in.ensures.key ∙ ap (λ (ws : List ℕ). slice_index_or ws at c.row_in.result.key) c.deref.ensures.value) (c.row_in.ensures.value ∙ ap (λ (ws : List ℕ). take w (drop (at + 1) ws)) c.deref.ensures.value)
