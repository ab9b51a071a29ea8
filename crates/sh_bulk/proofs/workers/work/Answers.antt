use Rattle.std.proofs.Common.{rules, ◌≡◌, ◌+◌, ◌*◌, ◌∙◌, ap, sym, length, take, drop, arith}
use Rattle.std.specs.Prelude.{◌/◌}
use Rattle.sh_base.{specs.Setting.{node_size}, proofs.LayoutLemmas.{node_size_is}}
use Rattle.sh_bulk.{specs.{Shape.{count_in}, Nodes.{words_at}, Words.{level_words, words_from}}, proofs.{LevelLemmas.{leaf_long, run_of}, PieceLemmas.{pieces_cut}}}
use Rattle.sh_bulk.proofs.workers.work.Goals as goal

pub build_leaves-requires-clause-leaves : goal.build_leaves-requires-clause-leaves
build_leaves-requires-clause-leaves g c =
    let p = c.args.cfg.now.parts in
    let run = run_of p _ _ _ _ (omega (arith, node_size_is p)) c.requires.stretch in
    search (rules, c.node_size-size.ensures, run.within, c.args.start, c.args.out.now)

pub build_leaves-requires-clause-size : goal.build_leaves-requires-clause-size
build_leaves-requires-clause-size g c =
    let p = c.args.cfg.now.parts in
    let run = run_of p _ _ _ _ (omega (arith, node_size_is p)) c.requires.stretch in
    run.len_is ∙ ap (λ w. length c.args.out.now / w * node_size p) (sym c.node_size-size.ensures)

pub returns : goal.returns
returns g c =
    let p = c.args.cfg.now.parts in
    let rows = c.args.rows.now in
    let run = run_of p _ _ _ _ (omega (arith, node_size_is p)) c.requires.stretch in
    let size = c.node_size-size.ensures in
    let from = c.args.start / node_size p in
    let count = length c.args.out.now / node_size p in
    let start : 0 + from ≡ from = omega arith in
    c.build_leaves.ensures
    ∙ ((λ t. words_from p rows 0 (c.args.start / size t) (length c.args.out.now / size t))
    ∙ (sym (pieces_cut (words_at p rows 0) (node_size p) 0 from count (count_in p (length rows) 0) run.within (λ j ge lt. leaf_long p c.args.cfg.now.lawful rows j c.requires.values) ∙ ap (λ k. words_from p rows 0 k count) start)
    ∙ (λ t. take (sym run.len_is t) (drop (sym run.start_is t) (level_words p rows 0)))))
