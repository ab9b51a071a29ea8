use Rattle.std.{proofs.Common.{ap, sym, subst, ◌∙◌}, specs.Prelude.{slice_set}}
use Rattle.sh_lanes.specs.Scans.{IsFirst}
use Rattle.sh_cache.{specs.{Cached.{Rows}, Columns.{lows_of}}, proofs.ColumnLemmas.{cache_set, set_rows}}
use Rattle.sh_cache.proofs.cache.Cache.replace.Goals as goal

pub invariant_of-self : goal.invariant_of-self
invariant_of-self c =
    let first = subst (λ (s : Rows). IsFirst (lows_of s.rows) c.args.image.now.low c.args.at) (sym c.self.view_is) c.requires.place in
    cache_set _ _ _ _ _ _ _ c.self.invariant c.args.at c.index.result.now c.high.result c.args.image.now c.copy_from.new.self c.requires.level first c.index.ensures c.high.ensures c.copy_from.ensures

pub returns : goal.returns
returns c =
    let i = c.self.inside in
    let first = subst (λ (s : Rows). IsFirst (lows_of s.rows) c.args.image.now.low c.args.at) (sym c.self.view_is) c.requires.place in
    ap (λ rows. record { room = i.room; rows = rows }) (set_rows _ _ _ _ _ _ _ c.self.invariant c.args.at c.index.result.now c.args.image.now c.copy_from.new.self first c.index.ensures c.copy_from.ensures)
    ∙ ap (λ (s : Rows). record s { rows = slice_set s.rows c.args.at c.args.image.now }) c.self.view_is
