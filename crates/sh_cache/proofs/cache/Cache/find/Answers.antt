use Rattle.std.proofs.Common.{◌≡◌, ◌∙◌, ap, sym, subst, length, Some}
use Rattle.sh_cache.{specs.{Cached.{found, Rows}, Columns.{rows_in, IsFoundAt}}, proofs.{FindLemmas.{found_has}, ColumnLemmas.{image_found, HasLevel1}}}
use Rattle.sh_cache.proofs.cache.Cache.find.Goals as goal

here : (c : goal.After-index-2) → let i = c.self.inside in Some c.index-2.result.now ≡ found (rows_in i.images.items i.slots.items (length i.lows.items)) c.args.key
here c =
    let at = subst (λ ls. IsFoundAt ls c.self.inside.highs.items c.args.key (Some c.in_ok-at.at)) c.deref.ensures.value (subst (λ hs. IsFoundAt c.deref.result.now hs c.args.key (Some c.in_ok-at.at)) c.deref-2.ensures.value c.in_ok-at.ensures) in
    image_found _ _ _ _ _ _ _ c.self.invariant c.in_ok-at.at c.index.result.now c.args.key c.index-2.result.now at c.index.ensures c.index-2.ensures

pub returns-clause-row : goal.returns-clause-row
returns-clause-row c = here c ∙ ap (λ (s : Rows). found s.rows c.args.key) c.self.view_is

pub returns-clause-level : goal.returns-clause-level
returns-clause-level c = found_has HasLevel1 _ c.args.key c.index-2.result.now (sym (here c)) c.self.invariant.columns.levels
