use Rattle.std.{proofs.Common.{ap, sym, subst, ◌∙◌, ◌++◌, ◌∷◌, [], length, ◌<◌, arith}, specs.List.{remove}}
use Rattle.sh_cache.{specs.Cached.{Rows}, proofs.ColumnLemmas.{cache_remove, remove_rows}}
use Rattle.sh_cache.proofs.cache.Cache.remove.Goals as goal

pub invariant_of-self : goal.invariant_of-self
invariant_of-self c =
    let i = c.self.inside in
    let here = subst (λ (s : Rows). c.args.at < length s.rows) (sym c.self.view_is) c.requires in
    let slots = c.push_reserved.ensures.items ∙ ap (λ ss. ss ++ c.remove-freed.result ∷ []) c.remove-freed.ensures.items in
    cache_remove _ _ _ _ _ _ _ c.self.invariant _ _ c.args.at c.remove-freed.result _ _ _ (omega (arith, c.self.invariant.reserved.0, c.remove.ensures.capacity), omega (arith, c.self.invariant.reserved.1, c.remove-2.ensures.capacity)) here c.remove-freed.ensures.value c.remove.ensures.items c.remove-2.ensures.items slots

pub returns : goal.returns
returns c =
    let i = c.self.inside in
    let here = subst (λ (s : Rows). c.args.at < length s.rows) (sym c.self.view_is) c.requires in
    let slots = c.push_reserved.ensures.items ∙ ap (λ ss. ss ++ c.remove-freed.result ∷ []) c.remove-freed.ensures.items in
    ap (λ rows. record { room = i.room; rows = rows }) (remove_rows _ _ _ _ _ _ _ c.self.invariant c.args.at c.remove-freed.result _ _ here c.remove.ensures.items slots)
    ∙ ap (λ (s : Rows). record s { rows = remove s.rows c.args.at }) c.self.view_is
