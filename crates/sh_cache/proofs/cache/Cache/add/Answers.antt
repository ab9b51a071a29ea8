use Rattle.std.proofs.Common.{◌≡◌, ◌<◌, length, ap, sym, subst, ◌∙◌, ◌++◌, ◌∷◌, [], arith}
use Rattle.sh_lanes.specs.Scans.{LacksWord}
use Rattle.sh_cache.{specs.{Cached.{Rows}, Columns.{lows_of, rows_in}}, proofs.ColumnLemmas.{cache_push, push_rows}}
use Rattle.sh_cache.proofs.cache.Cache.add.Goals as goal

less : (c : goal.After-self-1) → let i = c.self.inside in length (rows_in i.images.items i.slots.items (length i.lows.items)) < i.room
less c = subst (λ (s : Rows). length s.rows < s.room) (sym c.self.view_is) c.requires.room

lows : (c : goal.After-self-1) → c.push_reserved.new.self.items ≡ c.self.inside.lows.items ++ c.args.image.now.low ∷ []
lows c = c.push_reserved.ensures.items ∙ ap (λ low. c.self.inside.lows.items ++ low ∷ []) c.low.ensures

highs : (c : goal.After-self-1) → c.push_reserved-2.new.self.items ≡ c.self.inside.highs.items ++ c.args.image.now.high ∷ []
highs c = c.push_reserved-2.ensures.items ∙ ap (λ high. c.self.inside.highs.items ++ high ∷ []) c.high.ensures

pub invariant_of-self : goal.invariant_of-self
invariant_of-self c =
    let none = subst (λ (s : Rows). LacksWord (lows_of s.rows) c.args.image.now.low) (sym c.self.view_is) c.requires.other in
    cache_push _ _ _ _ _ _ _ c.self.invariant _ _ c.len.result c.index.result.now _ _ c.args.image.now c.copy_from.new.self (omega (arith, c.self.invariant.reserved.0, c.push_reserved.ensures.capacity), omega (arith, c.self.invariant.reserved.1, c.push_reserved-2.ensures.capacity)) c.requires.level none (less c) (c.len.ensures ∙ c.self.inside.lows.ok.0) c.index.ensures (lows c) (highs c) c.copy_from.ensures

pub returns : goal.returns
returns c =
    let i = c.self.inside in
    ap (λ rows. record { room = i.room; rows = rows }) (push_rows _ _ _ _ _ _ _ c.self.invariant c.len.result c.index.result.now c.args.image.now.low _ c.args.image.now c.copy_from.new.self (less c) (c.len.ensures ∙ i.lows.ok.0) c.index.ensures (lows c) c.copy_from.ensures)
    ∙ ap (λ (s : Rows). record s { rows = s.rows ++ c.args.image.now ∷ [] }) c.self.view_is
