-- The works of a pool's passes as they begin.
use Rattle.std.proofs.Common.{◌≡◌, ◌<◌, ◌+◌, ℕ, zero, suc, List, [], ◌∷◌, ◌++◌, map, length, take, drop, refl, sym, ap, ap₂, subst, ◌∙◌, arith, Option, Some, None, slice_index_or, slice_set}
use Rattle.std.{specs.{Prelude.{filter, slice_get}}}
use Rattle.atomic_table.specs.Seated.{TableId}
use Rattle.sh_base.specs.{declared.config.ConfigParts.{ConfigParts}, Setting.{all_seats}}
use Rattle.sh_sheet.specs.{declared.item.Item.{Item}, Sheet.{done_item, is_call}}
use Rattle.sh_local.specs.Chairs.{CellTable}
use Rattle.sh_pool_rule.specs.Views.{view_seat}
use Rattle.sh_pool.specs.{Passes.{pass_actor, PoolTable, Standing}, Pools.{fresh_passes, AreLaidFor, AreReady, HasChairs, IsReady}, declared.right.Knower.{Knower}}
use Rattle.sh_fleet.specs.{declared.{sharing.Share.{Share}, work.{Place.{Place}, Work.{Work}}}, Sharing.{AreOrdered, answers_in, items_of, rows_told, told_of, AreShares, AreUnused, AreWorks, HasRoom, IsBegun, IsShare, IsWork}}
use Rattle.sh_fleet.proofs.HeardLemmas.{heard_none}

fresh_unused : (p : ConfigParts) (laid : Option PoolTable) (z : TableId) (s : ConfigParts) (r : CellTable Knower) (k n : ℕ) → AreReady p laid (fresh_passes z s r k n) → AreUnused p laid k (fresh_passes z s r k n)
fresh_unused p laid z s r k zero h = tt
fresh_unused p laid z s r k (suc n) h = (h.0, refl, refl, refl, fresh_unused p laid z s r (suc k) n h.1)

with_chairs : (p : ConfigParts) (laid : Option PoolTable) (t : PoolTable) (qs : List Standing) (cells : Option (CellTable Knower)) → HasChairs cells (λ (r : CellTable Knower). qs ≡ fresh_passes t.table t.setting r 0 (all_seats t.setting)) → AreReady p laid qs → AreUnused p laid 0 qs
with_chairs p laid t qs None h ready = absurd h
with_chairs p laid t qs (Some r) h ready = subst (AreUnused p laid 0) (sym h) (fresh_unused p laid t.table t.setting r 0 (all_seats t.setting) (subst (AreReady p laid) h ready))

-- the passes of a pool that was just laid
pub laid_unused : (p : ConfigParts) (laid : Option PoolTable) (qs : List Standing) → AreLaidFor p laid qs → AreReady p laid qs → AreUnused p laid 0 qs
laid_unused p None qs h ready = absurd h
laid_unused p (Some t) qs h ready = with_chairs p (Some t) t qs t.cells h.1 ready

begun : (p : ConfigParts) (laid : Option PoolTable) (items : List Item) (seat : ℕ) (q : Standing) (s : Share) (w : Work) → IsReady p laid q → view_seat q.view ≡ seat → (pass_actor q).dones ≡ [] → q.view.cards ≡ [] → IsShare p items items seat s → IsBegun q s w → IsWork p laid items seat w
begun p laid items seat q s w ready own none no_cards share h =
    let mine = items_of seat items in
    record {
      ready = subst (IsReady p laid) (sym h.pass) ready;
      seat_is = ap (λ (x : Standing). view_seat x.view) h.pass ∙ own;
      places = ap (map (λ (x : Place). slice_get items x.at)) h.places ∙ share.places;
      order = subst (λ (ps : List Place). AreOrdered items seat mine ps) (sym h.places) share.order;
      next = omega (arith, h.next);
      heard = heard_none items seat w.next w.pass h.next (ap (λ (x : Standing). x.view.cards) h.pass ∙ no_cards);
      calls = ap (λ (x : Standing). map done_item (pass_actor x).dones) h.pass ∙ (ap (map done_item) none ∙ sym (ap (λ (n : ℕ). filter is_call (take n mine)) h.next));
      told = ap (λ (x : Standing). map told_of (pass_actor x).dones) h.pass ∙ (ap (map told_of) none ∙ sym (ap₂ answers_in h.replies h.rows));
      counted = ap rows_told h.replies ∙ sym (ap length h.rows);
      room = subst (λ (n : ℕ). HasRoom p (drop n mine) w.answers) (sym h.next) (record { replies = omega (arith, ap length h.replies, share.calls, h.reply_room); rows = omega (arith, ap length h.rows, share.rows, h.row_room) });
    }

works_more : (p : ConfigParts) (laid : Option PoolTable) (items : List Item) (k : ℕ) (ws : List Work) (w : Work) → AreWorks p laid items k ws → IsWork p laid items (k + length ws) w → AreWorks p laid items k (ws ++ w ∷ [])
works_more p laid items k [] w h g = let here : k + 0 ≡ k = omega arith in (subst (λ (j : ℕ). IsWork p laid items j w) here g, tt)
works_more p laid items k (x ∷ xs) w h g = let next : k + suc (length xs) ≡ suc k + length xs = omega arith in (h.0, works_more p laid items (suc k) xs w h.1 (subst (λ (j : ℕ). IsWork p laid items j w) next g))

share_first : (p : ConfigParts) (items : List Item) (ss : List Share) (k i : ℕ) (d : Share) → i < length ss → AreShares p items items k (drop i ss) → IsShare p items items k (slice_index_or ss i d)
share_first p items [] k i d lt h = absurd (omega (arith, lt))
share_first p items (s ∷ ss) k zero d lt h = h.0
share_first p items (s ∷ ss) k (suc i) d lt h = share_first p items ss k i d (omega (arith, lt)) h

pub shares_left : (p : ConfigParts) (items : List Item) (ss : List Share) (k i : ℕ) (t : Share) → i < length ss → AreShares p items items k (drop i ss) → AreShares p items items (suc k) (drop (suc i) (slice_set ss i t))
shares_left p items [] k i t lt h = absurd (omega (arith, lt))
shares_left p items (s ∷ ss) k zero t lt h = h.1
shares_left p items (s ∷ ss) k (suc i) t lt h = shares_left p items ss k i t (omega (arith, lt)) h

-- the works with that of the next pass
pub begun_more : (p : ConfigParts) (laid : Option PoolTable) (items : List Item) (i : ℕ) (q : Standing) (qs : List Standing) (ss : List Share) (s : Share) (ws : List Work) (w : Work) → i ≡ length ws → i < length ss → AreUnused p laid i (q ∷ qs) → AreShares p items items i (drop i ss) → s ≡ slice_index_or ss i s → AreWorks p laid items 0 ws → IsBegun q s w → AreWorks p laid items 0 (ws ++ w ∷ [])
begun_more p laid items i q qs ss s ws w count lt unused shares is h new =
    let share : IsShare p items items i s = subst (λ (x : Share). IsShare p items items i x) (sym is) (share_first p items ss i i s lt shares) in
    let at : i ≡ 0 + length ws = omega (arith, count) in
    works_more p laid items 0 ws w h (subst (λ (j : ℕ). IsWork p laid items j w) at (begun p laid items i q s w unused.0 unused.1 unused.2 unused.3 share new))

fresh_long : (z : TableId) (s : ConfigParts) (r : CellTable Knower) (k n : ℕ) → length (fresh_passes z s r k n) ≡ n
fresh_long z s r k zero = refl
fresh_long z s r k (suc n) = ap suc (fresh_long z s r (suc k) n)

long_with : (t : PoolTable) (qs : List Standing) (cells : Option (CellTable Knower)) → HasChairs cells (λ (r : CellTable Knower). qs ≡ fresh_passes t.table t.setting r 0 (all_seats t.setting)) → length qs ≡ all_seats t.setting
long_with t qs None h = absurd h
long_with t qs (Some r) h = ap length h ∙ fresh_long t.table t.setting r 0 (all_seats t.setting)

pub laid_long : (p : ConfigParts) (laid : Option PoolTable) (qs : List Standing) → AreLaidFor p laid qs → length qs ≡ all_seats p
laid_long p None qs h = absurd h
laid_long p (Some t) qs h = long_with t qs t.cells h.1 ∙ ap all_seats h.0

-- what is left behind the next pass
pub unused_left : (p : ConfigParts) (laid : Option PoolTable) (items : List Item) (i n : ℕ) (q : Standing) (qs : List Standing) (ss : List Share) (t : Share) → n ≡ i + 1 → i < length ss → AreUnused p laid i (q ∷ qs) → AreShares p items items i (drop i ss) → AreUnused p laid n qs × AreShares p items items n (drop n (slice_set ss i t))
unused_left p laid items i n q qs ss t is lt unused shares =
    let next : suc i ≡ n = omega (arith, is) in
    (subst (λ (k : ℕ). AreUnused p laid k qs) next unused.4, subst (λ (k : ℕ). AreShares p items items k (drop k (slice_set ss i t))) next (shares_left p items ss i i t lt shares))
