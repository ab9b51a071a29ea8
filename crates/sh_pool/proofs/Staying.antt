-- What a turn leaves as it was: the pool that the pass is of, and the call that its client serves.
use Rattle.std.proofs.Common.{rules, ◌≡◌, ℕ, false, Option, None, Some, ap, sym, ◌∙◌, subst}
use Rattle.sh_client.specs.declared.state.Want.TheVariants as want
use Rattle.sh_client.{specs.{declared.state.Want.{Want}, Machine.{Machine}, Courses.{KeepsCall}, Feeds.{fed_by, turned_by}}, proofs.CachedLemmas.{fed_keeps, turned_keeps}}
use Rattle.sh_local.specs.Chairs.{CellTable, Sitting}
use Rattle.sh_pool.specs.{Handed.{Handed}, Passes.{IsChairOf, IsOf, PoolTable, Standing}, Pools.{IsOfTables}, Turns.{LookedOnce, NoRight, OtherServed, SameChair, StepsBy, WithRight}}
use Rattle.sh_pool.{specs.declared.right.Knower.{Knower}, proofs.Busy.{fed_busy, is_idle, turned_busy}}

pub record KeptBy (p q : Standing) : Type 0 where
  pub keeps : KeepsCall p.client q.client
  pub busy : is_idle p.client.phase ≡ false → is_idle q.client.phase ≡ false
  pub table : q.table ≡ p.table
  pub seated : SameChair p q

fed_kept : (p q : Standing) (word : ℕ) → q.client ≡ fed_by p.client word → q.table ≡ p.table → SameChair p q → KeptBy p q
fed_kept p q word e t s = record { keeps = subst (KeepsCall p.client) (sym e) (fed_keeps p.client word); busy = λ b. subst (λ (m : Machine). is_idle m.phase ≡ false) (sym e) (fed_busy p.client word p.client.phase b b); table = t; seated = s }

turned_kept : (p q : Standing) (depth : Option ℕ) → q.client ≡ turned_by p.client depth → q.table ≡ p.table → SameChair p q → KeptBy p q
turned_kept p q depth e t s = record { keeps = subst (KeepsCall p.client) (sym e) (turned_keeps p.client depth); busy = λ b. subst (λ (m : Machine). is_idle m.phase ≡ false) (sym e) (turned_busy p.client depth p.client.phase b); table = t; seated = s }

look_kept : (p q : Standing) → LookedOnce p q → KeptBy p q
look_kept p q (OtherServed s) = fed_kept p q s.found s.told.client s.told.table s.told.seated
look_kept p q (NoRight s) = turned_kept p q None s.client s.table s.seated
look_kept p q (WithRight s) = turned_kept p q (Some s.right.depth) s.client s.table s.seated

pub step_kept : (p q : Standing) (w : Want) → StepsBy w p q → KeptBy p q
step_kept p q (want.Event e) s = fed_kept p q s.word s.client s.table (ap (λ (x : Sitting Handed Knower). x.table) s.chair, ap (λ (x : Sitting Handed Knower). x.view.key) s.chair)
step_kept p q (want.Draw lock) s = let t = s.told in fed_kept p q _ t.client t.table t.seated
step_kept p q (want.Look lock) s = look_kept p q s
step_kept p q (want.Waiting lock) s = fed_kept p q s.count s.told.client s.told.table s.told.seated
step_kept p q (want.Leave lock None) s = fed_kept p q 0 s.client s.table s.seated
step_kept p q (want.Leave lock (Some depth)) s = fed_kept p q 0 s.client s.table s.seated
step_kept p q want.Done s = record {
  keeps = (ap (λ (x : Standing). x.client.setting) s, ap (λ (x : Standing). x.client.seat) s, ap (λ (x : Standing). x.client.registers.call) s);
  busy = λ b. subst (λ (x : Standing). is_idle x.client.phase ≡ false) (sym s) b;
  table = ap (λ (x : Standing). x.table) s;
  seated = (ap (λ (x : Standing). x.chair.table) s, ap (λ (x : Standing). x.chair.view.key) s);
}

chair_stays : (cells : Option (CellTable Knower)) (p q : Standing) → SameChair p q → IsChairOf cells p.chair → IsChairOf cells q.chair
chair_stays cells p q s h = search rules

pub step_of_pool : (t : PoolTable) (p q : Standing) → KeptBy p q → IsOf t p → IsOf t q
step_of_pool t p q k h = record { table = k.table ∙ h.table; setting = k.keeps.0 ∙ h.setting; chair = chair_stays t.cells p q k.seated h.chair }

pub pool_stays : (laid : Option PoolTable) (p q : Standing) → KeptBy p q → IsOfTables laid p → IsOfTables laid q
pool_stays laid p q k h = search (rules, step_of_pool)
