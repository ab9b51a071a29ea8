-- A pool that is laid: the passes of its seats, one after another.
use Rattle.std.proofs.Common.{rules, ◌≡◌, ℕ, zero, suc, ◌+◌, ◌-◌, ◌<◌, ◌≤◌, false, Option, None, Some, List, [], ◌∷◌, ◌++◌, length, length-append, replicate, refl, ap, sym, ◌∙◌, arith, subst}
use Rattle.std.proofs.{Math.Nat.{div-lt_iff_lt-mul}, lemmas.List.{length-replicate}}
use mathlib.Core.Option.{some}
use lib.ListN.{get_elem?}
use Rattle.atomic_table.specs.{Seated.{TableId}, Table.{Splits}}
use Rattle.sh_base.specs.{declared.config.ConfigParts.{ConfigParts}, Layout.{compute_of}, Setting.{all_seats, IsSetting}}
use Rattle.sh_client.specs.Machine.{fresh_machine, Machine}
use Rattle.sh_core.specs.Opening.{entered}
use Rattle.sh_local.specs.Chairs.{fresh_chair, CellTable, Sitting}
use Rattle.sh_pool_rule.{specs.{declared.view.PassView.{PassView}, Views.{bare_view, member, members_from, opening_view}, Rights.{first_alone, less_first}}, proofs.Allowed.{Pooled}}
use Rattle.sh_pool_rule.proofs.{OpenLemmas.{making}, Stayed.{fresh_stays}}
use Rattle.sh_pool.specs.{Handed.{Handed}, Gathering.{seats_of, AreAllPasses}, Passes.{IsChairOf, IsPass, PoolTable, Standing}, Pools.{fresh_pass, fresh_passes, AreMade, AreNewPasses, AreReady, IsReady, HasChairs, IsMaker}}
use Rattle.sh_pool.specs.declared.right.Knower.{Knower}

-- ---- the maker's view

members_are : (p : ConfigParts) (k : ℕ) (v : PassView) → k < all_seats p → IsMaker p k (all_seats p - k) v → v ≡ record (bare_view []) { members = members_from p k (suc (all_seats p - suc k)) }
members_are p k v lt m =
    let e : all_seats p - k ≡ suc (all_seats p - suc k) = omega (arith, lt) in
    m.is ∙ ap (λ (n : ℕ). record (bare_view []) { members = members_from p k n }) e

pub maker_makes : (p : ConfigParts) (id k : ℕ) (v : PassView) → k < all_seats p → IsMaker p k (all_seats p - k) v → Splits (Pooled p) id v (less_first v) (first_alone v)
maker_makes p id k v lt m =
    let is = members_are p k v lt m in
    making p id v k (all_seats p - suc k) (ap (λ (u : PassView). u.members) is) (ap (λ (u : PassView). u.gave) is, ap (λ (u : PassView). u.took) is) (ap (λ (u : PassView). u.pasts) is) (ap (λ (u : PassView). u.cards) is)

pub maker_left : (p : ConfigParts) (k : ℕ) (v : PassView) → k < all_seats p → IsMaker p k (all_seats p - k) v → IsMaker p (suc k) (all_seats p - suc k) (less_first v)
maker_left p k v lt m = record { is = ap less_first (members_are p k v lt m) }

pub maker_alone : (p : ConfigParts) (k : ℕ) (v : PassView) → k < all_seats p → IsMaker p k (all_seats p - k) v → first_alone v ≡ record (bare_view []) { members = member k (entered p k) ∷ [] }
maker_alone p k v lt m = ap first_alone (members_are p k v lt m)

-- ---- the cells

pub chairs_map : (cells : Option (CellTable Knower)) (P Q : CellTable Knower → Type 0) → HasChairs cells P → ((r : CellTable Knower) → P r → Q r) → HasChairs cells Q
chairs_map cells h1 h2 h f = search rules

pub chairs_and : (cells : Option (CellTable Knower)) (P Q R : CellTable Knower → Type 0) → HasChairs cells P → HasChairs cells Q → ((r : CellTable Knower) → P r → Q r → R r) → HasChairs cells R
chairs_and cells h1 h2 h3 h k f = search rules

pub chairs_use : (cells : Option (CellTable Knower)) (P : CellTable Knower → Type 0) (G : Type 0) → HasChairs cells P → ((r : CellTable Knower) → P r → G) → G
chairs_use cells h1 h2 h f = search rules

-- ---- a pass

pub compute_within : (p : ConfigParts) → IsSetting p → (k : ℕ) → k < all_seats p → compute_of p k < p.computes
unfolding compute_of
compute_within p ok k lt = (div-lt_iff_lt-mul (omega (arith, ok.ranged.seats))).1 lt

pub fresh_is : (z : TableId) (p : ConfigParts) (r : CellTable Knower) (k : ℕ) → compute_of p k < p.computes → IsPass (fresh_pass z p r k)
fresh_is z p r k within = search (rules, fresh_stays)

pub made_pass : (z : TableId) (p : ConfigParts) (r : CellTable Knower) (k : ℕ) (t : TableId) (m : Machine) (v : PassView) (c : Sitting Handed Knower) → t ≡ z → m ≡ fresh_machine p k → v ≡ record (bare_view []) { members = member k (entered p k) ∷ [] } → c ≡ fresh_chair r.table r.key → record { table = t; client = m; begun = false; view = v; chair = c } ≡ fresh_pass z p r k
made_pass z p r k t m v c te me ve ce = λ i. record { table = te i; client = me i; begun = false; view = ve i; chair = ce i }

pub passes_snoc : (z : TableId) (p : ConfigParts) (r : CellTable Knower) (k n : ℕ) → fresh_passes z p r k n ++ fresh_pass z p r (k + n) ∷ [] ≡ fresh_passes z p r k (suc n)
passes_snoc z p r k zero = let e : k + 0 ≡ k = omega arith in ap (λ (n : ℕ). fresh_pass z p r n ∷ []) e
passes_snoc z p r k (suc n) = let e : k + suc n ≡ suc k + n = omega arith in ap (λ (ps : List Standing). fresh_pass z p r k ∷ ps) (ap (λ (x : ℕ). fresh_passes z p r (suc k) n ++ fresh_pass z p r x ∷ []) e ∙ passes_snoc z p r (suc k) n)

-- ---- the passes of all seats

abbrev head_of : {A : Type 0} → A → List A → A
head_of d [] = d
head_of d (x ∷ xs) = x

abbrev tail_of : {A : Type 0} → List A → List A
tail_of [] = []
tail_of (x ∷ xs) = xs

pop_same : {A : Type 0} (x y : A) (n : ℕ) (xs : List A) → replicate (suc n) x ≡ xs ++ y ∷ [] → (y ≡ x) × (xs ≡ replicate n x)
pop_same x y n [] e = (sym (ap (head_of x) e), sym (ap tail_of e))
pop_same x y zero (z ∷ zs) e = absurd (omega (arith, ap length (ap tail_of e), length-append zs (y ∷ [])))
pop_same x y (suc n) (z ∷ zs) e = let r = pop_same x y n zs (ap tail_of e) in (r.0, (λ i. sym (ap (head_of x) e) i ∷ r.1 i))

abbrev Chair : Type 0
Chair = Sitting Handed Knower

pub made_none : (t : PoolTable) (v : PassView) (chairs : List Chair) (ps : List Standing) → v ≡ opening_view t.setting → ps ≡ [] → HasChairs t.cells (λ (r : CellTable Knower). chairs ≡ replicate (all_seats t.setting) (fresh_chair r.table r.key)) → AreMade t 0 v chairs ps
made_none t v chairs ps is none h = search (rules, chairs_map)

chair_left : (t : PoolTable) (seat : ℕ) (v : PassView) (chairs rest : List Chair) (ps : List Standing) (c : Chair) → AreMade t seat v chairs ps → seat < all_seats t.setting → chairs ≡ rest ++ c ∷ [] → HasChairs t.cells (λ (r : CellTable Knower). ((c ≡ fresh_chair r.table r.key) × (rest ≡ replicate (all_seats t.setting - suc seat) (fresh_chair r.table r.key))) × (ps ≡ fresh_passes t.table t.setting r 0 seat))
chair_left t seat v chairs rest ps c m lt is = search (rules, chairs_map, pop_same)

pub chair_is : (t : PoolTable) (seat : ℕ) (v : PassView) (chairs rest : List Chair) (ps : List Standing) (c : Chair) → AreMade t seat v chairs ps → seat < all_seats t.setting → chairs ≡ rest ++ c ∷ [] → HasChairs t.cells (λ (r : CellTable Knower). c ≡ fresh_chair r.table r.key)
chair_is t seat v chairs rest ps c m lt is = chairs_map t.cells _ (λ (r : CellTable Knower). c ≡ fresh_chair r.table r.key) (chair_left t seat v chairs rest ps c m lt is) (λ r h. h.0.0)

pub some_chair : (t : PoolTable) (seat : ℕ) (v : PassView) (chairs : List Chair) (ps : List Standing) → AreMade t seat v chairs ps → seat < all_seats t.setting → length chairs ≡ 0 → ⊥
some_chair t seat v chairs ps m lt none = search (rules, chairs_use, length-replicate)

pub made_more : (t : PoolTable) (seat : ℕ) (v w : PassView) (chairs rest : List Chair) (ps qs : List Standing) (c : Chair) (q : Standing) → AreMade t seat v chairs ps → seat < all_seats t.setting → chairs ≡ rest ++ c ∷ [] → qs ≡ ps ++ q ∷ []
    → HasChairs t.cells (λ (r : CellTable Knower). q ≡ fresh_pass t.table t.setting r seat) → IsMaker t.setting (suc seat) (all_seats t.setting - suc seat) w → AreMade t (suc seat) w rest qs
made_more t seat v w chairs rest ps qs c q m lt is more pass maker = record {
  maker = maker;
  made = chairs_and t.cells _ (λ (r : CellTable Knower). q ≡ fresh_pass t.table t.setting r seat) (λ (r : CellTable Knower). (rest ≡ replicate (all_seats t.setting - suc seat) (fresh_chair r.table r.key)) × (qs ≡ fresh_passes t.table t.setting r 0 (suc seat))) (chair_left t seat v chairs rest ps c m lt is) pass
      (λ r h f. (h.0.1, more ∙ (λ i. h.1 i ++ f i ∷ []) ∙ (let e : seat ≡ 0 + seat = omega arith in ap (λ (n : ℕ). fresh_passes t.table t.setting r 0 seat ++ fresh_pass t.table t.setting r n ∷ []) e) ∙ passes_snoc t.table t.setting r 0 seat));
  long = (let l = m.long in omega (arith, ap length more, length-append ps (q ∷ []), l));
}

pub made_all : (t : PoolTable) (seat : ℕ) (v : PassView) (chairs : List Chair) (ps : List Standing) → AreMade t seat v chairs ps → all_seats t.setting ≤ seat → seat ≤ all_seats t.setting → AreNewPasses t ps
made_all t seat v chairs ps m ge le = search (rules, chairs_map)

fresh_ready : (t : PoolTable) (r : CellTable Knower) → t.cells ≡ Some r → (k n : ℕ) → AreReady t.setting (Some t) (fresh_passes t.table t.setting r k n)
fresh_ready t r is k zero = tt
fresh_ready t r is k (suc n) = ((record { table = refl; setting = refl; chair = subst (λ (o : Option (CellTable Knower)). IsChairOf o (fresh_chair r.table r.key)) (sym is) (refl, refl) }, refl, refl), fresh_ready t r is (suc k) n)

ready_by : (t : PoolTable) (ps : List Standing) (o : Option (CellTable Knower)) → t.cells ≡ o → HasChairs o (λ (r : CellTable Knower). ps ≡ fresh_passes t.table t.setting r 0 (all_seats t.setting)) → AreReady t.setting (Some t) ps
ready_by t ps o e h = search (rules, fresh_ready)

pub new_ready : (t : PoolTable) (ps : List Standing) → AreNewPasses t ps → AreReady t.setting (Some t) ps
new_ready t ps h = ready_by t ps t.cells refl h

fresh_long : (z : TableId) (p : ConfigParts) (r : CellTable Knower) (k n : ℕ) → length (fresh_passes z p r k n) ≡ n
fresh_long z p r k zero = refl
fresh_long z p r k (suc n) = ap suc (fresh_long z p r (suc k) n)

fresh_seats : (z : TableId) (p : ConfigParts) (r : CellTable Knower) (k n i : ℕ) → i < n → get_elem? (seats_of (fresh_passes z p r k n)) i ≡ some (k + i)
fresh_seats z p r k zero i lt = absurd (omega (arith, lt))
fresh_seats z p r k (suc n) zero lt = let e : k ≡ k + 0 = omega arith in ap some e
fresh_seats z p r k (suc n) (suc i) lt = let e : suc k + i ≡ k + suc i = omega arith in fresh_seats z p r (suc k) n i (omega (arith, lt)) ∙ ap some e

all_by : (t : PoolTable) (ps : List Standing) (o : Option (CellTable Knower)) → AreReady t.setting (Some t) ps → HasChairs o (λ (r : CellTable Knower). ps ≡ fresh_passes t.table t.setting r 0 (all_seats t.setting)) → AreAllPasses t ps
all_by t ps None ready h = absurd h
all_by t ps (Some r) ready h = record {
  ready = ready;
  long = ap length h ∙ fresh_long t.table t.setting r 0 (all_seats t.setting);
  seats = λ k lt. (k, ap (λ (qs : List Standing). get_elem? (seats_of qs) k) h ∙ fresh_seats t.table t.setting r 0 (all_seats t.setting) k lt ∙ (let e : 0 + k ≡ k = omega arith in ap some e));
}

pub new_all : (t : PoolTable) (ps : List Standing) → AreNewPasses t ps → AreAllPasses t ps
new_all t ps h = all_by t ps t.cells (new_ready t ps h) h

-- the last of them
pub ready_last : (p : ConfigParts) (laid : Option PoolTable) (qs : List Standing) (q : Standing) → AreReady p laid (qs ++ q ∷ []) → AreReady p laid qs × IsReady p laid q
ready_last p laid [] q h = (tt, h.0)
ready_last p laid (x ∷ qs) q h = let r = ready_last p laid qs q h.1 in ((h.0, r.0), r.1)
