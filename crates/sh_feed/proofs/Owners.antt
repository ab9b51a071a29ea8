-- Each number is one taker's: what a taker took are, in their order, just the Asks of its numbers.
use Rattle.std.{proofs.Common.{◌≡◌, ℕ, zero, suc, ◌+◌, ◌<◌, ◌≤◌, Bool, true, false, if◌then◌else◌, Option, Some, List, [], ◌∷◌, refl, ap, sym, ◌∙◌, subst, ⊎_elim, inl, arith}, specs.{Prelude.{◌==◌, not, slice_get}, List.{AllByRecursion}}}
use Rattle.sh_logic.proofs.{Options.{some_is}, Tests.{differ_test, is_eq, not_eq, same_test}}
use Rattle.sh_map.specs.declared.call.Call.{Call}
use Rattle.sh_local.specs.Calls.{total}
use Rattle.sh_feed.specs.declared.{job.Job.{Job, TheVariants.{Ask, End}}, view.Setup.{Setup}}
use Rattle.sh_feed.specs.Jobs.{all_asks, asks_where, IsEnd, AreNumbered, RiseFrom, Within, FeedKept}
use Rattle.sh_feed.proofs.{Lists.{numbered_rise, within_append}, Plain.{each_at}}

-- how many jobs have this number
abbrev has : (number : ℕ) → Job → ℕ
has m (Ask n c) = if n == m then 1 else 0
has m End = 0

abbrev takes : List Job → (number : ℕ) → Bool
takes l m = not (total (has m) l == 0)

-- the first of these lists that has the number
abbrev owner : List (List Job) → (number : ℕ) → ℕ
owner [] m = 0
owner (l ∷ ls) m = if total (has m) l == 0 then suc (owner ls m) else 0

apart : (m n : ℕ) (c : Call) → m < n → has m (Ask n c) ≡ 0
apart m n c lt = ap (λ (b : Bool). if b then 1 else 0) (differ_test n m (λ (e : n ≡ m). omega (arith, e, lt)))

none_below : (m low : ℕ) (js : List Job) → RiseFrom low js → m < low → total (has m) js ≡ 0
none_below m low [] h lt = refl
none_below m low (Ask n c ∷ js) h lt = let a = apart m n c (omega (arith, h.0, lt)) in let r = none_below m (n + 1) js h.1 (omega (arith, h.0, lt)) in omega (arith, a, r)
none_below m low (End ∷ js) h lt = let r = none_below m low js h lt in omega (arith, r)

within_self : (js : List Job) → Within js js
within_self [] = tt
within_self (x ∷ js) = inl (refl, within_self js)

none_numbered : (s : Option Setup) (m n : ℕ) (js : List Job) → AreNumbered s n js → m < n → total (has m) js ≡ 0
none_numbered s m n js o lt = none_below m n js (numbered_rise s n n js js (omega arith) o (within_self js)) lt

none_of_ends : (m : ℕ) (js : List Job) → AllByRecursion IsEnd js → total (has m) js ≡ 0
none_of_ends m [] h = refl
none_of_ends m (Ask n c ∷ js) h = absurd h.0
none_of_ends m (End ∷ js) h = let r = none_of_ends m js h.1 in omega (arith, r)

one_at_most : (s : Option Setup) (m n : ℕ) (js : List Job) → AreNumbered s n js → total (has m) js ≤ 1
one_at_most s m n [] o = omega arith
one_at_most s m n (Ask k c ∷ js) o = by (k == m) refl (one_at_most s m (n + 1) js o.2)
  where
    by : (b : Bool) → (k == m) ≡ b → total (has m) js ≤ 1 → total (has m) (Ask k c ∷ js) ≤ 1
    by true e few = let q = is_eq k m e in let r = none_numbered s m (n + 1) js o.2 (omega (arith, q, o.0)) in let a : has m (Ask k c) ≡ 1 = ap (λ (t : Bool). if t then 1 else 0) e in omega (arith, a, r)
    by false e few = let a : has m (Ask k c) ≡ 0 = ap (λ (t : Bool). if t then 1 else 0) e in omega (arith, a, few)
one_at_most s m n (End ∷ js) o = let r = none_of_ends m js o in omega (arith, r)

-- ---- what stands within numbered jobs

ends_where : (test : ℕ → Bool) (js : List Job) → AllByRecursion IsEnd js → asks_where test js ≡ []
ends_where test [] h = refl
ends_where test (Ask n c ∷ js) h = absurd h.0
ends_where test (End ∷ js) h = ends_where test js h.1

ends_within : (xs ys : List Job) → AllByRecursion IsEnd ys → Within xs ys → AllByRecursion IsEnd xs
ends_within [] ys h w = tt
ends_within (x ∷ xs) [] h w = absurd w
ends_within (x ∷ xs) (y ∷ ys) h w = ⊎_elim (λ (p : (x ≡ y) × Within xs ys). (subst IsEnd (sym p.0) h.0, ends_within xs ys h.1 p.1)) (λ (q : Within (x ∷ xs) ys). ends_within (x ∷ xs) ys h.1 q) w

none_where : (js : List Job) → asks_where (takes []) js ≡ []
none_where [] = refl
none_where (Ask n c ∷ js) = none_where js
none_where (End ∷ js) = none_where js

where_same : (s : Option Setup) (f g : ℕ → Bool) (n : ℕ) (js : List Job) → AreNumbered s n js → ((m : ℕ) → n ≤ m → f m ≡ g m) → asks_where f js ≡ asks_where g js
where_same s f g n [] o same = refl
where_same s f g n (Ask k c ∷ js) o same =
    let head : f k ≡ g k = same k (omega (arith, o.0)) in
    let rest : asks_where f js ≡ asks_where g js = where_same s f g (n + 1) js o.2 (λ m le. same m (omega (arith, le))) in
    λ i. if head i then Ask k c ∷ rest i else rest i
where_same s f g n (End ∷ js) o same = ends_where f js o ∙ sym (ends_where g js o)

asks_within : (s : Option Setup) (n : ℕ) (l js : List Job) → AreNumbered s n js → Within l js → all_asks l ≡ asks_where (takes l) js
asks_within s n [] js o w = sym (none_where js)
asks_within s n (x ∷ xs) [] o w = absurd w
asks_within s n (x ∷ xs) (End ∷ ys) o w = ends_where (λ m. true) (x ∷ xs) (ends_within (x ∷ xs) (End ∷ ys) (tt, o) w) ∙ sym (ends_where (takes (x ∷ xs)) ys o)
asks_within s n (x ∷ xs) (Ask k c ∷ ys) o w = ⊎_elim (λ (p : (x ≡ Ask k c) × Within xs ys). here p (asks_within s (n + 1) xs ys o.2 p.1)) (λ (q : Within (x ∷ xs) ys). past q (asks_within s (n + 1) (x ∷ xs) ys o.2 q)) w
  where
    other : (m : ℕ) → n + 1 ≤ m → has m (Ask k c) ≡ 0
    other m le = ap (λ (b : Bool). if b then 1 else 0) (differ_test k m (λ (e : k ≡ m). omega (arith, e, le, o.0)))

    first : all_asks xs ≡ asks_where (takes xs) ys → all_asks (Ask k c ∷ xs) ≡ asks_where (takes (Ask k c ∷ xs)) (Ask k c ∷ ys)
    first q =
        let own : has k (Ask k c) ≡ 1 = ap (λ (b : Bool). if b then 1 else 0) (same_test k k refl) in
        let took : takes (Ask k c ∷ xs) k ≡ true = ap not (differ_test (has k (Ask k c) + total (has k) xs) 0 (λ e. omega (arith, e, own))) in
        let rest : asks_where (takes xs) ys ≡ asks_where (takes (Ask k c ∷ xs)) ys = where_same s (takes xs) (takes (Ask k c ∷ xs)) (n + 1) ys o.2 (λ m le. let q = other m le in let same : total (has m) xs ≡ has m (Ask k c) + total (has m) xs = omega (arith, q) in ap (λ (t : ℕ). not (t == 0)) same) in
        ap (λ (js : List Job). Ask k c ∷ js) (q ∙ rest) ∙ ap (λ (b : Bool). if b then Ask k c ∷ asks_where (takes (Ask k c ∷ xs)) ys else asks_where (takes (Ask k c ∷ xs)) ys) (sym took)

    here : (x ≡ Ask k c) × Within xs ys → all_asks xs ≡ asks_where (takes xs) ys → all_asks (x ∷ xs) ≡ asks_where (takes (x ∷ xs)) (Ask k c ∷ ys)
    here p same = subst (λ (y : Job). all_asks (y ∷ xs) ≡ asks_where (takes (y ∷ xs)) (Ask k c ∷ ys)) (sym p.0) (first same)

    past : Within (x ∷ xs) ys → all_asks (x ∷ xs) ≡ asks_where (takes (x ∷ xs)) ys → all_asks (x ∷ xs) ≡ asks_where (takes (x ∷ xs)) (Ask k c ∷ ys)
    past q same =
        let none : total (has k) (x ∷ xs) ≡ 0 = none_below k (n + 1) (x ∷ xs) (numbered_rise s (n + 1) (n + 1) (x ∷ xs) ys (omega arith) o.2 q) (omega (arith, o.0)) in
        same ∙ ap (λ (t : ℕ). if not (t == 0) then Ask k c ∷ asks_where (takes (x ∷ xs)) ys else asks_where (takes (x ∷ xs)) ys) (sym none)

-- ---- each number's owner

suc_same : (a b : ℕ) → (suc a == suc b) ≡ (a == b)
suc_same a b = by (a == b) refl
  where
    by : (t : Bool) → (a == b) ≡ t → (suc a == suc b) ≡ (a == b)
    by true e = same_test (suc a) (suc b) (ap suc (is_eq a b e)) ∙ sym e
    by false e = differ_test (suc a) (suc b) (λ q. not_eq a b e (omega (arith, q))) ∙ sym e

none_at : (m : ℕ) (l : List Job) (ls : List (List Job)) (k : ℕ) → total (total (has m)) ls ≤ 0 → slice_get ls k ≡ Some l → total (has m) l ≡ 0
none_at m l [] k few e = absurd (cc)
none_at m l (y ∷ ls) zero few e = subst (λ (z : List Job). total (has m) z ≡ 0) (some_is e) (omega (arith, few))
none_at m l (y ∷ ls) (suc k) few e = none_at m l ls k (omega (arith, few)) e

owner_is : (m : ℕ) (ls : List (List Job)) (k : ℕ) (l : List Job) → slice_get ls k ≡ Some l → total (total (has m)) ls ≤ 1 → takes l m ≡ (owner ls m == k)
owner_is m [] k l e few = absurd (cc)
owner_is m (x ∷ ls) zero l e few = subst (λ (y : List Job). takes y m ≡ (owner (x ∷ ls) m == 0)) (some_is e) (by (total (has m) x))
  where
    by : (t : ℕ) → not (t == 0) ≡ ((if t == 0 then suc (owner ls m) else 0) == 0)
    by zero = sym (differ_test (suc (owner ls m)) 0 (λ e. omega (arith, e)))
    by (suc t) = let e : (suc t == 0) ≡ false = differ_test (suc t) 0 (λ e. omega (arith, e)) in ap not e ∙ sym (ap (λ (b : Bool). (if b then suc (owner ls m) else 0) == 0) e)
owner_is m (x ∷ ls) (suc k) l e few = by (total (has m) x) few (λ le. owner_is m ls k l e le)
  where
    by : (t : ℕ) → t + total (total (has m)) ls ≤ 1 → (total (total (has m)) ls ≤ 1 → takes l m ≡ (owner ls m == k)) → takes l m ≡ ((if t == 0 then suc (owner ls m) else 0) == suc k)
    by zero few more = more (omega (arith, few)) ∙ sym (suc_same (owner ls m) k)
    by (suc t) few more = ap (λ (n : ℕ). not (n == 0)) (none_at m l ls k (omega (arith, few)) e) ∙ sym (ap (λ (b : Bool). (if b then suc (owner ls m) else 0) == suc k) (differ_test (suc t) 0 (λ e. omega (arith, e))) ∙ differ_test 0 (suc k) (λ e. omega (arith, e)))

pub owned : (s : Option Setup) (given : List Job) (takens : List (List Job)) (left : List Job) → AreNumbered s 1 given → FeedKept given takens left → (of : ℕ → ℕ) × ((k : ℕ) (l : List Job) → slice_get takens k ≡ Some l → all_asks l ≡ asks_where (λ n. of n == k) given)
owned s given takens left o kept = (
  owner takens,
  λ k l at.
      let within : Within l given = subst (Within l) (sym kept.whole) (within_append l kept.front left (each_at takens kept.front k l kept.order at)) in
      asks_within s 1 l given o within ∙ where_same s (takes l) (λ n. owner takens n == k) 1 given o (λ m le.
      let once = kept.once (has m) in let most = one_at_most s m 1 given o in owner_is m takens k l at (omega (arith, once, most))),
)
