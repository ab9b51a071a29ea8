-- What the feed's books say, number by number.
use Rattle.std.{proofs.{Common.{◌≡◌, ℕ, zero, suc, ◌+◌, ◌-◌, ◌<◌, ◌≤◌, Option, Some, List, [], ◌∷◌, ◌++◌, length, drop, refl, ap, sym, ◌∙◌, subst, ⊎_elim, arith}, Math.Seq.{drop-append_seam}, lemmas.Option.{slice_get_within}}, specs.{Prelude.{slice_get}, List.{AllByRecursion}}}
use Rattle.sh_logic.proofs.{Lists.{slice_get-append_left}, Options.{some_is}}
use Rattle.sh_map.specs.declared.call.Call.{Call}
use Rattle.sh_local.{specs.Calls.{total}, proofs.Sums.{total_append}}
use Rattle.sh_feed.specs.declared.{job.Job.{Job, TheVariants.{Ask, End}}, view.Setup.{Setup}}
use Rattle.sh_feed.specs.Jobs.{IsEnd, AreNumbered, Within, EachWithin, FeedKept, one, end_one}

count : (js : List Job) → total one js ≡ length js
count [] = refl
count (x ∷ js) = let k = count js in omega (arith, k)

within_index : (xs ys : List Job) (j : ℕ) (x : Job) → Within xs ys → slice_get xs j ≡ Some x → (p : ℕ) × (slice_get ys p ≡ Some x)
within_index [] ys j x w e = absurd (cc)
within_index (a ∷ xs) [] j x w e = absurd w
within_index (a ∷ xs) (y ∷ ys) zero x w e = ⊎_elim
    (λ (p : (a ≡ y) × Within xs ys). (0, ap Some (sym p.0) ∙ e))
    (λ (q : Within (a ∷ xs) ys). let k = within_index (a ∷ xs) ys 0 x q e in (suc k.0, k.1))
    w
within_index (a ∷ xs) (y ∷ ys) (suc j) x w e = ⊎_elim
    (λ (p : (a ≡ y) × Within xs ys). let k = within_index xs ys j x p.1 e in (suc k.0, k.1))
    (λ (q : Within (a ∷ xs) ys). let k = within_index (a ∷ xs) ys (suc j) x q e in (suc k.0, k.1))
    w

pub each_at : (ls : List (List Job)) (front : List Job) (i : ℕ) (l : List Job) → EachWithin ls front → slice_get ls i ≡ Some l → Within l front
each_at [] front i l w e = absurd (cc)
each_at (x ∷ ls) front zero l w e = subst (λ (y : List Job). Within y front) (some_is e) w.0
each_at (x ∷ ls) front (suc i) l w e = each_at ls front i l w.1 e

no_ask : (js : List Job) (p m : ℕ) (c : Call) → AllByRecursion IsEnd js → slice_get js p ≡ Some (Ask m c) → ⊥
no_ask [] p m c o e = cc
no_ask (x ∷ js) zero m c o e = subst IsEnd (some_is e) o.0
no_ask (x ∷ js) (suc p) m c o e = no_ask js p m c o.1 e

abbrev number_or : ℕ → Job → ℕ
number_or n (Ask m c) = m
number_or n End = n

numbered_index : (s : Option Setup) (n : ℕ) (js : List Job) (p m : ℕ) (c : Call) → AreNumbered s n js → slice_get js p ≡ Some (Ask m c) → m ≡ n + p
numbered_index s n [] p m c o e = absurd (cc)
numbered_index s n (Ask k d ∷ js) zero m c o e = let q : k ≡ m = ap (number_or 0) (some_is e) in omega (arith, q, o.0)
numbered_index s n (Ask k d ∷ js) (suc p) m c o e = let q = numbered_index s (n + 1) js p m c o.2 e in omega (arith, q)
numbered_index s n (End ∷ js) p m c o e = absurd (no_ask (End ∷ js) p m c (tt, o) e)

at_rest : (xs ys : List Job) (p : ℕ) (x : Job) → slice_get ys p ≡ Some x → slice_get (xs ++ ys) (length xs + p) ≡ Some x
at_rest [] ys p x e = subst (λ (k : ℕ). slice_get ys k ≡ Some x) (let q : p ≡ 0 + p = omega arith in q) e
at_rest (a ∷ xs) ys p x e = let k = at_rest xs ys p x e in subst (λ (i : ℕ). slice_get (a ∷ (xs ++ ys)) i ≡ Some x) (let q : suc (length xs + p) ≡ suc (length xs) + p = omega arith in q) k

-- no job is left where no End is, but one was given
rest_empty : (s : Option Setup) (n : ℕ) (front left : List Job) → AreNumbered s n (front ++ left) → total end_one left ≡ 0 → 1 ≤ total end_one (front ++ left) → left ≡ []
rest_empty s n [] left o none some_ = absurd (omega (arith, none, some_))
rest_empty s n (Ask m c ∷ front) left o none some_ = rest_empty s (n + 1) front left o.2 none (omega (arith, some_))
rest_empty s n (End ∷ front) left o none some_ = no_ends front left o none
  where
    no_ends : (xs ys : List Job) → AllByRecursion IsEnd (xs ++ ys) → total end_one ys ≡ 0 → ys ≡ []
    no_ends [] [] o e = refl
    no_ends [] (Ask m c ∷ js) o e = absurd o.0
    no_ends [] (End ∷ js) o e = absurd (omega (arith, e))
    no_ends (x ∷ xs) ys o e = no_ends xs ys o.1 e

module _ (s : Option Setup) (given : List Job) (takens : List (List Job)) (left : List Job) (o : AreNumbered s 1 given) (k : FeedKept given takens left) where
  sums : (f : Job → ℕ) → total (total f) takens ≡ total f k.front
  sums f = let a = k.once f in let b : total f given ≡ total f k.front + total f left = ap (total f) k.whole ∙ total_append f k.front left in omega (arith, a, b)

  pub left_is : left ≡ drop (total (total one) takens) given
  left_is = sym (ap (λ (p : ℕ × List Job). drop p.0 p.1) (λ i. ((sums one ∙ count k.front) i, k.whole i)) ∙ drop-append_seam k.front left)

  pub by_count : length given ≤ total (total one) takens → left ≡ []
  by_count e =
      let a = k.once one in
      let b = count given in
      empty left (let c : total one left ≡ 0 = omega (arith, a, b, e) in c)
    where
      empty : (js : List Job) → total one js ≡ 0 → js ≡ []
      empty [] h = refl
      empty (x ∷ js) h = absurd (omega (arith, h))

  pub by_ends : 1 ≤ total end_one given → total end_one given ≤ total (total end_one) takens → left ≡ []
  by_ends some_ all =
      let a = k.once end_one in
      rest_empty s 1 k.front left (subst (AreNumbered s 1) k.whole o) (omega (arith, a, all)) (let b : total end_one given ≡ total end_one (k.front ++ left) = ap (total end_one) k.whole in omega (arith, some_, b))

  -- the place among those given of an Ask that was taken
  place : (i j : ℕ) (l : List Job) (n : ℕ) (c : Call) → slice_get takens i ≡ Some l → slice_get l j ≡ Some (Ask n c) → (p : ℕ) × (p < length k.front) × (slice_get given p ≡ Some (Ask n c))
  place i j l n c e h =
      let p = within_index l k.front j (Ask n c) (each_at takens k.front i l k.order e) h in
      (p.0, slice_get_within k.front p.0 (Ask n c) p.1, subst (λ (g : List Job). slice_get g p.0 ≡ Some (Ask n c)) (sym k.whole) (slice_get-append_left k.front left p.0 (Ask n c) p.1))

  pub as_given : (i j : ℕ) (l : List Job) (n : ℕ) (c : Call) → slice_get takens i ≡ Some l → slice_get l j ≡ Some (Ask n c) → (1 ≤ n) × (slice_get given (n - 1) ≡ Some (Ask n c))
  as_given i j l n c e h =
      let p = place i j l n c e h in
      let is = numbered_index s 1 given p.0 n c o p.2 in
      (omega (arith, is), subst (λ (q : ℕ). slice_get given q ≡ Some (Ask n c)) (let q : p.0 ≡ n - 1 = omega (arith, is) in q) p.2)

  pub greatest : (i j : ℕ) (l : List Job) (n : ℕ) (c : Call) (q m : ℕ) (d : Call) → slice_get takens i ≡ Some l → slice_get l j ≡ Some (Ask n c) → slice_get left q ≡ Some (Ask m d) → n < m
  greatest i j l n c q m d e h there_ =
      let p = place i j l n c e h in
      let a = numbered_index s 1 given p.0 n c o p.2 in
      let b = numbered_index s 1 given (length k.front + q) m d o (subst (λ (g : List Job). slice_get g (length k.front + q) ≡ Some (Ask m d)) (sym k.whole) (at_rest k.front left q (Ask m d) there_)) in
      omega (arith, p.1, a, b)
