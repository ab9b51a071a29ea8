-- Each step keeps the rule of the feed's queue.
use Rattle.std.{proofs.Common.{◌≡◌, ◌≢◌, ℕ, zero, suc, ◌+◌, ◌≤◌, Option, None, List, [], ◌∷◌, ◌++◌, set, refl, ap, sym, ◌∙◌, subst, ⊎_elim, arith, append_assoc}}
use mathlib.Core.Option.{some, some-ne-none}
use lib.ListN.{get_elem?}
use Rattle.crossbeam_queue.specs.Fifo.{Pushes, Pops, Forks, Merges, Learns}
use Rattle.atomic_table.proofs.Lists.{at_set, set_else, at_snoc}
use Rattle.sh_logic.proofs.Lists.{all_join}
use Rattle.sh_local.{specs.Calls.{total}, proofs.{Sums.{total_set, total_append, total_snoc, total_alone}, Regroup.{total_two}}}
use Rattle.sh_feed.specs.{declared.{job.Job.{Job}, view.{Setup.{Setup}, View.{View}}}, Jobs.{FitsJob, AreNumbered, MayFollow, RiseFrom, Within, EachWithin, FeedKept}, Rule.{Knows, Kept, Moment, Whole, Given}}
use Rattle.sh_feed.specs.Views.{opener, nobody, tokens_of, opened, taker_view, less_one, both, gave_more, took_more, taken, all_taken}
use Rattle.sh_feed.proofs.Lists.{within_append, within_snoc, each_append, numbered_snoc, numbered_rise, each_rise, numbered_at, nothing_left}

abbrev part : View → ℕ
part v = v.parts

abbrev giving : View → ℕ
giving v = v.gives

-- all views know, once the changed one and the others do
all_set : (P : View → Type 0) (views : List View) (id : ℕ) (w : View) → P w → ((j : ℕ) (u : View) → j ≢ id → get_elem? views j ≡ some u → P u) → (j : ℕ) (u : View) → get_elem? (set views id w) j ≡ some u → P u
all_set P views id w mine others j u e = ⊎_elim (λ (x : (j ≡ id) × (w ≡ u)). subst P x.1 mine) (λ (x : (j ≢ id) × (get_elem? views j ≡ some u)). others j u x.0 x.1) (at_set views id j w u e)

pub begins : Kept [] (opener ∷ [])
begins = record {
  setup = None;
  front = [];
  numbered = tt;
  parts = refl;
  givers = omega arith;
  known = λ id v e. all_set (Knows None [] []) (opener ∷ []) 0 opener record { same = λ _. refl; nothing = λ h. absurd (omega (arith, h)); gave = λ _. refl; took = tt; others = tt } (λ j u ne h. absurd (only j u ne h)) id v e;
  once = λ f. refl;
}
  where
    only : (j : ℕ) (u : View) → j ≢ 0 → get_elem? (opener ∷ []) j ≡ some u → ⊥
    only zero u ne h = ne refl
    only (suc j) u ne h = some-ne-none u (sym h)

pub gives : (n id : ℕ) (v : View) (x : Job) → v.gives ≡ 1 → v.parts ≡ 1 → MayFollow v.setup 1 v.gave x → Pushes Kept n id v x (λ w. w ≡ gave_more v x)
gives n id v x giver one may items views _ r at =
    let w : View = gave_more v x in
    let k = r.known id v at in
    let setup : v.setup ≡ r.setup = k.same (omega (arith, one)) in
    let gave : v.gave ≡ r.front ++ items = k.gave (omega (arith, giver)) in
    let long : r.front ++ (items ++ x ∷ []) ≡ (r.front ++ items) ++ x ∷ [] = sym (append_assoc r.front items (x ∷ [])) in (
      w,
      record {
        setup = r.setup;
        front = r.front;
        numbered = subst (AreNumbered r.setup 1) (sym long) (numbered_snoc r.setup 1 (r.front ++ items) x r.numbered (subst (λ (p : Option Setup × List Job). MayFollow p.0 1 p.1 x) (λ i. (setup i, gave i)) may));
        parts = let e = total_set part views id v w at in omega (arith, e, r.parts);
        givers = let e = total_set giving views id v w at in omega (arith, e, r.givers);
        known = all_set (Knows r.setup r.front (items ++ x ∷ [])) views id w
            record { same = λ _. setup; nothing = λ h. absurd (omega (arith, h, one)); gave = λ _. ap (λ (l : List Job). l ++ x ∷ []) gave ∙ sym long; took = k.took; others = k.others }
            (λ j u ne e. let m = r.known j u e in record { same = m.same; nothing = m.nothing; gave = λ h. absurd (let t = total_two giving views id j v u at e ne in omega (arith, t, r.givers, giver, h)); took = m.took; others = m.others });
        once = λ f. let e = total_set (taken f) views id v w at in omega (arith, e, r.once f);
      },
      refl,
    )

pub takes : (id : ℕ) (v : View) → 1 ≤ v.parts → Pops Kept id v (λ x w. (w ≡ took_more v x) × FitsJob v.setup x × RiseFrom 1 w.took)
takes id v one x items views r at =
    let w : View = took_more v x in
    let k = r.known id v at in
    let setup : v.setup ≡ r.setup = k.same one in
    let front : List Job = r.front ++ x ∷ [] in
    let long : r.front ++ x ∷ items ≡ front ++ items = sym (append_assoc r.front (x ∷ []) items) in
    let mine : Within w.took front = within_snoc v.took r.front x k.took in
    let numbered : AreNumbered r.setup 1 (front ++ items) = subst (AreNumbered r.setup 1) long r.numbered in (
      w,
      record {
        setup = r.setup;
        front = front;
        numbered = numbered;
        parts = let e = total_set part views id v w at in omega (arith, e, r.parts);
        givers = let e = total_set giving views id v w at in omega (arith, e, r.givers);
        known = all_set (Knows r.setup front items) views id w
            record { same = k.same; nothing = λ h. absurd (omega (arith, h, one)); gave = λ h. k.gave h ∙ long; took = mine; others = each_append v.others r.front (x ∷ []) k.others }
            (λ j u ne e. let m = r.known j u e in record { same = m.same; nothing = m.nothing; gave = λ h. m.gave h ∙ long; took = within_append u.took r.front (x ∷ []) m.took; others = each_append u.others r.front (x ∷ []) m.others });
        once = λ f. let e = total_set (taken f) views id v w at in let a = total_snoc f v.took x in let b = total_snoc f r.front x in omega (arith, e, a, b, r.once f);
      },
      (
        refl,
        subst (λ (s : Option Setup). FitsJob s x) (sym setup) (numbered_at r.setup 1 r.front items x r.numbered),
        numbered_rise r.setup 1 1 w.took (front ++ items) (omega arith) numbered (within_append w.took front items mine),
      ),
    )

pub moments : (id : ℕ) (v : View) → Learns Kept id v (Moment v)
moments id v items views r at = record { views = views; id = id; kept = r; at = at }

-- a view with nothing, in any setup
knows_nobody : (setup : Option Setup) (front items : List Job) → Knows setup front items nobody
knows_nobody setup front items = record { same = λ h. absurd (omega (arith, h)); nothing = λ _. (refl, refl, refl); gave = λ h. absurd (omega (arith, h)); took = tt; others = tt }

pub opens : (id : ℕ) (v : View) (s : Option Setup) → v ≡ opener → 1 ≤ tokens_of s → Forks Kept id v (opened s) nobody
opens id v s is some_ items views r at =
    let at' : get_elem? views id ≡ some opener = subst (λ (u : View). get_elem? views id ≡ some u) is at in
    let k = r.known id opener at' in
    let setup : None ≡ r.setup = k.same (omega arith) in
    let none : (r.front ≡ []) × (items ≡ []) = nothing_left r.front items (k.gave (omega arith)) in
    let w : View = opened s in
    let mid : List View = set views id w in
    let sum : total part views ≡ 1 = r.parts ∙ ap tokens_of (sym setup) in
    record {
      setup = s;
      front = r.front;
      numbered = subst (AreNumbered s 1) (k.gave (omega arith)) tt;
      parts = let a = total_snoc part mid nobody in let e = total_set part views id opener w at' in omega (arith, a, e, sum);
      givers = let a = total_snoc giving mid nobody in let e = total_set giving views id opener w at' in omega (arith, a, e, r.givers);
      known = λ j u e. ⊎_elim
          (λ (x : get_elem? mid j ≡ some u). all_set (Knows s r.front items) views id w
          record { same = λ _. refl; nothing = λ h. absurd (omega (arith, h, some_)); gave = λ _. k.gave (omega arith); took = tt; others = tt }
          (λ i y ne h. let m = r.known i y h in record { same = λ p. absurd (let t = total_two part views id i opener y at' h ne in omega (arith, t, sum, p)); nothing = m.nothing; gave = m.gave; took = m.took; others = m.others }) j u x)
          (λ (x : nobody ≡ u). subst (Knows s r.front items) x (knows_nobody s r.front items))
          (at_snoc mid nobody u j e);
      once = λ f. let a = total_snoc (taken f) mid nobody in let e = total_set (taken f) views id opener w at' in omega (arith, a, e, r.once f);
    }

pub seats : (id : ℕ) (v : View) → 2 ≤ v.parts → Forks Kept id v (less_one v) (taker_view v.setup [])
seats id v two items views r at =
    let k = r.known id v at in
    let w : View = less_one v in
    let t : View = taker_view v.setup [] in
    let mid : List View = set views id w in
    record {
      setup = r.setup;
      front = r.front;
      numbered = r.numbered;
      parts = let a = total_snoc part mid t in let e = total_set part views id v w at in omega (arith, a, e, r.parts, two);
      givers = let a = total_snoc giving mid t in let e = total_set giving views id v w at in omega (arith, a, e, r.givers);
      known = λ j u e. ⊎_elim
          (λ (x : get_elem? mid j ≡ some u). all_set (Knows r.setup r.front items) views id w
          record { same = λ _. k.same (omega (arith, two)); nothing = λ h. absurd (omega (arith, h, two)); gave = k.gave; took = k.took; others = k.others }
          (λ i y ne h. r.known i y h) j u x)
          (λ (x : t ≡ u). subst (Knows r.setup r.front items) x record { same = λ _. k.same (omega (arith, two)); nothing = λ h. absurd (omega (arith, h)); gave = λ h. absurd (omega (arith, h)); took = tt; others = tt })
          (at_snoc mid t u j e);
      once = λ f. let a = total_snoc (taken f) mid t in let e = total_set (taken f) views id v w at in omega (arith, a, e, r.once f);
    }

pub joins : (id : ℕ) (v : View) (other : ℕ) (w : View) → 1 ≤ v.parts → w.gives ≡ 0 → w.others ≡ [] → Merges Kept id v other w (both v w) nobody
joins id v other w one quiet none items views r at ne there_ =
    let b : View = both v w in
    let mid : List View = set views id b in
    let at' : get_elem? views other ≡ some w = sym (set_else views id other b ne) ∙ there_ in
    let k = r.known id v at in
    let k' = r.known other w at' in
    let sums : (f : View → ℕ) → f b ≡ f v + f w → f nobody ≡ 0 → total f (set mid other nobody) ≡ total f views = λ f e z. let x = total_set f views id v b at in let y = total_set f mid other w nobody there_ in omega (arith, x, y, e, z) in
    record {
      setup = r.setup;
      front = r.front;
      numbered = r.numbered;
      parts = sums part refl refl ∙ r.parts;
      givers = let e = sums giving (omega (arith, quiet)) refl in omega (arith, e, r.givers);
      known = all_set (Knows r.setup r.front items) mid other nobody (knows_nobody r.setup r.front items)
          (λ j u apart e. all_set (Knows r.setup r.front items) views id b
          record { same = λ _. k.same one; nothing = λ h. absurd (omega (arith, h, one)); gave = k.gave; took = k.took; others = (k'.took, k.others) }
          (λ i y _ h. r.known i y h) j u e);
      once = λ f. sums (taken f) (let e : total (total f) w.others ≡ 0 = ap (total (total f)) none in omega (arith, e)) refl ∙ r.once f;
    }

pub ends : (id : ℕ) (v : View) → v.parts ≡ tokens_of v.setup → 1 ≤ v.parts → v.gives ≡ 1 → v.took ≡ [] → Learns Kept id v (Whole v)
ends id v all one giver own items views r at =
    let k = r.known id v at in
    let setup : v.setup ≡ r.setup = k.same one in
    let gave : v.gave ≡ r.front ++ items = k.gave (omega (arith, giver)) in
    let sum : total part views ≡ v.parts = r.parts ∙ ap tokens_of (sym setup) ∙ sym all in
    let alone : (j : ℕ) (u : View) → j ≢ id → get_elem? views j ≡ some u → u.parts ≡ 0 = λ j u ne e. let t = total_two part views id j v u at e ne in omega (arith, t, sum) in
    let numbered : AreNumbered v.setup 1 v.gave = subst (λ (p : Option Setup × List Job). AreNumbered p.0 1 p.1) (λ i. (sym setup i, sym gave i)) r.numbered in
    let nil : (f : Job → ℕ) (u : View) → u.took ≡ [] → u.others ≡ [] → taken f u ≡ 0 = λ f u a b. ap (λ (p : List Job × List (List Job)). total f p.0 + total (total f) p.1) (λ i. (a i, b i)) in
    record {
      numbered = numbered;
      kept = record {
        front = r.front;
        whole = gave;
        rise = each_rise v.setup v.others v.gave numbered (subst (EachWithin v.others) (sym gave) (each_append v.others r.front items k.others));
        order = k.others;
        once = λ f.
            let a : total (taken f) views ≡ taken f v = total_alone (taken f) views id v at (λ j u ne e. let m = (r.known j u e).nothing (alone j u ne e) in nil f u m.1 m.2) in
            let b : total f v.took ≡ 0 = ap (total f) own in
            let c : total f v.gave ≡ total f r.front + total f items = ap (total f) gave ∙ total_append f r.front items in
            omega (arith, a, b, c, r.once f);
      };
    }

module _ (items : List Job) (views : List View) (r : Kept items views) where
  within_all : (vs : List View) → ((j : ℕ) (u : View) → get_elem? vs j ≡ some u → Knows r.setup r.front items u) → EachWithin (all_taken vs) r.front
  within_all [] k = tt
  within_all (v ∷ vs) k = ((k 0 v refl).took, all_join (λ l. Within l r.front) v.others (all_taken vs) (k 0 v refl).others (within_all vs (λ j u e. k (suc j) u e)))

  sum_all : (f : Job → ℕ) (vs : List View) → total (total f) (all_taken vs) ≡ total (taken f) vs
  sum_all f [] = refl
  sum_all f (v ∷ vs) = let a = total_append (total f) v.others (all_taken vs) in let k = sum_all f vs in omega (arith, a, k)

  pub at_moment : (given : List Job) × FeedKept given (all_taken views) items × Given views given
  at_moment =
      let order = within_all views r.known in (
        r.front ++ items,
        record {
          front = r.front;
          whole = refl;
          rise = each_rise r.setup (all_taken views) (r.front ++ items) r.numbered (each_append (all_taken views) r.front items order);
          order = order;
          once = λ f. let a = sum_all f views in let b = total_append f r.front items in omega (arith, a, b, r.once f);
        },
        λ id v e h. (r.known id v e).gave h,
      )
