-- Lists of jobs in order.
use Rattle.std.{proofs.{Common.{◌≡◌, ℕ, ◌+◌, ◌≤◌, Option, List, [], ◌∷◌, ◌++◌, length, refl, ap, sym, ◌∙◌, subst, inl, inr, ⊎_elim, arith}, lemmas.List.{length-append}}, specs.List.{AllByRecursion}}
use Rattle.sh_logic.proofs.Lists.{all_join, all_weaker}
use Rattle.sh_map.specs.declared.call.Call.{Call}
use Rattle.sh_feed.specs.declared.{job.Job.{Job, TheVariants.{Ask, End}}, view.Setup.{Setup}}
use Rattle.sh_feed.specs.Jobs.{FitsJob, IsEnd, IsAsk, AreNumbered, MayFollow, RiseFrom, Within, EachWithin}

pub within_append : (xs ys zs : List Job) → Within xs ys → Within xs (ys ++ zs)
within_append [] ys zs w = tt
within_append (x ∷ xs) [] zs w = absurd w
within_append (x ∷ xs) (y ∷ ys) zs w = ⊎_elim (λ (p : (x ≡ y) × Within xs ys). inl (p.0, within_append xs ys zs p.1)) (λ (q : Within (x ∷ xs) ys). inr (within_append (x ∷ xs) ys zs q)) w

pub within_snoc : (xs ys : List Job) (x : Job) → Within xs ys → Within (xs ++ x ∷ []) (ys ++ x ∷ [])
within_snoc [] [] x w = inl (refl, tt)
within_snoc [] (y ∷ ys) x w = inr (within_snoc [] ys x tt)
within_snoc (z ∷ xs) [] x w = absurd w
within_snoc (z ∷ xs) (y ∷ ys) x w = ⊎_elim (λ (p : (z ≡ y) × Within xs ys). inl (p.0, within_snoc xs ys x p.1)) (λ (q : Within (z ∷ xs) ys). inr (within_snoc (z ∷ xs) ys x q)) w

pub each_append : (ls : List (List Job)) (ys zs : List Job) → EachWithin ls ys → EachWithin ls (ys ++ zs)
each_append ls ys zs w = all_weaker (λ l. Within l ys) (λ l. Within l (ys ++ zs)) ls (λ l. within_append l ys zs) w

pub numbered_snoc : (s : Option Setup) (n : ℕ) (js : List Job) (x : Job) → AreNumbered s n js → MayFollow s n js x → AreNumbered s n (js ++ x ∷ [])
numbered_snoc s n [] (Ask m c) o may = ((let e : m ≡ n + 0 = may.1 in omega (arith, e)), may.2, tt)
numbered_snoc s n [] End o may = tt
numbered_snoc s n (Ask m c ∷ js) (Ask k d) o may = (o.0, o.1, numbered_snoc s (n + 1) js (Ask k d) o.2 (may.0.1, (let e : k ≡ n + length (Ask m c ∷ js) = may.1 in omega (arith, e)), may.2))
numbered_snoc s n (Ask m c ∷ js) End o may = (o.0, o.1, numbered_snoc s (n + 1) js End o.2 tt)
numbered_snoc s n (End ∷ js) (Ask k d) o may = absurd may.0.0
numbered_snoc s n (End ∷ js) End o may = all_join IsEnd js (End ∷ []) o (tt, tt)

ends_rise : (low : ℕ) (xs ys : List Job) → AllByRecursion IsEnd ys → Within xs ys → RiseFrom low xs
ends_rise low [] ys o w = tt
ends_rise low (x ∷ xs) [] o w = absurd w
ends_rise low (x ∷ xs) (Ask m c ∷ ys) o w = absurd o.0
ends_rise low (x ∷ xs) (End ∷ ys) o w = ⊎_elim
    (λ (p : (x ≡ End) × Within xs ys). subst (λ (z : Job). RiseFrom low (z ∷ xs)) (sym p.0) (ends_rise low xs ys o.1 p.1))
    (λ (q : Within (x ∷ xs) ys). ends_rise low (x ∷ xs) ys o.1 q)
    w

-- what stands within numbered jobs has rising numbers
pub numbered_rise : (s : Option Setup) (n low : ℕ) (xs ys : List Job) → low ≤ n → AreNumbered s n ys → Within xs ys → RiseFrom low xs
numbered_rise s n low [] ys le o w = tt
numbered_rise s n low (x ∷ xs) [] le o w = absurd w
numbered_rise s n low (x ∷ xs) (Ask m c ∷ ys) le o w = ⊎_elim
    (λ (p : (x ≡ Ask m c) × Within xs ys). subst (λ (z : Job). RiseFrom low (z ∷ xs)) (sym p.0) ((let e : m ≡ n = o.0 in omega (arith, e, le)), numbered_rise s (n + 1) (m + 1) xs ys (let e : m ≡ n = o.0 in omega (arith, e)) o.2 p.1))
    (λ (q : Within (x ∷ xs) ys). numbered_rise s (n + 1) low (x ∷ xs) ys (omega (arith, le)) o.2 q)
    w
numbered_rise s n low (x ∷ xs) (End ∷ ys) le o w = ends_rise low (x ∷ xs) (End ∷ ys) (tt, o) w

pub each_rise : (s : Option Setup) (ls : List (List Job)) (ys : List Job) → AreNumbered s 1 ys → EachWithin ls ys → AllByRecursion (RiseFrom 1) ls
each_rise s ls ys o w = all_weaker (λ l. Within l ys) (RiseFrom 1) ls (λ l. numbered_rise s 1 1 l ys (omega arith) o) w

ends_at : (s : Option Setup) (front items : List Job) (x : Job) → AllByRecursion IsEnd (front ++ x ∷ items) → FitsJob s x
ends_at s [] items (Ask m c) o = absurd o.0
ends_at s [] items End o = tt
ends_at s (y ∷ front) items x o = ends_at s front items x o.1

-- each of numbered jobs is in range
pub numbered_at : (s : Option Setup) (n : ℕ) (front items : List Job) (x : Job) → AreNumbered s n (front ++ x ∷ items) → FitsJob s x
numbered_at s n [] items (Ask m c) o = o.1
numbered_at s n [] items End o = tt
numbered_at s n (Ask m c ∷ front) items x o = numbered_at s (n + 1) front items x o.2
numbered_at s n (End ∷ front) items x o = ends_at s front items x o

pub nothing_left : (xs ys : List Job) → [] ≡ xs ++ ys → (xs ≡ []) × (ys ≡ [])
nothing_left [] ys e = (refl, sym e)
nothing_left (x ∷ xs) ys e = absurd (cc)

-- what a loop that gives Asks keeps
pub asks_more : (now js : List Job) (i n : ℕ) (c : Call) → now ≡ js ++ Ask n c ∷ [] → AllByRecursion IsAsk js → length js ≡ i → AllByRecursion IsAsk now × (length now ≡ i + 1)
asks_more now js i n c e a long = (subst (AllByRecursion IsAsk) (sym e) (all_join IsAsk js (Ask n c ∷ []) a (tt, tt)), ap length e ∙ length-append js (Ask n c ∷ []) ∙ ap (λ (k : ℕ). k + 1) long)
