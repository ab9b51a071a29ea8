-- Chairs are made and taken in.
use Rattle.std.proofs.Common.{rules, ◌≡◌, ◌≢◌, ℕ, zero, suc, ◌+◌, ◌^◌, ◌<◌, ◌≤◌, true, Option, None, Some, List, [], ◌∷◌, ◌++◌, length, map, replicate, set, get_or, refl, ap, sym, ◌∙◌, subst, ⊎_elim, arith}
use mathlib.Core.Option as maybe
use mathlib.Core.Option.{some, some-injective, some-ne-none}
use lib.ListN.{get_elem?}
use Rattle.std.proofs.lemmas.{Bool.Decides.{nat_tests}, Option.{none-some}}
use Rattle.atomic_table.{specs.Table.{Splits, Joins}, proofs.Lists.{at_set, set_else, at_longer, at_snoc}}
use Rattle.sh_logic.proofs.Options.{some_is}
use Rattle.sh_local.specs.declared.view.{Ticket.{Ticket}, ChairCall.{ChairCall}, View.{View}}
use Rattle.sh_local.specs.Calls.{weight, weight_at_home, gave, took, drew_at, draws_of, turned_at, turns_of, below, total, given, taken, waits, out, opener, less_one, new_chair, both, spent}
use Rattle.sh_local.{specs.Lines.{Line, AllStand, KnowsLine, in_turn, before, Kept}, proofs.Sums.{total_set, total_snoc, total_append, total_none, total_alone, total_part, same_at, at_lt, there}}
use Rattle.sh_local.proofs.{Changes.{all_stand_append}, Allowed.{Holds, out_le}}

abbrev part : {T K : Type 0} → View T K → ℕ
part v = v.parts

module _ {T K : Type 0} (fits : K → ℕ → T → Type 0) (key : K) (chairs : ℕ) where
  -- views come or are put together, and no ticket moves
  regroup : (words : List ℕ) (homes : List (maybe.Option (Option T))) (views now : List (View T K)) (r : Kept fits key chairs words homes views)
      → ((c : ℕ) → total (out c) now ≡ total (out c) views) → total part now ≡ total part views → total given now ≡ total given views → total taken now ≡ total taken views → ((c n : ℕ) → total (draws_of c n) now ≡ total (draws_of c n) views) → ((c n : ℕ) → total (turns_of c n) now ≡ total (turns_of c n) views)
      → ((i : ℕ) (u : View T K) (t : Ticket) → get_elem? views i ≡ some u → u.ticket ≡ Some t → get_elem? now i ≡ some u)
      → ((i : ℕ) (u : View T K) → get_elem? now i ≡ some u → KnowsLine key r.lines homes i u)
      → Kept fits key chairs words homes now
  regroup words homes views now r outs parts gives takes draws turns stay knows = record {
    lines = r.lines;
    long = r.long;
    few = r.few;
    queues = λ c h e.
        let q = r.queues c h e in
        record {
          next_is = q.next_is;
          served_is = q.served_is;
          line = omega (arith, outs c, q.line);
          each = λ n le lt. let y = q.each n le lt in (y.0, stay ((r.lines c).holder n) y.0 (Rattle.sh_local.specs.Calls.ticket c n y.2 y.3) y.1 y.4, y.2, y.3, y.4);
          away = λ z. let x = q.away z in let y = x.1 in (x.0, (y.0, stay ((r.lines c).holder (r.lines c).served) y.0 (Rattle.sh_local.specs.Calls.ticket c (r.lines c).served true y.2) y.1 y.3, y.2, y.3));
          value = q.value;
          kept = q.kept;
          turns = λ n. turns c n ∙ q.turns n;
        };
    known = knows;
    parts = parts ∙ r.parts;
    once = λ c n. draws c n ∙ r.once c n;
    balance = omega (arith, gives, takes, r.balance);
  }

  pub splits : (id : ℕ) (v : View T K) → v.ticket ≡ None → v.calls ≡ [] → 1 ≤ v.parts → Splits (Holds fits key chairs) id v (less_one v) (new_chair v)
  splits id v none fresh some_part s r at =
      let views = s.views in
      let left : View T K = less_one v in
      let right : View T K = new_chair v in
      let mid : List (View T K) = set views id left in
      let k = r.known id v at in
      let no_out : (d : ℕ) → out d v ≡ 0 = λ d. ap (waits d) none in
      regroup s.words s.homes views (mid ++ right ∷ []) r
      (λ c. let a = total_snoc (out c) mid right in let b = total_set (out c) views id v left at in omega arith)
      (let a = total_snoc part mid right in let b = total_set part views id v left at in omega (arith, some_part))
      (let a = total_snoc given mid right in let b = total_set given views id v left at in omega arith)
      (let a = total_snoc taken mid right in let b = total_set taken views id v left at in omega arith)
      (λ c n. let a = total_snoc (draws_of c n) mid right in let b = total_set (draws_of c n) views id v left at in omega arith)
      (λ c n. let a = total_snoc (turns_of c n) mid right in let b = total_set (turns_of c n) views id v left at in omega arith)
      (λ i u t e has. at_longer mid (right ∷ []) i u (set_else views id i left (λ z. let same : u ≡ v = same_at views id u v (ap (get_elem? views) (sym z) ∙ e) at in none-some t (sym none ∙ ap (λ (x : View T K). x.ticket) (sym same) ∙ has)) ∙ e))
      (λ i u e. ⊎_elim
      (λ (y : get_elem? mid i ≡ some u). ⊎_elim
      (λ (z : (i ≡ id) × (left ≡ u)). subst (λ (p : ℕ × View T K). KnowsLine key r.lines s.homes p.0 p.1) (λ j. (sym z.0 j, z.1 j)) record { key_is = k.key_is; seated = k.seated; part = λ t h. absurd (none-some t (sym none ∙ h)); stand = k.stand; nothing = λ h. fresh })
      (λ (z : (i ≢ id) × (get_elem? views i ≡ some u)). r.known i u z.1)
      (at_set views id i left u y))
      (λ (y : right ≡ u). subst (KnowsLine key r.lines s.homes i) y record { key_is = k.key_is; seated = λ t h. absurd (none-some t h); part = λ t h. absurd (none-some t h); stand = tt; nothing = λ h. refl })
      (at_snoc mid right u i e))

  pub joins : (id : ℕ) (v : View T K) (other : ℕ) (w : View T K) → v.ticket ≡ None → w.ticket ≡ None → Joins (Holds fits key chairs) id v other w (both v w) spent
  joins id v other w none none' s r at ne there_ =
      let views = s.views in
      let b : View T K = both v w in
      let mid : List (View T K) = set views id b in
      let now : List (View T K) = set mid other spent in
      let at' : get_elem? views other ≡ some w = sym (set_else views id other b ne) ∙ there_ in
      let k = r.known id v at in
      let k' = r.known other w at' in
      let sums : (f : View T K → ℕ) → f b ≡ f v + f w → f spent ≡ 0 → total f now ≡ total f views = λ f e z. let x = total_set f views id v b at in let y = total_set f mid other w spent there_ in omega (arith, e, z) in
      let no_out : (d : ℕ) → out d v ≡ 0 = λ d. ap (waits d) none in
      let no_out' : (d : ℕ) → out d w ≡ 0 = λ d. ap (waits d) none' in
      let none_at : (i j : ℕ) (u x : View T K) (t : Ticket) → get_elem? views j ≡ some x → x.ticket ≡ None → get_elem? views i ≡ some u → u.ticket ≡ Some t → i ≢ j = λ i j u x t e h e' h' z.
      let same : u ≡ x = same_at views j u x (ap (get_elem? views) (sym z) ∙ e') e in none-some t (sym h ∙ ap (λ (y : View T K). y.ticket) (sym same) ∙ h') in
      regroup s.words s.homes views now r
      (λ c. sums (out c) (omega (arith, no_out c, no_out' c)) refl)
      (sums part refl refl)
      (sums given (total_append gave v.calls w.calls) refl)
      (sums taken (total_append took v.calls w.calls) refl)
      (λ c n. sums (draws_of c n) (total_append (drew_at c n) v.calls w.calls) refl)
      (λ c n. sums (turns_of c n) (total_append (turned_at c n) v.calls w.calls) refl)
      (λ i u t e has. set_else mid other i spent (none_at i other u w t at' none' e has) ∙ set_else views id i b (none_at i id u v t at none e has) ∙ e)
      (λ i u e. ⊎_elim
      (λ (z : (i ≡ other) × (spent ≡ u)). subst (λ (p : ℕ × View T K). KnowsLine key r.lines s.homes p.0 p.1) (λ j. (sym z.0 j, z.1 j)) record { key_is = λ x h. absurd (none-some x h); seated = λ t h. absurd (none-some t h); part = λ t h. absurd (none-some t h); stand = tt; nothing = λ h. refl })
      (λ (y : (i ≢ other) × (get_elem? mid i ≡ some u)). ⊎_elim
      (λ (z : (i ≡ id) × (b ≡ u)). subst (λ (p : ℕ × View T K). KnowsLine key r.lines s.homes p.0 p.1) (λ j. (sym z.0 j, z.1 j)) record {
        key_is = k.key_is;
        seated = λ t h. absurd (none-some t (sym none ∙ h));
        part = λ t h. absurd (none-some t (sym none ∙ h));
        stand = all_stand_append r.lines v.calls w.calls k.stand k'.stand;
        nothing = λ h. ap (λ (x : List (ChairCall T)). x ++ w.calls) (k.nothing (omega (arith, h))) ∙ k'.nothing (omega (arith, h));
      })
      (λ (z : (i ≢ id) × (get_elem? views i ≡ some u)). r.known i u z.1)
      (at_set views id i b u y.1))
      (at_set mid other i spent u e))

zero_at : (n i : ℕ) → get_or {A = ℕ} (replicate n 0) i 0 ≡ zero
zero_at zero i = refl
zero_at (suc n) zero = refl
zero_at (suc n) (suc i) = zero_at n i

vacant_at : {T : Type 0} (n c : ℕ) (h : maybe.Option (Option T)) → get_elem? (map some (replicate n None)) c ≡ some h → h ≡ maybe.some None
vacant_at zero c h e = absurd (some-ne-none h (sym e))
vacant_at (suc n) zero h e = sym (some-injective (maybe.some None) h e)
vacant_at (suc n) (suc c) h e = vacant_at n c h e

vacant_long : (T : Type 0) (n : ℕ) → length (map (λ (x : Option T). maybe.some x) (replicate n None)) ≡ n
vacant_long T zero = refl
vacant_long T (suc n) = ap suc (vacant_long T n)

vacant_weight : (T : Type 0) (n : ℕ) → total weight_at_home (map (λ (x : Option T). maybe.some x) (replicate n None)) ≡ 0
vacant_weight T zero = refl
vacant_weight T (suc n) = omega (arith, vacant_weight T n)

length_zeros : (n : ℕ) → length {A = ℕ} (replicate n 0) ≡ n
length_zeros zero = refl
length_zeros (suc n) = ap suc (length_zeros n)

first_known : {T K : Type 0} (key : K) (chairs : ℕ) (lines : ℕ → Line T) (homes : List (maybe.Option (Option T))) (id : ℕ) (v : View T K) → get_elem? (opener key chairs ∷ []) id ≡ some v → KnowsLine key lines homes id v
first_known key chairs lines homes h4 v e = search (rules, some_is, none-some)

below_zero : (n : ℕ) → below n 0 ≡ 0
below_zero n = grind (arith, nat_tests)

pub opening_kept : {T K : Type 0} (fits : K → ℕ → T → Type 0) (key : K) (chairs cells : ℕ) (words : List ℕ) → chairs < 2 ^ 64 → words ≡ replicate (cells + cells) 0 → Kept fits key chairs words (map (λ (x : Option T). maybe.some x) (replicate cells None)) (opener key chairs ∷ [])
opening_kept {T} {K} fits key chairs cells words few are =
    let zeros : (i : ℕ) → get_or words i 0 ≡ 0 = λ i. ap (λ (ws : List ℕ). get_or ws i 0) are ∙ zero_at (cells + cells) i in
    let homes : List (maybe.Option (Option T)) = map (λ (x : Option T). maybe.some x) (replicate cells None) in
    record {
      lines = λ c. record { next = 0; served = 0; holder = λ _. 0; left = λ _. None };
      long = omega (arith, ap length are, length_zeros (cells + cells), vacant_long T cells);
      few = few;
      queues = λ c h e.
          let is : h ≡ maybe.some None = vacant_at cells c h e in
          record {
            next_is = zeros c;
            served_is = zeros (length homes + c);
            line = refl;
            each = λ n le lt. absurd (omega (arith, lt));
            away = λ z. absurd (some-ne-none None (sym is ∙ z));
            value = λ o z. sym (some-injective None o (sym is ∙ z));
            kept = λ x z. absurd (none-some x (some-injective None (Some x) (sym is ∙ z)));
            turns = λ n. sym (subst (λ (x : maybe.Option (Option T)). below n 0 + in_turn n 0 x ≡ 0) (sym is) (omega (arith, below_zero n)));
          };
      known = λ id v e. first_known key chairs (λ c. record { next = 0; served = 0; holder = λ _. 0; left = λ _. None }) homes id v e;
      parts = omega arith;
      once = λ c n. sym (below_zero n);
      balance = sym (ap (λ (n : ℕ). 0 + n) (vacant_weight T cells));
    }

pub total_two : {A : Type 0} (f : A → ℕ) (xs : List A) (i j : ℕ) (a b : A) → get_elem? xs i ≡ some a → get_elem? xs j ≡ some b → j ≢ i → f a + f b ≤ total f xs
total_two f [] i j a b e h ne = absurd (some-ne-none a (sym e))
total_two f (x ∷ xs) zero zero a b e h ne = absurd (ne refl)
total_two f (x ∷ xs) zero (suc j) a b e h ne = let q : f x ≡ f a = ap f (some-injective x a e) in let k : f b ≤ total f xs = total_part f xs j b h in omega arith
total_two f (x ∷ xs) (suc i) zero a b e h ne = let q : f x ≡ f b = ap f (some-injective x b h) in let k : f a ≤ total f xs = total_part f xs i a e in omega arith
total_two f (x ∷ xs) (suc i) (suc j) a b e h ne = let k : f a + f b ≤ total f xs = total_two f xs i j a b e h (λ z. ne (ap suc z)) in omega arith

-- a view with all parts, and no ticket
module _ {T K : Type 0} (fits : K → ℕ → T → Type 0) (key : K) (chairs : ℕ) (words : List ℕ) (homes : List (maybe.Option (Option T))) (views : List (View T K)) (r : Kept fits key chairs words homes views) (id : ℕ) (v : View T K) (at : get_elem? views id ≡ some v) (all : v.parts ≡ chairs) (none : v.ticket ≡ None) where
  alone : (j : ℕ) (u : View T K) → j ≢ id → get_elem? views j ≡ some u → u.parts ≡ 0
  alone j u ne e = omega (arith, total_two part views id j v u at e ne, r.parts, all)

  nobody : (c : ℕ) → total (out c) views ≡ 0
  nobody c = search (rules, total_none, same_at, out_le, alone)

  pub ends_served : (c : ℕ) → c < length homes → (r.lines c).served ≡ (r.lines c).next
  ends_served c lt = let h = there homes c lt in omega (arith, (r.queues c h.0 h.1).line, nobody c)

  empty_at : (c : ℕ) (h : maybe.Option (Option T)) → get_elem? homes c ≡ some h → h ≡ maybe.some None
  empty_at c maybe.none e = absurd (omega (arith, ends_served c (at_lt homes c maybe.none e), ((r.queues c maybe.none e).away refl).0))
  empty_at c (maybe.some None) e = refl
  empty_at c (maybe.some (Some x)) e = absurd (omega (arith, ends_served c (at_lt homes c (maybe.some (Some x)) e), ((r.queues c (maybe.some (Some x)) e).kept x refl).0))

  weightless : (c : ℕ) (h : maybe.Option (Option T)) → get_elem? homes c ≡ some h → weight_at_home h ≡ 0
  weightless c h e = ap (weight_at_home {T = T}) (empty_at c h e)

  pub ends_even : given v ≡ taken v
  ends_even = search (rules, total_alone, alone, total_none, weightless)

  pub ends_empty : (c : ℕ) → c < length homes → get_elem? homes c ≡ some (maybe.some None)
  ends_empty c lt = let h = there homes c lt in h.1 ∙ ap (λ (x : maybe.Option (Option T)). some x) (empty_at c h.0 h.1)

  pub ends_once : (c n : ℕ) → draws_of c n v ≡ below n (r.lines c).next
  ends_once c n = sym (total_alone (draws_of c n) views id v at (λ j u ne e. ap (total (drew_at c n)) ((r.known j u e).nothing (alone j u ne e)))) ∙ r.once c n

  pub ends_turns : (c n : ℕ) → c < length homes → turns_of c n v ≡ below n (r.lines c).next
  ends_turns c n lt =
      let q = r.queues c (maybe.some None) (ends_empty c lt) in
      omega (arith, total_alone (turns_of c n) views id v at (λ j u ne e. ap (total (turned_at c n)) ((r.known j u e).nothing (alone j u ne e))), q.turns n, ap (below n) (ends_served c lt))

  pub ends_left : (c : ℕ) → c < length homes → before (r.lines c).left (r.lines c).next ≡ None
  ends_left c lt = ap (before (r.lines c).left) (sym (ends_served c lt)) ∙ sym ((r.queues c (maybe.some None) (ends_empty c lt)).value None refl)

  pub ends_told : AllStand r.lines v.calls
  ends_told = (r.known id v at).stand
