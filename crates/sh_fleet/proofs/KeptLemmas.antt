-- What the notes that seats have learnt say of the sheet's marks.
use Rattle.std.proofs.Common.{◌≡◌, ◌≢◌, ◌≤◌, ◌+◌, ◌==◌, ℕ, zero, suc, Bool, true, false, List, [], ◌∷◌, ◌++◌, map, length, take, drop, refl, sym, ap, subst, ◌∙◌, arith, inl, inr, eq-eqb, ne_eqb}
use Rattle.std.{specs.{Prelude.{get_or, nat_le, if◌then◌else◌, filter, All, AllPairs}, List.{AllByRecursion}}, proofs.lemmas.{Bool.{cases_eq, eqb-true, Decides.{nat_tests}}, List.{drop-drop, Elements.{All-head, All-tail}, Kept.{AllPairs-filter}}}}
use Rattle.sh_logic.proofs.Lists.{all_weaker}
use Rattle.sh_map.specs.{declared.book.Done.{Done}, Book.{made, IsLater}}
use Rattle.sh_sheet.specs.{declared.item.Item.{Item, TheVariants.{Ask, Mark, After, Turn}}, Marks.{at_place, behind, greater, nothing, stops_from, stops_of, Before, Stop}}
use Rattle.sh_core_says.specs.Books.{calls_by, numbered}
use Rattle.sh_fleet.specs.{Served.{KeepsBefore}, Wants.{counted, heeds_from, heeds_of, is_after, no_tally, stand, Heed, Tally, Want}}

-- ---- parts of lists

pub take_none : {A : Type 0} (P : A → Type 0) (n : ℕ) → AllByRecursion P (take n [])
take_none P zero = tt
take_none P (suc n) = tt

pub take_less : {A : Type 0} (P : A → Type 0) (n m : ℕ) (xs : List A) → n ≤ m → AllByRecursion P (take m xs) → AllByRecursion P (take n xs)
take_less P zero m xs le h = tt
take_less P (suc n) m [] le h = take_none P (suc n)
take_less P (suc n) zero (x ∷ xs) le h = absurd (omega (arith, le))
take_less P (suc n) (suc m) (x ∷ xs) le h = (h.0, take_less P n m xs (omega (arith, le)) h.1)

drop_next : {A : Type 0} (P : A → Type 0) (n : ℕ) (xs : List A) → AllByRecursion P (drop n xs) → AllByRecursion P (drop (suc n) xs)
drop_next P zero [] h = tt
drop_next P zero (x ∷ xs) h = h.1
drop_next P (suc n) [] h = tt
drop_next P (suc n) (x ∷ xs) h = drop_next P n xs h

take_next : {A : Type 0} (P : A → Type 0) (n : ℕ) (xs : List A) (x : A) (rest : List A) → drop n xs ≡ x ∷ rest → P x → AllByRecursion P (take n xs) → AllByRecursion P (take (suc n) xs)
take_next P zero [] x rest e p h = tt
take_next P zero (y ∷ xs) x rest e p h = (subst P (sym (ap (λ l. get_or l 0 y) e)) p, tt)
take_next P (suc n) [] x rest e p h = tt
take_next P (suc n) (y ∷ xs) x rest e p h = (h.0, take_next P n xs x rest e p h.1)

last_of : {A : Type 0} (P : A → Type 0) (n : ℕ) (xs : List A) (x : A) (rest : List A) → drop n xs ≡ x ∷ rest → AllByRecursion P (take (suc n) xs) → P x
last_of P zero [] x rest e h = absurd (cc)
last_of P zero (y ∷ xs) x rest e h = subst P (ap (λ l. get_or l 0 y) e) h.0
last_of P (suc n) [] x rest e h = absurd (cc)
last_of P (suc n) (y ∷ xs) x rest e h = last_of P n xs x rest e h.1

all_both : {A : Type 0} (P Q R : A → Type 0) (xs : List A) → ((x : A) → P x → Q x → R x) → AllByRecursion P xs → AllByRecursion Q xs → AllByRecursion R xs
all_both P Q R [] f h g = tt
all_both P Q R (x ∷ xs) f h g = (f x h.0 g.0, all_both P Q R xs f h.1 g.1)

all_nothing : {A B : Type 0} (R : A → B → Type 0) (es : List B) → AllByRecursion (λ (e : B). AllByRecursion (λ (d : A). R d e) []) es
all_nothing R [] = tt
all_nothing R (e ∷ es) = (tt, all_nothing R es)

all_heads : {A B : Type 0} (R : A → B → Type 0) (d : A) (ds : List A) (es : List B) → AllByRecursion (λ (e : B). AllByRecursion (λ (x : A). R x e) (d ∷ ds)) es → AllByRecursion (λ (e : B). R d e) es × AllByRecursion (λ (e : B). AllByRecursion (λ (x : A). R x e) ds) es
all_heads R d ds [] h = (tt, tt)
all_heads R d ds (e ∷ es) h = let r = all_heads R d ds es h.1 in ((h.0.0, r.0), (h.0.1, r.1))

all_turned : {A B : Type 0} (R : A → B → Type 0) (ds : List A) (es : List B) → AllByRecursion (λ (e : B). AllByRecursion (λ (d : A). R d e) ds) es → AllByRecursion (λ (d : A). AllByRecursion (λ (e : B). R d e) es) ds
all_turned R [] es h = tt
all_turned R (d ∷ ds) es h = let r = all_heads R d ds es h in (r.0, all_turned R ds es r.1)

greater_either : (P : ℕ → Type 0) (a b : ℕ) → P a → P b → P (greater a b)
greater_either P a b p q = by_flag (nat_le a b) where
  by_flag : (f : Bool) → P (if f then b else a)
  by_flag true = q
  by_flag false = p

greater_own : (a b : ℕ) → b ≤ a → greater a b ≡ a
greater_own a b le = grind (arith, nat_tests)

at_here : {A : Type 0} (f : ℕ → A) (p : ℕ) (a : A) → at_place f p a p ≡ a
at_here f p a = rw (eq-eqb p p refl) refl

at_else : {A : Type 0} (f : ℕ → A) (p : ℕ) (a : A) (x : ℕ) → x ≢ p → at_place f p a x ≡ f x
at_else f p a x ne = rw (ne_eqb x p ne) refl

-- one after more, where it is of this seat
pub after_long : (b : Bool) (k n : ℕ) (h : Heed) (rest : List Heed) (xs : List Item) → length rest ≡ length (filter is_after xs) → length ((if b then h ∷ [] else []) ++ rest) ≡ length (filter is_after (if b then After k n ∷ xs else xs))
after_long true k n h rest xs e = ap suc e
after_long false k n h rest xs e = e

-- ---- of the calls of each seat, and of what it had seen after each note that it had learnt

abbrev pub Under : (bound : ℕ) → List Done → Type 0
Under bound ds = AllByRecursion (λ (d : Done). d.point + made d.call d.reply ≤ bound) ds

abbrev pub Short : (bound : ℕ) → List ℕ → Type 0
Short bound ls = AllByRecursion (λ (l : ℕ). l ≤ bound) ls

under_more : (a b : ℕ) (ds : List Done) → a ≤ b → Under a ds → Under b ds
under_more a b ds le h = all_weaker (λ (d : Done). d.point + made d.call d.reply ≤ a) (λ (d : Done). d.point + made d.call d.reply ≤ b) ds (λ d f. omega (arith, f, le)) h

module _ (D : ℕ → List Done) (L : ℕ → List ℕ) where
  -- what a note as it is wanted carries comes to no more than this
  pub record Within (w : Want) (bound : ℕ) : Type 0 where
    pub calls : Under bound (take w.calls (D w.seat))
    pub learnt : Short bound (take w.learnt (L w.seat))

  -- what a seat had seen behind one of its afters
  pub record IsKept (seat : ℕ) (h : Heed) (l : ℕ) : Type 0 where
    pub within : Within h.want l
    pub behind : AllByRecursion (λ (e : Done). l ≤ e.first) (drop h.behind (D seat))

  abbrev pub AreKept : (seat : ℕ) → List Heed → List ℕ → Type 0
  AreKept seat [] [] = Unit {0}
  AreKept seat (h ∷ hs) (l ∷ ls) = IsKept seat h l × AreKept seat hs ls
  AreKept seat hs ls = ⊥

  record First (seat : ℕ) (h : Heed) (hs : List Heed) (ls : List ℕ) : Type 0 where
    l : ℕ
    more : List ℕ
    is : ls ≡ l ∷ more
    here : IsKept seat h l
    rest : AreKept seat hs more

  first_kept : (seat : ℕ) (h : Heed) (hs : List Heed) (ls : List ℕ) → AreKept seat (h ∷ hs) ls → First seat h hs ls
  first_kept seat h hs [] k = absurd k
  first_kept seat h hs (l ∷ ls) k = record { l = l; more = ls; is = refl; here = k.0; rest = k.1 }

  -- Behind some items: what comes before each seat's next call, and before each mark, comes to no more than what the seat's
  -- calls so far and the notes that it has learnt come to.
  record Sound (b : Before) (t : Tally) : Type 0 where
    seats : (s bound : ℕ) → Within (stand t s) bound → (k : ℕ) → Under bound (take (b.seats s k) (D k))
    marks : (n bound : ℕ) → Within (t.marks n) bound → (k : ℕ) → Under bound (take (b.marks n k) (D k))
    firsts : (s : ℕ) → AllByRecursion (λ (e : Done). Short e.first (take (t.learnt s) (L s))) (drop (t.calls s) (D s))
    own : (s : ℕ) → b.seats s s ≡ t.calls s
    few : (s k : ℕ) → b.seats s k ≤ t.calls k
    few_marks : (n k : ℕ) → b.marks n k ≤ t.calls k

  sound_first : Sound nothing no_tally
  sound_first = record { seats = λ s bound h k. tt; marks = λ n bound h k. tt; firsts = λ s. all_nothing (λ (l : ℕ) (e : Done). l ≤ e.first) (D s); own = λ s. refl; few = λ s k. omega arith; few_marks = λ n k. omega arith }

  within_calls : (s n m learnt bound : ℕ) → n ≤ m → Within (record { seat = s; calls = m; learnt = learnt }) bound → Within (record { seat = s; calls = n; learnt = learnt }) bound
  within_calls s n m learnt bound le h = record { calls = take_less (λ (d : Done). d.point + made d.call d.reply ≤ bound) n m (D s) le h.calls; learnt = h.learnt }

  within_learnt : (s calls n m bound : ℕ) → n ≤ m → Within (record { seat = s; calls = calls; learnt = m }) bound → Within (record { seat = s; calls = calls; learnt = n }) bound
  within_learnt s calls n m bound le h = record { calls = h.calls; learnt = take_less (λ (l : ℕ). l ≤ bound) n m (L s) le h.learnt }

  module _ (b : Before) (t : Tally) (S : Sound b t) where
    -- one call more of a seat
    module _ (seat : ℕ) where
      abbrev more_calls : ℕ → ℕ
      more_calls = at_place t.calls seat (t.calls seat + 1)

      abbrev more_seats : ℕ → ℕ → ℕ
      more_seats = at_place b.seats seat (at_place (b.seats seat) seat (b.seats seat seat + 1))

      grown : (k : ℕ) → t.calls k ≤ more_calls k
      grown k = elim (cases_eq k seat) [
        | inl same ↦ rw (same, at_here t.calls seat (t.calls seat + 1)) (omega arith)
        | inr ne ↦ rw (at_else t.calls seat (t.calls seat + 1) k ne) (omega arith)
      ]

      asked_own : (bound : ℕ) → Within (record { seat = seat; calls = t.calls seat + 1; learnt = t.learnt seat }) bound → (k : ℕ) → Under bound (take (at_place (b.seats seat) seat (b.seats seat seat + 1) k) (D k))
      asked_own bound h k = elim (cases_eq k seat) [
        | inl same ↦ rw (same, at_here (b.seats seat) seat (b.seats seat seat + 1), S.own seat) h.calls
        | inr ne ↦ rw (at_else (b.seats seat) seat (b.seats seat seat + 1) k ne) (S.seats seat bound (within_calls seat (t.calls seat) (t.calls seat + 1) (t.learnt seat) bound (omega arith) h) k)
      ]

      asked_seats : (s bound : ℕ) → Within (record { seat = s; calls = more_calls s; learnt = t.learnt s }) bound → (k : ℕ) → Under bound (take (more_seats s k) (D k))
      asked_seats s bound h k = elim (cases_eq s seat) [
        | inl same ↦ subst (λ (x : ℕ). Under bound (take (more_seats x k) (D k))) (sym same) (subst (λ (f : ℕ → ℕ). Under bound (take (f k) (D k))) (sym (at_here b.seats seat (at_place (b.seats seat) seat (b.seats seat seat + 1))))
            (asked_own bound (subst (λ (n : ℕ). Within (record { seat = seat; calls = n; learnt = t.learnt seat }) bound) (at_here t.calls seat (t.calls seat + 1)) (subst (λ (x : ℕ). Within (record { seat = x; calls = more_calls x; learnt = t.learnt x }) bound) same h)) k))
        | inr ne ↦ subst (λ (f : ℕ → ℕ). Under bound (take (f k) (D k))) (sym (at_else b.seats seat (at_place (b.seats seat) seat (b.seats seat seat + 1)) s ne))
            (S.seats s bound (subst (λ (n : ℕ). Within (record { seat = s; calls = n; learnt = t.learnt s }) bound) (at_else t.calls seat (t.calls seat + 1) s ne) h) k)
      ]

      asked_firsts : (s : ℕ) → AllByRecursion (λ (e : Done). Short e.first (take (t.learnt s) (L s))) (drop (more_calls s) (D s))
      asked_firsts s = elim (cases_eq s seat) [
        | inl same ↦ subst (λ (x : ℕ). AllByRecursion (λ (e : Done). Short e.first (take (t.learnt x) (L x))) (drop (more_calls x) (D x))) (sym same) (let next : suc (t.calls seat) ≡ more_calls seat = omega (arith, at_here t.calls seat (t.calls seat + 1)) in
            subst (λ (n : ℕ). AllByRecursion (λ (e : Done). Short e.first (take (t.learnt seat) (L seat))) (drop n (D seat))) next (drop_next (λ (e : Done). Short e.first (take (t.learnt seat) (L seat))) (t.calls seat) (D seat) (S.firsts seat)))
        | inr ne ↦ subst (λ (n : ℕ). AllByRecursion (λ (e : Done). Short e.first (take (t.learnt s) (L s))) (drop n (D s))) (sym (at_else t.calls seat (t.calls seat + 1) s ne)) (S.firsts s)
      ]

      asked_few : (s k : ℕ) → more_seats s k ≤ more_calls k
      asked_few s k = elim (cases_eq s seat) [
        | inl same ↦ subst (λ (x : ℕ). more_seats x k ≤ more_calls k) (sym same) (subst (λ (f : ℕ → ℕ). f k ≤ more_calls k) (sym (at_here b.seats seat (at_place (b.seats seat) seat (b.seats seat seat + 1)))) (elim (cases_eq k seat) [
          | inl here ↦ rw (here, at_here (b.seats seat) seat (b.seats seat seat + 1), at_here t.calls seat (t.calls seat + 1)) (omega (arith, S.own seat))
          | inr there ↦ rw (at_else (b.seats seat) seat (b.seats seat seat + 1) k there, at_else t.calls seat (t.calls seat + 1) k there) (S.few seat k)
        ]))
        | inr ne ↦ subst (λ (f : ℕ → ℕ). f k ≤ more_calls k) (sym (at_else b.seats seat (at_place (b.seats seat) seat (b.seats seat seat + 1)) s ne)) (omega (arith, S.few s k, grown k))
      ]

      asked_same : (s : ℕ) → more_seats s s ≡ more_calls s
      asked_same s = elim (cases_eq s seat) [
        | inl same ↦ rw (same, at_here b.seats seat (at_place (b.seats seat) seat (b.seats seat seat + 1)), at_here (b.seats seat) seat (b.seats seat seat + 1), at_here t.calls seat (t.calls seat + 1)) (ap (λ n. n + 1) (S.own seat))
        | inr ne ↦ rw (at_else b.seats seat (at_place (b.seats seat) seat (b.seats seat seat + 1)) s ne, at_else t.calls seat (t.calls seat + 1) s ne) (S.own s)
      ]

      sound_asked : Sound (record b { seats = more_seats }) (record t { calls = more_calls })
      sound_asked = record { seats = asked_seats; marks = S.marks; firsts = asked_firsts; own = asked_same; few = asked_few; few_marks = λ n k. omega (arith, S.few_marks n k, grown k) }

    -- a mark
    sound_marked : (seat n : ℕ) → Sound (record b { marks = at_place b.marks n (b.seats seat) }) (record t { marks = at_place t.marks n (stand t seat) })
    sound_marked seat n = record {
      seats = S.seats;
      marks = λ m bound h k. elim (cases_eq m n) [
        | inl same ↦ subst (λ (f : ℕ → ℕ). Under bound (take (f k) (D k))) (sym (ap (at_place b.marks n (b.seats seat)) same ∙ at_here b.marks n (b.seats seat))) (S.seats seat bound (subst (λ (w : Want). Within w bound) (ap (at_place t.marks n (stand t seat)) same ∙ at_here t.marks n (stand t seat)) h) k)
        | inr ne ↦ subst (λ (f : ℕ → ℕ). Under bound (take (f k) (D k))) (sym (at_else b.marks n (b.seats seat) m ne)) (S.marks m bound (subst (λ (w : Want). Within w bound) (at_else t.marks n (stand t seat) m ne) h) k)
      ];
      firsts = S.firsts;
      own = S.own;
      few = S.few;
      few_marks = λ m k. elim (cases_eq m n) [
        | inl same ↦ subst (λ (f : ℕ → ℕ). f k ≤ t.calls k) (sym (ap (at_place b.marks n (b.seats seat)) same ∙ at_here b.marks n (b.seats seat))) (S.few seat k)
        | inr ne ↦ subst (λ (f : ℕ → ℕ). f k ≤ t.calls k) (sym (at_else b.marks n (b.seats seat) m ne)) (S.few_marks m k)
      ];
    }

    -- an after, whose seat has learnt a note
    module _ (seat n l : ℕ) (more : List ℕ) (here : drop (t.learnt seat) (L seat) ≡ l ∷ more) (kept : IsKept seat (record { want = t.marks n; behind = t.calls seat }) l) where
      abbrev joined : ℕ → ℕ
      joined = λ of. greater (b.seats seat of) (b.marks n of)

      abbrev more_learnt : ℕ → ℕ
      more_learnt = at_place t.learnt seat (t.learnt seat + 1)

      heeded_own : (bound : ℕ) → Within (record { seat = seat; calls = t.calls seat; learnt = t.learnt seat + 1 }) bound → (k : ℕ) → Under bound (take (joined k) (D k))
      heeded_own bound h k =
          let next : t.learnt seat + 1 ≡ suc (t.learnt seat) = omega arith in
          let le : l ≤ bound = last_of (λ (x : ℕ). x ≤ bound) (t.learnt seat) (L seat) l more here (subst (λ (m : ℕ). Short bound (take m (L seat))) next h.learnt) in
          greater_either (λ (m : ℕ). Under bound (take m (D k))) (b.seats seat k) (b.marks n k)
          (S.seats seat bound (within_learnt seat (t.calls seat) (t.learnt seat) (t.learnt seat + 1) bound (omega arith) h) k)
          (under_more l bound (take (b.marks n k) (D k)) le (S.marks n l kept.within k))

      heeded_seats : (s bound : ℕ) → Within (record { seat = s; calls = t.calls s; learnt = more_learnt s }) bound → (k : ℕ) → Under bound (take (at_place b.seats seat joined s k) (D k))
      heeded_seats s bound h k = elim (cases_eq s seat) [
        | inl same ↦ subst (λ (f : ℕ → ℕ). Under bound (take (f k) (D k))) (sym (ap (at_place b.seats seat joined) same ∙ at_here b.seats seat joined))
            (heeded_own bound (subst (λ (m : ℕ). Within (record { seat = seat; calls = t.calls seat; learnt = m }) bound) (at_here t.learnt seat (t.learnt seat + 1)) (subst (λ (x : ℕ). Within (record { seat = x; calls = t.calls x; learnt = more_learnt x }) bound) same h)) k)
        | inr ne ↦ subst (λ (f : ℕ → ℕ). Under bound (take (f k) (D k))) (sym (at_else b.seats seat joined s ne)) (S.seats s bound (subst (λ (m : ℕ). Within (record { seat = s; calls = t.calls s; learnt = m }) bound) (at_else t.learnt seat (t.learnt seat + 1) s ne) h) k)
      ]

      heeded_firsts : (s : ℕ) → AllByRecursion (λ (e : Done). Short e.first (take (more_learnt s) (L s))) (drop (t.calls s) (D s))
      heeded_firsts s = elim (cases_eq s seat) [
        | inl same ↦ subst (λ (x : ℕ). AllByRecursion (λ (e : Done). Short e.first (take (more_learnt x) (L x))) (drop (t.calls x) (D x))) (sym same) (let next : suc (t.learnt seat) ≡ more_learnt seat = omega (arith, at_here t.learnt seat (t.learnt seat + 1)) in
            subst (λ (m : ℕ). AllByRecursion (λ (e : Done). Short e.first (take m (L seat))) (drop (t.calls seat) (D seat))) next
            (all_both (λ (e : Done). Short e.first (take (t.learnt seat) (L seat))) (λ (e : Done). l ≤ e.first) (λ (e : Done). Short e.first (take (suc (t.learnt seat)) (L seat))) (drop (t.calls seat) (D seat)) (λ e h le. take_next (λ (x : ℕ). x ≤ e.first) (t.learnt seat) (L seat) l more here le h) (S.firsts seat) kept.behind))
        | inr ne ↦ subst (λ (m : ℕ). AllByRecursion (λ (e : Done). Short e.first (take m (L s))) (drop (t.calls s) (D s))) (sym (at_else t.learnt seat (t.learnt seat + 1) s ne)) (S.firsts s)
      ]

      sound_heeded : Sound (record b { seats = at_place b.seats seat joined }) (record t { learnt = more_learnt })
      sound_heeded = record {
        seats = heeded_seats;
        marks = S.marks;
        firsts = heeded_firsts;
        own = λ s. elim (cases_eq s seat) [
          | inl same ↦ ap (at_place b.seats seat joined s) same ∙ (ap (λ (f : ℕ → ℕ). f seat) (ap (at_place b.seats seat joined) same ∙ at_here b.seats seat joined) ∙ (greater_own (b.seats seat seat) (b.marks n seat) (omega (arith, S.few_marks n seat, S.own seat)) ∙ (S.own seat ∙ ap t.calls (sym same))))
          | inr ne ↦ ap (λ (f : ℕ → ℕ). f s) (at_else b.seats seat joined s ne) ∙ S.own s
        ];
        few = λ s k. elim (cases_eq s seat) [
          | inl same ↦ subst (λ (f : ℕ → ℕ). f k ≤ t.calls k) (sym (ap (at_place b.seats seat joined) same ∙ at_here b.seats seat joined)) (greater_either (λ (m : ℕ). m ≤ t.calls k) (b.seats seat k) (b.marks n k) (S.few seat k) (S.few_marks n k))
          | inr ne ↦ subst (λ (f : ℕ → ℕ). f k ≤ t.calls k) (sym (at_else b.seats seat joined s ne)) (S.few s k)
        ];
        few_marks = S.few_marks;
      }

      -- the notes that are left, of each seat
      left_kept : (hs : ℕ → List Heed) → ((s : ℕ) → AreKept s ((if seat == s then record { want = t.marks n; behind = t.calls seat } ∷ [] else []) ++ hs s) (drop (t.learnt s) (L s))) → (s : ℕ) → AreKept s (hs s) (drop (more_learnt s) (L s))
      left_kept hs all s = elim (cases_eq s seat) [
        | inl same ↦ subst (λ (x : ℕ). AreKept x (hs x) (drop (more_learnt x) (L x))) (sym same) (own_left (first_kept seat (record { want = t.marks n; behind = t.calls seat }) (hs seat) (drop (t.learnt seat) (L seat))
            (subst (λ (f : Bool). AreKept seat ((if f then record { want = t.marks n; behind = t.calls seat } ∷ [] else []) ++ hs seat) (drop (t.learnt seat) (L seat))) (eq-eqb seat seat refl) (all seat))))
        | inr ne ↦ subst (λ (m : ℕ). AreKept s (hs s) (drop m (L s))) (sym (at_else t.learnt seat (t.learnt seat + 1) s ne))
            (subst (λ (f : Bool). AreKept s ((if f then record { want = t.marks n; behind = t.calls seat } ∷ [] else []) ++ hs s) (drop (t.learnt s) (L s))) (ne_eqb seat s (λ e. ne (sym e))) (all s))
      ] where
        own_left : First seat (record { want = t.marks n; behind = t.calls seat }) (hs seat) (drop (t.learnt seat) (L seat)) → AreKept seat (hs seat) (drop (more_learnt seat) (L seat))
        own_left f = subst (AreKept seat (hs seat)) (sym (ap (λ (m : ℕ). drop m (L seat)) (at_here t.learnt seat (t.learnt seat + 1)) ∙ (sym (drop-drop 1 (t.learnt seat) (L seat)) ∙ ap (drop 1) f.is))) f.rest

  -- each after's stop is kept
  module _ (ordered : (s n : ℕ) → AllByRecursion (λ (e : Done). Under e.first (take n (D s))) (drop n (D s))) where
    abbrev pub IsStopKept : Stop → Type 0
    IsStopKept x = (k : ℕ) → KeepsBefore (take (x.counts k) (D k)) (drop (x.counts x.seat) (D x.seat))

    stop_kept : (b : Before) (t : Tally) → Sound b t → (seat : ℕ) → IsStopKept (record { seat = seat; counts = b.seats seat })
    stop_kept b t S seat k =
        let each = all_both (λ (e : Done). Under e.first (take (t.calls seat) (D seat))) (λ (e : Done). Short e.first (take (t.learnt seat) (L seat))) (λ (e : Done). Under e.first (take (b.seats seat k) (D k))) (drop (t.calls seat) (D seat))
        (λ e calls learnt. S.seats seat e.first (record { calls = calls; learnt = learnt }) k) (ordered seat (t.calls seat)) (S.firsts seat) in
        all_turned (λ (d e : Done). d.point + made d.call d.reply ≤ e.first) (take (b.seats seat k) (D k)) (drop (b.seats seat seat) (D seat)) (subst (λ (n : ℕ). AllByRecursion (λ (e : Done). Under e.first (take (b.seats seat k) (D k))) (drop n (D seat))) (sym (S.own seat)) each)

    kept_from : (b : Before) (t : Tally) (items : List Item) → Sound b t → ((s : ℕ) → AreKept s (heeds_from s t items) (drop (t.learnt s) (L s))) → AllByRecursion IsStopKept (stops_from b items)
    kept_from b t [] S all = tt
    kept_from b t (Ask seat call ∷ items) S all = kept_from (behind b (Ask seat call)) (counted t (Ask seat call)) items (sound_asked b t S seat) all
    kept_from b t (Mark seat n ∷ items) S all = kept_from (behind b (Mark seat n)) (counted t (Mark seat n)) items (sound_marked b t S seat n) all
    kept_from b t (After seat n ∷ items) S all =
        let x : Heed = record { want = t.marks n; behind = t.calls seat } in
        let f = first_kept seat x (heeds_from seat (counted t (After seat n)) items) (drop (t.learnt seat) (L seat)) (subst (λ (c : Bool). AreKept seat ((if c then x ∷ [] else []) ++ heeds_from seat (counted t (After seat n)) items) (drop (t.learnt seat) (L seat))) (eq-eqb seat seat refl) (all seat)) in
        let T = sound_heeded b t S seat n f.l f.more f.is f.here in
        (stop_kept (behind b (After seat n)) (counted t (After seat n)) T seat, kept_from (behind b (After seat n)) (counted t (After seat n)) items T (left_kept b t S seat n f.l f.more f.is f.here (λ s. heeds_from s (counted t (After seat n)) items) all))
    kept_from b t (Turn seat count ∷ items) S all = kept_from b t items S all

    pub stops_kept : (items : List Item) → ((s : ℕ) → AreKept s (heeds_of s items) (L s)) → AllByRecursion IsStopKept (stops_of items)
    stops_kept items all = kept_from nothing no_tally items sound_first all

-- ---- a seat's calls in their order

by_recursion : {A : Type 0} (P : A → Type 0) (xs : List A) → All P xs → AllByRecursion P xs
by_recursion P [] h = tt
by_recursion P (x ∷ xs) h = (All-head P x xs h, by_recursion P xs (All-tail P x xs h))

seat_at : (k : ℕ) (d : Done) (xs : List Done) (b : Bool) → (d.seat == k) ≡ b → AllByRecursion (λ (e : Done). e.seat ≡ k) xs → AllByRecursion (λ (e : Done). e.seat ≡ k) (if b then d ∷ xs else xs)
seat_at k d xs true is h = (eqb-true d.seat k is, h)
seat_at k d xs false is h = h

seats_are : (k : ℕ) (dones : List Done) → AllByRecursion (λ (e : Done). e.seat ≡ k) (calls_by k dones)
seats_are k [] = tt
seats_are k (d ∷ dones) = seat_at k d (calls_by k dones) (d.seat == k) refl (seats_are k dones)

drop_all : {A : Type 0} (P : A → Type 0) (n : ℕ) (xs : List A) → AllByRecursion P xs → AllByRecursion P (drop n xs)
drop_all P zero xs h = h
drop_all P (suc n) [] h = tt
drop_all P (suc n) (x ∷ xs) h = drop_all P n xs h.1

in_order : (k : ℕ) (xs : List Done) (n : ℕ) → AllPairs IsLater xs → AllByRecursion (λ (e : Done). e.seat ≡ k) xs → AllByRecursion (λ (e : Done). Under e.first (take n xs)) (drop n xs)
in_order k xs zero pairs seats = all_nothing (λ (d e : Done). d.point + made d.call d.reply ≤ e.first) xs
in_order k [] (suc n) pairs seats = tt
in_order k (x ∷ xs) (suc n) pairs seats =
    let heads = by_recursion (IsLater x) xs (λ j d lt. pairs 0 (suc j) d (omega arith) (omega (arith, lt))) in
    let later = all_both (IsLater x) (λ (e : Done). e.seat ≡ k) (λ (e : Done). x.point + made x.call x.reply ≤ e.first) xs (λ e h is. h (seats.0 ∙ sym is)) heads seats.1 in
    let rest = in_order k xs n (λ i j d lt below. pairs (suc i) (suc j) d (omega (arith, lt)) (omega (arith, below))) seats.1 in
    all_both (λ (e : Done). x.point + made x.call x.reply ≤ e.first) (λ (e : Done). Under e.first (take n xs)) (λ (e : Done). Under e.first (x ∷ take n xs)) (drop n xs) (λ e h g. (h, g)) (drop_all (λ (e : Done). x.point + made x.call x.reply ≤ e.first) n xs later) rest

pub calls_ordered : (dones : List Done) → AllPairs IsLater dones → (k n : ℕ) → AllByRecursion (λ (e : Done). Under e.first (take n (calls_by k dones))) (drop n (calls_by k dones))
calls_ordered dones pairs k n = in_order k (calls_by k dones) n (AllPairs-filter IsLater (λ (d : Done). d.seat == k) dones pairs) (seats_are k dones)

-- ---- calls with other numbers

module _ (P : Done → Type 0) (to : (d : Done) → P d → P (numbered 0 d)) (back : (d : Done) → P (numbered 0 d) → P d) where
  same_one : (x y : Done) → numbered 0 x ≡ numbered 0 y → P x → P y
  same_one x y e h = back y (subst P e (to x h))

  pub same_take : (n : ℕ) (xs ys : List Done) → map (numbered 0) xs ≡ map (numbered 0) ys → AllByRecursion P (take n xs) → AllByRecursion P (take n ys)
  same_take zero xs ys e h = tt
  same_take (suc n) xs [] e h = tt
  same_take (suc n) [] (y ∷ ys) e h = absurd (cc)
  same_take (suc n) (x ∷ xs) (y ∷ ys) e h = (same_one x y (ap (λ l. get_or l 0 (numbered 0 x)) e) h.0, same_take n xs ys (ap (drop 1) e) h.1)

  pub same_drop : (n : ℕ) (xs ys : List Done) → map (numbered 0) xs ≡ map (numbered 0) ys → AllByRecursion P (drop n xs) → AllByRecursion P (drop n ys)
  same_drop zero [] [] e h = tt
  same_drop zero [] (y ∷ ys) e h = absurd (cc)
  same_drop zero (x ∷ xs) [] e h = tt
  same_drop zero (x ∷ xs) (y ∷ ys) e h = (same_one x y (ap (λ l. get_or l 0 (numbered 0 x)) e) h.0, same_drop zero xs ys (ap (drop 1) e) h.1)
  same_drop (suc n) xs [] e h = tt
  same_drop (suc n) [] (y ∷ ys) e h = absurd (cc)
  same_drop (suc n) (x ∷ xs) (y ∷ ys) e h = same_drop n xs ys (ap (drop 1) e) h
