-- What a seat has learnt of notes, one item after another.
use Rattle.std.proofs.Common.{◌≡◌, ◌≤◌, ◌<◌, ◌⊎◌, ◌+◌, ◌==◌, ℕ, zero, suc, Bool, true, false, List, [], ◌∷◌, ◌++◌, length, take, drop, Option, Some, refl, sym, ap, subst, ◌∙◌, arith, inl, inr, eq-eqb, ne_eqb, length-append}
use Rattle.std.{specs.{Prelude.{filter, slice_get, if◌then◌else◌}, List.{AllByRecursion}}, proofs.lemmas.{Bool.{cases_eq}}}
use Rattle.sh_logic.proofs.{Options.{some_is, some_none}, Lists.{all_weaker}}
use Rattle.sh_map.specs.declared.{book.Done.{Done}, call.{Call.{Call}, Reply.{Reply}}, log.Entry.{Entry}}
use Rattle.sh_sheet.specs.{declared.item.Item.{Item, TheVariants.{Ask, Mark, After, Turn}}, Marks.{at_place}, Sheet.{is_call}}
use Rattle.sh_core.specs.Actors.{Actor}
use Rattle.sh_pool_rule.{specs.{declared.view.Card.{Card}}, proofs.Relations.{begins_length}}
use Rattle.sh_pool.specs.{Calls.{HasServed}, Cards.{HasLearnt}, Passes.{pass_actor, Standing}}
use Rattle.sh_fleet.specs.{Boards.{AreHeard, IsCardFor}, Sharing.{items_of, HasLearned}, Wants.{counted, heeds_from, heeds_of, is_after, no_tally, tally_from, Heed, Tally}}

-- ---- counts

one_more : (f : ℕ → ℕ) (k seat : ℕ) (p : Item → Bool) (x : Item) (rest : List Item) → p x ≡ true → at_place f k (f k + 1) seat + length (filter p rest) ≡ f seat + length (filter p (if k == seat then x ∷ rest else rest))
one_more f k seat p x rest is = elim (cases_eq k seat) [
  | inl same ↦ rw (same, eq-eqb seat seat refl, is) (omega arith)
  | inr ne ↦ rw (ne_eqb k seat ne, ne_eqb seat k (λ e. ne (sym e))) refl
]

pub none_more : (p : Item → Bool) (x : Item) (rest : List Item) (b : Bool) → p x ≡ false → length (filter p rest) ≡ length (filter p (if b then x ∷ rest else rest))
none_more p x rest true is = rw is refl
none_more p x rest false is = refl

tally_calls : (seat : ℕ) (t : Tally) (front : List Item) → (tally_from t front).calls seat ≡ t.calls seat + length (filter is_call (items_of seat front))
tally_calls seat t [] = omega arith
tally_calls seat t (Ask k call ∷ front) = tally_calls seat (counted t (Ask k call)) front ∙ one_more t.calls k seat is_call (Ask k call) (items_of seat front) refl
tally_calls seat t (Mark k n ∷ front) = tally_calls seat (counted t (Mark k n)) front ∙ ap (λ m. t.calls seat + m) (none_more is_call (Mark k n) (items_of seat front) (k == seat) refl)
tally_calls seat t (After k n ∷ front) = tally_calls seat (counted t (After k n)) front ∙ ap (λ m. t.calls seat + m) (none_more is_call (After k n) (items_of seat front) (k == seat) refl)
tally_calls seat t (Turn k n ∷ front) = tally_calls seat t front ∙ ap (λ m. t.calls seat + m) (none_more is_call (Turn k n) (items_of seat front) (k == seat) refl)

tally_learnt : (seat : ℕ) (t : Tally) (front : List Item) → (tally_from t front).learnt seat ≡ t.learnt seat + length (filter is_after (items_of seat front))
tally_learnt seat t [] = omega arith
tally_learnt seat t (Ask k call ∷ front) = tally_learnt seat (counted t (Ask k call)) front ∙ ap (λ m. t.learnt seat + m) (none_more is_after (Ask k call) (items_of seat front) (k == seat) refl)
tally_learnt seat t (Mark k n ∷ front) = tally_learnt seat (counted t (Mark k n)) front ∙ ap (λ m. t.learnt seat + m) (none_more is_after (Mark k n) (items_of seat front) (k == seat) refl)
tally_learnt seat t (After k n ∷ front) = tally_learnt seat (counted t (After k n)) front ∙ one_more t.learnt k seat is_after (After k n) (items_of seat front) refl
tally_learnt seat t (Turn k n ∷ front) = tally_learnt seat t front ∙ ap (λ m. t.learnt seat + m) (none_more is_after (Turn k n) (items_of seat front) (k == seat) refl)

pub calls_before : (seat : ℕ) (front : List Item) → (tally_from no_tally front).calls seat ≡ length (filter is_call (items_of seat front))
calls_before seat front = let none : 0 + length (filter is_call (items_of seat front)) ≡ length (filter is_call (items_of seat front)) = omega arith in tally_calls seat no_tally front ∙ none

pub learnt_before : (seat : ℕ) (front : List Item) → (tally_from no_tally front).learnt seat ≡ length (filter is_after (items_of seat front))
learnt_before seat front = let none : 0 + length (filter is_after (items_of seat front)) ≡ length (filter is_after (items_of seat front)) = omega arith in tally_learnt seat no_tally front ∙ none

heed_past : (b : Bool) (h : Heed) (rest : List Heed) (k n : ℕ) (xs : List Item) (o : Option Heed) → slice_get rest (length (filter is_after xs)) ≡ o → slice_get ((if b then h ∷ [] else []) ++ rest) (length (filter is_after (if b then After k n ∷ xs else xs))) ≡ o
heed_past true h rest k n xs o e = e
heed_past false h rest k n xs o e = e

heed_first : (t : Tally) (seat n : ℕ) (rest : List Heed) → slice_get ((if seat == seat then record { want = t.marks n; behind = t.calls seat } ∷ [] else []) ++ rest) 0 ≡ Some (record { want = t.marks n; behind = t.calls seat })
heed_first t seat n rest = rw (eq-eqb seat seat refl) refl

-- a seat's after stands behind those of the seat that come before it
pub heed_at : (seat : ℕ) (t : Tally) (items : List Item) (at n : ℕ) → slice_get items at ≡ Some (After seat n) → slice_get (heeds_from seat t items) (length (filter is_after (items_of seat (take at items)))) ≡ Some (record { want = (tally_from t (take at items)).marks n; behind = (tally_from t (take at items)).calls seat })
heed_at seat t [] at n h = absurd (some_none (sym h))
heed_at seat t (x ∷ items) zero n h = subst (λ (y : Item). slice_get (heeds_from seat t (y ∷ items)) 0 ≡ Some (record { want = t.marks n; behind = t.calls seat })) (sym (some_is h)) (heed_first t seat n (heeds_from seat (counted t (After seat n)) items))
heed_at seat t (Ask k call ∷ items) (suc at) n h = ap (slice_get (heeds_from seat (counted t (Ask k call)) items)) (sym (none_more is_after (Ask k call) (items_of seat (take at items)) (k == seat) refl)) ∙ heed_at seat (counted t (Ask k call)) items at n h
heed_at seat t (Mark k m ∷ items) (suc at) n h = ap (slice_get (heeds_from seat (counted t (Mark k m)) items)) (sym (none_more is_after (Mark k m) (items_of seat (take at items)) (k == seat) refl)) ∙ heed_at seat (counted t (Mark k m)) items at n h
heed_at seat t (After k m ∷ items) (suc at) n h = heed_past (k == seat) (record { want = t.marks m; behind = t.calls k }) (heeds_from seat (counted t (After k m)) items) k m (items_of seat (take at items)) _ (heed_at seat (counted t (After k m)) items at n h)
heed_at seat t (Turn k count ∷ items) (suc at) n h = ap (slice_get (heeds_from seat t items)) (sym (none_more is_after (Turn k count) (items_of seat (take at items)) (k == seat) refl)) ∙ heed_at seat t items at n h

-- ---- lists that grow

-- what stands in a list with one element more
pub place_more : {A : Type 0} (xs : List A) (x : A) (i : ℕ) (y : A) → slice_get (xs ++ x ∷ []) i ≡ Some y → (slice_get xs i ≡ Some y) ⊎ ((i ≡ length xs) × (x ≡ y))
place_more [] x zero y h = inr (refl, some_is h)
place_more [] x (suc i) y h = absurd (some_none (sym h))
place_more (z ∷ xs) x zero y h = inl h
place_more (z ∷ xs) x (suc i) y h = elim (place_more xs x i y h) [ inl r ↦ inl r | inr r ↦ inr (ap suc r.0, r.1) ]

pub place_within : {A : Type 0} (xs : List A) (i : ℕ) (x : A) → slice_get xs i ≡ Some x → i < length xs
place_within [] i x h = absurd (some_none (sym h))
place_within (y ∷ xs) zero x h = omega arith
place_within (y ∷ xs) (suc i) x h = omega (arith, place_within xs i x h)

all_none : {A : Type 0} (P : A → Type 0) (n : ℕ) → AllByRecursion P (drop n [])
all_none P zero = tt
all_none P (suc n) = tt

all_more : {A : Type 0} (P : A → Type 0) (n : ℕ) (xs : List A) (x : A) → AllByRecursion P (drop n xs) → P x → AllByRecursion P (drop n (xs ++ x ∷ []))
all_more P zero [] x h new = (new, tt)
all_more P zero (y ∷ xs) x h new = (h.0, all_more P zero xs x h.1 new)
all_more P (suc n) [] x h new = all_none P n
all_more P (suc n) (y ∷ xs) x h new = all_more P n xs x h new

all_past : {A : Type 0} (P : A → Type 0) (n : ℕ) (xs : List A) → length xs ≤ n → AllByRecursion P (drop n xs)
all_past P n [] le = all_none P n
all_past P zero (x ∷ xs) le = absurd (omega (arith, le))
all_past P (suc n) (x ∷ xs) le = all_past P n xs (omega (arith, le))

heard_done : (hs : List Heed) (cs : List Card) (dones : List Done) (d : Done) → AreHeard hs cs dones → AllByRecursion (λ (c : Card). c.seen ≤ d.first) cs → AreHeard hs cs (dones ++ d ∷ [])
heard_done hs [] dones d h all = tt
heard_done [] (c ∷ cs) dones d h all = absurd h
heard_done (x ∷ hs) (c ∷ cs) dones d h all = (h.0, all_more (λ (e : Done). c.seen ≤ e.first) x.behind dones d h.1 all.0, heard_done hs cs dones d h.2 all.1)

heard_card : (hs : List Heed) (cs : List Card) (dones : List Done) (c : Card) (x : Heed) → AreHeard hs cs dones → slice_get hs (length cs) ≡ Some x → IsCardFor x.want c → length dones ≤ x.behind → AreHeard hs (cs ++ c ∷ []) dones
heard_card [] [] dones c x h here for le = absurd (some_none (sym here))
heard_card (y ∷ hs) [] dones c x h here for le =
    let is : y ≡ x = some_is here in
    (subst (λ (z : Heed). IsCardFor z.want c) (sym is) for, all_past (λ (e : Done). c.seen ≤ e.first) y.behind dones (subst (λ (z : Heed). length dones ≤ z.behind) (sym is) le), tt)
heard_card [] (d ∷ cs) dones c x h here for le = absurd h
heard_card (y ∷ hs) (d ∷ cs) dones c x h here for le = (h.0, h.1, heard_card hs cs dones c x h.2 here for le)

-- ---- a pass that has heard so much

module _ (items : List Item) (seat n m : ℕ) (p q : Standing) (h : HasLearned items seat n p) where
  pub heard_same : pass_actor q ≡ pass_actor p → q.view.cards ≡ p.view.cards → q.view.seen ≡ p.view.seen → length (filter is_after (take m (items_of seat items))) ≡ length (filter is_after (take n (items_of seat items))) → HasLearned items seat m q
  heard_same actor cards seen count = record {
    heard = subst (λ (cs : List Card). AreHeard (heeds_of seat items) cs (pass_actor q).dones) (sym cards) (subst (λ (a : Actor). AreHeard (heeds_of seat items) p.view.cards a.dones) (sym actor) h.heard);
    count = ap length cards ∙ (h.count ∙ sym count);
    within = subst (λ (cs : List Card). AllByRecursion (λ (c : Card). c.seen ≤ length q.view.seen) cs) (sym cards) (subst (λ (l : List Entry). AllByRecursion (λ (c : Card). c.seen ≤ length l) p.view.cards) (sym seen) h.within);
  }

  pub heard_asked : (call : Call) (r : Reply) → HasServed call r p q → length (filter is_after (take m (items_of seat items))) ≡ length (filter is_after (take n (items_of seat items))) → HasLearned items seat m q
  heard_asked call r served count =
      let d = served.done in
      let longer = begins_length p.view.seen q.view.seen served.seen in
      let firsts = all_weaker (λ (c : Card). c.seen ≤ length p.view.seen) (λ (c : Card). c.seen ≤ d.first) p.view.cards (λ c le. omega (arith, le, served.first)) h.within in
      let within = all_weaker (λ (c : Card). c.seen ≤ length p.view.seen) (λ (c : Card). c.seen ≤ length q.view.seen) p.view.cards (λ c le. omega (arith, le, longer)) h.within in
      record {
        heard = subst (λ (cs : List Card). AreHeard (heeds_of seat items) cs (pass_actor q).dones) (sym served.cards) (subst (λ (ds : List Done). AreHeard (heeds_of seat items) p.view.cards ds) (sym served.dones) (heard_done (heeds_of seat items) p.view.cards (pass_actor p).dones d h.heard firsts));
        count = ap length served.cards ∙ (h.count ∙ sym count);
        within = subst (λ (cs : List Card). AllByRecursion (λ (c : Card). c.seen ≤ length q.view.seen) cs) (sym served.cards) within;
      }

  pub heard_learnt : (c : Card) (x : Heed) → HasLearnt c p q → IsCardFor x.want c → slice_get (heeds_of seat items) (length p.view.cards) ≡ Some x → length (pass_actor p).dones ≤ x.behind → length (filter is_after (take m (items_of seat items))) ≡ length (filter is_after (take n (items_of seat items))) + 1 → HasLearned items seat m q
  heard_learnt c x learnt for here le count =
      let new : Card = record c { seen = length q.view.seen } in
      let longer = begins_length p.view.seen q.view.seen learnt.before in
      let for' : IsCardFor x.want new = record { seat = for.seat; calls = for.calls; learnt = for.learnt } in
      let within = all_weaker (λ (y : Card). y.seen ≤ length p.view.seen) (λ (y : Card). y.seen ≤ length q.view.seen) p.view.cards (λ y f. omega (arith, f, longer)) h.within in
      record {
        heard = subst (λ (cs : List Card). AreHeard (heeds_of seat items) cs (pass_actor q).dones) (sym learnt.cards) (subst (λ (a : Actor). AreHeard (heeds_of seat items) (p.view.cards ++ new ∷ []) a.dones) (sym learnt.kept.actor) (heard_card (heeds_of seat items) p.view.cards (pass_actor p).dones new x h.heard here for' le));
        count = ap length learnt.cards ∙ (length-append p.view.cards (new ∷ []) ∙ omega (arith, h.count, count));
        within = subst (λ (cs : List Card). AllByRecursion (λ (y : Card). y.seen ≤ length q.view.seen) cs) (sym learnt.cards) (all_more (λ (y : Card). y.seen ≤ length q.view.seen) 0 p.view.cards new within (omega arith));
      }

-- at its first item a pass has learnt nothing
pub heard_none : (items : List Item) (seat n : ℕ) (p : Standing) → n ≡ 0 → p.view.cards ≡ [] → HasLearned items seat n p
heard_none items seat n p first none = record {
  heard = subst (λ (cs : List Card). AreHeard (heeds_of seat items) cs (pass_actor p).dones) (sym none) tt;
  count = ap length none ∙ sym (ap (λ (k : ℕ). length (filter is_after (take k (items_of seat items)))) first);
  within = subst (λ (cs : List Card). AllByRecursion (λ (c : Card). c.seen ≤ length p.view.seen) cs) (sym none) tt;
}
