-- Bounds of the calls so far, and rules that are kept.
use Rattle.std.proofs.Common.{rules, ◌≡◌, ◌↔◌, ℕ, ◌+◌, ◌<◌, ◌≤◌, Bool, true, List, [], ◌∷◌, ◌++◌, length, get_or, take, max, Some, inl, inr, sym, ap, subst, ◌∙◌, arith, length-append}
use Rattle.std.{specs.{Prelude.{IsTrue, unwrap_or}, Ordering.{nat_cmp}, BTreeMap.{BTreeMap, Updates}}, proofs.lemmas.Bool.{cases_eq}}
use Rattle.std.proofs.lemmas.{List.{take-append-le, take_all, get_or_append_left, get_or_push}, Option.{slice_get_within}}
use Rattle.std.specs.BTreeMap as tree
use Rattle.sh_logic.proofs.Lists.{slice_get-push_back}
use Rattle.sh_map.{specs.{declared.book.Done.{Done}, Book.{made}, Judge.{FitsOrder}, Tables.{AreKept, AreBounds}}, proofs.{MapLemmas.{apart_test}, WalkLemmas.{all_push, one_more}}}

abbrev Ends : ℕ → ℕ → Done → Type 0
Ends seat first x = x.seat ≡ seat → x.point + made x.call x.reply ≤ first

pub bounds_none : (ends : BTreeMap ℕ ℕ) → ends.entries ≡ [] → AreBounds [] 0 ends
bounds_none ends empty = search rules

module _ (before : List Done) (above : ℕ) (ends : BTreeMap ℕ ℕ) (h : AreBounds before above ends) (d : Done) where
  -- a test of the bounds is one of the order
  pub order_decides : (end : ℕ) → end ≡ unwrap_or (tree.get nat_cmp ends d.seat) 0 → (b : Bool) → (IsTrue b ↔ ((d.first ≤ d.point) × (above ≤ d.n) × (end ≤ d.first))) → IsTrue b ↔ FitsOrder before d
  order_decides end is b told = (
    λ yes.
        let t = told.0 yes in
        let numbers = (h.number d.n).0 t.1 in
        let order = (h.end d.seat d.first).0 (subst (λ n. n ≤ d.first) is t.2) in
        (t.0, λ k x lt. record { number = numbers k x lt; order = order k x lt }),
    λ fits. told.1 (
      fits.0,
      (h.number d.n).1 (λ k x lt. (fits.1 k x lt).number),
      subst (λ n. n ≤ d.first) (sym is) ((h.end d.seat d.first).1 (λ k x lt. (fits.1 k x lt).order)),
    ),
  )

  bounds_push : (more end : ℕ) (new : BTreeMap ℕ ℕ) → more ≡ max above (d.n + 1) → end ≡ max (unwrap_or (tree.get nat_cmp ends d.seat) 0) (d.point + made d.call d.reply) → Updates nat_cmp ends new d.seat (Some end) → AreBounds (before ++ d ∷ []) more new
  bounds_push more end new is end_is updates = record {
    number = λ n.
        let p = all_push (λ (x : Done). x.n < n) before d in
        (λ le. p.1 ((h.number n).0 (omega arith), omega arith), λ all. let q = p.0 all in let old : above ≤ n = (h.number n).1 q.0 in omega (arith, q.1));
    end = λ seat first.
        let p = all_push (Ends seat first) before d in
        elim (cases_eq seat d.seat) [
          | inl same ↦
              let now : tree.get nat_cmp new seat ≡ Some end = ap (tree.get nat_cmp new) same ∙ updates.1 in
              let told = h.end seat first in
              let before_is : tree.get nat_cmp ends seat ≡ tree.get nat_cmp ends d.seat = ap (tree.get nat_cmp ends) same in (
                λ le.
                    let small : end ≤ first = subst (λ o. unwrap_or o 0 ≤ first) now le in
                    p.1 (told.0 (subst (λ o. unwrap_or o 0 ≤ first) (sym before_is) (omega arith)), λ _. omega arith),
                λ all.
                    let q = p.0 all in
                    let old : unwrap_or (tree.get nat_cmp ends d.seat) 0 ≤ first = subst (λ o. unwrap_or o 0 ≤ first) before_is (told.1 q.0) in
                    subst (λ o. unwrap_or o 0 ≤ first) (sym now) (omega (arith, q.1 (sym same))),
              )
          | inr differ ↦
              let stays : tree.get nat_cmp new seat ≡ tree.get nat_cmp ends seat = updates.2 seat (apart_test d.seat seat (λ e. differ (sym e))) in
              let told = h.end seat first in (
                λ le. p.1 (told.0 (subst (λ o. unwrap_or o 0 ≤ first) stays le), λ e. absurd (differ (sym e))),
                λ all. subst (λ o. unwrap_or o 0 ≤ first) (sym stays) (told.1 (p.0 all).0),
              )
        ];
  }

-- a walk over the calls, one on, which was read
module _ (dones : List Done) (at : ℕ) (d : Done) (in_range : at < length dones) (read : d ≡ get_or dones at d) where
  pub bounds_more : (above more old own end : ℕ) (ends new : BTreeMap ℕ ℕ) → AreBounds (take at dones) above ends → more ≡ max above (d.n + 1) → old ≡ unwrap_or (tree.get nat_cmp ends d.seat) 0 → own ≡ d.point + made d.call d.reply → end ≡ max old own → Updates nat_cmp ends new d.seat (Some end) → AreBounds (take (at + 1) dones) more new
  bounds_more above more old own end ends new h is old_is own_is end_is updates = subst (λ (l : List Done). AreBounds l more new) (one_more dones at d in_range read) (bounds_push (take at dones) above ends h d more end new is (end_is ∙ ap (λ o. max o own) old_is ∙ ap (max (unwrap_or (tree.get nat_cmp ends d.seat) 0)) own_is) updates)

kept_push : (Fits : List Done → Done → Type 0) (xs : List Done) (d : Done) (kept : List Bool) (b : Bool) → AreKept Fits xs kept → (IsTrue b ↔ Fits xs d) → AreKept Fits (xs ++ d ∷ []) (kept ++ b ∷ [])
kept_push Fits xs d kept b h told = record {
  long = length-append kept (b ∷ []) ∙ ap (λ n. n + 1) h.long ∙ sym (length-append xs (d ∷ []));
  each = λ i x is. elim (slice_get-push_back xs d x i is) [
    | inl old ↦
        let small : i < length xs = slice_get_within xs i x old in
        let same : get_or (kept ++ b ∷ []) i true ≡ get_or kept i true = get_or_append_left kept (b ∷ []) true i (omega (arith, h.long)) in
        let prefix : take i (xs ++ d ∷ []) ≡ take i xs = take-append-le i xs (d ∷ []) (omega arith) in
        (λ yes. subst (λ l. Fits l x) (sym prefix) ((h.each i x old).0 (sym same ∙ yes)), λ fits. same ∙ (h.each i x old).1 (subst (λ l. Fits l x) prefix fits))
    | inr new ↦
        let same : get_or (kept ++ b ∷ []) i true ≡ b = get_or_push kept b true i (h.long ∙ sym new.0) in
        let prefix : take i (xs ++ d ∷ []) ≡ xs = take-append-le i xs (d ∷ []) (omega (arith, new.0)) ∙ take_all i xs (omega (arith, new.0)) in
        (λ yes. subst (λ l. Fits l x) (sym prefix) (subst (Fits xs) new.1 (told.0 (sym same ∙ yes))), λ fits. same ∙ told.1 (subst (Fits xs) (sym new.1) (subst (λ l. Fits l x) prefix fits)))
  ];
}

pub kept_none : (Fits : List Done → Done → Type 0) (kept : List Bool) → kept ≡ [] → AreKept Fits [] kept
kept_none Fits kept is = record { long = ap length is; each = λ i d here. absurd (cc) }

pub kept_more : (Fits : List Done → Done → Type 0) (dones : List Done) (at : ℕ) (d : Done) (kept : List Bool) (b : Bool) → at < length dones → d ≡ get_or dones at d → AreKept Fits (take at dones) kept → (IsTrue b ↔ Fits (take at dones) d) → AreKept Fits (take (at + 1) dones) (kept ++ b ∷ [])
kept_more Fits dones at d kept b in_range read h told = subst (λ (l : List Done). AreKept Fits l (kept ++ b ∷ [])) (one_more dones at d in_range read) (kept_push Fits (take at dones) d kept b h told)
