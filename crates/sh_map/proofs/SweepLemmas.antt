-- A sweep over finished calls in the order of their points.
use Rattle.std.proofs.Common.{rules, ◌≡◌, ◌↔◌, ◌⊎◌, ℕ, ◌+◌, ◌<◌, Bool, true, List, [], ◌∷◌, ◌++◌, length, get_or, set, take, replicate, Some, inl, inr, refl, sym, ap, subst, ◌∙◌, arith, length-append, length-take-le}
use Rattle.std.{specs.{Prelude.{slice_get, All, Any, IsTrue}, List.Sorted.{IsPermutation}}, proofs.lemmas.Bool.{cases_eq}}
use Rattle.std.proofs.lemmas.List.{get_or-replicate, length-replicate, length-set, Elements.{All-nil, All-push}, Sorted.{All-permutation, Contains-permutation}}
use Rattle.std.proofs.lemmas.Option.{get_or_from_slice_get, slice_get_within}
use Rattle.sh_logic.proofs.Lists.{slice_get-push_back}
use Rattle.sh_map.specs.declared.{log.Entry.{Entry}, book.Done.{Done}, sweep.{Part.{Part}, Due.{Due}}, call.{Call.{Call}, Reply.{Reply}}}
use Rattle.sh_map.{specs.{Judge.{AsksNothing, FitsPart, RowsAnswer}, Tables.{AreKept}}, proofs.WalkLemmas.{any_from, any_push, one_more}}
use Rattle.sh_map.specs.declared.sweep.Part.TheVariants as part

-- each of these calls is due, or nothing is asked of its part
pub record AreDue (part : Part) (dones : List Done) (due : List Due) : Type 0 where
  pub within : All (λ x. x.place < length dones) due
  pub each : (i : ℕ) (d : Done) → slice_get dones i ≡ Some d → Any (λ x. x.place ≡ i) due ⊎ AsksNothing part d.call

module _ (part : Part) where
  pub due_none : (due : List Due) → due ≡ [] → AreDue part [] due
  due_none due is = record { within = subst (All (λ (x : Due). x.place < 0)) (sym is) (All-nil (λ (x : Due). x.place < 0)); each = λ i d here. absurd (cc) }

  module _ (dones : List Done) (at : ℕ) (d : Done) (in_range : at < length dones) (read : d ≡ get_or dones at d) (due : List Due) (h : AreDue part (take at dones) due) where
    long : length (take at dones) ≡ at
    long = length-take-le at dones (omega arith)

    grown : (new : List Due) → All (λ x. x.place < at + 1) new → ((i : ℕ) → Any (λ x. x.place ≡ i) due → Any (λ x. x.place ≡ i) new) → Any (λ x. x.place ≡ at) new ⊎ AsksNothing part d.call → AreDue part (take (at + 1) dones) new
    grown new all stays here = subst (λ (l : List Done). AreDue part l new) (one_more dones at d in_range read) (record {
      within = λ k x lt. omega (arith, all k x lt, length-append (take at dones) (d ∷ []), long);
      each = λ i x is. elim (slice_get-push_back (take at dones) d x i is) [
        | inl old ↦ elim (h.each i x old) [ inl some ↦ inl (stays i some) | inr none ↦ inr none ]
        | inr last ↦ subst (λ n. Any (λ (y : Due). y.place ≡ n) new ⊎ AsksNothing part x.call) (sym (last.0 ∙ long)) (subst (λ (y : Done). Any (λ (z : Due). z.place ≡ at) new ⊎ AsksNothing part y.call) last.1 here)
      ];
    })

    below : All (λ x. x.place < at + 1) due
    below = λ k x lt. omega (arith, h.within k x lt, long)

    pub due_more : (x : Due) → x.place ≡ at → AreDue part (take (at + 1) dones) (due ++ x ∷ [])
    due_more x is = grown (due ++ x ∷ []) (All-push (λ (y : Due). y.place < at + 1) due x below (omega arith)) (λ i some. (any_push (λ (y : Due). y.place ≡ i) due x).1 (inl some)) (inl ((any_push (λ (y : Due). y.place ≡ at) due x).1 (inr is)))

    pub due_kept : AsksNothing part d.call → AreDue part (take (at + 1) dones) due
    due_kept none = grown due below (λ i some. some) (inr none)

  pub due_sorted : (dones : List Done) (due sorted : List Due) → AreDue part dones due → IsPermutation due sorted → AreDue part dones sorted
  due_sorted dones due sorted h perm = record {
    within = All-permutation (λ (x : Due). x.place < length dones) due sorted perm h.within;
    each = λ i d is. elim (h.each i d is) [
      | inl some ↦ inl (any_from (λ (y : Due). y.place ≡ i) sorted some.1 (Contains-permutation due sorted some.1 perm (some.0, some.2, some.3)) some.4)
      | inr none ↦ inr none
    ];
  }

rows_fit : (log : List Entry) (d : Done) (asked : Call) (answer : Reply) → AsksNothing part.Rows asked → RowsAnswer log d asked answer
rows_fit log d asked answer none = search rules

nothing_fits : (part : Part) (log : List Entry) (d : Done) → AsksNothing part d.call → FitsPart part log d
nothing_fits part log d none = search (rules, rows_fit)

same_Done : {x y : Done} → Some x ≡ Some y → x ≡ y
same_Done h = cc

-- the call at place i was judged rightly
abbrev IsRight : Part → List Entry → List Done → List Bool → ℕ → Type 0
IsRight part log dones kept i = (d : Done) → slice_get dones i ≡ Some d → IsTrue (get_or kept i true) ↔ FitsPart part log d

-- all of these were
pub record AreSwept (part : Part) (log : List Entry) (dones : List Done) (due : List Due) (kept : List Bool) : Type 0 where
  pub long : length kept ≡ length dones
  pub each : All (λ x. IsRight part log dones kept x.place) due
  pub idle : (j : ℕ) (d : Done) → slice_get dones j ≡ Some d → AsksNothing part d.call → IsRight part log dones kept j

module _ (part : Part) (log : List Entry) (dones : List Done) where
  pub swept_none : (kept : List Bool) → kept ≡ replicate (length dones) true → AreSwept part log dones [] kept
  swept_none kept kept_is = record { long = ap length kept_is ∙ length-replicate (length dones) true; each = λ k d lt. absurd (omega arith); idle = λ j d here none x is. (λ _. subst (FitsPart part log) (same_Done (sym here ∙ is)) (nothing_fits part log d none), λ _. ap (λ l. get_or l j true) kept_is ∙ get_or-replicate (length dones) j true true (slice_get_within dones j d here)) }

  right_at : (kept : List Bool) (b : Bool) (i : ℕ) (x : Done) → length kept ≡ length dones → i < length dones → x ≡ get_or dones i x → (IsTrue b ↔ FitsPart part log x) → (j : ℕ) → (j ≡ i) ⊎ IsRight part log dones kept j → IsRight part log dones (set kept i b) j
  right_at kept b i x long in_range read told j h d is = search (rules, cases_eq, get_or_from_slice_get)

  -- a walk over the calls due, one on, which was read
  pub swept_more : (due : List Due) (at : ℕ) (one : Due) (kept : List Bool) (b : Bool) (x : Done) → at < length due → one ≡ get_or due at one → AreSwept part log dones (take at due) kept → one.place < length dones → x ≡ get_or dones one.place x → (IsTrue b ↔ FitsPart part log x) → AreSwept part log dones (take (at + 1) due) (set kept one.place b)
  swept_more due at one kept b x in_due is_one h in_range read told = record {
    long = length-set kept one.place b ∙ h.long;
    each = subst (λ (l : List Due). All (λ y. IsRight part log dones (set kept one.place b) y.place) l) (one_more due at one in_due is_one)
        (All-push (λ (y : Due). IsRight part log dones (set kept one.place b) y.place) (take at due) one
        (λ k d lt. right_at kept b one.place x h.long in_range read told (get_or (take at due) k d).place (inr (h.each k d lt)))
        (right_at kept b one.place x h.long in_range read told one.place (inl refl)));
    idle = λ j d here none. right_at kept b one.place x h.long in_range read told j (inr (h.idle j d here none));
  }

  pub swept_all : (due : List Due) (kept : List Bool) → ((i : ℕ) (d : Done) → slice_get dones i ≡ Some d → Any (λ x. x.place ≡ i) due ⊎ AsksNothing part d.call) → AreSwept part log dones due kept → AreKept (λ _ d. FitsPart part log d) dones kept
  swept_all due kept covers h = record {
    long = h.long;
    each = λ i d is. elim (covers i d is) [
      | inl at ↦
          let right : IsRight part log dones kept (get_or due at.0 at.1).place = h.each at.0 at.1 at.2 in
          subst (λ k. IsRight part log dones kept k) (ap (λ (y : Due). y.place) at.3 ∙ at.4) right d is
      | inr none ↦ h.idle i d is none d is
    ];
  }
