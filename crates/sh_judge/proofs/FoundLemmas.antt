-- What is found, with one call or one row more.
use Rattle.std.{proofs.Common.{rules, ℕ, ◌≡◌, ◌≤◌, ◌<◌, ◌==◌, Bool, true, false, List, [], ◌∷◌, ◌++◌, get_or, set, replicate, refl, ap, sym, ◌∙◌, arith}, specs.Prelude.{max}}
use Rattle.std.proofs.lemmas.{Bool.{eqb-true, eqb-false}, List.{get_or-set_same, get_or-set_other, get_or-replicate, length-replicate, Sums.{fold-append}}}
use Rattle.sh_map.specs.declared.book.{Row.{Row}, Done.{Done}}
use Rattle.sh_judge.specs.{Reading.{least_after, least_first, with_end, with_last_row, with_row}, Reader.{HasLeast}}

least_more : (dones : List Done) (d : Done) (seat : ℕ) → least_first (dones ++ d ∷ []) seat ≡ with_end seat (least_first dones seat) d
unfolding least_first
least_more dones d seat = fold-append (with_end seat) 0 dones (d ∷ [])

least_none : (seat : ℕ) → least_first [] seat ≡ 0
unfolding least_first
least_none seat = refl

-- no call
pub has_none : (ends : List ℕ) → ends ≡ replicate 64 0 → HasLeast ends []
has_none ends is = rw is (record {
  long = length-replicate {A = ℕ} 64 0;
  each = λ seat small. get_or-replicate 64 seat 0 0 small ∙ sym (least_none seat);
})

module _ (ends : List ℕ) (dones : List Done) (d : Done) (small : d.seat ≤ 63) (was : HasLeast ends dones) (end : ℕ) (is : end ≡ max (least_first dones d.seat) (least_after d)) where
  more_at : (seat : ℕ) → seat < 64 → (t : Bool) → (d.seat == seat) ≡ t → get_or (set ends d.seat end) seat 0 ≡ least_first (dones ++ d ∷ []) seat
  more_at seat low true e =
      let same = eqb-true d.seat seat e in
      rw (least_more dones d seat, e, ← same) (get_or-set_same ends d.seat end 0 (omega (arith, was.long)) ∙ is)
  more_at seat low false e =
      rw (least_more dones d seat, e) (get_or-set_other ends d.seat seat end 0 (λ q. eqb-false d.seat seat e (sym q)) ∙ was.each seat low)

  -- one call more
  pub has_more : HasLeast (set ends d.seat end) (dones ++ d ∷ [])
  has_more = search (rules, more_at)

row_on : (front : List Done) (d : Done) (row : Row) → front ++ with_row d row ∷ [] ≡ with_last_row (front ++ d ∷ []) row
row_on [] d row = refl
row_on (x ∷ []) d row = refl
row_on (x ∷ y ∷ front) d row = ap (λ ds. x ∷ ds) (row_on (y ∷ front) d row)

has_row_on : (ends : List ℕ) (front : List Done) (d : Done) (row : Row) → HasLeast ends (front ++ d ∷ []) → HasLeast ends (front ++ with_row d row ∷ [])
has_row_on ends front d row was = record {
  long = was.long;
  each = λ seat low. was.each seat low ∙ least_more front d seat ∙ sym (least_more front (with_row d row) seat);
}

-- one row more of the last call
module _ (old front new : List Done) (d e : Done) (row : Row) (are : old ≡ front ++ d ∷ []) (with_it : e ≡ with_row d row) (become : new ≡ front ++ e ∷ []) where
  pub row_more : new ≡ with_last_row old row
  row_more = rw (become, with_it, are) (row_on front d row)

  pub has_row_more : (ends : List ℕ) → HasLeast ends old → HasLeast ends new
  has_row_more ends was = rw (become, with_it) (has_row_on ends front d row (rw are at was))
