-- What is found after keeps and forgets was kept, and not forgotten or replaced since.
use Rattle.std.proofs.Common.{rules, ◌≡◌, ◌≢◌, ℕ, Bool, true, false, List, [], ◌∷◌, ◌++◌, refl, sym, subst, append_assoc, append-nil, arith}
use Rattle.std.{specs.{Prelude.{◌==◌, if◌then◌else◌, Some}, List.{AllByRecursion}}, proofs.lemmas.Bool.Decides.{nat_tests}}
use Rattle.sh_image.specs.Inner.{Inner}
use Rattle.sh_cache.specs.{Cached.{covers, forgotten, found, has_low, kept, replaced, HaveOwnLows}, Acts.{Act, Keep, Forget, LeavesRow, StillKept, after_act, rows_after}}
use Rattle.sh_cache.proofs.{FindLemmas.{found_has, found_covers}, RowLemmas.{apart_forgotten, apart_kept}}
use Rattle.sh_logic.proofs.Lists.{all_join, all_drop}

module _ (acts : List Act) where
  -- a row that was kept before stays so at an act that is about another low fence
  stays : (act : Act) (r : Inner) → LeavesRow r.low act → StillKept acts r → StillKept (acts ++ act ∷ []) r
  stays act r other h = search (rules, append_assoc, all_join)

  now_kept : (a : Inner) → StillKept (acts ++ Keep a ∷ []) a
  now_kept a = record { before = acts; behind = []; whole = refl; left = tt }

  all_stay : (act : Act) (rows : List Inner) → AllByRecursion (λ (r : Inner). LeavesRow r.low act) rows → AllByRecursion (StillKept acts) rows → AllByRecursion (StillKept (acts ++ act ∷ [])) rows
  all_stay act [] other h = tt
  all_stay act (r ∷ rows) other h = (stays act r other.0 h.0, all_stay act rows other.1 h.1)

-- rows without a low fence have others
others : (rows : List Inner) (low : ℕ) → has_low rows low ≡ false → AllByRecursion (λ (r : Inner). low ≢ r.low) rows
others [] low h = tt
others (r ∷ rows) low h = (grind (arith, nat_tests, h), others rows low (grind (arith, nat_tests, h)))

module _ (acts : List Act) (a : Inner) where
  kept_replaced : (rows : List Inner) → HaveOwnLows rows → AllByRecursion (StillKept acts) rows → AllByRecursion (StillKept (acts ++ Keep a ∷ [])) (replaced rows a)
  kept_replaced [] apart h = tt
  kept_replaced (r ∷ rows) apart h = cases (r.low == a.low) refl (kept_replaced rows apart.1 h.1)
    where
      cases : (b : Bool) → (r.low == a.low) ≡ b → AllByRecursion (StillKept (acts ++ Keep a ∷ [])) (replaced rows a) → AllByRecursion (StillKept (acts ++ Keep a ∷ [])) (if b then a ∷ rows else r ∷ replaced rows a)
      cases true e rest =
          let is : r.low ≡ a.low = grind (arith, nat_tests, e) in
          (now_kept acts a, all_stay acts (Keep a) rows (subst (λ l. AllByRecursion (λ (s : Inner). l ≢ s.low) rows) is (others rows r.low apart.0)) h.1)
      cases false e rest = (stays acts (Keep a) r (λ same. grind (arith, nat_tests, e, same)) h.0, rest)

  kept_pushed : (rows : List Inner) → has_low rows a.low ≡ false → AllByRecursion (StillKept acts) rows → AllByRecursion (StillKept (acts ++ Keep a ∷ [])) (rows ++ a ∷ [])
  kept_pushed rows none h = all_join (StillKept (acts ++ Keep a ∷ [])) rows (a ∷ []) (all_stay acts (Keep a) rows (others rows a.low none) h) (now_kept acts a, tt)

  kept_after : (room : ℕ) (rows : List Inner) → HaveOwnLows rows → AllByRecursion (StillKept acts) rows → AllByRecursion (StillKept (acts ++ Keep a ∷ [])) (kept room rows a)
  kept_after room rows apart h = search (rules, all_drop, kept_replaced, kept_pushed)

forgot_after : (acts : List Act) (low : ℕ) (rows : List Inner) → HaveOwnLows rows → AllByRecursion (StillKept acts) rows → AllByRecursion (StillKept (acts ++ Forget low ∷ [])) (forgotten rows low)
forgot_after acts low [] apart h = tt
forgot_after acts low (r ∷ rows) apart h = cases (r.low == low) refl (forgot_after acts low rows apart.1 h.1)
  where
    cases : (b : Bool) → (r.low == low) ≡ b → AllByRecursion (StillKept (acts ++ Forget low ∷ [])) (forgotten rows low) → AllByRecursion (StillKept (acts ++ Forget low ∷ [])) (if b then rows else r ∷ forgotten rows low)
    cases true e rest =
        let is : r.low ≡ low = grind (arith, nat_tests, e) in
        all_stay acts (Forget low) rows (subst (λ l. AllByRecursion (λ (s : Inner). l ≢ s.low) rows) is (others rows r.low apart.0)) h.1
    cases false e rest = (stays acts (Forget low) r (λ same. grind (arith, nat_tests, e, same)) h.0, rest)

module _ (room : ℕ) where
  apart_act : (rows : List Inner) (act : Act) → HaveOwnLows rows → HaveOwnLows (after_act room rows act)
  apart_act rows act h = search (rules, apart_kept, apart_forgotten)

  kept_act : (acts : List Act) (rows : List Inner) (act : Act) → HaveOwnLows rows → AllByRecursion (StillKept acts) rows → AllByRecursion (StillKept (acts ++ act ∷ [])) (after_act room rows act)
  kept_act acts rows act apart h = search (rules, kept_after, forgot_after)

  pub apart_acts : (rows : List Inner) (acts : List Act) → HaveOwnLows rows → HaveOwnLows (rows_after room rows acts)
  apart_acts rows [] h = h
  apart_acts rows (act ∷ acts) h = apart_acts (after_act room rows act) acts (apart_act rows act h)

  kept_acts : (done acts : List Act) (rows : List Inner) → HaveOwnLows rows → AllByRecursion (StillKept done) rows → AllByRecursion (StillKept (done ++ acts)) (rows_after room rows acts)
  kept_acts done [] rows apart h = subst (λ l. AllByRecursion (StillKept l) rows) (sym (append-nil done)) h
  kept_acts done (act ∷ acts) rows apart h =
      subst (λ l. AllByRecursion (StillKept l) (rows_after room (after_act room rows act) acts)) (append_assoc done (act ∷ []) acts) (kept_acts (done ++ act ∷ []) acts (after_act room rows act) (apart_act rows act apart) (kept_act done rows act apart h))

  pub found_kept : (acts : List Act) (key : ℕ) (a : Inner) → found (rows_after room [] acts) key ≡ Some a → StillKept acts a × (covers a key ≡ true)
  found_kept acts key a is = (found_has (StillKept acts) (rows_after room [] acts) key a is (kept_acts [] acts [] tt tt), found_covers (rows_after room [] acts) key a is)
