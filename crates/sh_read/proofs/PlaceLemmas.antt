-- The words that a READ was fed, in their places in the node.
use Rattle.std.{proofs.{Common.{◌≡◌, ℕ, suc, ◌+◌, List, [], ◌∷◌, ◌++◌, length, set, sym, ap, subst, ◌∙◌, append-nil, arith}, lemmas.List.{length-replicate}}, specs.Prelude.{replicate}}
use Rattle.sh_logic.proofs.Lists.{set_last}
use Rattle.sh_base.{specs.{declared.config.ConfigParts.{ConfigParts}, Setting.{node_size}, Layout.{rear_at}}, proofs.LayoutLemmas.{node_size_is}}
use Rattle.sh_read.{specs.{Moments.{Writing, word, IsNodeMoment}, Reading.{StoodIn, StoodWith, FitsRead}, Reads.{in_place, left_in}}, proofs.Read.{FitsRead-begin, stood-load}}

module _ (p : ConfigParts) where
  one_more : (x at : ℕ) (loaded : List ℕ) → left_in p loaded ≡ at + 1 → set (in_place p loaded) at x ≡ in_place p (x ∷ loaded)
  one_more x at loaded e =
      let more : left_in p loaded ≡ suc at = omega (arith, e) in
      let next : at ≡ left_in p (x ∷ loaded) = omega (arith, e) in
      ap (λ n. set (replicate n 0 ++ loaded) at x) more ∙ set_last at x loaded ∙ ap (λ n. replicate n 0 ++ x ∷ loaded) next

  pub in_place-all : (loaded : List ℕ) → length loaded ≡ node_size p → in_place p loaded ≡ loaded
  in_place-all loaded all = let none : left_in p loaded ≡ 0 = omega (arith, all) in ap (λ n. replicate n 0 ++ loaded) none

  module _ (level : ℕ) (stood : List (List ℕ)) (s : List ℕ) (w : Writing) (m : IsNodeMoment p level s w) where
    pub fits_first : FitsRead p level (StoodWith stood s) s w (left_in p (word p s w (rear_at p) ∷ [])) (in_place p (word p s w (rear_at p) ∷ []))
    fits_first =
        let x = word p s w (rear_at p) in
        let blank : List ℕ = replicate (node_size p) 0 in
        let from : rear_at p ≡ left_in p (x ∷ []) = omega (arith, node_size_is p) in
        let size : node_size p ≡ suc (rear_at p) = omega (arith, node_size_is p) in
        let placed : set blank (rear_at p) x ≡ in_place p (x ∷ []) = ap (λ n. set (replicate n 0) (rear_at p) x) size ∙ ap (λ l. set l (rear_at p) x) (sym (append-nil (replicate (suc (rear_at p)) 0))) ∙ set_last (rear_at p) x [] ∙ ap (λ n. replicate n 0 ++ x ∷ []) from in
        subst (λ n. FitsRead p level (StoodWith stood s) s w n (in_place p (x ∷ []))) from (subst (FitsRead p level (StoodWith stood s) s w (rear_at p)) placed (FitsRead-begin p level (StoodWith stood s) s w blank m (length-replicate (node_size p) 0)))

    pub fits_more : (loaded : List ℕ) (at : ℕ) → StoodIn stood s → left_in p loaded ≡ at + 1 → FitsRead p level (StoodWith stood s) s w (left_in p loaded) (in_place p loaded) → FitsRead p level (StoodWith stood s) s w (left_in p (word p s w at ∷ loaded)) (in_place p (word p s w at ∷ loaded))
    fits_more loaded at was e r =
        let from : at ≡ left_in p (word p s w at ∷ loaded) = omega (arith, e) in
        subst (λ n. FitsRead p level (StoodWith stood s) s w n (in_place p (word p s w at ∷ loaded))) from (subst (FitsRead p level (StoodWith stood s) s w at) (one_more (word p s w at) at loaded e) (stood-load p level stood s w at (in_place p loaded) m was (subst (λ n. FitsRead p level (StoodWith stood s) s w n (in_place p loaded)) e r)))
