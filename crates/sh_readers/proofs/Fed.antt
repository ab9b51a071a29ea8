-- What a READ knows, by the words that it was fed.
use Rattle.std.{proofs.Common.{◌≡◌, ℕ, suc, ◌+◌, ◌≤◌, List, [], ◌∷◌, ◌++◌, length, get_or, set, sym, ap, ◌∙◌, subst, append-nil, arith}, specs.Prelude.{replicate}}
use Rattle.std.proofs.lemmas.List.{length-replicate}
use Rattle.sh_logic.proofs.Lists.{set_last}
use Rattle.sh_base.{specs.{declared.config.ConfigParts.{ConfigParts}, Setting.{node_size, IsSetting}, Layout.{node_word, rear_at}}, proofs.LayoutLemmas.{node_size_is}}
use Rattle.sh_image.specs.{Seen.{IsUntorn, SeenBy}, declared.read.Seen.TheVariants.{Odd}}
use Rattle.sh_state.specs.{TreeState.{Linked, TreeState, writing}, Ground.{Ground}}
use Rattle.sh_readers.{specs.{Points.{IsReadLeaf}, Knows.{IsKnown, fed_from, fed_words, IsFed}}, proofs.Known.{known_begin, known_load, known_leaf, known_inner, known_node}}

one_more : (p : ConfigParts) (x at : ℕ) (fed : List ℕ) → fed_from p fed ≡ at + 1 → set (fed_words p fed) at x ≡ fed_words p (x ∷ fed)
one_more p x at fed e =
    let more : fed_from p fed ≡ suc at = omega (arith, e) in
    let next : at ≡ fed_from p (x ∷ fed) = omega (arith, e) in
    ap (λ n. set (replicate n 0 ++ fed) at x) more ∙ set_last at x fed ∙ ap (λ n. replicate n 0 ++ x ∷ fed) next

first_word : (p : ConfigParts) (x : ℕ) → set (replicate (node_size p) 0) (rear_at p) x ≡ fed_words p (x ∷ [])
first_word p x =
    let none : fed_from p [] ≡ rear_at p + 1 = omega (arith, node_size_is p) in
    let all : node_size p ≡ fed_from p [] = omega arith in
    ap (λ (l : List ℕ). set l (rear_at p) x) (sym (append-nil (replicate (node_size p) 0)) ∙ ap (λ (n : ℕ). replicate n 0 ++ []) all) ∙ one_more p x (rear_at p) [] none

all_fed : (p : ConfigParts) (fed : List ℕ) → length fed ≡ node_size p → fed_words p fed ≡ fed
all_fed p fed all = let none : fed_from p fed ≡ 0 = omega (arith, all) in ap (λ n. replicate n 0 ++ fed) none

module _ (p : ConfigParts) (ok : IsSetting p) (words : List ℕ) (s : TreeState) (g : Ground p words s) where
  pub fed_first : (n l a first : ℕ) → s.class n ≡ Linked l a → first ≤ length s.log → IsFed p s.log first l (s.node n) (writing p s n) (get_or words (node_word p n + rear_at p) 0 ∷ [])
  fed_first n l a first e since =
      let x = get_or words (node_word p n + rear_at p) 0 in
      let from : rear_at p ≡ fed_from p (x ∷ []) = omega (arith, node_size_is p) in
      let K : ℕ → List ℕ → Type 0 = IsKnown p s.log first l (s.node n) (writing p s n) in
      subst (λ (z : ℕ × List ℕ). K z.0 z.1) (λ t. (from t, first_word p x t)) (known_begin p ok words s g n l a first (replicate (node_size p) 0) e since (length-replicate (node_size p) 0))

  pub fed_more : (n l a first at : ℕ) (fed : List ℕ) → s.class n ≡ Linked l a → fed_from p fed ≡ at + 1 → IsFed p s.log first l (s.node n) (writing p s n) fed → IsFed p s.log first l (s.node n) (writing p s n) (get_or words (node_word p n + at) 0 ∷ fed)
  fed_more n l a first at fed e left k =
      let x = get_or words (node_word p n + at) 0 in
      let from : at ≡ fed_from p (x ∷ fed) = omega (arith, left) in
      let K : ℕ → List ℕ → Type 0 = IsKnown p s.log first l (s.node n) (writing p s n) in
      subst (λ (z : ℕ × List ℕ). K z.0 z.1) (λ t. (from t, one_more p x at fed left t)) (known_load p ok words s g n l a first at (fed_words p fed) e (subst (λ (z : ℕ). K z (fed_words p fed)) left k))

  whole : (n l first : ℕ) (fed : List ℕ) → length fed ≡ node_size p → IsFed p s.log first l (s.node n) (writing p s n) fed → IsKnown p s.log first l (s.node n) (writing p s n) 0 fed
  whole n l first fed all k =
      let none : fed_from p fed ≡ 0 = omega (arith, all) in
      let K : ℕ → List ℕ → Type 0 = IsKnown p s.log first l (s.node n) (writing p s n) in
      subst (λ (z : ℕ × List ℕ). K z.0 z.1) (λ t. (none t, all_fed p fed all t)) k

  pub fed_leaf : (n a first : ℕ) (fed : List ℕ) → s.class n ≡ Linked 0 a → length fed ≡ node_size p → IsFed p s.log first 0 (s.node n) (writing p s n) fed → get_or fed 0 0 ≡ get_or words (node_word p n + 0) 0 → IsUntorn p fed → IsReadLeaf p s.log first (s.node n) fed
  fed_leaf n a first fed e all k last untorn = known_leaf p ok words s g n a first fed e (whole n 0 first fed all k) last untorn

  pub fed_inner : (n l a first : ℕ) (fed : List ℕ) → s.class n ≡ Linked (suc l) a → length fed ≡ node_size p → IsFed p s.log first (suc l) (s.node n) (writing p s n) fed → get_or fed 0 0 ≡ get_or words (node_word p n + 0) 0 → get_or fed 0 0 ≡ get_or fed (rear_at p) 0 → fed ≡ s.node n
  fed_inner n l a first fed e all k last agree = known_inner p ok words s g n l a first fed e (whole n (suc l) first fed all k) last agree

  pub fed_node : (n l a first : ℕ) (fed : List ℕ) → s.class n ≡ Linked l a → length fed ≡ node_size p → IsFed p s.log first l (s.node n) (writing p s n) fed → get_or fed 0 0 ≡ get_or words (node_word p n + 0) 0 → SeenBy p fed Odd → ⊥
  fed_node n l a first fed e all k last odd = known_node p ok words s g l n a first fed e (whole n l first fed all k) last odd
