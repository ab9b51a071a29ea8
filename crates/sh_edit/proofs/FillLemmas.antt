-- Pairs that are written from entry 0 on.
use Rattle.std.proofs.Common.{rules, ◌≡◌, ℕ, zero, suc, ◌+◌, ◌-◌, ◌<◌, ◌≤◌, List, [], ◌∷◌, ◌++◌, length, get_or, set, take, drop, map, replicate, refl, sym, ap, ◌∙◌, length-append, arith}
use Rattle.std.proofs.lemmas.List.{take-map, drop-map, drop-replicate, take_all, get_or-map, length-take-le, length-drop, length-map}
use Rattle.sh_image.specs.{declared.leaf.LeafEntry.{LeafEntry}, Leaf.{Leaf}}
use Rattle.sh_edit.specs.Splitting.{entry_with, entries_from, pairs_after, left_count, pair_after, separator_of}

suc_is : (n : ℕ) → suc n ≡ n + 1
suc_is n = omega arith

-- one pair more is written
fill_more : (f : ℕ → LeafEntry) (ks : List ℕ) (es : List LeafEntry) (i : ℕ) → i < length ks → i < length es → set (map f (take i ks) ++ drop i es) i (f (get_or ks i 0)) ≡ map f (take (i + 1) ks) ++ drop (i + 1) es
fill_more f ks es i a b = by_steps ks es i a b ∙ ap (λ n. map f (take n ks) ++ drop n es) (suc_is i)
  where
    by_steps : (ks : List ℕ) (es : List LeafEntry) (i : ℕ) → i < length ks → i < length es → set (map f (take i ks) ++ drop i es) i (f (get_or ks i 0)) ≡ map f (take (suc i) ks) ++ drop (suc i) es
    by_steps [] es i a b = absurd (omega arith)
    by_steps (k ∷ ks) [] i a b = absurd (omega arith)
    by_steps (k ∷ ks) (e ∷ es) zero a b = refl
    by_steps (k ∷ ks) (e ∷ es) (suc i) a b = ap (λ l. f k ∷ l) (by_steps ks es i (omega arith) (omega arith))

-- the image after some of the keys
pub record IsFilled (old : Leaf) (f : ℕ → LeafEntry) (ks : List ℕ) (i : ℕ) (image : Leaf) : Type 0 where
  pub others : image ≡ record old { entries = image.entries }
  pub done : image.entries ≡ map f (take i ks) ++ drop i old.entries

module _ (old : Leaf) (f : ℕ → LeafEntry) (ks : List ℕ) where
  pub filled_more : (i : ℕ) (image new : Leaf) (e : LeafEntry) → i < length ks → length ks ≤ length old.entries → IsFilled old f ks i image → e ≡ f (get_or ks i 0) → new ≡ record image { entries = set image.entries i e } → IsFilled old f ks (i + 1) new
  filled_more i image new e below room h is now = search (rules, fill_more)

  pub filled_room : (i : ℕ) (image : Leaf) → i < length ks → length ks ≤ length old.entries → IsFilled old f ks i image → i < length image.entries
  filled_room i image below room h = omega (arith, ap length h.done, length-append (map f (take i ks)) (drop i old.entries), length-map (take i ks) f, length-take-le i ks (omega arith), length-drop i old.entries)

map_map : {A B C : Type 0} (f : B → C) (g : A → B) (xs : List A) → map f (map g xs) ≡ map (λ x. f (g x)) xs
map_map f g [] = refl
map_map f g (x ∷ xs) = ap (λ l. f (g x) ∷ l) (map_map f g xs)

pub filled_all : (old image : Leaf) (g : ℕ → ℕ × List ℕ) (ks : List ℕ) (i : ℕ) → length ks ≤ i → i ≤ length ks → IsFilled old (λ q. entry_with (g q)) ks i image → image ≡ record old { entries = map entry_with (map g ks) ++ drop (length ks) old.entries }
filled_all old image g ks i past within h = search (rules, take_all, map_map)

-- pairs in a leaf that had none
pub filled_fresh : (count : ℕ) (empty : LeafEntry) (g : ℕ → ℕ × List ℕ) (ks : List ℕ) → map entry_with (map g ks) ++ drop (length ks) (replicate count empty) ≡ entries_from count empty (map g ks)
filled_fresh count empty g ks = ap (λ l. map entry_with (map g ks) ++ l) (drop-replicate (length ks) count empty ∙ ap (λ n. replicate (count - n) empty) (sym (length-map ks g)))

module _ (es : List LeafEntry) (key : ℕ) (value : List ℕ) (ks : List ℕ) (same : map (pair_after es key value) ks ≡ pairs_after es key value) where
  pub left_filled : (cut : ℕ) → cut ≡ left_count es → map (pair_after es key value) (take cut ks) ≡ take (left_count es) (pairs_after es key value)
  left_filled cut is = sym (take-map (pair_after es key value) cut ks) ∙ (λ t. take (is t) (same t))

  pub right_filled : (cut : ℕ) → cut ≡ left_count es → map (pair_after es key value) (drop cut ks) ≡ drop (left_count es) (pairs_after es key value)
  right_filled cut is = sym (drop-map (pair_after es key value) cut ks) ∙ (λ t. drop (is t) (same t))

  pub separator_is : (cut : ℕ) → cut ≡ left_count es → cut < length ks → get_or ks cut 0 ≡ separator_of es key value
  separator_is cut is below = search (rules, get_or-map)

-- a fresh leaf that is filled
pub fresh_filled : (g : ℕ → ℕ × List ℕ) (part : List ℕ) (version low high next count : ℕ) (empty : LeafEntry) (fresh filled : Leaf) → fresh ≡ record { version = version; low = low; high = high; next = next; entries = replicate count empty } → filled ≡ record fresh { entries = map entry_with (map g part) ++ drop (length part) fresh.entries } → filled ≡ record { version = version; low = low; high = high; next = next; entries = entries_from count empty (map g part) }
fresh_filled g part version low high next count empty fresh filled made now = search (rules, filled_fresh)

pub rest_is : (ks : List ℕ) (cut : ℕ) → take (length ks - cut) (drop cut ks) ≡ drop cut ks
rest_is ks cut = take_all (length ks - cut) (drop cut ks) (omega (arith, length-drop cut ks))
