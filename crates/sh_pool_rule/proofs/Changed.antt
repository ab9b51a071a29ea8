-- Views that come, or are spent; and the longer of two beginnings.
use Rattle.std.proofs.Common.{rules, ◌≡◌, ◌⊎◌, ℕ, zero, suc, ◌≤◌, List, [], ◌∷◌, ◌++◌, length, set, refl, ap, sym, ◌∙◌, ⊎_elim, inl, inr, arith, append-nil, length-append, drop}
use Rattle.std.proofs.lemmas.List.{length-drop}
use mathlib.Core.{Option.{some, some-injective, some-ne-none}}
use lib.ListN.{get_elem?}
use Rattle.atomic_table.proofs.Lists.{at_set, set_else, at_longer}
use Rattle.sh_map.specs.declared.log.Entry.{Entry}
use Rattle.sh_core.specs.{Actors.{Actor}, Core.{Moves}}
use Rattle.sh_local.proofs.Sums.{same_at}
use Rattle.sh_pool_rule.{specs.{declared.view.PassView.{PassView}, Views.{empty_view, longer, Begins, Has}}, proofs.Relations.{none_in}}

pub at_length : (vs : List PassView) (v : PassView) (id : ℕ) (u : PassView) → get_elem? (vs ++ v ∷ []) id ≡ some u → (get_elem? vs id ≡ some u) ⊎ ((id ≡ length vs) × (v ≡ u))
at_length [] v zero u h = inr (refl, some-injective v u h)
at_length [] v (suc i) u h = absurd (some-ne-none u (sym h))
at_length (w ∷ vs) v zero u h = inl h
at_length (w ∷ vs) v (suc i) u h = ⊎_elim (λ e. inl e) (λ (t : (i ≡ length vs) × (v ≡ u)). inr (ap suc t.0, t.1)) (at_length vs v i u h)

-- a view with no seat comes
pub more_moves : (vs : List PassView) (v : PassView) (Has' : ℕ → Actor → Type 0) (k : ℕ) (a : Actor) → v.members ≡ [] → Moves Has' k a (Has vs) → Moves Has' k a (Has (vs ++ v ∷ []))
more_moves vs v h2 k a none m = search (rules, none_in, at_length, at_longer)

-- a view with no seat is spent
pub spent_moves : (vs : List PassView) (other : ℕ) (w : PassView) (Has' : ℕ → Actor → Type 0) (k : ℕ) (a : Actor) → get_elem? vs other ≡ some w → w.members ≡ [] → Moves Has' k a (Has vs) → Moves Has' k a (Has (set vs other empty_view))
spent_moves vs other w h3 k a at none m = search (rules, same_at, none_in, set_else, at_set)

-- ---- the longer of two beginnings

pub longer_long : (xs ys : List Entry) → (length xs ≤ length (longer xs ys)) × (length ys ≤ length (longer xs ys))
longer_long xs ys = let l = length-append xs (drop (length xs) ys) in let d = length-drop (length xs) ys in (omega (arith, l), omega (arith, l, d))

abbrev tail_of : List Entry → List Entry
tail_of [] = []
tail_of (x ∷ xs) = xs

begins_long : (xs ys rs ss : List Entry) → xs ++ rs ≡ ys ++ ss → (rest : List Entry) × (xs ++ rs ≡ longer xs ys ++ rest)
begins_long [] ys rs ss e = (ss, e)
begins_long (x ∷ xs) [] rs ss e = (rs, ap (λ (zs : List Entry). x ∷ (zs ++ rs)) (sym (append-nil xs)))
begins_long (x ∷ xs) (y ∷ ys) rs ss e = let r = begins_long xs ys rs ss (ap tail_of e) in (r.0, ap (λ (zs : List Entry). x ∷ zs) r.1)

pub longer_begins : (xs ys log : List Entry) → Begins xs log → Begins ys log → Begins (longer xs ys) log
longer_begins xs ys log (rs, e) (ss, f) = let r = begins_long xs ys rs ss (sym e ∙ f) in (r.0, e ∙ r.1)

abbrev head_or : Entry → List Entry → Entry
head_or x [] = x
head_or x (y ∷ ys) = y

long_second : (xs ys rs ss : List Entry) → xs ++ rs ≡ ys ++ ss → Begins ys (longer xs ys)
long_second [] ys rs ss e = ([], sym (append-nil ys))
long_second (x ∷ xs) [] rs ss e = (longer (x ∷ xs) [], refl)
long_second (x ∷ xs) (y ∷ ys) rs ss e =
    let r = long_second xs ys rs ss (ap tail_of e) in
    let h : x ≡ y = ap (head_or x) e in
    (r.0, (λ i. h i ∷ r.1 i))

pub longer_second : (xs ys log : List Entry) → Begins xs log → Begins ys log → Begins ys (longer xs ys)
longer_second xs ys log (rs, e) (ss, f) = long_second xs ys rs ss (sym e ∙ f)

-- a beginning as long as the whole is the whole
pub begins_all : (xs log : List Entry) → Begins xs log → length log ≤ length xs → xs ≡ log
begins_all xs log ([], e) h = sym (e ∙ append-nil xs)
begins_all xs log (x ∷ rest, e) h = absurd (omega (arith, h, ap length e, length-append xs (x ∷ rest)))

-- with the log among them, the longer one is the log
pub longer_all : (xs ys log : List Entry) → Begins xs log → Begins ys log → (xs ≡ log) ⊎ (ys ≡ log) → longer xs ys ≡ log
longer_all xs ys log b c h = search (rules, longer_long, begins_all, longer_begins)
