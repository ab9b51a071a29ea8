-- The walk along the levels, step by step; and that it goes one way.
use Rattle.std.proofs.Common.{rules, ◌≡◌, ◌⊎◌, ℕ, suc, ◌+◌, List, [], ◌∷◌, ◌++◌, length, refl, sym, ap, subst, ◌∙◌, inl, inr, length-append, arith}
use Rattle.sh_base.specs.declared.config.ConfigParts.{ConfigParts}
use Rattle.sh_tree.specs.Nodes.{high_at, next_at}
use Rattle.sh_picture.specs.{Walk.{first_child, root_of, IsAlong, IsDown, IsLevel, IsSoundNode, IsUnsound, IsWalked}, Walks.{StopsAt}}

module _ (p : ConfigParts) (words : List ℕ) where
  -- ---- one node more, and one level more
  pub along_more : (level number low : ℕ) (ns : List ℕ) (node high : ℕ) → IsAlong p words level number low ns node high → IsSoundNode p words level high node → IsAlong p words level number low (ns ++ node ∷ []) (next_at p words node) (high_at p words node)
  along_more level number low [] node high h s = (sym h.0, subst (λ (l : ℕ). IsSoundNode p words level l node) h.1 s, (refl, refl))
  along_more level number low (n ∷ ns) node high h s = (h.0, h.1, along_more level (next_at p words n) (high_at p words n) ns node high h.2 s)

  -- the same where the names of its parts differ
  pub along_here : (level number low : ℕ) (ns ms : List ℕ) (a b high other : ℕ) → ns ≡ ms → a ≡ b → high ≡ other → IsAlong p words level number low ms b other → IsAlong p words level number low ns a high
  along_here level number low ns ms a b high other e f g h = search rules

  level_to : (a b first : ℕ) (ns : List ℕ) → a ≡ b → IsLevel p words a first ns → IsLevel p words b first ns
  level_to a b first ns e h = subst (λ (l : ℕ). IsLevel p words l first ns) e h

  pub down_more : (left first : ℕ) (above : List (List ℕ)) (number : ℕ) (ns : List ℕ) → IsDown p words (suc left) first above number → IsLevel p words left number ns → IsDown p words left first (above ++ ns ∷ []) (first_child p words number)
  down_more left first [] number ns h k = (level_to left (0 + left) first ns (omega arith) (subst (λ (f : ℕ). IsLevel p words left f ns) h k), ap (first_child p words) h)
  down_more left first (c ∷ above) number ns h k =
      let e : length above + suc left ≡ length (above ++ ns ∷ []) + left = omega (arith, length-append above (ns ∷ [])) in
      (level_to (length above + suc left) (length (above ++ ns ∷ []) + left) first c e h.0, down_more left (first_child p words first) above number ns h.1 k)

  -- ---- the walk goes one way
  -- it goes no further from a number: 0, or one that isn't sound
  abbrev pub Ends : (level low number : ℕ) → Type 0
  Ends level low number = (number ≡ 0) ⊎ (IsSoundNode p words level low number → ⊥)

  sound_ends : (level low number : ℕ) → IsSoundNode p words level low number → Ends level low number → ⊥
  sound_ends level low number s h4 = search rules

  pub along_one : (level number low : ℕ) (ns ms : List ℕ) (a b high other : ℕ) → IsAlong p words level number low ns a high → Ends level high a → IsAlong p words level number low ms b other → Ends level other b → (ns ≡ ms) × (a ≡ b)
  along_one level number low [] [] a b high other h x k y = (refl, h.0 ∙ sym k.0)
  along_one level number low [] (m ∷ ms) a b high other h x k y =
      let s : IsSoundNode p words level high a = subst (λ (l : ℕ). IsSoundNode p words level l a) (sym h.1) (subst (IsSoundNode p words level low) (sym (h.0 ∙ k.0)) k.1) in
      absurd (sound_ends level high a s x)
  along_one level number low (n ∷ ns) [] a b high other h x k y =
      let s : IsSoundNode p words level other b = subst (λ (l : ℕ). IsSoundNode p words level l b) (sym k.1) (subst (IsSoundNode p words level low) (sym (k.0 ∙ h.0)) h.1) in
      absurd (sound_ends level other b s y)
  along_one level number low (n ∷ ns) (m ∷ ms) a b high other h x k y =
      let same : n ≡ m = sym h.0 ∙ k.0 in
      let rest = along_one level (next_at p words n) (high_at p words n) ns ms a b high other h.2 x (subst (λ (q : ℕ). IsAlong p words level (next_at p words q) (high_at p words q) ms b other) (sym same) k.2) y in
      ((λ t. same t ∷ rest.0 t), rest.1)

  pub level_one : (level first : ℕ) (ns ms : List ℕ) → IsLevel p words level first ns → IsLevel p words level first ms → ns ≡ ms
  level_one level first ns ms h k = (along_one level first 0 ns ms 0 0 h.high k.high h.along (inl refl) k.along (inl refl)).0

  pub stop_one : (level first a b : ℕ) → StopsAt p words level first a → StopsAt p words level first b → a ≡ b
  stop_one level first a b h k = (along_one level first 0 h.before k.before a b h.low k.low h.along (inr h.unsound) k.along (inr k.unsound)).1

  pub level_stops : (level first : ℕ) (ns : List ℕ) (a : ℕ) → IsLevel p words level first ns → StopsAt p words level first a → ⊥
  level_stops level first ns a h k = k.some (sym (along_one level first 0 ns k.before 0 a h.high k.low h.along (inl refl) k.along (inr k.unsound)).1)

  pub down_one : (first : ℕ) (ls ms : List (List ℕ)) (a b : ℕ) → length ls ≡ length ms → IsDown p words 0 first ls a → IsDown p words 0 first ms b → ls ≡ ms
  down_one first [] [] a b long h k = refl
  down_one first [] (m ∷ ms) a b long h k = absurd (omega (arith, long))
  down_one first (l ∷ ls) [] a b long h k = absurd (omega (arith, long))
  down_one first (l ∷ ls) (m ∷ ms) a b long h k =
      let e : length ms + 0 ≡ length ls + 0 = omega (arith, long) in
      let head = level_one (length ls + 0) first l m h.0 (level_to (length ms + 0) (length ls + 0) first m e k.0) in
      let rest = down_one (first_child p words first) ls ms a b (omega (arith, long)) h.1 k.1 in
      λ t. head t ∷ rest t

  -- where one walk stops on a level, another doesn't go along the whole of it
  down_stops : (level first : ℕ) (above ls : List (List ℕ)) (number a b : ℕ) → length ls ≡ length above + suc level → IsDown p words (suc level) first above number → StopsAt p words level number a → IsDown p words 0 first ls b → ⊥
  down_stops level first [] [] number a b long h s k = omega (arith, long)
  down_stops level first [] (l ∷ ls) number a b long h s k =
      let e : length ls + 0 ≡ level = omega (arith, long) in
      level_stops level first l a (level_to (length ls + 0) level first l e k.0) (subst (λ (f : ℕ). StopsAt p words level f a) h s)
  down_stops level first (c ∷ above) [] number a b long h s k = omega (arith, long)
  down_stops level first (c ∷ above) (l ∷ ls) number a b long h s k =
      down_stops level (first_child p words first) above ls number a b (omega (arith, long)) h.1 s k.1

  pub walked_one : (ls ms : List (List ℕ)) → IsWalked p words ls → IsWalked p words ms → ls ≡ ms
  walked_one ls ms h k = down_one (root_of words) ls ms h.comes_to k.comes_to (h.top ∙ sym k.top) h.down k.down

  stop_of : (level number : ℕ) (h : IsUnsound p words level number) → StopsAt p words level h.first number
  stop_of level number h = record { before = h.before; low = h.low; along = h.along; some = h.some; unsound = h.unsound }

  pub walked_stops : (ls : List (List ℕ)) (level number : ℕ) → IsWalked p words ls → IsUnsound p words level number → ⊥
  walked_stops ls level number h k =
      down_stops level (root_of words) k.above ls k.first number h.comes_to (omega (arith, h.top, k.top)) k.down (stop_of level number k) h.down

  -- two stops are one
  stops_meet : (first : ℕ) (above other : List (List ℕ)) (la lb fa fb a b : ℕ) → length above + la ≡ length other + lb → IsDown p words (suc la) first above fa → StopsAt p words la fa a → IsDown p words (suc lb) first other fb → StopsAt p words lb fb b → (la ≡ lb) × (a ≡ b)
  stops_meet first [] [] la lb fa fb a b top h s k t =
      let e : lb ≡ la = omega (arith, top) in
      (sym e, stop_one la first a b (subst (λ (f : ℕ). StopsAt p words la f a) h s) (subst (λ (l : ℕ). StopsAt p words l first b) e (subst (λ (f : ℕ). StopsAt p words lb f b) k t)))
  stops_meet first [] (m ∷ other) la lb fa fb a b top h s k t =
      let e : length other + suc lb ≡ la = omega (arith, top) in
      absurd (level_stops la first m a (level_to (length other + suc lb) la first m e k.0) (subst (λ (f : ℕ). StopsAt p words la f a) h s))
  stops_meet first (l ∷ above) [] la lb fa fb a b top h s k t =
      let e : length above + suc la ≡ lb = omega (arith, top) in
      absurd (level_stops lb first l b (level_to (length above + suc la) lb first l e h.0) (subst (λ (f : ℕ). StopsAt p words lb f b) k t))
  stops_meet first (l ∷ above) (m ∷ other) la lb fa fb a b top h s k t =
      stops_meet (first_child p words first) above other la lb fa fb a b (omega (arith, top)) h.1 s k.1 t

  pub unsound_one : (la lb a b : ℕ) → IsUnsound p words la a → IsUnsound p words lb b → (la ≡ lb) × (a ≡ b)
  unsound_one la lb a b h k =
      stops_meet (root_of words) h.above k.above la lb h.first k.first a b (sym h.top ∙ k.top) h.down (stop_of la a h) k.down (stop_of lb b k)
