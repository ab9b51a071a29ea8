-- Of some bytes there is one first place at most.
use Rattle.std.{specs.Prelude.{slice_index}, proofs.{Common.{rules, ◌≡◌, ℕ, zero, suc, ◌+◌, ◌-◌, ◌<◌, ◌≤◌, List, Some, None, length, refl, sym, ap, subst, ◌∙◌, inl, inr, arith}, lemmas.Bool.{cases_lt}}}
use Rattle.sh_base.specs.declared.config.{ConfigParts.{ConfigParts}, ConfigFault.{ConfigFault, TheVariants.{Servers}}}
use Rattle.sh_tree.specs.Tree.{leaves_of}
use Rattle.sh_picture.specs.{Picture.{parts_spelled, words_in}, Walk.{root_of, IsSpelled, IsWalked}}
use Rattle.sh_picture.specs.Tree.{keys_at, level_nodes, pair_count, AllLead, IsFirstAstray, IsFirstBad, IsFirstTwice, IsLeastTwice, IsOnce, LeadsBelow, LevelLeads, NodeLeads}
use Rattle.sh_picture.specs.{Fault.{HasMagic, HasSetting, HasWords, IsFirstPlace, IsIdle, IsMagicAt}, declared.place.FirstPlace.{FirstPlace}}
use Rattle.sh_picture.{specs.declared.place.FirstPlace.TheVariants.{Short, Magic, Setting, Length, Zero, Lock, Root, Chain, Pair, Twice}, proofs.WalkLemmas.{unsound_one, walked_one, walked_stops}}

pub first_one : (Good : ℕ → Type 0) (count a b : ℕ) → IsFirstBad Good count a → IsFirstBad Good count b → a ≡ b
first_one h0 count a b h k = search (rules, cases_lt)

module _ (p : ConfigParts) (words : List ℕ) where
  astray_one : (ls ms : List (List ℕ)) (n i m j : ℕ) → IsWalked p words ls → IsWalked p words ms → IsFirstAstray p words ls n i → IsFirstAstray p words ms m j → (n ≡ m) × (i ≡ j)
  astray_one ls ms n i m j w v h k = go (subst (λ (l : List (List ℕ)). IsFirstAstray p words l m j) (walked_one p words ms ls v w) k)
    where
      go : IsFirstAstray p words ls m j → (n ≡ m) × (i ≡ j)
      go k =
          let d : h.d ≡ k.d = first_one (LevelLeads p words ls) _ h.d k.d h.level k.level in
          let place : h.place ≡ k.place = first_one (NodeLeads p words ls h.d) _ h.place k.place h.among (subst (λ (e : ℕ). IsFirstBad (NodeLeads p words ls e) (length (level_nodes ls e)) k.place) (sym d) k.among) in
          let node : n ≡ m = h.node_is ∙ (λ t. slice_index (level_nodes ls (d t)) (place t)) ∙ sym k.node_is in
          (node, first_one _ _ i j h.pair (subst (λ (q : ℕ). IsFirstBad (LeadsBelow p words (level_nodes ls (suc h.d)) q) (pair_count p words q) j) (sym node) (subst (λ (e : ℕ). IsFirstBad (LeadsBelow p words (level_nodes ls (suc e)) m) (pair_count p words m) j) (sym d) k.pair)))

  twice_one : (ls ms : List (List ℕ)) (n x m y : ℕ) → IsWalked p words ls → IsWalked p words ms → IsFirstTwice p words (leaves_of ls) n x → IsFirstTwice p words (leaves_of ms) m y → (n ≡ m) × (x ≡ y)
  twice_one ls ms n x m y w v h k = go (subst (λ (l : List (List ℕ)). IsFirstTwice p words (leaves_of l) m y) (walked_one p words ms ls v w) k)
    where
      go : IsFirstTwice p words (leaves_of ls) m y → (n ≡ m) × (x ≡ y)
      go k =
          let place : h.place ≡ k.place = first_one (IsOnce p words (leaves_of ls)) _ h.place k.place h.leaf k.leaf in
          let node : n ≡ m = h.node_is ∙ ap (slice_index (leaves_of ls)) place ∙ sym k.node_is in
          let other : IsLeastTwice (keys_at p words n) y = subst (λ (q : ℕ). IsLeastTwice (keys_at p words q) y) (sym node) k.key_is in
          let low : x ≤ y = h.key_is.least y other.twice in
          let high : y ≤ x = other.least x h.key_is.twice in
          (node, omega (arith, low, high))

no_lead : (p : ConfigParts) (words : List ℕ) (ls ms : List (List ℕ)) (n i : ℕ) → IsWalked p words ls → IsFirstAstray p words ls n i → IsWalked p words ms → AllLead p words ms → ⊥
no_lead p words ls ms n i w h v lead = h.level.here (subst (AllLead p words) (walked_one p words ms ls v w) lead h.d (omega (arith, h.level.below)))

-- ---- how far a place has come
rank : FirstPlace → ℕ
rank Short = 0
rank (Magic at) = 1
rank (Setting fault) = 2
rank (Length len) = 3
rank Zero = 4
rank (Lock lock) = 5
rank Root = 6
rank (Chain level node) = 7
rank (Pair node index) = 8
rank (Twice node key) = 9

module _ (bytes : List ℕ) where
  -- what the place of this rank asks for doesn't hold, and all places before it don't either
  Passes : ℕ → Type 0
  Passes (zero) = 56 ≤ length bytes
  Passes (suc zero) = HasMagic bytes
  Passes (suc (suc zero)) = HasSetting bytes
  Passes (suc (suc (suc zero))) = HasWords bytes
  Passes (suc (suc (suc (suc zero)))) = HasWords bytes × (slice_index (words_in bytes) 0 ≡ 0)
  Passes (suc (suc (suc (suc (suc zero))))) = HasWords bytes × IsIdle (parts_spelled bytes) (words_in bytes)
  Passes (suc (suc (suc (suc (suc (suc zero)))))) = (HasWords bytes × IsIdle (parts_spelled bytes) (words_in bytes)) × IsSpelled (parts_spelled bytes) (words_in bytes) (root_of (words_in bytes))
  Passes (suc (suc (suc (suc (suc (suc (suc zero))))))) = ((HasWords bytes × IsIdle (parts_spelled bytes) (words_in bytes)) × IsSpelled (parts_spelled bytes) (words_in bytes) (root_of (words_in bytes))) × ((levels : List (List ℕ)) × IsWalked (parts_spelled bytes) (words_in bytes) levels)
  Passes (suc (suc (suc (suc (suc (suc (suc (suc zero)))))))) = (((HasWords bytes × IsIdle (parts_spelled bytes) (words_in bytes)) × IsSpelled (parts_spelled bytes) (words_in bytes) (root_of (words_in bytes))) × ((levels : List (List ℕ)) × IsWalked (parts_spelled bytes) (words_in bytes) levels)) × ((levels : List (List ℕ)) × IsWalked (parts_spelled bytes) (words_in bytes) levels × AllLead (parts_spelled bytes) (words_in bytes) levels)
  Passes (suc (suc (suc (suc (suc (suc (suc (suc (suc k))))))))) = ⊥

  passes_before : (k : ℕ) → Passes (suc k) → Passes k
  unfolding Passes
  passes_before (zero) h = h.long
  passes_before (suc zero) h = h.begins
  passes_before (suc (suc zero)) h = h.setting
  passes_before (suc (suc (suc zero))) h = h.0
  passes_before (suc (suc (suc (suc zero)))) h = (h.0, h.1.zero)
  passes_before (suc (suc (suc (suc (suc zero))))) h = h.0
  passes_before (suc (suc (suc (suc (suc (suc zero)))))) h = h.0
  passes_before (suc (suc (suc (suc (suc (suc (suc zero))))))) h = h.0
  passes_before (suc (suc (suc (suc (suc (suc (suc (suc k)))))))) h = absurd h

  passes_all : (more k : ℕ) → Passes (k + more) → Passes k
  passes_all zero k h = let e : k + 0 ≡ k = omega arith in subst Passes e h
  passes_all (suc more) k h = let e : k + suc more ≡ suc (k + more) = omega arith in passes_all more k (passes_before (k + more) (subst Passes e h))

  Before : ℕ → Type 0
  Before zero = Unit {0}
  Before (suc k) = Passes k

  -- a place has passed those before it, and fails its own test
  passed : (b : FirstPlace) → IsFirstPlace bytes b → Before (rank b)
  unfolding Before Passes rank
  passed Short h = tt
  passed (Magic at) h = h.0
  passed (Setting fault) h = h.0
  passed (Length len) h = h.0
  passed Zero h = h.0
  passed (Lock lock) h = (h.0, h.1.0)
  passed Root h = (h.0, h.1.0)
  passed (Chain level node) h = ((h.0, h.1.0), h.1.1.0)
  passed (Pair node index) h = (((h.0, h.1.0), h.1.1.0), (h.1.1.1.0, h.1.1.1.1))
  passed (Twice node key) h = ((((h.0, h.1.0), h.1.1.0), (h.1.1.1.0, h.1.1.1.1)), (h.1.1.1.0, h.1.1.1.1, h.1.1.1.2))

  before_all : (k n : ℕ) → k < n → Before n → Passes k
  unfolding Before
  before_all k zero lt h = absurd (omega arith)
  before_all k (suc n) lt h = let e : k + (n - k) ≡ n = omega arith in passes_all (n - k) k (subst Passes (sym e) h)

  fails : (a : FirstPlace) → IsFirstPlace bytes a → Passes (rank a) → ⊥
  unfolding Passes rank
  fails Short h k = omega (arith, h, k)
  fails (Magic at) h k = h.1.here (k.magic at h.1.below)
  fails (Setting fault) h k = absurd (let bad : None ≡ Some fault = sym k.lawful ∙ h.1 in cc)
  fails (Length len) h k = h.2 (h.1 ∙ k.long)
  fails Zero h k = h.1 k.1
  fails (Lock lock) h k = h.1.1.here (k.1.locks lock h.1.1.below)
  fails Root h k = h.1.1 k.1
  fails (Chain level node) h k = walked_stops (parts_spelled bytes) (words_in bytes) k.1.0 level node k.1.1 h.1.1.1
  fails (Pair node index) h k = no_lead (parts_spelled bytes) (words_in bytes) h.1.1.1.0 k.1.0 node index h.1.1.1.1 h.1.1.1.2 k.1.1 k.1.2
  fails (Twice node key) h k = k

  not_before : (a b : FirstPlace) → IsFirstPlace bytes a → IsFirstPlace bytes b → rank a < rank b → ⊥
  not_before a b h k lt = fails a h (before_all (rank a) (rank b) lt (passed b k))

  same_rank : (a b : FirstPlace) → IsFirstPlace bytes a → IsFirstPlace bytes b → rank a ≡ rank b
  same_rank a b h k = elim (cases_lt (rank a) (rank b)) [
    | inl lt ↦ absurd (not_before a b h k lt)
    | inr ge ↦ elim (cases_lt (rank b) (rank a)) [ inl gt ↦ absurd (not_before b a k h gt) | inr le ↦ omega (arith, ge, le) ]
  ]

  -- ---- places of one rank
  of : ℕ → ConfigFault → ℕ → ℕ → FirstPlace
  of (zero) f x y = Short
  of (suc zero) f x y = Magic x
  of (suc (suc zero)) f x y = Setting f
  of (suc (suc (suc zero))) f x y = Length x
  of (suc (suc (suc (suc zero)))) f x y = Zero
  of (suc (suc (suc (suc (suc zero))))) f x y = Lock x
  of (suc (suc (suc (suc (suc (suc zero)))))) f x y = Root
  of (suc (suc (suc (suc (suc (suc (suc zero))))))) f x y = Chain x y
  of (suc (suc (suc (suc (suc (suc (suc (suc zero)))))))) f x y = Pair x y
  of (suc (suc (suc (suc (suc (suc (suc (suc (suc k))))))))) f x y = Twice x y

  fault_in : FirstPlace → ConfigFault
  fault_in (Setting fault) = fault
  fault_in a = Servers 0

  first_in : FirstPlace → ℕ
  first_in (Magic at) = at
  first_in (Length len) = len
  first_in (Lock lock) = lock
  first_in (Chain level node) = level
  first_in (Pair node index) = node
  first_in (Twice node key) = node
  first_in a = 0

  second_in : FirstPlace → ℕ
  second_in (Chain level node) = node
  second_in (Pair node index) = index
  second_in (Twice node key) = key
  second_in a = 0

  is_of : (a : FirstPlace) → a ≡ of (rank a) (fault_in a) (first_in a) (second_in a)
  unfolding of rank fault_in first_in second_in
  is_of a = search rules

  of_one : (k : ℕ) (f g : ConfigFault) (x y u v : ℕ) → IsFirstPlace bytes (of k f x y) → IsFirstPlace bytes (of k g u v) → of k f x y ≡ of k g u v
  unfolding of
  of_one (zero) f g x y u v h j = refl
  of_one (suc zero) f g x y u v h j = ap Magic (first_one (IsMagicAt bytes) 8 x u h.1 j.1)
  of_one (suc (suc zero)) f g x y u v h j = ap Setting (let e : Some f ≡ Some g = sym h.1 ∙ j.1 in cc)
  of_one (suc (suc (suc zero))) f g x y u v h j = ap Length (h.1 ∙ sym j.1)
  of_one (suc (suc (suc (suc zero)))) f g x y u v h j = refl
  of_one (suc (suc (suc (suc (suc zero))))) f g x y u v h j = ap Lock (first_one _ _ x u h.1.1 j.1.1)
  of_one (suc (suc (suc (suc (suc (suc zero)))))) f g x y u v h j = refl
  of_one (suc (suc (suc (suc (suc (suc (suc zero))))))) f g x y u v h j = let e = unsound_one (parts_spelled bytes) (words_in bytes) x u y v h.1.1.1 j.1.1.1 in λ t. Chain (e.0 t) (e.1 t)
  of_one (suc (suc (suc (suc (suc (suc (suc (suc zero)))))))) f g x y u v h j = let e = astray_one (parts_spelled bytes) (words_in bytes) h.1.1.1.0 j.1.1.1.0 x y u v h.1.1.1.1 j.1.1.1.1 h.1.1.1.2 j.1.1.1.2 in λ t. Pair (e.0 t) (e.1 t)
  of_one (suc (suc (suc (suc (suc (suc (suc (suc (suc k))))))))) f g x y u v h j = let e = twice_one (parts_spelled bytes) (words_in bytes) h.1.1.1.0 j.1.1.1.0 x y u v h.1.1.1.1 j.1.1.1.1 h.1.1.1.3 j.1.1.1.3 in λ t. Twice (e.0 t) (e.1 t)

  pub places_one : (a b : FirstPlace) → IsFirstPlace bytes a → IsFirstPlace bytes b → a ≡ b
  places_one a b h k =
      let e : rank b ≡ rank a = sym (same_rank a b h k) in
      let b_is : b ≡ of (rank a) (fault_in b) (first_in b) (second_in b) = is_of b ∙ ap (λ r. of r (fault_in b) (first_in b) (second_in b)) e in
      is_of a
      ∙ of_one (rank a) (fault_in a) (fault_in b) (first_in a) (second_in a) (first_in b) (second_in b) (subst (IsFirstPlace bytes) (is_of a) h) (subst (IsFirstPlace bytes) b_is k)
      ∙ sym b_is
