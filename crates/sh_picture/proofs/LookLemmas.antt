-- What looking through levels, nodes and keys has found so far.
use Rattle.std.specs.Prelude.{slice_get, slice_index}
use Rattle.std.proofs.Common.{rules, ◌≡◌, ◌≢◌, ◌⊎◌, ℕ, zero, suc, ◌+◌, ◌<◌, true, List, Vec, Global, [], ◌∷◌, ◌++◌, Some, length, map, get_or, set, take, refl, sym, ap, subst, ◌∙◌, inl, inr, arith}
use Rattle.std.proofs.lemmas.{Bool.{cases_eq, cases_lt, eq-eqb}, List.{get_or-set_same, get_or-set_other, get_or-map, take_more}, Option.{get_or_from_slice_get}}
use Rattle.sh_logic.proofs.Lists.{all_at}
use Rattle.sh_base.specs.{Setting.{IsNode}, declared.config.ConfigParts.{ConfigParts}}
use Rattle.sh_image.specs.{declared.{inner.Pair.{Pair}, leaf.LeafEntry.{LeafEntry}}, Inner.{no_pair}, Entries.{keys_of}}
use Rattle.sh_tree.{specs.{Tree.{leaves_of}, Lists.{is_in}}, proofs.ListLemmas.{in_cases, in_front, in_head, in_more}}
use Rattle.sh_picture.{specs.Walk.{first_child, IsDown}, proofs.{NodeLemmas.{spelled_inner, spelled_leaf}, TreeLemmas.{along_on, IsOn}}}
use Rattle.sh_picture.specs.{Tree.{keys_at, level_nodes, AllLeadBelow, IsFirstAstray, IsFirstTwice, IsOnce, IsTwice, LevelLeads}, Marks.{AreInner, AreLeaves, AreMarked, AreUnder, IsAstrayIn, TwiceBy}}
use Rattle.sh_edit.specs.Held.{key_at, HasKeysOnce}

-- ---- one good number more
pub good_more : (Good : ℕ → Type 0) (n : ℕ) → ((i : ℕ) → i < n → Good i) → Good n → (i : ℕ) → i < n + 1 → Good i
good_more h0 n h g i lt = search (rules, cases_lt)

-- ---- marks
in_push : (ns : List ℕ) (n m : ℕ) → is_in (ns ++ n ∷ []) m ≡ true → (is_in ns m ≡ true) ⊎ (n ≡ m)
in_push [] n m h = elim (in_cases n m [] h) [ inl e ↦ inr e | inr none ↦ absurd (cc) ]
in_push (x ∷ ns) n m h = elim (in_cases x m (ns ++ n ∷ []) h) [
  | inl e ↦ inl (rw (eq-eqb x m e) refl)
  | inr rest ↦ elim (in_push ns n m rest) [ inl among ↦ inl (in_more x m ns among) | inr e ↦ inr e ]
]

in_last : (ns : List ℕ) (n : ℕ) → is_in (ns ++ n ∷ []) n ≡ true
in_last [] n = in_head n []
in_last (x ∷ ns) n = in_more x n (ns ++ n ∷ []) (in_last ns n)

pub marked_more : (ns marks : List ℕ) (n mark : ℕ) → n < length marks → AreMarked ns mark marks → AreMarked (ns ++ n ∷ []) mark (set marks n mark)
marked_more ns marks n mark within h = search (rules, cases_eq, get_or-set_same, get_or-set_other, in_push, in_last, in_front)

pub under_more : (marks : List ℕ) (n mark : ℕ) → n < length marks → AreUnder (mark + 1) marks → AreUnder (mark + 1) (set marks n mark)
under_more marks n mark within h = search (rules, cases_eq, get_or-set_same, get_or-set_other)

pub marks_step : (nodes marks : List ℕ) (i mark : ℕ) → i < length nodes → get_or nodes i 0 < length marks → AreMarked (take i nodes) mark marks → AreMarked (take (i + 1) nodes) mark (set marks (get_or nodes i 0) mark)
marks_step nodes marks i mark below within h = subst (λ (l : List ℕ). AreMarked l mark (set marks (get_or nodes i 0) mark)) (sym (take_more nodes i 0 below)) (marked_more (take i nodes) marks (get_or nodes i 0) mark within h)

-- ---- keys
key_is : (es : List LeafEntry) (i : ℕ) → key_at es i ≡ get_or (keys_of es) i 0
key_is [] i = refl
key_is (e ∷ es) zero = refl
key_is (e ∷ es) (suc i) = key_is es i

keys_long : (es : List LeafEntry) → length (keys_of es) ≡ length es
keys_long [] = refl
keys_long (e ∷ es) = omega (arith, keys_long es)

pub once_of : (es : List LeafEntry) → ((k : ℕ) → IsTwice (keys_of es) k → ⊥) → HasKeysOnce es
once_of es h = λ i j apart within same. elim (cases_eq (key_at es i) 0) [
  | inl z ↦ z
  | inr some ↦ absurd (h (key_at es i) (record { some = some; i = i; j = j; apart = apart; within = omega (arith, within, keys_long es); first = sym (key_is es i); second = sym (key_is es j) ∙ sym same }))
]

pub not_once : (es : List LeafEntry) (k : ℕ) → IsTwice (keys_of es) k → HasKeysOnce es → ⊥
not_once es k h once =
    let first : key_at es h.i ≡ k = key_is es h.i ∙ h.first in
    let second : key_at es h.j ≡ k = key_is es h.j ∙ h.second in
    h.some (sym first ∙ once h.i h.j h.apart (omega (arith, h.within, keys_long es)) (first ∙ sym second))

module _ (p : ConfigParts) (words leaves : List ℕ) (i least : ℕ) (by : TwiceBy (keys_at p words (get_or leaves i 0)) least) where
  pub leaf_twice : i < length leaves → ((j : ℕ) → j < i → IsOnce p words leaves j) → least ≢ 0 → IsFirstTwice p words leaves (get_or leaves i 0) least
  leaf_twice below before some = record {
    place = i;
    leaf = record { below = below; before = before; here = λ once. not_once _ least (by.0 some).twice once };
    node_is = refl;
    key_is = by.0 some;
  }

  pub leaf_once : least ≡ 0 → IsOnce p words leaves i
  leaf_once none = once_of _ (by.1 none)

-- ---- pairs
pub pair_is : (p : ConfigParts) (words below : List ℕ) (pairs : List Pair) (i : ℕ) (x : Pair) → slice_get pairs i ≡ Some x → get_or pairs i no_pair ≡ x
pair_is p words below pairs i x got = get_or_from_slice_get pairs i x no_pair got

-- the first pair of a level that is astray is the first of all
module _ (p : ConfigParts) (words : List ℕ) (levels : List (List ℕ)) where
  pub astray_of : (depth d node index : ℕ) → suc d ≡ depth → depth < length levels → ((e : ℕ) → suc e < depth → LevelLeads p words levels e) → (below level : List ℕ) → below ≡ level_nodes levels depth → level ≡ level_nodes levels d → IsAstrayIn p words below level node index → IsFirstAstray p words levels node index
  astray_of depth d node index is lt lead below level below_is level_is h =
      let at : below ≡ level_nodes levels (suc d) = below_is ∙ ap (level_nodes levels) (sym is) in
      go (subst (λ (l : List ℕ). IsAstrayIn p words (level_nodes levels (suc d)) l node index) level_is (subst (λ (b : List ℕ). IsAstrayIn p words b level node index) at h))
    where
      go : IsAstrayIn p words (level_nodes levels (suc d)) (level_nodes levels d) node index → IsFirstAstray p words levels node index
      go h = record {
        d = d;
        place = h.place;
        level = record { below = omega (arith, is, lt); before = λ i below. lead i (omega (arith, below, is)); here = λ all. h.among.here (all h.place h.among.below) };
        among = h.among;
        node_is = h.node_is;
        pair = h.pair;
      }

  pub lead_on : (depth d : ℕ) → suc d ≡ depth → ((e : ℕ) → suc e < depth → LevelLeads p words levels e) → (below level : List ℕ) → below ≡ level_nodes levels depth → level ≡ level_nodes levels d → ((i : ℕ) → i < length level → AllLeadBelow p words below (slice_index level i)) → (e : ℕ) → suc e < depth + 1 → LevelLeads p words levels e
  lead_on depth d is lead below level below_is level_is all e lt = elim (cases_lt (suc e) depth) [
    | inl old ↦ lead e old
    | inr ge ↦
        let same : d ≡ e = omega (arith, is, ge, lt) in
        let at : below ≡ level_nodes levels (suc d) = below_is ∙ ap (level_nodes levels) (sym is) in
        subst (LevelLeads p words levels) same (go (subst (λ (l : List ℕ). AllLeads (level_nodes levels (suc d)) l) level_is (subst (λ (b : List ℕ). AllLeads b level) at all)))
  ]
    where
      AllLeads : List ℕ → List ℕ → Type 0
      AllLeads b l = (i : ℕ) → i < length l → AllLeadBelow p words b (slice_index l i)

      go : AllLeads (level_nodes levels (suc d)) (level_nodes levels d) → LevelLeads p words levels d
      go h = h

  pub walked_inner : (first to : ℕ) (ls : List (List ℕ)) → IsDown p words 0 first ls to → (d : ℕ) → suc d < length ls → AreInner p words (level_nodes ls d)
  walked_inner first to [] h d lt = absurd (omega (arith, lt))
  walked_inner first to (c ∷ rest) h zero lt = λ i below.
      let on = all_at (IsOn p words (length rest + 0)) c i 0 (along_on p words (length rest + 0) first 0 c 0 h.0.high h.0.along) below in
      (on.spelled.node, spelled_inner p words (get_or c i 0) on.spelled (λ z. omega (arith, z, on.level_is, lt)))
  walked_inner first to (c ∷ rest) h (suc d) lt = walked_inner (first_child p words first) to rest h.1 d (omega (arith, lt))

  pub walked_nodes : (first to : ℕ) (ls : List (List ℕ)) → IsDown p words 0 first ls to → (d : ℕ) → d < length ls → (i : ℕ) → i < length (level_nodes ls d) → IsNode p (slice_index (level_nodes ls d) i)
  walked_nodes first to [] h d lt = absurd (omega (arith, lt))
  walked_nodes first to (c ∷ rest) h zero lt = λ i below.
      let on = all_at (IsOn p words (length rest + 0)) c i 0 (along_on p words (length rest + 0) first 0 c 0 h.0.high h.0.along) below in
      on.spelled.node
  walked_nodes first to (c ∷ rest) h (suc d) lt = walked_nodes (first_child p words first) to rest h.1 d (omega (arith, lt))

  pub walked_leaves : (first to : ℕ) (ls : List (List ℕ)) → IsDown p words 0 first ls to → AreLeaves p words (leaves_of ls)
  walked_leaves first to [] h = λ i below. absurd (omega (arith, below))
  walked_leaves first to (c ∷ []) h = λ i below.
      let on = all_at (IsOn p words (0 + 0)) c i 0 (along_on p words (0 + 0) first 0 c 0 h.0.high h.0.along) below in
      (on.spelled.node, spelled_leaf p words (get_or c i 0) on.spelled (omega (arith, on.level_is)))
  walked_leaves first to (c ∷ d ∷ rest) h = walked_leaves (first_child p words first) to (d ∷ rest) h.1

-- an item of the levels that the code keeps
pub item_is : (levels : List (Vec ℕ Global)) (d : ℕ) (v : Vec ℕ Global) → d < length levels → v ≡ get_or levels d v → v.items ≡ level_nodes (map (λ u. u.items) levels) d
item_is levels d v lt is = ap (λ (u : Vec ℕ Global). u.items) is ∙ sym (get_or-map (λ (u : Vec ℕ Global). u.items) levels d v [] lt)

-- the last level is the leaves'
pub last_is : (ls : List (List ℕ)) (n : ℕ) → suc n ≡ length ls → leaves_of ls ≡ level_nodes ls n
last_is [] n e = absurd (omega (arith, e))
last_is (c ∷ []) zero e = refl
last_is (c ∷ []) (suc n) e = absurd (omega (arith, e))
last_is (c ∷ d ∷ rest) zero e = absurd (omega (arith, e))
last_is (c ∷ d ∷ rest) (suc n) e = last_is (d ∷ rest) n (omega (arith, e))
