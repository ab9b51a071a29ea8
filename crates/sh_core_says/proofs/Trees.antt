-- The levels of a tree at rest, and the tree that its words hold.
use Rattle.std.proofs.Common.{rules, ◌≡◌, ◌≢◌, ◌⊎◌, ℕ, zero, suc, ◌+◌, ◌<◌, ◌≤◌, Bool, true, false, List, [], ◌∷◌, ◌++◌, length, map, refl, ap, sym, ◌∙◌, subst, ⊎_elim, inl, inr, arith, None}
use Rattle.std.{proofs.lemmas.{Bool.{cases_eq, cases_lt}, Grind.{same_number_lists}}, specs.{Cmp.{nat_cmp_total}, FinMap.{find, from_entries, get-from_entries}, List.{AllByRecursion, concat}}}
use Rattle.std.specs.{Ordering.{nat_cmp}, Prelude.{◌-◌, ◌^◌, ◌↔◌, if◌then◌else◌}}
use mathlib.Core.Logic.{dite}
use native.Mathlib.Decide.{ℕ_discrete}
use Rattle.sh_base.{specs.{declared.config.ConfigParts.{ConfigParts}, Setting.{node_size}, Layout.{node_part}, Places.{Node, Root}}, proofs.LayoutLemmas.{part_word, length_part}}
use Rattle.sh_image.specs.{declared.{inner.Pair.{Pair}, leaf.LeafEntry.{LeafEntry}}, Leaf.{leaf_in, Spells, IsEntry}, Inner.{inner_in, SpellsInner}}
use Rattle.sh_edit.{specs.Held.{HasKeysOnce, pairs_of}, proofs.HeldLemmas.{find-pairs_of, get-zero, held_outside}}
use Rattle.sh_tree.{proofs.ListLemmas.{in_head, in_more, in_cases, in_front}, specs.{Lists.{first_of, is_in, outside, AreDifferent}, Nodes.{inner_at, leaf_at, high_at}}}
use Rattle.sh_tree.specs.Tree.{IsChain, IsLeafOf, IsInnerOf, IsChildIn, children_of, AreLevels, leaves_of, pairs_along, unnamed_from}
use Rattle.sh_read.specs.Moments.{Writing, word}
use Rattle.sh_state.{proofs.Scenes.{linked_is, is_linked}, specs.{Ground.{Ground, HasParent}, TreeState.{Linked, ParentLink, Posted, TreeState, Class}}}
use Rattle.sh_state.specs.Nodes.{low_in, high_in, next_in, level_in, LeadsTo, LeadDown, standing_pairs, IsLinked, standing_entries}
use Rattle.sh_acts.proofs.Holds.{first_at}
use Rattle.sh_core_says.specs.Quiescent.{IsAtRest, is_posted, unposted, HoldsTree}
use Rattle.sh_logic.proofs.Lookups.{find_past, find_before}
use Rattle.sh_map.{specs.{Map.{get}, Log.{map_of}}, proofs.MapLemmas.{same_by_keys}}

-- more than all keys
unfoldable pub many : ℕ
many = 2 ^ 64 - 1

many_is : many ≡ 2 ^ 64 - 1
unfolding many
many_is = refl

pub not_in : (n : ℕ) (ns : List ℕ) → (is_in ns n ≡ true → ⊥) → is_in ns n ≡ false
not_in n ns h = search rules

pub in_behind : (xs ys : List ℕ) (n : ℕ) → is_in ys n ≡ true → is_in (xs ++ ys) n ≡ true
in_behind [] ys n h = h
in_behind (x ∷ xs) ys n h = in_more x n (xs ++ ys) (in_behind xs ys n h)

pub in_joined : (xs ys : List ℕ) (n : ℕ) → is_in (xs ++ ys) n ≡ true → (is_in xs n ≡ true) ⊎ (is_in ys n ≡ true)
in_joined [] ys n h = inr h
in_joined (x ∷ xs) ys n h = elim (in_cases x n (xs ++ ys) h) [
  | inl e ↦ inl (subst (λ (z : ℕ). is_in (z ∷ xs) n ≡ true) (sym e) (in_head n xs))
  | inr k ↦ elim (in_joined xs ys n k) [ inl z ↦ inl (in_more x n xs z) | inr z ↦ inr z ]
]

pub different_join : (xs ys : List ℕ) → AreDifferent xs → AreDifferent ys → ((n : ℕ) → is_in xs n ≡ true → is_in ys n ≡ true → ⊥) → AreDifferent (xs ++ ys)
different_join [] ys a b apart = b
different_join (x ∷ xs) ys a b apart = (
  not_in x (xs ++ ys) (λ h. elim (in_joined xs ys x h) [ inl z ↦ let q = sym z ∙ a.0 in cc | inr z ↦ apart x (in_head x xs) z ]),
  different_join xs ys a.1 b (λ n h k. apart n (in_more x n xs h) k),
)

pub all_from : (P : ℕ → Type 0) (ns : List ℕ) → ((n : ℕ) → is_in ns n ≡ true → P n) → AllByRecursion P ns
all_from P [] h = tt
all_from P (n ∷ ns) h = (h n (in_head n ns), all_from P ns (λ m k. h m (in_more n m ns k)))

module _ (p : ConfigParts) (words : List ℕ) (s : TreeState) (g : Ground p words s) (rest : IsAtRest p s) where
  -- a linked node's words are those that stand
  pub part_is : (n l a : ℕ) → s.class n ≡ Linked l a → node_part p words n ≡ s.node n
  part_is n l a e =
      let real = (g.sits n l a e).real in
      let long : length (node_part p words n) ≡ node_size p = length_part p words n real (omega (arith, g.shows.size)) in
      same_number_lists (node_part p words n) (s.node n) (long ∙ sym (g.long n)) (λ o lt.
      let below : o < node_size p = omega (arith, lt, long) in
      part_word p words n o below ∙ g.shows.each (Node n o) (real, below) ∙ ap (λ (w : Writing). word p (s.node n) w o) (rest n l a e))

  -- what a level is, as a list from a low fence on
  pub record IsLevel (l a : ℕ) (ns : List ℕ) : Type 0 where
    pub chain : IsChain p words a ns
    pub members : (m : ℕ) → is_in ns m ≡ true → (b : ℕ) × (s.class m ≡ Linked l b) × (a ≤ b)
    pub all : (m b : ℕ) → s.class m ≡ Linked l b → a ≤ b → is_in ns m ≡ true
    pub different : AreDifferent ns
    pub first : s.class (first_of ns) ≡ Linked l a

  -- one node in front
  level_more : (n l a : ℕ) (ns : List ℕ) → s.class n ≡ Linked l a → next_in (s.node n) ≡ first_of ns → IsChain p words (high_in (s.node n)) ns
      → ((m : ℕ) → is_in ns m ≡ true → (b : ℕ) × (s.class m ≡ Linked l b) × (high_in (s.node n) ≤ b)) → ((m b : ℕ) → s.class m ≡ Linked l b → high_in (s.node n) ≤ b → is_in ns m ≡ true) → AreDifferent ns → IsLevel l a (n ∷ ns)
  level_more n l a ns e next chain members all different =
      let z = g.sits n l a e in
      let part = part_is n l a e in
      record {
        chain = (z.real, ap low_in part ∙ z.low_is, ap next_in part ∙ next, subst (λ (h : ℕ). IsChain p words h ns) (sym (ap high_in part)) chain);
        members = λ m w. elim (in_cases n m ns w) [ inl q ↦ (a, ap s.class (sym q) ∙ e, omega arith) | inr k ↦ let u = members m k in (u.0, u.1, omega (arith, u.2, z.fences)) ];
        all = λ m b f lo. dite (ℕ_discrete n m)
            (λ (q : n ≡ m). subst (λ (x : ℕ). is_in (x ∷ ns) m ≡ true) (sym q) (in_head m ns))
            (λ (ne : n ≢ m). let y = g.sits m l b f in in_more n m ns (all m b f (⊎_elim (λ (le : high_in (s.node n) ≤ b). le) (λ (le : high_in (s.node m) ≤ a). absurd (omega (arith, le, y.fences, lo))) (g.apart n m l a b e f ne))));
        different = (not_in n ns (λ k. let u = members n k in let w = linked_is l u.0 l a (sym u.1 ∙ e) in omega (arith, w.1, u.2, z.fences)), different);
        first = e;
      }

  pub level_from : (fuel n l a : ℕ) → s.class n ≡ Linked l a → many ≤ a + fuel → (ns : List ℕ) × IsLevel l a (n ∷ ns)
  level_from zero n l a e le = let z = g.sits n l a e in absurd (omega (arith, le, z.fences, z.past, many_is))
  level_from (suc fuel) n l a e le =
      let z = g.sits n l a e in
      ⊎_elim
      (λ (h : (next_in (s.node n) ≡ 0) × (high_in (s.node n) ≡ 2 ^ 64 - 1)). ([], level_more n l a [] e h.0 h.1 (λ m w. absurd (cc)) (λ m b f lo. let y = g.sits m l b f in absurd (omega (arith, lo, h.1, y.fences, y.past))) tt))
      (λ (h : s.class (next_in (s.node n)) ≡ Linked l (high_in (s.node n))).
      let r = level_from fuel (next_in (s.node n)) l (high_in (s.node n)) h (omega (arith, le, z.fences)) in
      (next_in (s.node n) ∷ r.0, level_more n l a (next_in (s.node n) ∷ r.0) e refl r.1.chain r.1.members r.1.all r.1.different))
      z.next

  pub level : (l : ℕ) → l ≤ s.height → (n : ℕ) × (ns : List ℕ) × IsLevel l 0 (n ∷ ns)
  level l le =
      let u = first_at p words s g (s.height - l) l (omega (arith, le)) in
      let r = level_from many u.0 l 0 u.1 (omega arith) in
      (u.0, r.0, r.1)

  pub leaf_of : (ns : List ℕ) → IsLevel 0 0 ns → AllByRecursion (IsLeafOf p words) ns
  leaf_of ns h = all_from (IsLeafOf p words) ns (λ n k.
      let u = h.members n k in
      let body = (g.sits n 0 u.0 u.1).body in
      let part = sym (part_is n 0 u.0 u.1) in
      record { spelled = subst (λ (ws : List ℕ). Spells p ws (leaf_in p ws)) part body.spells; once = subst (λ (ws : List ℕ). HasKeysOnce (leaf_in p ws).entries) part body.once })

  child_of : (l : ℕ) (below : List ℕ) → IsLevel l 0 below → (pairs : List Pair) → LeadDown s l pairs → AllByRecursion (IsChildIn p words below) pairs
  child_of l below h [] d = tt
  child_of l below h (x ∷ xs) d = (
    record { among = h.all x.child x.separator d.0 (omega arith); low = ap low_in (part_is x.child l x.separator d.0) ∙ (g.sits x.child l x.separator d.0).low_is },
    child_of l below h xs d.1,
  )

  pub inner_of : (l : ℕ) (below ns : List ℕ) → IsLevel l 0 below → IsLevel (suc l) 0 ns → AllByRecursion (IsInnerOf p words (suc l) below) ns
  inner_of l below ns h k = all_from (IsInnerOf p words (suc l) below) ns (λ n w.
      let u = k.members n w in
      let z = g.sits n (suc l) u.0 u.1 in
      let part = sym (part_is n (suc l) u.0 u.1) in
      record {
        spelled = subst (λ (ws : List ℕ). SpellsInner p ws (inner_in ws)) part z.body.spells;
        level_is = ap level_in (sym part) ∙ z.level_is;
        children = subst (λ (ws : List ℕ). AllByRecursion (IsChildIn p words below) (inner_in ws).pairs) part (child_of l below h (standing_pairs (s.node n)) z.body.children);
      })

  -- ---- which nodes the pairs of a level name
  named_by : (pairs : List Pair) (n : ℕ) → (is_in (map (λ (x : Pair). x.child) pairs) n ≡ true) ↔ LeadsTo pairs n
  named_by [] n = ((λ h. absurd (cc)), λ h. absurd h)
  named_by (x ∷ xs) n = (
    (λ h. elim (in_cases x.child n (map (λ (y : Pair). y.child) xs) h) [ inl e ↦ inl e | inr k ↦ inr ((named_by xs n).0 k) ]),
    (λ h. elim h [ inl e ↦ subst (λ (z : ℕ). is_in (z ∷ map (λ (y : Pair). y.child) xs) n ≡ true) (sym e) (in_head n (map (λ (y : Pair). y.child) xs)) | inr k ↦ in_more x.child n (map (λ (y : Pair). y.child) xs) ((named_by xs n).1 k) ]),
  )

  -- a list of nodes names what its nodes lead to
  names : (l : ℕ) (ns : List ℕ) (n : ℕ) → ((m : ℕ) → is_in ns m ≡ true → (b : ℕ) × (s.class m ≡ Linked (suc l) b)) → is_in (children_of p words ns) n ≡ true → (m : ℕ) × (is_in ns m ≡ true) × LeadsTo (standing_pairs (s.node m)) n
  names l [] n members h = absurd (cc)
  names l (m ∷ ns) n members h = elim (in_joined (map (λ (x : Pair). x.child) (inner_at p words m).pairs) (children_of p words ns) n h) [
    | inl k ↦
        let u = members m (in_head m ns) in
        (m, in_head m ns, subst (λ (ws : List ℕ). LeadsTo (standing_pairs ws) n) (part_is m (suc l) u.0 u.1) ((named_by (inner_at p words m).pairs n).0 k))
    | inr k ↦ let r = names l ns n (λ q w. members q (in_more m q ns w)) k in (r.0, in_more m r.0 ns r.1, r.2)
  ]

  named : (l : ℕ) (ns : List ℕ) (m n b : ℕ) → s.class m ≡ Linked (suc l) b → is_in ns m ≡ true → LeadsTo (standing_pairs (s.node m)) n → is_in (children_of p words ns) n ≡ true
  named l [] m n b e w k = absurd (cc)
  named l (x ∷ ns) m n b e w k = elim (in_cases x m ns w) [
    | inr later ↦ in_behind (map (λ (y : Pair). y.child) (inner_at p words x).pairs) (children_of p words ns) n (named l ns m n b e later k)
    | inl q ↦ in_front (map (λ (y : Pair). y.child) (inner_at p words x).pairs) (children_of p words ns) n
        (subst (λ (z : ℕ). is_in (map (λ (y : Pair). y.child) (inner_at p words z).pairs) n ≡ true) (sym q)
        ((named_by (inner_at p words m).pairs n).1 (subst (λ (ws : List ℕ). LeadsTo (standing_pairs ws) n) (sym (part_is m (suc l) b e)) k)))
  ]

  -- the names are those of the posted nodes of a level, but for its first
  abbrev pub NamesLevel : ℕ → List ℕ → Type 0
  NamesLevel l names = (n b : ℕ) → s.class n ≡ Linked l b → b ≢ 0 → (is_in names n ≡ true) ↔ (s.post n ≡ Posted)

  pub none_named : (n b : ℕ) → s.class n ≡ Linked s.height b → b ≢ 0 → (false ≡ true) ↔ (s.post n ≡ Posted)
  none_named n b e nz = ((λ q. absurd (cc)), λ q. absurd (⊎_elim (λ (z : b ≡ 0). nz z) (λ (u : HasParent s s.height n). let le = g.heights u.parent (suc s.height) u.low u.linked in omega (arith, le)) (g.posted n s.height b e q)))

  pub children_named : (l : ℕ) (ns : List ℕ) → IsLevel (suc l) 0 ns → NamesLevel l (children_of p words ns)
  children_named l ns h n b e nz = (
    (λ w. let r = names l ns n (λ m k. let u = h.members m k in (u.0, u.1)) w in let u = h.members r.0 r.1 in g.children r.0 l u.0 n u.1 r.2),
    (λ q. ⊎_elim (λ (z : b ≡ 0). absurd (nz z)) (λ (u : HasParent s l n). named l ns u.parent n u.low u.linked (h.all u.parent u.low u.linked (omega arith)) u.leads) (g.posted n l b e q)),
  )

  pub counted : (l : ℕ) (names ns : List ℕ) → NamesLevel l names → ((n : ℕ) → is_in ns n ≡ true → (b : ℕ) × (s.class n ≡ Linked l b) × (b ≢ 0)) → outside names ns ≡ unposted s ns
  counted l names [] h members = refl
  counted l names (n ∷ ns) h members =
      let u = members n (in_head n ns) in
      let test : is_in names n ≡ is_posted (s.post n) = search rules in
      let more : outside names ns ≡ unposted s ns = counted l names ns h (λ m k. members m (in_more n m ns k)) in
      (λ t. if test t then more t else more t + 1)

-- ---- at rest the words hold a tree: its levels from the root down, its map, and its unposted nodes

within : (p : ConfigParts) (low high : ℕ) (es : List LeafEntry) → AllByRecursion (IsEntry p low high) es → AllByRecursion (λ e. (e.key ≡ 0) ⊎ ((low ≤ e.key) × (e.key < high))) es
within p low high [] h = tt
within p low high (e ∷ es) h = (elim h.0.within [ inl z ↦ inl z.0 | inr z ↦ inr (z.0, z.2) ], within p low high es h.1)

unposted_join : (s : TreeState) (xs ys : List ℕ) → unposted s (xs ++ ys) ≡ unposted s xs + unposted s ys
unposted_join s [] ys = sym (omega arith)
unposted_join s (x ∷ xs) ys = go (is_posted (s.post x)) (unposted_join s xs ys)
  where
    go : (b : Bool) → unposted s (xs ++ ys) ≡ unposted s xs + unposted s ys → (if b then unposted s (xs ++ ys) else unposted s (xs ++ ys) + 1) ≡ (if b then unposted s xs else unposted s xs + 1) + unposted s ys
    go true e = e
    go false e = omega (arith, e)

module _ (p : ConfigParts) (words : List ℕ) (s : TreeState) (g : Ground p words s) where
  -- a level and a low fence name one node
  pub only : (m n l a : ℕ) → s.class m ≡ Linked l a → s.class n ≡ Linked l a → m ≡ n
  only m n l a e f = search rules

module _ (p : ConfigParts) (words : List ℕ) (s : TreeState) (g : Ground p words s) (rest : IsAtRest p s) where
  -- ---- the levels from one down
  pub record Down (l : ℕ) (chain : List ℕ) (below : List (List ℕ)) : Type 0 where
    pub here : IsLevel p words s g rest l 0 chain
    pub lawful : AreLevels p words (chain ∷ below)
    pub as_many : length (chain ∷ below) ≡ suc l
    pub members : (n : ℕ) → is_in (concat (chain ∷ below)) n ≡ true → (k : ℕ) × (b : ℕ) × (s.class n ≡ Linked k b) × (k ≤ l)
    pub all : (n k b : ℕ) → s.class n ≡ Linked k b → k ≤ l → is_in (concat (chain ∷ below)) n ≡ true
    pub different : AreDifferent (concat (chain ∷ below))
    pub leaves : IsLevel p words s g rest 0 0 (leaves_of (chain ∷ below))
    pub count : (names : List ℕ) → NamesLevel p words s g rest l names → unnamed_from p words names (chain ∷ below) ≡ unposted s (concat (chain ∷ below))

  -- but for its first, the nodes of a level aren't its first
  later : (l n : ℕ) (ns : List ℕ) → IsLevel p words s g rest l 0 (n ∷ ns) → (m : ℕ) → is_in ns m ≡ true → (b : ℕ) × (s.class m ≡ Linked l b) × (b ≢ 0)
  later l n ns h m k = search (rules, in_more, only)

  count_level : (l n : ℕ) (ns : List ℕ) (below : List (List ℕ)) (names : List ℕ) → IsLevel p words s g rest l 0 (n ∷ ns) → NamesLevel p words s g rest l names → unnamed_from p words (children_of p words (n ∷ ns)) below ≡ unposted s (concat below) → unnamed_from p words names ((n ∷ ns) ∷ below) ≡ unposted s (concat ((n ∷ ns) ∷ below))
  count_level l n ns below names h named more =
      let first : unposted s (n ∷ ns) ≡ unposted s ns = ap (λ (x : ParentLink). if is_posted x then unposted s ns else unposted s ns + 1) (g.firsts n l h.first) in
      let here : outside names ns ≡ unposted s ns = counted p words s g rest l names ns named (later l n ns h) in
      let joined = unposted_join s (n ∷ ns) (concat below) in
      omega (arith, first, here, joined, more)

  down : (l : ℕ) → l ≤ s.height → (chain : List ℕ) × (below : List (List ℕ)) × Down l chain below
  down zero le =
      let v = level p words s g rest zero le in
      let chain : List ℕ = v.0 ∷ v.1 in (
        chain,
        [],
        record {
          here = v.2;
          lawful = (v.2.chain, leaf_of p words s g rest chain v.2);
          as_many = refl;
          members = λ n k. elim (in_joined chain [] n k) [ inl z ↦ (let u = v.2.members n z in (zero, u.0, u.1, omega arith)) | inr z ↦ absurd (cc) ];
          all = λ n k b e lo. let z : k ≡ 0 = omega (arith, lo) in in_front chain [] n (v.2.all n b (e ∙ ap (λ (y : ℕ). Linked y b) z) (omega arith));
          different = different_join chain [] v.2.different tt (λ n a b. cc);
          leaves = v.2;
          count = λ names named. count_level zero v.0 v.1 [] names v.2 named refl;
        },
      )
  down (suc l) le =
      let v = level p words s g rest (suc l) le in
      let d = down l (omega (arith, le)) in
      let chain : List ℕ = v.0 ∷ v.1 in
      let below : List (List ℕ) = d.0 ∷ d.1 in (
        chain,
        below,
        record {
          here = v.2;
          lawful = (v.2.chain, subst (λ (k : ℕ). AllByRecursion (IsInnerOf p words k d.0) chain) (sym d.2.as_many) (inner_of p words s g rest l d.0 chain d.2.here v.2), d.2.lawful);
          as_many = ap suc d.2.as_many;
          members = λ n k. elim (in_joined chain (concat below) n k) [
            | inl z ↦ (let u = v.2.members n z in (suc l, u.0, u.1, omega arith))
            | inr z ↦ (let u = d.2.members n z in (u.0, u.1, u.2, omega (arith, u.3)))
          ];
          all = λ n k b e lo. elim (cases_lt l k) [
            | inl lt ↦ let z : k ≡ suc l = omega (arith, lt, lo) in in_front chain (concat below) n (v.2.all n b (e ∙ ap (λ (y : ℕ). Linked y b) z) (omega arith))
            | inr ge ↦ in_behind chain (concat below) n (d.2.all n k b e ge)
          ];
          different = different_join chain (concat below) v.2.different d.2.different (λ n a b.
              let u = v.2.members n a in
              let w = d.2.members n b in
              let q = linked_is (suc l) u.0 w.0 w.1 (sym u.1 ∙ w.2) in
              omega (arith, q.0, w.3));
          leaves = d.2.leaves;
          count = λ names named. count_level (suc l) v.0 v.1 below names v.2 named (d.2.count (children_of p words chain) (children_named p words s g rest l chain v.2));
        },
      )

  -- ---- the map
  along : (q : ℕ) → q ≢ 0 → (a : ℕ) (ns : List ℕ) → IsChain p words a ns → ((m : ℕ) → is_in ns m ≡ true → (b : ℕ) × (s.class m ≡ Linked 0 b))
      → ((q < a) ⊎ (2 ^ 64 - 1 ≤ q) → find nat_cmp q (pairs_along p words ns) ≡ None) × (a ≤ q → q < 2 ^ 64 - 1 → find nat_cmp q (pairs_along p words ns) ≡ get (map_of s.log) q)
  along q nz a [] chain members = ((λ out. refl), λ lo hi. absurd (omega (arith, lo, hi, chain)))
  along q nz a (n ∷ ns) chain members =
      let u = members n (in_head n ns) in
      let part = part_is p words s g rest n 0 u.0 u.1 in
      let z = g.sits n 0 u.0 u.1 in
      let high : high_at p words n ≡ high_in (s.node n) = ap high_in part in
      let low : a ≡ u.0 = sym chain.1 ∙ ap low_in part ∙ z.low_is in
      let same : pairs_of (leaf_at p words n).entries ≡ pairs_of (standing_entries p (s.node n)) = ap (λ (ws : List ℕ). pairs_of (standing_entries p ws)) part in
      let more = along q nz (high_at p words n) ns chain.3 (λ m k. members m (in_more n m ns k)) in
      let left : List (ℕ × List ℕ) = pairs_of (leaf_at p words n).entries in
      let right : List (ℕ × List ℕ) = pairs_along p words ns in
      let none : (q < u.0) ⊎ (high_in (s.node n) ≤ q) → find nat_cmp q left ≡ None = λ out. ap (find nat_cmp q) same ∙ (search (rules, find-pairs_of, held_outside, within)) in (
        (λ out. elim out [
          | inl lt ↦ find_past left right q (none (inl (omega (arith, lt, low)))) ∙ more.0 (inl (omega (arith, lt, low, z.fences, high)))
          | inr le ↦ find_past left right q (none (inr (omega (arith, le, z.past)))) ∙ more.0 (inr le)
        ]),
        (λ lo hi. elim (cases_lt q (high_in (s.node n))) [
          | inl lt ↦ find_before left right q (more.0 (inl (omega (arith, lt, high)))) ∙ ap (find nat_cmp q) same ∙ find-pairs_of (standing_entries p (s.node n)) q nz ∙ z.body.map q nz (omega (arith, lo, low, z.low_is)) lt
          | inr ge ↦ find_past left right q (none (inr ge)) ∙ more.1 (omega (arith, ge, high)) hi
        ]),
      )

  zero_along : (ns : List ℕ) → find nat_cmp 0 (pairs_along p words ns) ≡ None
  zero_along [] = refl
  zero_along (n ∷ ns) = find_past (pairs_of (leaf_at p words n).entries) (pairs_along p words ns) 0 (sym (get-from_entries nat_cmp_total (pairs_of (leaf_at p words n).entries) 0) ∙ get-zero (leaf_at p words n).entries) ∙ zero_along ns

  leaf_map : (leaves : List ℕ) → IsLevel p words s g rest 0 0 leaves → from_entries (pairs_along p words leaves) ≡ map_of s.log
  leaf_map leaves h = same_by_keys (from_entries (pairs_along p words leaves)) (map_of s.log) (λ q. get-from_entries nat_cmp_total (pairs_along p words leaves) q ∙ elim (cases_eq q 0) [
    | inl z ↦ ap (λ (y : ℕ). find nat_cmp y (pairs_along p words leaves)) z ∙ zero_along leaves ∙ sym (g.bare q (inl z))
    | inr nz ↦
        let at = along q nz 0 leaves h.chain (λ m k. let u = h.members m k in (u.0, u.1)) in
        elim (cases_lt q (2 ^ 64 - 1)) [ inl lt ↦ at.1 (omega arith) lt | inr ge ↦ at.0 (inr ge) ∙ sym (g.bare q (inr ge)) ]
  ])

  of_class : (n : ℕ) (c : Class) → s.class n ≡ c → IsLinked c → (l : ℕ) × (a : ℕ) × (s.class n ≡ Linked l a)
  of_class n c e h = search rules

  pub holds_tree : HoldsTree p words s
  holds_tree =
      let d = down s.height (omega arith) in
      let all : List (List ℕ) = d.0 ∷ d.1 in
      record {
        levels = all;
        tree = record { root = g.shows.each Root tt ∙ sym (only p words s g (first_of d.0) s.root s.height 0 d.2.here.first g.root); lawful = d.2.lawful; apart = d.2.different };
        linked = λ n. (
          (λ k. let u = d.2.members n k in is_linked s n u.0 u.1 u.2),
          (λ h. let u = of_class n (s.class n) refl h in d.2.all n u.0 u.1 u.2 (g.heights n u.0 u.1 u.2)),
        );
        map = leaf_map (leaves_of all) d.2.leaves;
        unposted_are = d.2.count [] (none_named p words s g rest);
      }
