-- What a READ of a linked node knows, in a scene.
use Rattle.std.proofs.Common.{rules, ◌≡◌, ℕ, zero, suc, ◌+◌, ◌<◌, ◌≤◌, List, length, get_or, set, sym, ◌∙◌, subst, arith}
use Rattle.sh_base.{specs.{declared.config.ConfigParts.{ConfigParts}, Setting.{node_size, IsSetting}, Layout.{node_word, rear_at}, Places.{Node}}, proofs.LayoutLemmas.{node_size_is}}
use Rattle.sh_map.specs.declared.log.Entry.{Entry}
use Rattle.sh_image.specs.{Leaf.{leaf_in}, Inner.{inner_in, SpellsInner}, Seen.{IsUntorn, SeenBy}, declared.read.Seen.TheVariants.{Odd}}
use Rattle.sh_read.{specs.Moments.{Writing, word}, proofs.Read.{FitsRead-next, FitsRead-load, FitsRead-begin}}
use Rattle.sh_state.{specs.{TreeState.{Linked, Owner, TreeState, writing}, Nodes.{IsStandingLeaf}, Ground.{Ground}, Change.{ChangeFor}}, proofs.Scenes.{moment_of}}
use Rattle.sh_readers.{specs.{Points.{IsReadLeaf}, Knows.{Knows, Anything, IsKnown}}, proofs.Knowing.{knows_event, knows_begin, knows_load, knows_accepted, inner_accepted}}

-- where the loads are
pub loads_from : (p : ConfigParts) (log : List Entry) (first level : ℕ) (s : List ℕ) (w : Writing) (from : ℕ) (got : List ℕ) → IsKnown p log first level s w from got → from ≤ rear_at p
loads_from p log first level s w from got k = search rules

module _ (p : ConfigParts) (ok : IsSetting p) where
  -- an act of others
  pub known_on : (Other : Owner → Type 0) (words now : List ℕ) (s t : TreeState) → Ground p words s → Ground p now t → ChangeFor p Other s t → (n l a first from : ℕ) (got : List ℕ) → s.class n ≡ Linked l a
      → IsKnown p s.log first l (s.node n) (writing p s n) from got → IsKnown p t.log first l (t.node n) (writing p t n) from got
  known_on Other words now s t g g' ch n zero a first from got e k =
      let e' = ch.linked n zero a e in
      subst (λ (log : List Entry). Knows p log first (t.node n) (writing p t n) from got) (sym ch.longer)
      (knows_event p s.log ch.more first (s.node n) (t.node n) (writing p s n) (writing p t n) from got (ch.moves n zero a e) (moment_of p words s ok g n zero a e) (moment_of p now t ok g' n zero a e') (g.long n) (g'.long n) (g.sits n zero a e).body
      (subst (λ (log : List Entry). IsStandingLeaf p log (t.node n)) ch.longer (g'.sits n zero a e').body) k)
  known_on Other words now s t g g' ch n (suc l) a first from got e k =
      FitsRead-next p (suc l) Anything (s.node n) (t.node n) (writing p s n) (writing p t n) from got (ch.moves n (suc l) a e) (moment_of p words s ok g n (suc l) a e) (moment_of p now t ok g' n (suc l) a (ch.linked n (suc l) a e)) k

  module _ (words : List ℕ) (s : TreeState) (g : Ground p words s) where
    -- the word in memory, at an offset of a linked node
    pub found : (n l a o : ℕ) → s.class n ≡ Linked l a → o < node_size p → get_or words (node_word p n + o) 0 ≡ word p (s.node n) (writing p s n) o
    found n l a o e lt = g.shows.each (Node n o) ((g.sits n l a e).real, lt)

    pub known_begin : (n l a first : ℕ) (blank : List ℕ) → s.class n ≡ Linked l a → first ≤ length s.log → length blank ≡ node_size p → IsKnown p s.log first l (s.node n) (writing p s n) (rear_at p) (set blank (rear_at p) (get_or words (node_word p n + rear_at p) 0))
    known_begin n l a first blank e since long = subst (λ (x : ℕ). IsKnown p s.log first l (s.node n) (writing p s n) (rear_at p) (set blank (rear_at p) x)) (sym (found n l a (rear_at p) e (omega (arith, node_size_is p)))) (begins l e)
      where
        begins : (l : ℕ) → s.class n ≡ Linked l a → IsKnown p s.log first l (s.node n) (writing p s n) (rear_at p) (set blank (rear_at p) (word p (s.node n) (writing p s n) (rear_at p)))
        begins zero e = knows_begin p s.log first (s.node n) (writing p s n) (moment_of p words s ok g n zero a e) (g.long n) (g.sits n zero a e).body blank long since
        begins (suc l) e = FitsRead-begin p (suc l) Anything (s.node n) (writing p s n) blank (moment_of p words s ok g n (suc l) a e) long

    pub known_load : (n l a first at : ℕ) (got : List ℕ) → s.class n ≡ Linked l a → IsKnown p s.log first l (s.node n) (writing p s n) (at + 1) got → IsKnown p s.log first l (s.node n) (writing p s n) at (set got at (get_or words (node_word p n + at) 0))
    known_load n l a first at got e k =
        let lt = loads_from p s.log first l (s.node n) (writing p s n) (at + 1) got k in
        subst (λ (x : ℕ). IsKnown p s.log first l (s.node n) (writing p s n) at (set got at x)) (sym (found n l a at e (omega (arith, lt, node_size_is p)))) (loads l e k)
      where
        loads : (l : ℕ) → s.class n ≡ Linked l a → IsKnown p s.log first l (s.node n) (writing p s n) (at + 1) got → IsKnown p s.log first l (s.node n) (writing p s n) at (set got at (word p (s.node n) (writing p s n) at))
        loads zero e k = knows_load p s.log first (s.node n) (writing p s n) (moment_of p words s ok g n zero a e) (g.long n) (g.sits n zero a e).body at got k
        loads (suc l) e k = FitsRead-load p (suc l) Anything (s.node n) (writing p s n) at got (moment_of p words s ok g n (suc l) a e) tt k

    pub known_leaf : (n a first : ℕ) (got : List ℕ) → s.class n ≡ Linked 0 a → IsKnown p s.log first 0 (s.node n) (writing p s n) 0 got → get_or got 0 0 ≡ get_or words (node_word p n + 0) 0 → IsUntorn p got → IsReadLeaf p s.log first (s.node n) got
    known_leaf n a first got e k last untorn = knows_accepted p s.log first (s.node n) (writing p s n) (moment_of p words s ok g n 0 a e) (g.long n) (g.sits n 0 a e).body got k (last ∙ found n 0 a 0 e (omega (arith, node_size_is p))) untorn

    pub known_inner : (n l a first : ℕ) (got : List ℕ) → s.class n ≡ Linked (suc l) a → IsKnown p s.log first (suc l) (s.node n) (writing p s n) 0 got → get_or got 0 0 ≡ get_or words (node_word p n + 0) 0 → get_or got 0 0 ≡ get_or got (rear_at p) 0 → got ≡ s.node n
    known_inner n l a first got e k last agree = inner_accepted p l Anything (s.node n) (writing p s n) got (moment_of p words s ok g n (suc l) a e) (g.long n) k (last ∙ found n (suc l) a 0 e (omega (arith, node_size_is p))) agree

    -- what was read is a node
    pub known_node : (l n a first : ℕ) (got : List ℕ) → s.class n ≡ Linked l a → IsKnown p s.log first l (s.node n) (writing p s n) 0 got → get_or got 0 0 ≡ get_or words (node_word p n + 0) 0 → SeenBy p got Odd → ⊥
    known_node zero n a first got e k last odd = odd.1 (leaf_in p got) (known_leaf n a first got e k last odd.0).spells
    known_node (suc l) n a first got e k last odd =
        let is : got ≡ s.node n = known_inner n l a first got e k last odd.0.node in
        odd.2 (inner_in (s.node n)) (subst (λ (ws : List ℕ). SpellsInner p ws (inner_in (s.node n))) (sym is) (g.sits n (suc l) a e).body.spells)
