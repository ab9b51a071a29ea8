-- Two acts of one turn, of which one leaves the nodes and their WRITEs.
use Rattle.std.{proofs.Common.{◌≡◌, ◌≢◌, ℕ, List, [], ◌++◌, refl, ap, sym, ◌∙◌, subst, append-nil, append_assoc}}
use Rattle.sh_logic.proofs.Lists.{all_join}
use Rattle.sh_base.specs.{declared.config.ConfigParts.{ConfigParts}, Layout.{lock_of}}
use Rattle.sh_map.specs.declared.log.Entry.{Entry}
use Rattle.sh_read.specs.Moments.{Writing, Next, still}
use Rattle.sh_state.specs.{TreeState.{Linked, Owner, LockState, Owns, TreeState, writing}, Change.{ChangeFor}}

module _ (p : ConfigParts) (Other : Owner → Type 0) where
  pub nothing_done : (s : TreeState) → ChangeFor p Other s s
  nothing_done s = record { more = []; longer = sym (append-nil s.log); entries = λ j n. tt; linked = λ n l a e. e; fresh = λ j n ne e. (e, refl); posts = λ j n x ne h. ((λ e. e), λ e. e); back = λ o l ne h. h; holds = λ o l ne h. refl; nodes = λ o n l a ne e h. refl; moves = λ n l a e. still }

  -- what doesn't speak of moves joins by itself
  join : (s t u : TreeState) → ChangeFor p Other s t → ChangeFor p Other t u → ((n l a : ℕ) → s.class n ≡ Linked l a → Next p (s.node n) (writing p s n) (u.node n) (writing p u n)) → ChangeFor p Other s u
  join s t u a b moves = record {
    more = a.more ++ b.more;
    longer = b.longer ∙ ap (λ (es : List Entry). es ++ b.more) a.longer ∙ append_assoc s.log a.more b.more;
    entries = λ j n. all_join (λ (e : Entry). e.seat ≢ j) a.more b.more (a.entries j n) (b.entries j n);
    linked = λ n l c e. b.linked n l c (a.linked n l c e);
    fresh = λ j n ne e. let q = a.fresh j n ne e in let r = b.fresh j n ne q.0 in (r.0, r.1 ∙ q.1);
    posts = λ j n x ne h. let q = a.posts j n x ne h in let r = b.posts j n x ne h in ((λ e. r.0 (q.0 e)), λ e. q.1 (r.1 e));
    back = λ o l ne h. a.back o l ne (b.back o l ne h);
    holds = λ o l ne h. let q = a.holds o l ne h in b.holds o l ne (subst (λ (x : LockState). Owns x o) (sym q) h) ∙ q;
    nodes = λ o n l c ne e h. let q = a.holds o (lock_of p n) ne h in b.nodes o n l c ne (a.linked n l c e) (subst (λ (x : LockState). Owns x o) (sym q) h) ∙ a.nodes o n l c ne e h;
    moves = moves;
  }

  -- the second leaves the nodes
  pub join_after : (s t u : TreeState) → ChangeFor p Other s t → ChangeFor p Other t u → ((n : ℕ) → u.node n ≡ t.node n) → ((n : ℕ) → writing p u n ≡ writing p t n) → ChangeFor p Other s u
  join_after s t u a b node write = join s t u a b (λ n l c e. subst (λ (x : List ℕ × Writing). Next p (s.node n) (writing p s n) x.0 x.1) (λ z. (sym (node n) z, sym (write n) z)) (a.moves n l c e))

  -- the first does
  pub join_before : (s t u : TreeState) → ChangeFor p Other s t → ChangeFor p Other t u → ((n : ℕ) → t.node n ≡ s.node n) → ((n : ℕ) → writing p t n ≡ writing p s n) → ChangeFor p Other s u
  join_before s t u a b node write = join s t u a b (λ n l c e. subst (λ (x : List ℕ × Writing). Next p x.0 x.1 (u.node n) (writing p u n)) (λ z. (node n z, write n z)) (b.moves n l c (a.linked n l c e)))
