-- What everybody else relies on, and an act leaves.
use Rattle.std.specs.{Prelude.{◌≡◌, ◌≢◌, ◌↔◌, ℕ, List, ◌++◌}, List.{AllByRecursion}}
use Rattle.sh_base.specs.{declared.config.ConfigParts.{ConfigParts}, Layout.{lock_of}}
use Rattle.sh_map.specs.declared.log.Entry.{Entry}
use Rattle.sh_read.specs.Moments.{Next}
use Rattle.sh_state.specs.TreeState.{Fresh, Linked, ParentLink, Posted, Pending, Skipped, Owner, Seat, Owns, TreeState, writing}

-- a post that is a seat's: it is to make it, or it skipped it
abbrev pub IsPostOf : (seat : ℕ) → ParentLink → Type 0
IsPostOf seat Posted = ⊥
IsPostOf seat (Pending i) = i ≡ seat
IsPostOf seat (Skipped i) = i ≡ seat

-- no entry is of the seat
abbrev pub HasNoneOf : (seat : ℕ) → List Entry → Type 0
HasNoneOf seat log = AllByRecursion (λ (e : Entry). e.seat ≢ seat) log

-- From one scene to another only those have acted who aren't among the others. The log has only grown, by no entry of
-- theirs. A linked node stays in its level with its low fence. A seat's own nodes are left as they are, and so are its
-- posts. The others hold the locks that they held, and no more, and the nodes under these locks stand as they did. And
-- a linked node moved on by one store of its WRITE at most: so what READs under way know, stays.
pub record ChangeFor (p : ConfigParts) (Other : Owner → Type 0) (s t : TreeState) : Type 0 where
  pub more : List Entry
  pub longer : t.log ≡ s.log ++ more
  pub entries : (seat : ℕ) → Other (Seat seat) → HasNoneOf seat more
  pub linked : (n level low : ℕ) → s.class n ≡ Linked level low → t.class n ≡ Linked level low
  pub fresh : (seat n : ℕ) → Other (Seat seat) → s.class n ≡ Fresh seat → (t.class n ≡ Fresh seat) × (t.node n ≡ s.node n)
  pub posts : (seat n : ℕ) (x : ParentLink) → Other (Seat seat) → IsPostOf seat x → (s.post n ≡ x) ↔ (t.post n ≡ x)
  pub back : (o : Owner) (lock : ℕ) → Other o → Owns (t.hold lock) o → Owns (s.hold lock) o
  pub holds : (o : Owner) (lock : ℕ) → Other o → Owns (s.hold lock) o → t.hold lock ≡ s.hold lock
  pub nodes : (o : Owner) (n level low : ℕ) → Other o → s.class n ≡ Linked level low → Owns (s.hold (lock_of p n)) o → t.node n ≡ s.node n
  pub moves : (n level low : ℕ) → s.class n ≡ Linked level low → Next p (s.node n) (writing p s n) (t.node n) (writing p t n)

-- an act of one seat
abbrev pub Change : ConfigParts → (seat : ℕ) → TreeState → TreeState → Type 0
Change p seat s t = ChangeFor p (λ o. o ≢ Seat seat) s t
