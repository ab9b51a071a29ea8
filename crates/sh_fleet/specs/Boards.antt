-- The board on which the notes lie: a place for each after of the sheet.
use Rattle.std.specs.Prelude.{◌≡◌, ◌≤◌, ℕ, zero, suc, Option, Some, None, List, [], ◌∷◌, drop, length, get_or, slice_get, slice_set, take}
use Rattle.std.specs.{List.{AllByRecursion}, Ordering.{nat_cmp}, BTreeMap.{BTreeMap}}
use Rattle.std.specs.BTreeMap as tree
use Rattle.sh_map.specs.declared.book.Done.{Done}
use Rattle.sh_sheet.specs.declared.item.Item.{Item, TheVariants.{Mark, After}}
use Rattle.sh_pool_rule.specs.{declared.view.Card.{Card}, Views.{view_seat}}
use Rattle.sh_pool.specs.{Cards.{IsNoteOf, NoteState}, Passes.{pass_actor, PoolTable, Standing}}
use Rattle.sh_fleet.specs.Wants.{counted, no_tally, stand, tally_from, wants_of, Heed, Tally, Want}

-- the card is its seat's, and carries as much as is wanted
pub record IsCardFor (w : Want) (c : Card) : Type 0 where
  pub seat : c.seat ≡ w.seat
  pub calls : length c.dones ≡ w.calls
  pub learnt : length c.learnt ≡ w.learnt

-- a note of this pool, as it is wanted
pub record IsNoteFor (laid : Option PoolTable) (w : Want) (n : NoteState) : Type 0 where
  pub of : IsNoteOf laid n
  pub card : IsCardFor w n.card

-- a note that a pass makes now is as it is wanted
pub record IsMaker (w : Want) (p : Standing) : Type 0 where
  pub seat : view_seat p.view ≡ w.seat
  pub calls : length (pass_actor p).dones ≡ w.calls
  pub learnt : length p.view.cards ≡ w.learnt

-- each place is empty, or a note lies there as its after wants it
abbrev pub MayLie : Option PoolTable → Want → Option NoteState → Type 0
MayLie laid w None = Unit {0}
MayLie laid w (Some n) = IsNoteFor laid w n

abbrev pub AreLying : Option PoolTable → List Want → List (Option NoteState) → Type 0
AreLying laid [] [] = Unit {0}
AreLying laid (w ∷ ws) (o ∷ os) = MayLie laid w o × AreLying laid ws os
AreLying laid ws os = ⊥

-- 0, or one more than the place of an after that wants this
abbrev pub Names : List Want → (link : ℕ) → Want → Type 0
Names ws zero w = Unit {0}
Names ws (suc k) w = slice_get ws k ≡ Some w

-- an item's link: for a mark one of the afters that name it, and for an after its place
abbrev pub IsLink : List Want → Tally → Item → (link : ℕ) → Type 0
IsLink ws t (Mark seat n) link = Names ws link (stand t seat)
IsLink ws t (After seat n) link = slice_get ws link ≡ Some (t.marks n)
IsLink ws t other link = Unit {0}

abbrev pub AreLinks : List Want → Tally → List Item → List ℕ → Type 0
AreLinks ws t [] [] = Unit {0}
AreLinks ws t (x ∷ items) (link ∷ links) = IsLink ws t x link × AreLinks ws (counted t x) items links
AreLinks ws t items links = ⊥

-- from each after to another one that wants the same
abbrev pub AreNext : List Want → List Want → List ℕ → Type 0
AreNext ws [] [] = Unit {0}
AreNext ws (w ∷ more) (next ∷ others) = Names ws next w × AreNext ws more others
AreNext ws more others = ⊥

pub record IsBoard (laid : Option PoolTable) (items : List Item) (links next : List ℕ) (notes : List (Option NoteState)) : Type 0 where
  pub links_are : AreLinks (wants_of items) no_tally items links
  pub next_are : AreNext (wants_of items) (wants_of items) next
  pub lying : AreLying laid (wants_of items) notes

-- where the mark with a number stands, one more than an after's place becomes its link
abbrev pub led : List ℕ → Option ℕ → (link : ℕ) → List ℕ
led links None link = links
led links (Some k) link = slice_set links k link

abbrev pub link_of : List ℕ → Option ℕ → ℕ
link_of links None = 0
link_of links (Some k) = get_or links k 0

-- the mark stands at this place among the items
pub record IsMarkAt (items : List Item) (k : ℕ) (w : Want) : Type 0 where
  pub seat : ℕ
  pub number : ℕ
  pub here : slice_get items k ≡ Some (Mark seat number)
  pub want : stand (tally_from no_tally (take k items)) seat ≡ w

-- What was found behind the first items of a sheet.
pub record IsLinked (ws : List Want) (front : List Item) (links next : List ℕ) (marks : BTreeMap ℕ ℕ) : Type 0 where
  pub links_are : AreLinks ws no_tally front links
  pub next_are : AreNext ws (take (length (wants_of front)) ws) next
  pub long : length next ≡ length (wants_of front)
  pub marks_are : (n k : ℕ) → tree.get nat_cmp marks n ≡ Some k → IsMarkAt front k ((tally_from no_tally front).marks n)

-- what the note of the mark, or of the after, at a place of the sheet carries
abbrev pub want_by : Tally → Option Item → Want
want_by t (Some (Mark seat n)) = stand t seat
want_by t (Some (After seat n)) = t.marks n
want_by t other = stand t 0

abbrev pub want_at : List Item → (at : ℕ) → Want
want_at items at = want_by (tally_from no_tally (take at items)) (slice_get items at)

abbrev pub IsMark : Option Item → Type 0
IsMark (Some (Mark seat n)) = Unit {0}
IsMark other = ⊥

abbrev pub IsAfter : Option Item → Type 0
IsAfter (Some (After seat n)) = Unit {0}
IsAfter other = ⊥

-- a link of a chain, and the pass whose notes the afters of the chain want
pub record IsChain (ws : List Want) (link : ℕ) (p : Standing) : Type 0 where
  pub want : Want
  pub names : Names ws link want
  pub maker : IsMaker want p

-- A seat's first afters have learnt these notes: each is the one that is wanted, and no call of the seat behind the after has
-- begun before what had been seen when the note was learnt.
abbrev pub AreHeard : List Heed → List Card → List Done → Type 0
AreHeard hs [] dones = Unit {0}
AreHeard [] (c ∷ cs) dones = ⊥
AreHeard (h ∷ hs) (c ∷ cs) dones = IsCardFor h.want c × AllByRecursion (λ (d : Done). c.seen ≤ d.first) (drop h.behind dones) × AreHeard hs cs dones

-- where the item is a mark, the pass makes notes as they are wanted there
abbrev pub StandsAt : Want → Item → Standing → Type 0
StandsAt w (Mark seat n) p = IsMaker w p
StandsAt w other p = Unit {0}

-- the pass has ended no call and learnt no note
pub record Stays (p q : Standing) : Type 0 where
  pub client : q.client ≡ p.client
  pub seat_is : view_seat q.view ≡ view_seat p.view
  pub actor : pass_actor q ≡ pass_actor p
  pub seen : q.view.seen ≡ p.view.seen
  pub cards : q.view.cards ≡ p.view.cards
