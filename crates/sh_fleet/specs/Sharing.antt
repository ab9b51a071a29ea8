-- How a sheet's items are shared out among the seats, and what a seat's work has come to.
use Rattle.std.specs.{Prelude.{◌≡◌, ℕ, zero, suc, ◌+◌, ◌≤◌, ◌==◌, Option, Some, List, [], ◌∷◌, ◌++◌, drop, filter, length, map, slice_get, take, vec_capacity}, List.{sum_by, AllByRecursion}}
use Rattle.sh_base.specs.declared.config.ConfigParts.{ConfigParts}
use Rattle.sh_map.specs.declared.{book.{Done.{Done}, Row.{Row}}, call.{Call.{Call}, Reply.{Reply}}}
use Rattle.sh_client.specs.Rests.{rows_told as machine_rows}
use Rattle.sh_sheet.specs.{declared.item.Item.{Item, TheVariants.{Ask, Mark, After, Turn}}, Sheet.{done_item, is_call, item_calls, item_seat, rows_of}}
use Rattle.sh_pool.specs.{Calls.{HasServed}, Cards.{HasLearnt}, Passes.{pass_actor, PoolTable, Standing}, Pools.{IsReady}}
use Rattle.sh_pool_rule.specs.{declared.view.Card.{Card}, Views.{view_seat}}
use Rattle.sh_fleet.specs.{Boards.{AreHeard, IsCardFor, Stays}, Wants.{heeds_of, is_after, Want}}
use Rattle.sh_fleet.specs.declared.answers.{Answer.{Answer}, Answers.{Answers}}
use Rattle.sh_fleet.specs.declared.{sharing.Share.{Share}, work.{Place.{Place}, Work.{Work}}}

-- the items of a seat, in their order
abbrev pub items_of : (seat : ℕ) → List Item → List Item
items_of seat items = filter (λ (item : Item). item_seat item == seat) items

-- what a finished call was told: its reply and its rows
pub record Told : Type 0 where
  pub reply : Reply
  pub rows : List Row

abbrev pub told : Reply → List Row → Told
told reply rows = record { reply = reply; rows = rows }

abbrev pub told_of : Done → Told
told_of d = told d.reply d.rows

-- what replies say, each with so many of the rows that are left
abbrev pub answers_in : List Answer → List Row → List Told
answers_in [] rows = []
answers_in (x ∷ xs) rows = told x.reply (take x.rows rows) ∷ answers_in xs (drop x.rows rows)

-- how many rows the replies have
abbrev pub rows_told : List Answer → ℕ
rows_told xs = sum_by (λ (x : Answer). x.rows) xs

-- the answers of a seat
abbrev pub answers_of : Answers → List Told
answers_of a = answers_in a.replies.items a.rows.items

-- the answers of each seat
abbrev pub told_by : List Answers → (seat : ℕ) → List Told
told_by [] seat = []
told_by (a ∷ more) zero = answers_of a
told_by (a ∷ more) (suc seat) = told_by more seat

-- the places of a seat's items among the sheet's: these items stand there
abbrev pub ArePlaces : List Item → (mine : List Item) → List Place → Type 0
ArePlaces items mine places = map (λ (a : Place). slice_get items a.at) places ≡ map (λ (item : Item). Some item) mine

-- each place has before it, of its seat, just the items of the places before
abbrev pub AreOrdered : List Item → (seat : ℕ) → (mine : List Item) → List Place → Type 0
AreOrdered items seat mine places = (i : ℕ) (a : Place) → slice_get places i ≡ Some a → items_of seat (take a.at items) ≡ take i mine

-- What the pass has learnt at its seat's first items: each after's note, and no more than it has seen now.
pub record HasLearned (items : List Item) (seat next : ℕ) (p : Standing) : Type 0 where
  pub heard : AreHeard (heeds_of seat items) p.view.cards (pass_actor p).dones
  pub count : length p.view.cards ≡ length (filter is_after (take next (items_of seat items)))
  pub within : AllByRecursion (λ (c : Card). c.seen ≤ length p.view.seen) p.view.cards

-- there is room for the answers of these items
pub record HasRoom (p : ConfigParts) (rest : List Item) (a : Answers) : Type 0 where
  pub replies : length a.replies.items + sum_by item_calls rest ≤ vec_capacity a.replies
  pub rows : length a.rows.items + sum_by (rows_of p) rest ≤ vec_capacity a.rows

-- A pass of the pool, of this seat, with no call under way; the places of its seat's items, of which the first ones were
-- served, each call by an ended call of the pass; what these were told; and room for the answers of all others.
pub record IsWork (p : ConfigParts) (laid : Option PoolTable) (items : List Item) (seat : ℕ) (w : Work) : Type 0 where
  pub ready : IsReady p laid w.pass
  pub seat_is : view_seat w.pass.view ≡ seat
  pub places : ArePlaces items (items_of seat items) w.places.items
  pub order : AreOrdered items seat (items_of seat items) w.places.items
  pub next : w.next ≤ length w.places.items
  pub heard : HasLearned items seat w.next w.pass
  pub calls : map done_item (pass_actor w.pass).dones ≡ filter is_call (take w.next (items_of seat items))
  pub told : map told_of (pass_actor w.pass).dones ≡ answers_of w.answers
  pub counted : rows_told w.answers.replies.items ≡ length w.answers.rows.items
  pub room : HasRoom p (drop w.next (items_of seat items)) w.answers

-- all items of the seat were served
pub record IsDone (p : ConfigParts) (laid : Option PoolTable) (items : List Item) (seat : ℕ) (w : Work) : Type 0 where
  pub work : IsWork p laid items seat w
  pub all : w.next ≡ length w.places.items

-- the works of all seats, in rising order
abbrev pub AreWorks : ConfigParts → Option PoolTable → List Item → (seat : ℕ) → List Work → Type 0
AreWorks p laid items seat [] = Unit {0}
AreWorks p laid items seat (w ∷ ws) = IsWork p laid items seat w × AreWorks p laid items (suc seat) ws

abbrev pub AreDone : ConfigParts → Option PoolTable → List Item → (seat : ℕ) → List Work → Type 0
AreDone p laid items seat [] = Unit {0}
AreDone p laid items seat (w ∷ ws) = IsDone p laid items seat w × AreDone p laid items (suc seat) ws

-- A seat's part of the sheet's first items: the places of its items, how many of them are calls, and how many rows these may
-- have.
pub record IsShare (p : ConfigParts) (items front : List Item) (seat : ℕ) (s : Share) : Type 0 where
  pub places : ArePlaces items (items_of seat front) s.places.items
  pub order : AreOrdered items seat (items_of seat front) s.places.items
  pub calls : s.calls ≡ sum_by item_calls (items_of seat front)
  pub rows : s.rows ≡ sum_by (rows_of p) (items_of seat front)

-- the parts of all seats, in rising order, from this one on
abbrev pub AreShares : ConfigParts → (items front : List Item) → (seat : ℕ) → List Share → Type 0
AreShares p items front seat [] = Unit {0}
AreShares p items front seat (s ∷ ss) = IsShare p items front seat s × AreShares p items front (suc seat) ss

-- a part of no items
pub record IsNoShare (s : Share) : Type 0 where
  pub places : s.places.items ≡ []
  pub calls : s.calls ≡ 0
  pub rows : s.rows ≡ 0

-- the part has one item more
pub record IsGiven (p : ConfigParts) (at n : ℕ) (item : Item) (s t : Share) : Type 0 where
  pub places : t.places.items ≡ s.places.items ++ record { at = at; n = n } ∷ []
  pub calls : t.calls ≡ s.calls + item_calls item
  pub rows : t.rows ≡ s.rows + rows_of p item

-- the passes of all seats from this one on, none of which has served a call
abbrev pub AreUnused : ConfigParts → Option PoolTable → (seat : ℕ) → List Standing → Type 0
AreUnused p laid seat [] = Unit {0}
AreUnused p laid seat (q ∷ qs) = IsReady p laid q × (view_seat q.view ≡ seat) × ((pass_actor q).dones ≡ []) × (q.view.cards ≡ []) × AreUnused p laid (suc seat) qs

-- the work of a pass that has served none of its share, with room for all of it
pub record IsBegun (q : Standing) (s : Share) (w : Work) : Type 0 where
  pub pass : w.pass ≡ q
  pub places : w.places.items ≡ s.places.items
  pub next : w.next ≡ 0
  pub replies : w.answers.replies.items ≡ []
  pub rows : w.answers.rows.items ≡ []
  pub reply_room : s.calls ≤ vec_capacity w.answers.replies
  pub row_room : s.rows ≤ vec_capacity w.answers.rows

-- The work's pass has served a call; its reply and its rows stand behind the other answers.
pub record HasAsked (call : Call) (v w : Work) : Type 0 where
  pub reply : Reply
  pub served : HasServed call reply v.pass w.pass
  pub replies : w.answers.replies.items ≡ v.answers.replies.items ++ record { reply = reply; rows = length (machine_rows w.pass.client) } ∷ []
  pub rows : w.answers.rows.items ≡ v.answers.rows.items ++ machine_rows w.pass.client
  pub reply_room : vec_capacity v.answers.replies ≤ vec_capacity w.answers.replies
  pub row_room : vec_capacity v.answers.rows ≤ vec_capacity w.answers.rows
  pub places : w.places.items ≡ v.places.items
  pub next : w.next ≡ v.next

-- but for its pass the work is as it was
pub record KeepsRest (v w : Work) : Type 0 where
  pub answers : w.answers ≡ v.answers
  pub places : w.places.items ≡ v.places.items
  pub next : w.next ≡ v.next

-- The work's pass has learnt a note, as it was wanted.
pub record HasHeeded (want : Want) (v w : Work) : Type 0 where
  pub note : Card
  pub card : IsCardFor want note
  pub learnt : HasLearnt note v.pass w.pass
  pub rest : KeepsRest v w

-- the item was served: a call is asked; at a mark the pass stays as it was, and at an after it has learnt this
abbrev pub HasServedItem : (want : Want) → Item → Work → Work → Type 0
HasServedItem want (Ask seat call) v w = HasAsked call v w
HasServedItem want (Mark seat n) v w = Stays v.pass w.pass × KeepsRest v w
HasServedItem want (After seat n) v w = HasHeeded want v w
HasServedItem want (Turn seat count) v w = w ≡ v
