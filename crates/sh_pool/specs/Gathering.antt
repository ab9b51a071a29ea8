-- A pool that is gathered: all its passes are taken in, and its words come back.
use Rattle.std.specs.{Prelude.{◌≡◌, ℕ, ◌<◌, Option, None, Some, List, [], ◌∷◌, ◌++◌, length, map, slice_index, Any}, List.{AllByRecursion}}
use mathlib.Core.Option as maybe
use lib.ListN.{get_elem?}
use Rattle.atomic_table.specs.Seated.{TableId}
use Rattle.sh_base.specs.{declared.config.ConfigParts.{ConfigParts}, Setting.{all_seats, pool_words}}
use Rattle.sh_map.specs.declared.{log.Entry.{Entry}, book.Done.{Done}}
use Rattle.sh_tree.specs.Tree.{unposted_in}
use Rattle.sh_core.specs.{Actors.{Actor}, Causes.{HaveCauses}, Keeps.{skips_counted}}
use Rattle.sh_core_says.specs.{Books.{counter_in, IsBookOf}, Rest.{AreAtRest}}
use Rattle.sh_local.specs.{Calls.{total}, Chairs.{Sitting}}
use Rattle.sh_pool_rule.specs.{declared.view.{Member.{Member}, PassView.{PassView}}, Views.{empty_view, member, view_seat, Begins, In}, Lives.{calls_told, HasLived}, Rights.{joined_view, told_view}}
use Rattle.sh_pool.specs.{Handed.{Handed}, Passes.{life_of, pass_actor, tale_of, IsPass, PoolTable, Standing}, Pools.{AreReady, PoolState}, Cards.{HasItsNotes}, declared.right.Knower.{Knower}}

-- a pass's seat, and its actor, which has all ended calls of the pass
abbrev pub member_of : Standing → Member
member_of q = member (view_seat q.view) (pass_actor q)

-- one of the passes has the actor a as that of the seat k
abbrev pub PassesHave : List Standing → (seat : ℕ) → Actor → Type 0
PassesHave qs k a = In (member k a) (map member_of qs)

-- These are all passes of a laid pool, each once, in any order: as many as it has seats, and one of each seat. None has a
-- call under way.
abbrev pub seats_of : List Standing → List ℕ
seats_of qs = map (λ (q : Standing). view_seat q.view) qs

pub record AreAllPasses (t : PoolTable) (qs : List Standing) : Type 0 where
  pub ready : AreReady t.setting (Some t) qs
  pub long : length qs ≡ all_seats t.setting
  pub seats : (k : ℕ) → k < all_seats t.setting → (i : ℕ) × (get_elem? (seats_of qs) i ≡ maybe.some k)

abbrev pub AreAllOf : Option PoolTable → List Standing → Type 0
AreAllOf None qs = ⊥
AreAllOf (Some t) qs = AreAllPasses t qs

-- A pass's calls: those that were begun on it, in order, have ended, each with the reply and the rows of the machine that
-- was told, from its making on, what the pass's events found and what its chair answered.
pub record HasItsCalls (q : Standing) : Type 0 where
  pub lived : HasLived q.client.setting (view_seat q.view) (life_of q) (pass_actor q)
  pub begun : map (λ (d : Done). d.call) (pass_actor q).dones ≡ calls_told (life_of q)

-- The words of a gathered pool, and its log: the longest that one of the passes has seen, of which each pass has seen a
-- front. Word 0 is 0. The rest is said as of all seats at rest: all lock words are 0; the words hold a lawful tree with the
-- log's map; each list that has every pass's ended calls in their order is a lawful and closed book of the log, in which each
-- refusal has its cause; and as many nodes aren't posted as the passes' clients count skips. Of each note that was learnt: the
-- calls and notes that it carries of its pass come to no more than what the learning pass had seen then.
pub record IsGatheredFrom (p : ConfigParts) (qs : List Standing) (words : List ℕ) : Type 0 where
  pub log : List Entry
  pub fronts : AllByRecursion (λ (q : Standing). Begins q.view.seen log) qs
  pub longest : Any (λ (q : Standing). q.view.seen ≡ log) qs
  pub long : length words ≡ pool_words p
  pub own_word : slice_index words 0 ≡ 0
  pub rest : AreAtRest p words log (PassesHave qs)
  pub causes : (dones : List Done) → IsBookOf (PassesHave qs) dones → HaveCauses p (counter_in p words) log dones
  pub skipped : unposted_in p words rest.levels ≡ total (λ (q : Standing). skips_counted q.client.registers.tally) qs
  pub calls : AllByRecursion HasItsCalls qs
  pub notes : AllByRecursion (HasItsNotes qs) qs

-- the pool was laid, and these passes were gathered: nothing is laid any more
abbrev pub HasGatheredAll : Option PoolTable → List Standing → PoolState → Type 0
HasGatheredAll None qs s = ⊥
HasGatheredAll (Some t) qs s = (s.laid ≡ None) × IsGatheredFrom t.setting qs s.words

-- ---- how the passes are taken in: a new view is joined with the view of each, from the last to the first, told of all that
-- the pass has done; their chairs come in that order

abbrev pub told_of : Standing → PassView
told_of q = told_view (pass_actor q) (tale_of q (length q.chair.view.calls)) q.view

abbrev pub gathered_view : List Standing → PassView
gathered_view [] = empty_view
gathered_view (q ∷ qs) = joined_view (gathered_view qs) (told_of q)

abbrev pub chairs_in : List Standing → List (Sitting Handed Knower)
chairs_in [] = []
chairs_in (q ∷ qs) = chairs_in qs ++ q.chair ∷ []

-- a pass at this table, of this setting
abbrev pub IsAtTable : TableId → ConfigParts → Standing → Type 0
IsAtTable z p q = (q.table ≡ z) × (q.client.setting ≡ p)

-- of all passes those behind `rest` are taken in
pub record AreTakenIn (qs rest : List Standing) (v : PassView) (chairs : List (Sitting Handed Knower)) : Type 0 where
  pub back : List Standing
  pub whole : qs ≡ rest ++ back
  pub view : v ≡ gathered_view back
  pub chairs_are : chairs ≡ chairs_in back
  pub passes : AllByRecursion IsPass back
