-- What a decision under the lock says of its image; and the nodes that a client has in hand are nodes of the setting, since each
-- number was tested when it was found, and a lock is taken for an update or a post alone.
use Rattle.std.{proofs.Common.{rules, ◌≡◌, ℕ, ◌<◌, ◌≤◌, Bool, true, false, cond, Option, Some, None, List, refl, sym, ap, ◌∙◌, arith, ◌+◌}, specs.List.{AllByRecursion}}
use Rattle.std.{proofs.lemmas.Bool.Decides.{nat_tests}, specs.{Option.{option_map}, Prelude.{nat_lt, nat_le, ◌==◌, ◌||◌, ◌&&◌}}}
use Rattle.sh_logic.proofs.Tests.{is_lt, less_test, not_less_test, not_lt, at_most_test, true_and}
use Rattle.sh_base.specs.{Setting.{last_version, last_entry_version, IsNode}, declared.config.ConfigParts.{ConfigParts}}
use Rattle.sh_map.specs.declared.call.Call.{Call, TheVariants.{Put, Del}}
use Rattle.sh_image.specs.{Inner.{Inner, Inner as InnerOf, IsInner}, Leaf.{Leaf}, declared.{inner.Image.{Image, TheVariants.{Leaf as LeafImage, Inner as InnerImage}}}}
use Rattle.sh_descend.{proofs.ChildLemmas.{child_is_node}, specs.{Descent.{child_of, hop_of, level_of}, declared.Hop.{Hop, TheVariants.{Here, Right as HopRight, Down, Restart as HopRestart}}}}
use Rattle.sh_decide.specs.{Aims.{call_key, is_node, target, aim_of, takes_lock}, declared.state.Decision.TheVariants.{Absent, Restart, Right, Entry, Rewrite, Worn, Split, Skip, Add}}
use Rattle.sh_decide.specs.{Deciding.{change_at, decided_by, decided_here, decision_of, put_in, unless_worn, update_in}, Leaves.{version_at}}
use Rattle.sh_decide.specs.{Ways.{way_by}, declared.state.{Aim.{Aim, TheVariants.{Own, Posts}}, Decision.{Decision}, Posting.{Posting}, Way.{Way}}}
use Rattle.sh_course.specs.{Causes.{put_slot, slot_of, IsFull, IsLeafFor, IsWorn, NeedsNode}, Skips.{IsWornAt}}
use Rattle.sh_cache.{proofs.FindLemmas.{covers_fences, found_covers, found_has}, specs.Cached.{found}}
use Rattle.sh_read.specs.{Reads.{read_fed, Reads}}
use Rattle.sh_client.specs.{Cached.{origin_in}, Ranges.{gathered}, declared.state.Phase.{Phase, TheVariants.{Read, Draw, Look, Grab, ReadLocked, Seek, Fill, Waiting, Body, Unlock, Leave}}}
use Rattle.sh_client.specs.{Feeds.{began_at, begun, calling, fed_in, from_cached, held_by, went}, Machine.{Machine, began_cached, reading, to}}
use Rattle.sh_client.specs.{Splitting.{halved_by, needing, with_fresh}, declared.state.{Filling.{Filling, TheVariants.{RightHalf, NewRoot}}, Then.TheVariants.{Ends, Starts, Takes}}}
use Rattle.sh_client.specs.declared.state.{Edge.{Edge}, Giving.{Giving}, Need.{Need, TheVariants.{ToSplit, ToGrow}}, Then.{Then}}
use Rattle.sh_decide.specs.declared.state.Way.TheVariants as way

-- ---- what a decision under the lock says of the image that it is taken by
pub chosen : {X : Type 0} (P : X → Type 0) (b : Bool) (x y : X) → (b ≡ true → P x) → (b ≡ false → P y) → P (cond b x y)
chosen P b x y f g = search rules

abbrev pub IsNamed : ConfigParts → Decision → Type 0
IsNamed p (Right node) = is_node p node ≡ true
IsNamed p d = Unit {0}

-- of its call's leaf
abbrev pub LeafGives : ConfigParts → Call → Leaf → Decision → Type 0
LeafGives p call a (Right node) = is_node p node ≡ true
LeafGives p call a (Worn version) = IsWorn p call a version
LeafGives p call a Split = IsFull p call a
LeafGives p call a Skip = ⊥
LeafGives p call a Add = ⊥
LeafGives p call a d = Unit {0}

-- of an image of the wrong kind, and under the lock of a range, which takes none
abbrev pub OnlyBack : ConfigParts → Decision → Type 0
OnlyBack p (Right node) = is_node p node ≡ true
OnlyBack p Restart = Unit {0}
OnlyBack p d = ⊥

-- of a post's node
abbrev pub InnerGives : ConfigParts → Posting → Inner → Decision → Type 0
InnerGives p post a (Right node) = is_node p node ≡ true
InnerGives p post a Skip = IsWornAt p post a
InnerGives p post a Split = Unit {0}
InnerGives p post a Add = Unit {0}
InnerGives p post a Restart = Unit {0}
InnerGives p post a d = ⊥

abbrev pub Gives : ConfigParts → Call → Aim → Image → Decision → Type 0
Gives p call Own (LeafImage a) d = LeafGives p call a d
Gives p call (Posts post) (InnerImage a) d = InnerGives p post a d
Gives p call aim image d = OnlyBack p d

-- what an update does with the entry that it can use, or without one
abbrev pub with_slot : ConfigParts → Leaf → Call → (slot : Option ℕ) → Decision
with_slot p a call (Some index) = change_at p a index
with_slot p a (Put key value) None = unless_worn p a.version Split
with_slot p a (Del key) None = Absent
with_slot p a call None = Restart

put_slots : (p : ConfigParts) (a : Leaf) (key : ℕ) (value : List ℕ) (o : Option ℕ) → put_in p a o ≡ with_slot p a (Put key value) (put_slot a o)
put_slots p a key value o = search rules

slots : (p : ConfigParts) (a : Leaf) (call : Call) → update_in p a call ≡ with_slot p a call (slot_of a call)
slots p a call = search (rules, put_slots)

module _ (p : ConfigParts) (call : Call) (a : Leaf) (leaf : IsLeafFor a (call_key call)) where
  unless : (d : Decision) → NeedsNode a call (slot_of a call) → (a.version < last_version p → LeafGives p call a d) → LeafGives p call a (unless_worn p a.version d)
  unless d needs otherwise = chosen (LeafGives p call a) (nat_lt a.version (last_version p)) d (Worn a.version) (λ e. otherwise (is_lt a.version (last_version p) e)) (λ e. record { leaf = leaf; version_is = refl; last = not_lt a.version (last_version p) e; needs = needs })

by_slot : (p : ConfigParts) (call : Call) (a : Leaf) → IsLeafFor a (call_key call) → (o : Option ℕ) → slot_of a call ≡ o → LeafGives p call a (with_slot p a call o)
by_slot p call a h1 o h2 = search (rules, nat_lt, version_at, last_entry_version, unless_worn, not_lt, unless)

-- what a hop Here says of an image's level and fences
pub record IsHere (level low high key aimed : ℕ) : Type 0 where
  pub level_is : level ≡ aimed
  pub low_is : low ≤ key
  pub high_is : key < high

pub hop_here : (level low high next child key aimed : ℕ) → cond (nat_lt level aimed || nat_lt key low) HopRestart (cond (nat_le high key) (HopRight next) (cond (level == aimed) Here (Down child))) ≡ Here → IsHere level low high key aimed
hop_here level low high next child key aimed is = record { level_is = grind (arith, nat_tests, is); low_is = grind (arith, nat_tests, is); high_is = grind (arith, nat_tests, is) }

back_hop : (p : ConfigParts) (call : Call) (aim : Aim) (image : Image) (h : Hop) → decided_here p call aim image ≡ Restart → OnlyBack p (decided_by p call aim image h)
back_hop p call aim image h is = search rules

pub gives : (p : ConfigParts) (call : Call) (aim : Aim) (image : Image) → Gives p call aim image (decision_of p call aim image)
gives p call aim image = search (rules, by_slot, slot_of, hop_of, hop_here, child_of, back_hop, chosen)

-- ---- the converse: what must be decided of a leaf
module _ (p : ConfigParts) (call : Call) (a : Leaf) (leaf : IsLeafFor a (call_key call)) where
  pub slot_decides : (slot : Option ℕ) → slot_of a call ≡ slot → decision_of p call Own (LeafImage a) ≡ with_slot p a call slot
  slot_decides slot h1 = search (rules, leaf, slots)

  pub change_is : (index : ℕ) → last_entry_version ≤ version_at a.entries index → change_at p a index ≡ unless_worn p a.version (Rewrite index)
  change_is index last = rw (not_less_test (version_at a.entries index) last_entry_version last) refl

  pub entry_is : (index : ℕ) → version_at a.entries index < last_entry_version → change_at p a index ≡ Entry index
  entry_is index below = rw (less_test (version_at a.entries index) last_entry_version below) refl

  pub left_is : (d : Decision) → a.version < last_version p → unless_worn p a.version d ≡ d
  left_is d below = rw (less_test a.version (last_version p) below) refl

pub worn_decides : (p : ConfigParts) (call : Call) (a : Leaf) (version : ℕ) → IsWorn p call a version → decision_of p call Own (LeafImage a) ≡ Worn version
worn_decides p call a version h = slot_decides p call a h.leaf (slot_of a call) refl ∙ (search (rules, change_is, not_less_test, last_version)) ∙ ap Worn (sym h.version_is)

pub full_decides : (p : ConfigParts) (call : Call) (a : Leaf) → IsFull p call a → decision_of p call Own (LeafImage a) ≡ Split
full_decides p call a h = slot_decides p call a h.leaf None h.none ∙ (search (rules, left_is))

abbrev pub Named : ConfigParts → (node : ℕ) → Type 0
Named p node = is_node p node ≡ true

pub named_node : (p : ConfigParts) (node : ℕ) → Named p node → IsNode p node
named_node p node h = record { first = grind (arith, nat_tests, h); last = grind (arith, nat_tests, h) }

node_named : (p : ConfigParts) (node : ℕ) → IsNode p node → Named p node
node_named p node h = true_and _ _ (at_most_test _ _ h.first) (at_most_test _ _ h.last)

-- a lock is taken for it
abbrev pub Locks : Call → Aim → Type 0
Locks call aim = takes_lock call aim ≡ true

abbrev pub NamesThen : ConfigParts → Call → Then → Type 0
NamesThen p call (Starts aim) = Locks call aim
NamesThen p call (Takes aim node) = Named p node × Locks call aim
NamesThen p call Ends = Unit {0}

abbrev pub NamesGiving : ConfigParts → Call → Giving → Type 0
NamesGiving p call g = Named p g.node × NamesThen p call g.after

abbrev pub NamesNeed : ConfigParts → Call → Reads → Need → Type 0
NamesNeed p call reads (ToSplit aim depth) = Named p reads.node × Locks call aim
NamesNeed p call reads (ToGrow post root) = Unit {0}

abbrev pub NamesFilling : ConfigParts → Call → Filling → Type 0
NamesFilling p call (RightHalf depth giving) = NamesGiving p call giving
NamesFilling p call (NewRoot post root) = Unit {0}

abbrev pub Names : ConfigParts → Call → Reads → Phase → Type 0
Names p call reads (Read aim top) = Named p reads.node
Names p call reads (Draw aim node) = Named p node × Locks call aim
Names p call reads (Look aim node) = Named p node × Locks call aim
Names p call reads (Grab aim node) = Named p node × Locks call aim
Names p call reads (ReadLocked aim depth) = Named p reads.node × Locks call aim
Names p call reads (Seek need) = NamesNeed p call reads need
Names p call reads (Fill fresh done filling) = NamesFilling p call filling
Names p call reads (Waiting depth giving) = NamesGiving p call giving
Names p call reads (Body carry done giving) = NamesGiving p call giving
Names p call reads (Unlock node after) = Named p node × NamesThen p call after
Names p call reads (Leave node carry after) = Named p node × NamesThen p call after
Names p call reads phase = Unit {0}

abbrev pub AllNamed : Machine → Type 0
AllNamed m = Names m.setting m.registers.call m.registers.reads m.phase

abbrev NamesWay : ConfigParts → Call → Aim → Way → Type 0
NamesWay p call aim (way.Read node) = Named p node
NamesWay p call aim (way.Right node) = Named p node
NamesWay p call aim (way.Lock node) = Named p node × Locks call aim
NamesWay p call aim (way.LockRight node) = Named p node × Locks call aim
NamesWay p call aim w = Unit {0}

either_way : (p : ConfigParts) (call : Call) (aim : Aim) (next : ℕ) (t b : Bool) → takes_lock call aim ≡ t → Named p next → NamesWay p call aim (cond (t && b) (way.LockRight next) (way.Right next)) × NamesWay p call aim (cond (t && b) (way.Lock next) (way.Read next))
either_way p call aim next t b e h = search rules

by_names : (p : ConfigParts) (call : Call) (aim : Aim) (node : ℕ) (image : Image) (hop : Hop) → Named p node → NamesWay p call aim (way_by p call aim node image hop)
by_names p call aim node image Here h = search rules
by_names p call aim node image (HopRight next) h = chosen (NamesWay p call aim) (is_node p next) (cond (takes_lock call aim && (level_of image == target aim)) (way.LockRight next) (way.Right next)) way.Root (λ e. (either_way p call aim next _ _ refl e).0) (λ e. tt)
by_names p call aim node image (Down child) h = chosen (NamesWay p call aim) (is_node p child) (cond (takes_lock call aim && (level_of image == target aim + 1)) (way.Lock child) (way.Read child)) way.Root (λ e. (either_way p call aim child _ _ refl e).1) (λ e. tt)
by_names p call aim node image HopRestart h = tt

pub read_node : (p : ConfigParts) (r : Reads) (word : ℕ) → (read_fed p r word).node ≡ r.node
read_node p r word = search rules

-- ---- behind each part of a turn
halves : (m : Machine) (aim : Aim) (depth fresh : ℕ) (image : Option Image) → Named m.setting m.registers.reads.node × Locks m.registers.call aim → AllNamed (halved_by m aim depth fresh image)
halves m aim depth fresh image h = search rules

goes_fresh : (m : Machine) (fresh : ℕ) (need : Need) → NamesNeed m.setting m.registers.call m.registers.reads need → AllNamed (with_fresh m fresh need)
goes_fresh m fresh need h = search (rules, halves)

takes : (m : Machine) (need : Need) (fresh : Option ℕ) → NamesNeed m.setting m.registers.call m.registers.reads need → AllNamed (needing m need fresh)
takes m need fresh h = search (rules, goes_fresh)

gathers : (m : Machine) (aim : Aim) (edge : Option Edge) → AllNamed (gathered m aim edge)
gathers m aim edge = search rules

goes : (m : Machine) (aim : Aim) (image : Image) (w : Way) → NamesWay m.setting m.registers.call aim w → AllNamed (went m aim image w)
goes m aim image w h = search (rules, takes, gathers)

decides : (m : Machine) (aim : Aim) (depth : ℕ) (image : Option Image) → Named m.setting m.registers.reads.node × Locks m.registers.call aim → AllNamed (held_by m aim depth image)
decides m aim depth (Some image) h = search (rules, takes)
decides m aim depth None h = h

pub fed_names : (m : Machine) (word : ℕ) (phase : Phase) → AllNamed m → Names m.setting m.registers.call m.registers.reads phase → AllNamed (fed_in m word phase)
fed_names m word (Read aim top) now h = search (rules, goes, by_names)
fed_names m word (ReadLocked aim depth) now h = search (rules, decides)
fed_names m word (Seek need) now h = search (rules, goes_fresh)
fed_names m word phase now h = search rules

-- ---- a call begins at the root word, or at the child of a cached node
begins : (m : Machine) (call : Call) (child : ℕ) (b : Bool) → takes_lock call Own ≡ b → Named m.setting child → m.registers.call ≡ call → AllNamed (cond b (to m (Draw (aim_of call) child)) (reading m child (Read (aim_of call) false)))
begins m call child b h1 h2 h3 = search rules

pub begun_names : (m : Machine) (call : Call) → AllByRecursion (IsInner m.setting) m.registers.cached → AllNamed (begun m call)
begun_names m call inners = by (found m.registers.cached (call_key call)) refl
  where
    by : (o : Option InnerOf) → found m.registers.cached (call_key call) ≡ o → AllNamed (began_at (calling m call) call (option_map (origin_in (call_key call)) o))
    by None e = tt
    by (Some row) e =
        let x = began_cached (from_cached (calling m call) row.low) in
        let inner : IsInner m.setting row = found_has (IsInner m.setting) m.registers.cached (call_key call) row e inners in
        begins x call _ (takes_lock call Own) refl (node_named m.setting _ (child_is_node row (call_key call) inner (covers_fences row (call_key call) (found_covers m.registers.cached (call_key call) row e)).0)) refl
