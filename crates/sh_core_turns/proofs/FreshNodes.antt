-- Spare nodes, the halves of a split, and what a client stores in nodes of its own.
use Rattle.std.proofs.Common.{rules, ◌≡◌, ◌≢◌, ℕ, ◌+◌, Bool, true, false, List, Some, None, refl, sym, ap, ◌∙◌, arith, suc, ◌*◌, ◌<◌, ◌≤◌, length, subst, zero, [], ◌∷◌, get_or, set, Option, inl, inr}
use Rattle.std.proofs.{Common.{◌++◌, eqb-true, get_or-set_same, get_or-set_other}, Math.{Nat.{mod-lt}, Seq.{take-length}}, lemmas.{Bool.{Decides.{nat_tests}, cases_eq}, List.{length-replicate}}}
use Rattle.std.specs.Prelude.{◌==◌, if◌then◌else◌, nat_lt, ◌⊎◌, replicate}
use Rattle.sh_base.{proofs.LayoutLemmas.{node_size_is}, specs.{Layout.{entry_at, lock_of, node_word}, Setting.{IsSetting, last_version, last_entry_version, node_size}}}
use Rattle.sh_base.specs.declared.{config.ConfigParts.{ConfigParts}, event.Event.TheVariants.{Store}}
use Rattle.sh_alloc.specs.{declared.state.{NodeRange.{NodeRange}, Walk.{Walk}}, Spares.{lowest, without_lowest, IsSpare}, Walks.{walk_start}}
use Rattle.sh_state.{proofs.{Puts.{put_here, put_else}, Scenes.{fresh_linked}}, specs.{Ground.{Ground}, Nodes.{Sits, low_in, high_in, standing_entries, IsStandingLeaf}}}
use Rattle.sh_state.specs.TreeState.{Fresh, TreeState, Linked, LockState}
use Rattle.sh_core.{proofs.Frame.{Before, actor_in, at, quiet_by, quiet_with, same_grows, same_here, next, SameNodes, same_call, IsCalm, Claim, advance}, specs.Actors.{Actor, becomes}}
use Rattle.sh_core.{proofs.Others.{Grows, below_on, named_on, owes_on, StaysUnder, half_on}, specs.Core.{Inv, Moves}}
use Rattle.sh_core.specs.Fits.{AreSpares, FillsFresh, IsSeeking, IsPosting, IsToSplit, PlansPair, PlansInner, PlansLeftInner, EndsDecided, HadNone, IsThere, IsUpdate, PlansEntry, PlansLeaf}
use Rattle.sh_core.specs.Fits.{PlansLeftLeaf, FillsWith, Needs, Owes, PlansHalf, Fits, Plans}
use Rattle.sh_core.specs.Keeps.{Hands, KeepsActor, filling_lock, need_lock, pending, pending_filling, pending_need, skips_counted, holding}
use Rattle.sh_map.specs.{Book.{made_entry}, Calls.{IsInRange}, Log.{changed, change_key, map_of, HasOld}, Made.{entries_by}, Map.{get, put}, declared.call.{Call.{Call}, Reply.{Reply}}}
use Rattle.sh_map.specs.declared.{call.Call.TheVariants.{Get, Put, Del, Range}, log.{Change.{Change}, Entry.{Entry as LogEntry}}}
use Rattle.sh_image.{proofs.ReadLemmas.{entry_read}, specs.{Entries.{entry_words}, Inner.{Inner, inner_in, inner_words}, Leaf.{Leaf, leaf_in, leaf_words}, declared.inner.Image.{Image}}}
use Rattle.sh_image.specs.declared.{inner.Image.TheVariants.{Inner as InnerImage, Leaf as LeafImage}, leaf.LeafEntry.{LeafEntry}}
use Rattle.sh_edit.proofs.{EntryLemmas.{entry_placed, entry_placed_once, entry_removed, entry_removed_once, rewritten_placed_once, rewritten_removed_once}, HeldLemmas.{held_at, held_none}}
use Rattle.sh_edit.{proofs.RewriteLemmas.{rewritten_lawful, rewritten_new, rewritten_over, rewritten_removed}, specs.Held.{held, key_at, map_of_entries, no_entry, HasKeysOnce}}
use Rattle.sh_edit.specs.{Pairing.{with_pair, left_inner, right_inner, middle_of, root_over}, Placing.{LacksKey, IsFirstWith, IsPlaceFor}, Rewriting.{rewritten}}
use Rattle.sh_edit.specs.Splitting.{IsSplit, left_half, right_half, separator_of}
use Rattle.sh_read.specs.Reads.{Reads, accepted}
use Rattle.sh_descend.specs.{declared.Hop.TheVariants.{Here}, Descent.{hop_of}}
use Rattle.sh_readers.{specs.Hand.{IsNamed, AreRowsOf}, proofs.HandLemmas.{here_is}}
use Rattle.sh_decide.{proofs.IndexLemmas.{first_index, no_index}, specs.{Aims.{post_of, call_key, written_key, written_value, aimed_key, target}, declared.state.Aim.TheVariants.{Posts, Own, Gathers}}}
use Rattle.sh_decide.specs.{Deciding.{decided_by, decided_here, decision_of, change_at, del_in, put_in, put_into, unless_worn, update_in}, declared.state.Decision.{Decision}}
use Rattle.sh_decide.specs.{Leaves.{leaf_answer, are_keys_once, index_of, reply_with, version_at}, declared.state.Posting.{Posting}}
use Rattle.sh_client.specs.{Bodies.{pair_of, entry_left}, Machine.{Machine, Registers}, Splitting.{giving_of, halved_by, needing, needs, with_fresh, fill_done}, declared.state.Filling.{Filling}}
use Rattle.sh_client.specs.declared.state.{Filling.TheVariants.{RightHalf, NewRoot}, Need.{TheVariants.{ToSplit, ToGrow}, Need}, Phase.{TheVariants.{Fill, Seek, Waiting, Swap}, Phase}, Then.{Then}}
use Rattle.sh_client.specs.declared.state.{Then.TheVariants.{Ends, Starts}, Write.{TheVariants.{LeftLeaf, LeftInner}, Write}}
use Rattle.sh_core_turns.proofs.Standing.{StandsWell, is_lt, not_lt, some_image, split_here, standing_accepted, stands_well}
use Rattle.sh_acts.{specs.{Images.{IsEntryOf}, Acts.{filled}}, proofs.Own.{fresh_act}}
use Rattle.sh_decide.specs.declared.state.Decision.TheVariants as decision
use Rattle.sh_map.specs.declared.call.Reply.TheVariants as reply
use Rattle.sh_map.specs.declared.log.Change.TheVariants as change

-- a node of the seat's own, that isn't one of those that are spare from now on
pub record IsTaken (s : TreeState) (seat fresh : ℕ) (rest : NodeRange) : Type 0 where
  pub own : s.class fresh ≡ Fresh seat
  pub follows : fresh + 1 ≡ rest.first
  pub spares : AreSpares s seat rest

module _ (s : TreeState) (seat : ℕ) (r : NodeRange) (all : AreSpares s seat r) where
  pub takes_lowest : (fresh : ℕ) → lowest r ≡ Some fresh → IsTaken s seat fresh (without_lowest r)
  takes_lowest fresh e = search rules

  pub none_spare : lowest r ≡ None → r.count ≡ 0
  none_spare e = search rules

-- no word of it is stored yet
pub none_filled : (s : TreeState) (seat fresh : ℕ) (rest : NodeRange) (ready : List ℕ) → IsTaken s seat fresh rest → FillsFresh s seat rest ready fresh 0
none_filled s seat fresh rest ready taken = record { own = taken.own; under = omega (arith, taken.follows); words = λ o lt. absurd (omega (arith, lt)) }

-- a walk begins where no node is spare
pub begins_walk : (p : ConfigParts) (ok : IsSetting p) (s : TreeState) (seat : ℕ) (spare : NodeRange) → spare.count ≡ 0 → IsSeeking p s (walk_start p seat) spare
begins_walk p ok s seat spare none = record { walk_is = record { first = mod-lt seat ok.ranged.servers.0; passed = omega (arith, ok.ranged.servers.0); found = λ chunk e. cc }; wants = tt; passed = λ k lt. absurd (omega (arith, lt)); none = none }

-- ---- an inner node that stands and covers a post's separator: what the decision on it says, and its plans with the
-- post's pair

-- what a decision on an inner node for a post says of it
abbrev pub IsFor : ConfigParts → Inner → Decision → Type 0
IsFor p x decision.Skip = Unit {0}
IsFor p x decision.Add = (length x.pairs < 2 * p.leaf) × (x.version < last_version p)
IsFor p x decision.Split = (2 * p.leaf ≤ length x.pairs) × (x.version < last_version p)
IsFor p x d = ⊥

-- the halves' words, and the post of the right one
abbrev pub left_pairs : ConfigParts → (node : List ℕ) → Posting → (fresh : ℕ) → List ℕ
left_pairs p node post fresh = inner_words p (left_inner p.leaf (inner_in node) (pair_of post) fresh)

abbrev pub right_pairs : ConfigParts → (node : List ℕ) → Posting → List ℕ
right_pairs p node post = inner_words p (right_inner p.leaf (inner_in node) (pair_of post))

abbrev pub inner_posts : ConfigParts → (node : List ℕ) → Posting → (fresh : ℕ) → Then
inner_posts p node post fresh = let a = inner_in node in Starts (Posts (post_of (middle_of p.leaf a.pairs (pair_of post)) fresh (a.level + 1)))

module _ (p : ConfigParts) (ok : IsSetting p) (words : List ℕ) (s : TreeState) (g : Ground p words s) (seat first point seen : ℕ) (call : Call) (reply : Reply) (post : Posting) (posting : IsPosting s seat first point seen call reply post) (n : ℕ) (there : IsNamed s post.level n post.separator) where
  abbrev inner_node : Inner
  inner_node = inner_in (s.node n)

  inner_stands : StandsWell p s (s.node n) there.low (Posts post)
  inner_stands = stands_well p ok words s g seat first point seen n call reply (Posts post) (Some post) refl tt posting there

  pub decides : IsFor p inner_node (decided_here p call (Posts post) (InnerImage inner_node))
  decides = search (rules, inner_stands, is_lt, not_lt)

  linked : s.class n ≡ Linked (suc posting.below) there.low
  linked = there.linked ∙ ap (λ (l : ℕ). Linked l there.low) posting.level

  sits : Sits p s n (suc posting.below) there.low
  sits = g.sits n (suc posting.below) there.low linked

  -- it covers the separator
  pub post_below : hop_of (InnerImage inner_node) post.separator post.level ≡ Here → post.separator < inner_node.high
  post_below here = (here_is s post.level there.low post.separator post.level (InnerImage inner_node) inner_stands.image there.below here).1

  pair_planned : post.separator < inner_node.high → PlansPair s seat n (Some post)
  pair_planned lt = record {
    level = posting.below;
    low = there.low;
    pair = pair_of post;
    duty_is = λ z. Some record { separator = post.separator; node = post.node; level = posting.level z };
    fits = record { linked = linked; child = posting.linked; mine = posting.mine; from = omega (arith, sits.low_is, there.below); below = lt };
  }

  pub adds : post.separator < inner_node.high → IsFor p inner_node decision.Add → PlansInner p s seat (inner_words p (with_pair inner_node (pair_of post))) n (Some post) Ends
  unfolding pair_planned
  adds lt h = record { plan = pair_planned lt; ends = refl; add = record { space = h.0; room = h.1; body_is = refl } }

  pub inner_half_made : (fresh : ℕ) → post.separator < inner_node.high → IsFor p inner_node decision.Split → PlansLeftInner p s seat (left_pairs p (s.node n) post fresh) (right_pairs p (s.node n) post) n fresh (Some post) (inner_posts p (s.node n) post fresh)
  unfolding pair_planned
  inner_half_made fresh lt h =
      let up : inner_node.level + 1 ≡ suc (suc posting.below) = omega (arith, sits.level_is) in
      record {
        plan = pair_planned lt;
        cut = record {
          full = omega (arith, h.0, sits.body.spells.lawful.count.1);
          room = h.1;
          body_is = refl;
          ready_is = refl;
          after_is = ap (λ (l : ℕ). Starts (Posts (post_of (middle_of p.leaf inner_node.pairs (pair_of post)) fresh l))) up;
        };
      }

  pub inner_to_split : (reads : Reads) → reads.node ≡ n → (h : IsToSplit p s call reads (Posts post)) → (accepted p reads ≡ Some (InnerImage inner_node)) × (post.separator < inner_node.high) × IsFor p inner_node decision.Split
  inner_to_split reads at h = search (rules, standing_accepted, inner_stands, some_image, split_here, post_below, decides)

-- ---- what the decision on a standing leaf says, where the leaf covers the key of its update, and the leaf's halves

-- ---- where a key is

-- the first entry with the key stands there, or none has it
abbrev pub IsFound : List LeafEntry → (key : ℕ) → Option ℕ → Type 0
IsFound es key (Some index) = IsFirstWith es key index
IsFound es key None = LacksKey es key

first_or_none : (es : List LeafEntry) (key : ℕ) → ((index : ℕ) × IsFirstWith es key index) ⊎ LacksKey es key
first_or_none [] key = inr (λ j below. absurd (omega (arith, below)))
first_or_none (e ∷ es) key = elim (cases_eq e.key key) [
  | inl same ↦ inl (0, record { in_range = omega arith; here = same; before = λ j less. absurd (omega (arith, less)) })
  | inr ne ↦ elim (first_or_none es key) [
    | inl found ↦ inl (suc found.0, record { in_range = omega (arith, found.1.in_range); here = found.1.here; before = before ne found.0 found.1 })
    | inr none ↦ inr (after ne none)
  ]
]
  where
    before : e.key ≢ key → (index : ℕ) → IsFirstWith es key index → (j : ℕ) → j < suc index → key_at (e ∷ es) j ≢ key
    before ne index first zero less = ne
    before ne index first (suc j) less = first.before j (omega (arith, less))

    after : e.key ≢ key → LacksKey es key → LacksKey (e ∷ es) key
    after ne none zero below = ne
    after ne none (suc j) below = none j (omega (arith, below))

pub found : (es : List LeafEntry) (key : ℕ) → IsFound es key (index_of es key)
found es key = elim (first_or_none es key) [
  | inl place ↦ subst (IsFound es key) (sym (first_index es key place.0 place.1)) place.1
  | inr none ↦ subst (IsFound es key) (sym (no_index es key none)) none
]

-- ---- the entry that an update makes

-- ---- the decision

-- a put that splits its leaf, which has neither the key nor an empty entry
pub record SplitsLeaf (p : ConfigParts) (ws : List ℕ) (key : ℕ) (value : List ℕ) : Type 0 where
  pub split : IsSplit (leaf_in p ws) key
  pub room : (leaf_in p ws).version < last_version p
  pub long : length value ≡ p.value_words
  pub from : low_in ws ≤ key
  pub below : key < high_in ws

abbrev pub SplitsFor : ConfigParts → List ℕ → Call → Type 0
SplitsFor p ws (Get key) = ⊥
SplitsFor p ws (Put key value) = SplitsLeaf p ws key value
SplitsFor p ws (Del key) = ⊥
SplitsFor p ws (Range low high) = ⊥

-- the leaf's answer to the call
abbrev pub answers : ConfigParts → List ℕ → Call → Reply
answers p ws call = leaf_answer (standing_entries p ws) (call_key call)

-- the reply is decided, and no entry is made
pub record IsUnwritten (p : ConfigParts) (s : TreeState) (seat first point : ℕ) (call : Call) (reply : Reply) (duty : Option Posting) : Type 0 where
  pub ends : EndsDecided p s seat first point (length s.log) call reply duty
  pub unmade : entries_by seat call reply ≡ []

-- what a decision on the standing leaf says
abbrev pub Decided : ConfigParts → TreeState → (seat n first point : ℕ) → Option Posting → Call → Decision → Type 0
Decided p s seat n first point duty call decision.Restart = Unit {0}
Decided p s seat n first point duty call decision.Absent = IsUnwritten p s seat first point call (answers p (s.node n) call) duty
Decided p s seat n first point duty call (decision.Entry index) = PlansEntry p s seat (entries_by seat call (answers p (s.node n) call)) (entry_words (entry_left p call (leaf_in p (s.node n)) index)) n index duty Ends
Decided p s seat n first point duty call (decision.Rewrite index) = PlansLeaf p s seat (entries_by seat call (answers p (s.node n) call)) (leaf_words (rewritten (leaf_in p (s.node n)) index (written_key call) (written_value p call))) n duty Ends
Decided p s seat n first point duty call (decision.Worn version) = IsUnwritten p s seat first point call (reply.Worn version) duty
Decided p s seat n first point duty call decision.Split = SplitsFor p (s.node n) call
Decided p s seat n first point duty call d = ⊥

-- an update's change of one entry: its log entry, and what it leaves of the leaf
record IsChange (p : ConfigParts) (s : TreeState) (seat n first point : ℕ) (call : Call) (index : ℕ) : Type 0 where
  pub change : Change
  pub made : entries_by seat call (answers p (s.node n) call) ≡ made_entry seat change (held (standing_entries p (s.node n)) (call_key call)) ∷ []
  pub key : change_key change ≡ call_key call
  pub old : HasOld change (held (standing_entries p (s.node n)) (call_key call))
  pub here : index < length (standing_entries p (s.node n))
  pub within : ((written_key call ≡ 0) × (written_value p call ≡ replicate p.value_words 0)) ⊎ ((low_in (s.node n) ≤ written_key call) × (1 ≤ written_key call) × (written_key call < high_in (s.node n)))
  pub long : length (written_value p call) ≡ p.value_words
  pub once : (x : LeafEntry) → x.key ≡ written_key call → x.value ≡ written_value p call → HasKeysOnce (set (standing_entries p (s.node n)) index x)
  pub map : (x : LeafEntry) → x.key ≡ written_key call → x.value ≡ written_value p call → map_of_entries (set (standing_entries p (s.node n)) index x) ≡ changed (map_of_entries (standing_entries p (s.node n))) change
  pub whole_once : HasKeysOnce (rewritten (leaf_in p (s.node n)) index (written_key call) (written_value p call)).entries
  pub whole_map : map_of_entries (rewritten (leaf_in p (s.node n)) index (written_key call) (written_value p call)).entries ≡ changed (map_of_entries (standing_entries p (s.node n))) change
  pub worn : (version : ℕ) → version ≡ last_version p → IsUnwritten p s seat first point call (reply.Worn version) None

-- the words of both halves, and the post of the right one behind the left one
abbrev pub left_words : ConfigParts → (leaf : List ℕ) → Call → (fresh : ℕ) → List ℕ
left_words p leaf call fresh = leaf_words (left_half (leaf_in p leaf) (written_key call) (written_value p call) fresh)

abbrev pub right_words : ConfigParts → (leaf : List ℕ) → Call → List ℕ
right_words p leaf call = leaf_words (right_half (leaf_in p leaf) (written_key call) (written_value p call))

abbrev pub half_posts : ConfigParts → (leaf : List ℕ) → Call → (fresh : ℕ) → Then
half_posts p leaf call fresh = Starts (Posts (post_of (separator_of (standing_entries p leaf) (written_key call) (written_value p call)) fresh 1))

module _ (p : ConfigParts) (ok : IsSetting p) (words : List ℕ) (s : TreeState) (g : Ground p words s) (seat n low : ℕ) (linked : s.class n ≡ Linked 0 low) where
  abbrev x : Leaf
  x = leaf_in p (s.node n)

  abbrev es : List LeafEntry
  es = standing_entries p (s.node n)

  body : IsStandingLeaf p s.log (s.node n)
  body = (g.sits n 0 low linked).body

  front_version : (index : ℕ) → index < length es → get_or (s.node n) (entry_at p index) 0 ≡ version_at es index
  front_version index lt = sym (ap (λ (e : LeafEntry). e.version) (entry_read p (s.node n) index no_entry (omega (arith, lt, body.spells.lawful.count))))

  module _ (first point : ℕ) (began : first ≤ length s.log) where
    abbrev D : Call → Decision → Type 0
    D call d = Decided p s seat n first point None call d

    -- at its last version a node is not written
    unless : (call : Call) (d : Decision) → ((version : ℕ) → version ≡ last_version p → D call (decision.Worn version)) → (x.version < last_version p → D call d) → D call (unless_worn p x.version d)
    unless call d worn h = by (nat_lt x.version (last_version p)) refl
      where
        by : (t : Bool) → nat_lt x.version (last_version p) ≡ t → D call (if t then d else decision.Worn x.version)
        by true e = h (is_lt x.version (last_version p) e)
        by false e = worn x.version (omega (arith, not_lt x.version (last_version p) e, body.spells.lawful.version))

    -- a change is made in the entry alone, by a rewrite, or not at all
    module _ (call : Call) (index : ℕ) (from : low_in (s.node n) ≤ call_key call) (below : call_key call < high_in (s.node n)) (some : 1 ≤ call_key call) (c : IsChange p s seat n first point call index) where
      abbrev entry : LogEntry
      entry = made_entry seat c.change (held es (call_key call))

      fits : IsEntryOf s seat n low entry
      fits =
          let nz : call_key call ≢ 0 = omega (arith, some) in
          record {
            linked = linked;
            by = refl;
            fits = (body.map (call_key call) nz from below ∙ ap (get (map_of s.log)) (sym c.key), c.old);
            key = omega (arith, c.key, some);
            from = omega (arith, c.key, from);
            below = omega (arith, c.key, below);
          }

      update : IsUpdate s seat (entries_by seat call (answers p (s.node n) call)) n None
      update = record { none = refl; low = low; entry = entry; made_is = c.made; fits = fits }

      alone : version_at es index < last_entry_version → D call (decision.Entry index)
      unfolding update
      alone v =
          let e : LeafEntry = entry_left p call x index in
          record {
            update = update;
            ends = refl;
            change = record {
              x = e;
              index_is = omega (arith, c.here, body.spells.lawful.count);
              body_is = refl;
              rules = record { value = c.long; version = omega (arith, v); within = c.within };
              once = c.once e refl refl;
              change = c.map e refl refl;
              rises = omega (arith, front_version index c.here);
            };
          }

      whole : x.version < last_version p → D call (decision.Rewrite index)
      unfolding update
      whole v = record {
        update = update;
        ends = refl;
        change = record {
          image = rewritten x index (written_key call) (written_value p call);
          body_is = refl;
          rules = rewritten_lawful p x index (written_key call) (written_value p call) body.spells.lawful v c.long c.within;
          low_is = refl;
          high_is = refl;
          next_is = refl;
          once = c.whole_once;
          change = c.whole_map;
          rises = omega arith;
        };
      }

      changes : D call (change_at p x index)
      changes = by (nat_lt (version_at es index) last_entry_version) refl
        where
          by : (t : Bool) → nat_lt (version_at es index) last_entry_version ≡ t → D call (if t then decision.Entry index else unless_worn p x.version (decision.Rewrite index))
          by true e = alone (is_lt (version_at es index) last_entry_version e)
          by false e = unless call (decision.Rewrite index) c.worn whole

    module _ (key : ℕ) (some : 1 ≤ key) (from : low_in (s.node n) ≤ key) (below : key < high_in (s.node n)) where
      nz : key ≢ 0
      nz = omega (arith, some)

      put_change : (value : List ℕ) (index : ℕ) → length value ≡ p.value_words → IsPlaceFor es key index → IsChange p s seat n first point (Put key value) index
      put_change value index long place = record {
        change = change.Put key value;
        made = search rules;
        key = refl;
        old = tt;
        here = elim place [ inl h ↦ h.in_range | inr h ↦ h.1.in_range ];
        within = inr (from, some, below);
        long = long;
        once = λ e k v. entry_placed_once x index body.once e (subst (λ (z : ℕ). IsPlaceFor es z index) (sym k) place);
        map = λ e k v. entry_placed x index e (λ z. nz (sym k ∙ z)) (subst (λ (z : ℕ). IsPlaceFor es z index) (sym k) place) ∙ (λ z. put (map_of_entries es) (k z) (v z));
        whole_once = rewritten_placed_once x index body.once key value place;
        whole_map = elim place [ inl h ↦ rewritten_over x index key value nz h | inr h ↦ rewritten_new x index key value nz h.0 h.1 ];
        worn = λ version e. record { ends = record { none = refl; decided = e }; unmade = refl };
      }

      del_change : (index : ℕ) → IsFirstWith es key index → IsChange p s seat n first point (Del key) index
      del_change index place = record {
        change = change.Del key;
        made = subst (λ (had : Option (List ℕ)). entries_by seat (Del key) (reply_with had) ≡ made_entry seat (change.Del key) had ∷ []) (sym (held_at es key index place)) refl;
        key = refl;
        old = subst (HasOld (change.Del key)) (sym (held_at es key index place)) refl;
        here = place.in_range;
        within = inl (refl, refl);
        long = length-replicate p.value_words 0;
        once = λ e k v. entry_removed_once x index body.once e k place.in_range;
        map = λ e k v. entry_removed x index key e nz k body.once place;
        whole_once = rewritten_removed_once x index body.once (replicate p.value_words 0) place.in_range;
        whole_map = rewritten_removed x index key (replicate p.value_words 0) nz body.once place;
        worn = λ version e. record { ends = record { none = refl; decided = e }; unmade = refl };
      }

      -- the leaf has no entry of the key, so the map has nothing there
      pub lacks : LacksKey es key → HadNone s.log first (length s.log) key
      lacks none = record { at = length s.log; from = began; below = omega arith; absent = ap (λ (es : List LogEntry). get (map_of es) key) (take-length s.log) ∙ sym (body.map key nz from below) ∙ held_none es key none }

      absent : LacksKey es key → D (Del key) decision.Absent
      absent none = subst (λ (o : Option (List ℕ)). IsUnwritten p s seat first point (Del key) (reply_with o) None) (sym (held_none es key none)) record { ends = record { none = refl; decided = lacks none }; unmade = refl }

      dels : (over : Option ℕ) → IsFound es key over → D (Del key) (del_in p x over)
      dels (Some index) place = changes (Del key) index from below some (del_change index place)
      dels None none = absent none

      module _ (value : List ℕ) (long : length value ≡ p.value_words) where
        put_at : (index : ℕ) → IsPlaceFor es key index → D (Put key value) (change_at p x index)
        put_at index place = changes (Put key value) index from below some (put_change value index long place)

        puts_new : LacksKey es key → (empty : Option ℕ) → IsFound es 0 empty → D (Put key value) (put_into p x empty)
        puts_new none (Some index) empty = put_at index (inr (none, empty))
        puts_new none None full = unless (Put key value) decision.Split (λ version e. record { ends = record { none = refl; decided = e }; unmade = refl }) (λ room. record { split = record { some = omega (arith, body.spells.lawful.count, ok.ranged.leaf.0); once = body.once; lacks = none; full = full; is_key = some }; room = room; long = long; from = from; below = below })

        puts : (over : Option ℕ) → IsFound es key over → D (Put key value) (put_in p x over)
        puts (Some index) over = put_at index (inl over)
        puts None none = puts_new none (index_of es 0) (found es 0)

    updates : (call : Call) → IsInRange p call → low_in (s.node n) ≤ call_key call → call_key call < high_in (s.node n) → D call (update_in p x call)
    updates (Get key) r from below = tt
    updates (Put key value) r from below = puts key r.0.0 from below value r.1 (index_of es key) (found es key)
    updates (Del key) r from below = dels key r.0 from below (index_of es key) (found es key)
    updates (Range lo hi) r from below = tt

    pub covers : (call : Call) → IsInRange p call → low_in (s.node n) ≤ call_key call → call_key call < high_in (s.node n) → D call (decided_here p call Own (LeafImage x))
    covers call r from below = by (are_keys_once es)
      where
        by : (t : Bool) → D call (if t then update_in p x call else decision.Restart)
        by true = updates call r from below
        by false = tt

  -- ---- its halves

  pub half_made : (call : Call) (fresh : ℕ) → SplitsFor p (s.node n) call → PlansLeftLeaf p s seat (entries_by seat call reply.None) (left_words p (s.node n) call fresh) (right_words p (s.node n) call) n fresh None (half_posts p (s.node n) call fresh)
  half_made (Get key) fresh h = absurd h
  half_made (Del key) fresh h = absurd h
  half_made (Range lo hi) fresh h = absurd h
  half_made (Put key value) fresh h =
      let nz : key ≢ 0 = λ z. omega (arith, z, h.split.is_key) in
      let fits : IsEntryOf s seat n low (made_entry seat (change.Put key value) None) = record { linked = linked; by = refl; fits = (sym (held_none es key h.split.lacks) ∙ body.map key nz h.from h.below, tt); key = h.split.is_key; from = h.from; below = h.below } in
      record {
        update = record { none = refl; low = low; entry = made_entry seat (change.Put key value) None; made_is = refl; fits = fits };
        key = key;
        value = value;
        put_is = refl;
        long = h.long;
        cut = record { full = h.split; room = h.room; body_is = refl; ready_is = refl; after_is = refl };
      }

  -- the map has nothing at the key
  pub put_misses : (first key : ℕ) (value : List ℕ) → first ≤ length s.log → SplitsFor p (s.node n) (Put key value) → HadNone s.log first (length s.log) key
  put_misses first key value began h = lacks first 0 began key h.split.is_key h.from h.below h.split.lacks

-- what the decision to split the leaf at which a call has come says
module _ (p : ConfigParts) (ok : IsSetting p) (words : List ℕ) (s : TreeState) (g : Ground p words s) (n : ℕ) (call : Call) (in_range : IsInRange p call) (there : IsThere s call Own n) where
  abbrev leaf : Leaf
  leaf = leaf_in p (s.node n)

  stands : StandsWell p s (s.node n) there.low Own
  stands = stands_well p ok words s g 0 0 0 0 n call reply.None Own None refl tt tt there

  pub own_below : hop_of (LeafImage leaf) (call_key call) 0 ≡ Here → (low_in (s.node n) ≤ call_key call) × (call_key call < high_in (s.node n))
  own_below here = (omega (arith, there.below, (g.sits n 0 there.low there.linked).low_is), (here_is s 0 there.low (call_key call) 0 (LeafImage leaf) stands.image there.below here).1)

  leaf_splits : decision_of p call Own (LeafImage leaf) ≡ decision.Split → SplitsFor p (s.node n) call
  leaf_splits d =
      let here = split_here p call Own (LeafImage leaf) (hop_of (LeafImage leaf) (call_key call) 0) d in
      let within = own_below here in
      subst (Decided p s 0 n 0 0 None call) (ap (decided_by p call Own (LeafImage leaf)) (sym here) ∙ d) (covers p ok words s g 0 n there.low there.linked 0 0 (omega arith) call in_range within.0 within.1)

  pub leaf_to_split : (reads : Reads) → reads.node ≡ n → (h : IsToSplit p s call reads Own) → (accepted p reads ≡ Some (LeafImage leaf)) × SplitsFor p (s.node n) call
  leaf_to_split reads at h =
      let acc = standing_accepted p ok words s g n (LeafImage leaf) reads.loaded stands.seen (h.standing ∙ ap s.node at) in
      let is = some_image h.image (LeafImage leaf) (sym h.accepted_is ∙ acc) in
      (acc, leaf_splits (subst (λ (z : Image). decision_of p call Own z ≡ decision.Split) is h.split))

-- ---- a client that needs a fresh node: with one, the right half of a split or a new root stands ready for it; without
-- one, a walk over the counters begins

-- What it has in hand then, and the words that stand ready for the fresh node, of which none is stored.
pub record Begins (p : ConfigParts) (s : TreeState) (seat first point seen : ℕ) (r : Registers) (rest : NodeRange) (fresh : ℕ) (duty : Option Posting) (need : Need) (m : Machine) : Type 0 where
  pub registers : Registers
  pub filling : Filling
  pub machine_is : m ≡ at p seat registers (Fill fresh 0 filling)
  pub call_is : registers.call ≡ r.call
  pub skips_are : skips_counted registers.tally ≡ skips_counted r.tally
  pub spare_is : registers.spare ≡ rest
  pub cached_is : registers.cached ≡ r.cached
  pub fills : FillsWith p s seat registers fresh 0 duty filling
  pub owes : Owes s seat first point seen registers.call registers.reply duty
  pub lock_is : filling_lock p filling ≡ need_lock p r need
  pub pending_is : pending_filling seat registers.call registers.reply filling ≡ pending_need seat r.call r.reply need

module _ (p : ConfigParts) (ok : IsSetting p) (words : List ℕ) (s : TreeState) (g : Ground p words s) (seat first point seen : ℕ) (r : Registers) (in_range : IsInRange p r.call) (duty : Option Posting) (owes : Owes s seat first point seen r.call r.reply duty)
    (fresh : ℕ) (rest : NodeRange) (taken : IsTaken s seat fresh rest) (ph : Phase) where
  abbrev m : Machine
  m = at p seat (record r { spare = rest }) ph

  abbrev node : List ℕ
  node = s.node r.reads.node

  pub begins : (need : Need) → Needs p s seat r duty need → Begins p s seat first point seen r rest fresh duty need (with_fresh m fresh need)
  begins (ToSplit Own depth) h =
      let there = h.holds.at.there in
      let split = leaf_to_split p ok words s g r.reads.node r.call in_range there r.reads refl h.to_split in
      let x : Registers = record r { spare = rest; reply = reply.None; body = left_words p node r.call fresh; fresh_words = right_words p node r.call } in
      let after = half_posts p node r.call fresh in
      subst (λ (o : Option Image). Begins p s seat first point seen r rest fresh duty (ToSplit Own depth) (halved_by m Own depth fresh o)) (sym split.0) record {
        registers = x;
        filling = RightHalf depth (giving_of r.reads.node LeftLeaf after);
        machine_is = refl;
        call_is = refl;
        skips_are = refl;
        spare_is = refl;
        cached_is = refl;
        fills = record {
          real = (g.sits r.reads.node 0 there.low there.linked).real;
          held = h.holds.held;
          half = subst (PlansHalf p s seat x fresh r.reads.node LeftLeaf after) (sym h.holds.at.duty_is) (half_made p ok words s g seat r.reads.node there.low there.linked r.call fresh split.1);
          filling = none_filled s seat fresh rest x.fresh_words taken;
        };
        owes = subst (Owes s seat first point seen r.call reply.None) (sym h.holds.at.duty_is) tt;
        lock_is = refl;
        pending_is = refl;
      }
  begins (ToSplit (Gathers place) depth) h = absurd (let z = h.holds.at.takes in cc)
  begins (ToSplit (Posts post) depth) h =
      let there = h.holds.at.there in
      let owed : IsPosting s seat first point seen r.call r.reply post = subst (Owes s seat first point seen r.call r.reply) h.holds.at.duty_is owes in
      let split = inner_to_split p ok words s g seat first point seen r.call r.reply post owed r.reads.node there r.reads refl h.to_split in
      let x : Registers = record r { spare = rest; body = left_pairs p node post fresh; fresh_words = right_pairs p node post } in
      let after = inner_posts p node post fresh in
      subst (λ (o : Option Image). Begins p s seat first point seen r rest fresh duty (ToSplit (Posts post) depth) (halved_by m (Posts post) depth fresh o)) (sym split.0) record {
        registers = x;
        filling = RightHalf depth (giving_of r.reads.node LeftInner after);
        machine_is = refl;
        call_is = refl;
        skips_are = refl;
        spare_is = refl;
        cached_is = refl;
        fills = record {
          real = (g.sits r.reads.node post.level there.low there.linked).real;
          held = h.holds.held;
          half = subst (PlansHalf p s seat x fresh r.reads.node LeftInner after) (sym h.holds.at.duty_is) (inner_half_made p ok words s g seat first point seen r.call r.reply post owed r.reads.node there fresh split.1 split.2);
          filling = none_filled s seat fresh rest x.fresh_words taken;
        };
        owes = owes;
        lock_is = refl;
        pending_is = refl;
      }
  begins (ToGrow post root) h =
      let x : Registers = record r { spare = rest; fresh_words = inner_words p (root_over post.level root post.separator post.node) } in
      record {
        registers = x;
        filling = NewRoot post root;
        machine_is = refl;
        call_is = refl;
        skips_are = refl;
        spare_is = refl;
        cached_is = refl;
        fills = record { below = h; ready_is = refl; filling = none_filled s seat fresh rest x.fresh_words taken; last = taken.follows };
        owes = owes;
        lock_is = refl;
        pending_is = refl;
      }

-- what a fresh node is needed for stays, in a scene of the same nodes and locks and with another walk
pub needs_on : (p : ConfigParts) (s t : TreeState) (seat : ℕ) (r : Registers) (v : Walk) (duty : Option Posting) → Grows s t seat 0 0 → t.node ≡ s.node → t.hold ≡ s.hold → (need : Need) → Needs p s seat r duty need → Needs p t seat (record r { walk = v }) duty need
needs_on p s t seat r v duty gr nodes holds (ToSplit aim depth) h =
    let n : ℕ = r.reads.node in
    let there = h.holds.at.there in
    record {
      holds = record { at = record { duty_is = h.holds.at.duty_is; takes = h.holds.at.takes; there = named_on p s t seat 0 0 0 0 gr (target aim) n (aimed_key r.call aim) there }; held = ap (λ (f : ℕ → LockState). f (lock_of p n)) holds ∙ h.holds.held };
      to_split = let z = h.to_split in record { standing = z.standing ∙ ap (λ (f : ℕ → List ℕ). f n) (sym nodes); image = z.image; accepted_is = z.accepted_is; split = z.split };
    }
needs_on p s t seat r v duty gr nodes holds (ToGrow post root) h = below_on p s t seat 0 0 0 0 gr post root duty h

pub need_lock_is : (p : ConfigParts) (r : Registers) (v : Walk) (need : Need) → need_lock p (record r { walk = v }) need ≡ need_lock p r need
need_lock_is p r v need = search rules

-- the turn of a client that comes to need a fresh node, by the READ that it has in hand
module _ (p : ConfigParts) (ok : IsSetting p) (words : List ℕ) (Has Now : ℕ → Actor → Type 0) (Out : ℕ → ℕ → ℕ → Type 0) (seat : ℕ) (s : TreeState) (b : Before p words Has Out s) (a : Actor) (r : Registers) (ph : Phase) (k : KeepsActor p s seat (actor_in p seat a r ph)) where
  abbrev Lands : Machine → Type 0
  Lands m = Moves Has seat (becomes seat (actor_in p seat a r ph) s.log [] m) Now → Inv p words (s.log ++ []) Now Out

  pub needs_land : (reads : Reads) (to : Phase) (need : Need) → let x : Registers = record r { reads = reads } in Needs p s seat x k.work.duty need → Hands s seat (need_lock p x need) → pending_need seat r.call r.reply need ≡ pending seat r ph → Lands (needs (at p seat x to) need)
  needs_land reads to need fits hands pend = by (lowest r.spare) refl
    where
      by : (o : Option ℕ) → lowest r.spare ≡ o → let x : Registers = record r { reads = reads } in Lands (needing (at p seat x to) need o)
      by (Some fresh) low =
          let x : Registers = record r { reads = reads } in
          let taken = takes_lowest s seat r.spare k.work.spares fresh low in
          let owes = owes_on p s s seat a.first a.point a.seen (length s.log) (same_grows s s seat a.seen (length s.log) (same_here s) k.seen) r.call r.reply k.work.duty k.work.owes in
          let z = begins p ok words s b.ground seat a.first a.point (length s.log) x k.work.seated.in_range k.work.duty owes fresh (without_lowest r.spare) taken to need fits in
          subst Lands (sym z.machine_is) (λ mv. quiet_with p ok words Has Now Out seat s b a r ph (Fill fresh 0 z.filling) z.registers k z.call_is z.skips_are record { fills = z.fills; left = omega (arith, node_size_is p) } z.owes
          (λ n is. taken.spares n (subst (λ (rest : NodeRange). IsSpare rest n) z.spare_is is)) (subst (AreRowsOf s) (sym z.cached_is) k.work.cached) (subst (Hands s seat) (sym z.lock_is) hands) (z.pending_is ∙ pend) tt mv)
      by None low =
          let x : Registers = record r { reads = reads; walk = walk_start p seat } in
          let owes = owes_on p s s seat a.first a.point a.seen (length s.log) (same_grows s s seat a.seen (length s.log) (same_here s) k.seen) r.call r.reply k.work.duty k.work.owes in
          λ mv. quiet_by p ok words Has Now Out seat s b a r ph (Seek need) x k refl refl record { needs = needs_on p s s seat (record r { reads = reads }) (walk_start p seat) k.work.duty (same_grows s s seat 0 0 (same_here s) (omega arith)) refl refl need fits; seeking = begins_walk p ok s seat r.spare (none_spare s seat r.spare k.work.spares low) } owes k.work.spares k.work.cached (subst (Hands s seat) (sym (need_lock_is p (record r { reads = reads }) (walk_start p seat) need)) hands) pend (λ server q. cc) mv

-- ---- stores into a node of the seat's own: the right half of a split, or a new root

-- the words of a fresh node that are stored already
filling_in : (p : ConfigParts) (s : TreeState) (seat : ℕ) (r : Registers) (fresh done : ℕ) (duty : Option Posting) (filling : Filling) → FillsWith p s seat r fresh done duty filling → FillsFresh s seat r.spare r.fresh_words fresh done
filling_in p s seat r fresh done duty filling h = search rules

-- the right half is stored, and the left one is planned
half_planned : (p : ConfigParts) (s : TreeState) (seat f q e : ℕ) (r : Registers) (fresh n : ℕ) (write : Write) (after : Then) (duty : Option Posting) → PlansHalf p s seat r fresh n write after duty → FillsFresh s seat r.spare r.fresh_words fresh (node_size p) → Plans p s seat f q e r n write after duty
half_planned p s seat f q e r fresh n write after duty h full = search rules

module _ (p : ConfigParts) (ok : IsSetting p) (words : List ℕ) (Has Now : ℕ → Actor → Type 0) (Out : ℕ → ℕ → ℕ → Type 0) (seat : ℕ) (s : TreeState) (b : Before p words Has Out s) (a : Actor) (r : Registers) (fresh done : ℕ) where
  abbrev T : TreeState
  T = filled s fresh done (get_or r.fresh_words done 0)

  abbrev now : List ℕ
  now = set words (node_word p fresh + done) (get_or r.fresh_words done 0)

  same : SameNodes s T
  same = record { log = refl; class = λ n. refl; post = λ n. refl; counts = λ server. omega arith }

  -- a linked node isn't it
  stays : (n : ℕ) → FillsFresh s seat r.spare r.fresh_words fresh done → StaysUnder s T seat n
  stays n f = search (rules, linked, put_else, fresh_linked)

  fills_next : (duty : Option Posting) (filling : Filling) → done < node_size p → FillsWith p s seat r fresh done duty filling → FillsWith p T seat r fresh (done + 1) duty filling
  fills_next duty (RightHalf depth giving) lt h = record {
    real = h.real;
    held = h.held;
    half = half_on p s T seat giving.node (stays giving.node h.filling) r fresh giving.write giving.after duty h.half;
    filling = search (rules, put_here, get_or-set_same, get_or-set_other);
  }
  fills_next duty (NewRoot post root) lt h = record {
    below = below_on p s T seat 0 0 0 0 (same_grows s T seat 0 0 same (omega arith)) post root duty h.below;
    ready_is = h.ready_is;
    filling = search (rules, put_here, get_or-set_same, get_or-set_other);
    last = h.last;
  }

  module _ (filling : Filling) (h : Has seat (actor_in p seat a r (Fill fresh done filling))) where
    abbrev K : KeepsActor p s seat (actor_in p seat a r (Fill fresh done filling))
    K = b.kept seat (actor_in p seat a r (Fill fresh done filling)) h

    stores : (ph : Phase) → Fits p T seat a.first a.point (length s.log) r K.work.duty ph → holding p r ph ≡ holding p r (Fill fresh done filling) → pending seat r ph ≡ pending seat r (Fill fresh done filling) → IsCalm ph → Moves Has seat (next a (length s.log) (at p seat r ph)) Now → Inv p now (s.log ++ []) Now Out
    stores ph fits held pend calm mv =
        let f = K.work.fits in
        advance p ok words Has Now Out seat s b a r now T (Fill fresh done filling) ph r K same (fresh_act p words s b.ground seat fresh done (get_or r.fresh_words done 0) (filling_in p s seat r fresh done K.work.duty filling f.fills).own f.left) (λ server. refl) (same_call r) fits
        (search rules) pend calm mv

  stored : (filling : Filling) (t : Bool) → (done + 1 == node_size p) ≡ t → Has seat (actor_in p seat a r (Fill fresh done filling))
      → Moves Has seat (becomes seat (actor_in p seat a r (Fill fresh done filling)) s.log [] (if t then fill_done (at p seat r (Fill fresh done filling)) fresh filling else at p seat r (Fill fresh (done + 1) filling))) Now → Inv p now (s.log ++ []) Now Out
  stored filling false e h mv =
      let f = (K filling h).work.fits in
      let less : done + 1 < node_size p = let lt = f.left in let ne : done + 1 ≢ node_size p = grind (arith, nat_tests) in omega (arith, lt, ne) in
      stores filling h (Fill fresh (done + 1) filling) record { fills = fills_next (K filling h).work.duty filling f.left f.fills; left = less } refl refl tt mv
  stored (RightHalf depth giving) true e h mv =
      let k = K (RightHalf depth giving) h in
      let f = fills_next k.work.duty (RightHalf depth giving) k.work.fits.left k.work.fits.fills in
      let full = subst (FillsFresh T seat r.spare r.fresh_words fresh) (eqb-true (done + 1) (node_size p) e) f.filling in
      stores (RightHalf depth giving) h (Waiting depth giving) record { real = f.real; held = f.held; plans = half_planned p T seat a.first a.point (length s.log) r fresh giving.node giving.write giving.after k.work.duty f.half full } refl refl tt mv
  stored (NewRoot post root) true e h mv =
      let k = K (NewRoot post root) h in
      let f = fills_next k.work.duty (NewRoot post root) k.work.fits.left k.work.fits.fills in
      let full = subst (FillsFresh T seat r.spare r.fresh_words fresh) (eqb-true (done + 1) (node_size p) e) f.filling in
      stores (NewRoot post root) h (Swap post root fresh) record { below = f.below; ready_is = f.ready_is; filling = full; last = f.last } refl refl tt mv

  pub fill : (filling : Filling) → Claim p ok words Has Now Out seat s b a r (Fill fresh done filling) (Store (node_word p fresh + done) (get_or r.fresh_words done 0))
  fill filling h mv = stored filling (done + 1 == node_size p) refl h mv
