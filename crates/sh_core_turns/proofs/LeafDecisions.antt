-- The decisions under the lock of a call's own leaf.
use Rattle.std.proofs.Common.{◌≡◌, ℕ, List, [], length, Some, None, refl, sym, ap, ◌∙◌, subst, arith}
use Rattle.sh_base.specs.{declared.config.ConfigParts.{ConfigParts}, Setting.{IsSetting}}
use Rattle.sh_map.specs.declared.call.Reply.{Reply}
use Rattle.sh_map.specs.declared.call.Reply.TheVariants as reply
use Rattle.sh_image.specs.{declared.inner.Image.TheVariants.{Leaf as LeafImage}, Entries.{entry_words}, Leaf.{Leaf, leaf_in, leaf_words}}
use Rattle.sh_edit.specs.Rewriting.{rewritten}
use Rattle.sh_read.specs.Reads.{Reads, accepted}
use Rattle.sh_descend.specs.{declared.Hop.TheVariants.{Here}, Descent.{hop_of}}
use Rattle.sh_state.specs.TreeState.{TreeState}
use Rattle.sh_decide.specs.{declared.state.{Aim.TheVariants.{Own}, Decision.{Decision}}, Aims.{call_key, written_key, written_value}, Deciding.{decided_by, decided_here}}
use Rattle.sh_decide.specs.declared.state.Decision.TheVariants as decision
use Rattle.sh_client.specs.declared.state.{Need.TheVariants.{ToSplit}, Then.TheVariants.{Ends}, Write.{Write, TheVariants.{Nothing, Entry, Leaf as WholeLeaf}}, Phase.TheVariants.{ReadLocked, Waiting}}
use Rattle.sh_client.specs.{Machine.{Machine, Registers}, Bodies.{entry_left}, Feeds.{did}, Splitting.{giving_of}}
use Rattle.sh_core.{specs.{Actors.{Actor}, Fits.{IsToSplit, Owes, Plans}, Keeps.{KeepsActor, pending_write}}, proofs.Frame.{Before, actor_in, at, quiet_with}}
use Rattle.sh_core_turns.proofs.{UnderLock.{Lands, M, rd, real, restarts}, FreshNodes.{Decided, answers, covers, own_below, needs_land}}

module _ (p : ConfigParts) (ok : IsSetting p) (words : List ℕ) (Has Now : ℕ → Actor → Type 0) (Out : ℕ → ℕ → ℕ → Type 0) (i : ℕ) (s : TreeState) (b : Before p words Has Out s) (a : Actor) (r : Registers) (depth : ℕ)
    (k : KeepsActor p s i (actor_in p i a r (ReadLocked Own depth))) where
  abbrev n : ℕ
  n = r.reads.node

  abbrev leaf : Leaf
  leaf = leaf_in p (s.node n)

  abbrev read : Reads
  read = rd p ok words Has Now Out i s b a r Own depth k

  abbrev To : Machine → Type 0
  To m = Lands p ok words Has Now Out i s b a r Own depth k m

  -- the lock is given back, with this reply, when this is stored
  stores : (answer : Reply) (body : List ℕ) (write : Write) → let x : Registers = record r { reads = read; reply = answer; body = body } in Plans p s i a.first a.point (length s.log) x n write Ends None → pending_write i r.call answer write Ends ≡ [] → To (at p i x (Waiting depth (giving_of n write Ends)))
  stores answer body write plans none mv =
      let x : Registers = record r { reads = read; reply = answer; body = body } in
      let no_duty = sym k.work.fits.holds.at.duty_is in
      quiet_with p ok words Has Now Out i s b a r (ReadLocked Own depth) (Waiting depth (giving_of n write Ends)) x k refl refl
      record { real = real p ok words Has Now Out i s b a r Own depth k; held = k.work.fits.holds.held; plans = subst (Plans p s i a.first a.point (length s.log) x n write Ends) no_duty plans }
      (subst (Owes s i a.first a.point (length s.log) r.call answer) no_duty tt) k.work.spares k.work.cached k.work.hands none tt mv

  module _ (is : read.loaded ≡ s.node n) (accepted_is : accepted p read ≡ Some (LeafImage leaf)) (here : hop_of (LeafImage leaf) (call_key r.call) 0 ≡ Here) where
    -- each decision on the leaf that stands
    lands : (d : Decision) → decided_here p r.call Own (LeafImage leaf) ≡ d → Decided p s i n a.first a.point None r.call d → To (did (M p ok words Has Now Out i s b a r Own depth k) Own depth (LeafImage leaf) d)
    lands decision.Restart e z = restarts p ok words Has Now Out i s b a r Own depth k
    lands decision.Absent e z = stores (answers p (s.node n) r.call) r.body Nothing z.ends z.unmade
    lands (decision.Entry index) e z = stores (answers p (s.node n) r.call) (entry_words (entry_left p r.call leaf index)) (Entry index) z refl
    lands (decision.Rewrite index) e z = stores (answers p (s.node n) r.call) (leaf_words (rewritten leaf index (written_key r.call) (written_value p r.call))) WholeLeaf z refl
    lands (decision.Worn version) e z = stores (reply.Worn version) r.body Nothing z.ends z.unmade
    lands decision.Split e z =
        let f = k.work.fits.holds in
        let to_split : IsToSplit p s r.call read Own = record { standing = is; image = LeafImage leaf; accepted_is = accepted_is; split = ap (decided_by p r.call Own (LeafImage leaf)) here ∙ e } in
        needs_land p ok words Has Now Out i s b a r (ReadLocked Own depth) k read (ReadLocked Own depth) (ToSplit Own depth) record { holds = record { at = f.at; held = f.held }; to_split = to_split } k.work.hands refl
    lands d e z = absurd z

    pub own_here : To (did (M p ok words Has Now Out i s b a r Own depth k) Own depth (LeafImage leaf) (decided_here p r.call Own (LeafImage leaf)))
    own_here =
        let there = k.work.fits.holds.at.there in
        let within = own_below p ok words s b.ground n r.call k.work.seated.in_range there here in
        lands (decided_here p r.call Own (LeafImage leaf)) refl (covers p ok words s b.ground i n there.low there.linked a.first a.point (omega (arith, k.first, k.seen)) r.call k.work.seated.in_range within.0 within.1)
