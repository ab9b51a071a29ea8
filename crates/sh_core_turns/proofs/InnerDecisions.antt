-- The decisions under the lock of the node that a post goes to.
use Rattle.std.{proofs.Common.{◌≡◌, ◌≢◌, ℕ, suc, ◌+◌, ◌-◌, ◌<◌, List, length, Option, Some, refl, sym, ap, ◌∙◌, subst}, specs.Prelude.{nat_lt}}
use Rattle.sh_base.specs.{declared.{config.ConfigParts.{ConfigParts}, event.Event.TheVariants.{Load}}, Setting.{node_size, IsSetting}, Layout.{node_word}}
use Rattle.sh_image.specs.{declared.inner.Image.TheVariants.{Inner as InnerImage}, Inner.{Inner, inner_in, inner_words}}
use Rattle.sh_edit.specs.Pairing.{with_pair}
use Rattle.sh_read.specs.Reads.{Reads, accepted}
use Rattle.sh_descend.specs.{declared.Hop.TheVariants.{Here}, Descent.{hop_of}}
use Rattle.sh_state.{specs.{TreeState.{Seat, TreeState}, Ground.{Ground}, Change.{Change}}, proofs.Joins.{nothing_done}}
use Rattle.sh_acts.specs.Acts.{skipped}
use Rattle.sh_decide.specs.{declared.state.{Posting.{Posting}, Aim.{Aim, TheVariants.{Own, Gathers, Posts}}, Decision.{Decision}}, Deciding.{decided_by, decided_here}}
use Rattle.sh_decide.specs.declared.state.Decision.TheVariants as decision
use Rattle.sh_client.specs.declared.state.{Need.TheVariants.{ToSplit}, Tally.{Tally}, Then.TheVariants.{Ends}, Write.TheVariants.{Nothing, Inner as WholeInner}, Phase.{Phase}}
use Rattle.sh_client.specs.{declared.state.Phase.TheVariants.{ReadLocked, Waiting}, Machine.{Machine, Registers, up}, Bodies.{pair_of}, Feeds.{did}, Splitting.{giving_of}}
use Rattle.sh_core.{specs.{Actors.{Actor}, Fits.{IsPosting, IsToSplit, Owes, PlansInner}, Keeps.{KeepsActor}}, proofs.Others.{owes_on}}
use Rattle.sh_core.proofs.Frame.{Before, Claim, actor_in, at, moves_to, next, one_log, quiet_with, same_grows, same_here}
use Rattle.sh_core_turns.proofs.{FreshNodes.{IsFor, adds, decides, post_below, needs_land}, LeafDecisions.{own_here}, Posts.{keeps_skipped, skips_act, worn_more}}
use Rattle.sh_core_turns.proofs.UnderLock.{calm, kept, Feeds, Lands, M, locked_read, rd, real}

module _ (p : ConfigParts) (ok : IsSetting p) (words : List ℕ) (Has Now : ℕ → Actor → Type 0) (Out : ℕ → ℕ → ℕ → Type 0) (i : ℕ) (s : TreeState) (b : Before p words Has Out s) (a : Actor) (r : Registers) (post : Posting) (depth : ℕ)
    (k : KeepsActor p s i (actor_in p i a r (ReadLocked (Posts post) depth))) where
  abbrev ph : Phase
  ph = ReadLocked (Posts post) depth

  abbrev n : ℕ
  n = r.reads.node

  abbrev N : ℕ
  N = length s.log

  abbrev node : Inner
  node = inner_in (s.node n)

  abbrev read : Reads
  read = rd p ok words Has Now Out i s b a r (Posts post) depth k

  abbrev m : Machine
  m = M p ok words Has Now Out i s b a r (Posts post) depth k

  abbrev To : Machine → Type 0
  To m = Lands p ok words Has Now Out i s b a r (Posts post) depth k m

  owes : Owes s i a.first a.point N r.call r.reply k.work.duty
  owes = owes_on p s s i a.first a.point a.seen N (same_grows s s i a.seen N (same_here s) k.seen) r.call r.reply k.work.duty k.work.owes

  owed : IsPosting s i a.first a.point N r.call r.reply post
  owed = subst (Owes s i a.first a.point N r.call r.reply) k.work.fits.holds.at.duty_is owes

  -- the post is skipped, and the lock is given back
  skips : To (did m (Posts post) depth (InnerImage node) decision.Skip)
  skips mv =
      let f = k.work.fits.holds in
      let now : Change p i s s × Ground p words s = (nothing_done p (λ o. o ≢ Seat i) s, b.ground) in
      let same = same_here s in
      let tally : Tally = record r.tally { skipped_worn = up r.tally.skipped_worn } in
      one_log p ok words Has Now Out i s b words (skipped s post.node i) refl
      (moves_to p ok words Has Now Out i s b words (skipped s post.node i) (next a N (at p i (record r { tally = tally; reads = read }) (Waiting depth (giving_of n Nothing Ends))))
      (skips_act p ok words s s i a r ph k now same post f.at.duty_is)
      (keeps_skipped p ok words s s i a r ph k now same post f.at.duty_is tally read r.walk (worn_more p ok words s s i a r ph k now same post f.at.duty_is) n depth f.held (real p ok words Has Now Out i s b a r (Posts post) depth k) k.work.hands refl)
      (λ server. refl) tt mv)

  adds_pair : post.separator < node.high → IsFor p node decision.Add → To (did m (Posts post) depth (InnerImage node) decision.Add)
  adds_pair lt d mv =
      let f = k.work.fits.holds in
      let body : List ℕ = inner_words p (with_pair node (pair_of post)) in
      let plans = subst (λ (duty : Option Posting). PlansInner p s i body n duty Ends) (sym f.at.duty_is) (adds p ok words s b.ground i a.first a.point N r.call r.reply post owed n f.at.there lt d) in
      quiet_with p ok words Has Now Out i s b a r ph (Waiting depth (giving_of n WholeInner Ends)) (record r { reads = read; body = body }) k refl refl
      record { real = real p ok words Has Now Out i s b a r (Posts post) depth k; held = f.held; plans = plans }
      owes k.work.spares k.work.cached k.work.hands refl tt mv

  module _ (is : read.loaded ≡ s.node n) (accepted_is : accepted p read ≡ Some (InnerImage node)) (here : hop_of (InnerImage node) post.separator post.level ≡ Here) where
    below : post.separator < node.high
    below = post_below p ok words s b.ground i a.first a.point N r.call r.reply post owed n k.work.fits.holds.at.there here

    -- each decision on the node that stands
    lands : (d : Decision) → decided_here p r.call (Posts post) (InnerImage node) ≡ d → IsFor p node d → To (did m (Posts post) depth (InnerImage node) d)
    lands decision.Skip e z = skips
    lands decision.Add e z = adds_pair below z
    lands decision.Split e z =
        let f = k.work.fits.holds in
        let to_split : IsToSplit p s r.call read (Posts post) = record { standing = is; image = InnerImage node; accepted_is = accepted_is; split = ap (decided_by p r.call (Posts post) (InnerImage node)) here ∙ e } in
        needs_land p ok words Has Now Out i s b a r ph k read ph (ToSplit (Posts post) depth) record { holds = record { at = f.at; held = f.held }; to_split = to_split } k.work.hands refl
    lands d e z = absurd z

    pub post_here : To (did m (Posts post) depth (InnerImage node) (decided_here p r.call (Posts post) (InnerImage node)))
    post_here = lands (decided_here p r.call (Posts post) (InnerImage node)) refl (decides p ok words s b.ground i a.first a.point N r.call r.reply post owed n k.work.fits.holds.at.there)

-- a READ under a lock, whatever it is for
module _ (p : ConfigParts) (ok : IsSetting p) (words : List ℕ) (Has Now : ℕ → Actor → Type 0) (Out : ℕ → ℕ → ℕ → Type 0) (i : ℕ) (s : TreeState) (b : Before p words Has Out s) (a : Actor) (r : Registers) where
  pub locked_reads : (aim : Aim) (depth : ℕ) (k : KeepsActor p s i (actor_in p i a r (ReadLocked aim depth))) → Feeds p ok words Has Now Out i s b a r aim depth k (nat_lt (suc (length r.reads.loaded)) (node_size p))
  locked_reads Own depth k = locked_read p ok words Has Now Out i s b a r Own depth k (own_here p ok words Has Now Out i s b a (calm p ok words Has Now Out i s b a r Own depth k) depth (kept p ok words Has Now Out i s b a r Own depth k))
  locked_reads (Posts post) depth k = locked_read p ok words Has Now Out i s b a r (Posts post) depth k (post_here p ok words Has Now Out i s b a (calm p ok words Has Now Out i s b a r (Posts post) depth k) post depth (kept p ok words Has Now Out i s b a r (Posts post) depth k))
  locked_reads (Gathers place) depth k = absurd (let z = k.work.fits.holds.at.takes in cc)

  pub locked_claim : (aim : Aim) (depth : ℕ) → Claim p ok words Has Now Out i s b a r (ReadLocked aim depth) (Load (node_word p r.reads.node + (node_size p - 1 - length r.reads.loaded)))
  locked_claim aim depth h = (locked_reads aim depth (b.kept i (actor_in p i a r (ReadLocked aim depth)) h)).1
