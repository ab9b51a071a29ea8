-- A walk over the counters for a fresh node, by what it comes to: it goes on, it got a chunk, or all chunks are spent.
use Rattle.std.proofs.{Common.{rules, ◌≡◌, ℕ, ◌+◌, ◌≤◌, List, [], length, refl, sym, ap, ◌∙◌, subst, arith, append-nil}, lemmas.Bool.Decides.{nat_tests}}
use Rattle.sh_base.specs.{declared.{config.ConfigParts.{ConfigParts}, event.Event.{Event, TheVariants.{Add}}}, Setting.{IsSetting}, Layout.{counter_word, first_node}}
use Rattle.sh_base.proofs.LayoutLemmas.{node_size_is}
use Rattle.sh_readers.{specs.Hand.{AreRowsOf}, proofs.RowLemmas.{rows_linked}}
use Rattle.sh_map.specs.{declared.call.Call.{Call}, Made.{entries_by}}
use Rattle.sh_map.specs.declared.call.Reply.TheVariants as reply
use Rattle.sh_alloc.specs.{declared.state.{NodeRange.{NodeRange}, Walk.{Walk}, ChunkWant.{ChunkWant}}, Spares.{nodes_from, without_lowest}, Walks.{walk_wants}}
use Rattle.sh_alloc.specs.declared.state.ChunkWant.TheVariants as chunk
use Rattle.sh_state.{specs.{TreeState.{Linked, TreeState, put}, Ground.{Ground}, Change.{Change}}, proofs.Puts.{put_case}}
use Rattle.sh_acts.{specs.Acts.{drawn, skipped}, proofs.Own.{drawn_mine}}
use Rattle.sh_decide.specs.declared.state.Aim.TheVariants.{Own, Gathers, Posts}
use Rattle.sh_client.specs.declared.state.{Need.{Need, TheVariants.{ToSplit, ToGrow}}, Then.TheVariants.{Ends}, Write.TheVariants.{Nothing}, Phase.{Phase, TheVariants.{Fill, Seek, Waiting}}}
use Rattle.sh_client.specs.{declared.state.Tally.{Tally}, Machine.{Machine, Registers, up}, Splitting.{giving_of, sought_by}, Wants.{count_of}}
use Rattle.sh_client.specs.declared.state.Want.TheVariants as want
use Rattle.sh_core.specs.{Actors.{Actor, becomes}, Fits.{AreSpares, AreSpent, IsDecided, IsSeeking, Owes}, Keeps.{pending, Hands, IsAtWork, KeepsActor}, Core.{WantsAdd}}
use Rattle.sh_core.proofs.{Others.{Grows, owes_on}, Frame.{next, actor_in, at, goes_on, same_grows, work_anew, work_with, Before, SameNodes}}
use Rattle.sh_core_turns.proofs.FreshNodes.{IsTaken, takes_lowest, SplitsFor, leaf_to_split, put_misses, begins, need_lock_is, needs_on}
use Rattle.sh_core_turns.proofs.Posts.{spent_more, skips_act, keeps_ended, keeps_skipped}

pub event_is : (x y : Event) → want.Event x ≡ want.Event y → x ≡ y
event_is x y e = cc

-- ---- where a turn leads

-- the scene with other counters
abbrev pub with_counters : TreeState → (ℕ → ℕ) → TreeState
with_counters s f = record s { counter = f }

abbrev pub counted_on : TreeState → (server : ℕ) → ℕ → ℕ
counted_on s server = put s.counter server (s.counter server + 1)

pub counted_rise : (s : TreeState) (server v : ℕ) → s.counter v ≤ counted_on s server v
counted_rise s server v = put_case (λ z. s.counter v ≤ z) s.counter server (s.counter server + 1) v (λ e. omega (arith, ap s.counter e)) (λ ne. omega arith)

-- The scene that the turn leads to, of these words and these counters, and what holds of the seat's actor in it. It is to
-- count a counter on where that is what its walk wants.
pub record Reached (p : ConfigParts) (seat : ℕ) (s : TreeState) (now : List ℕ) (f : ℕ → ℕ) (w : ChunkWant) (x : Actor) : Type 0 where
  pub scene : TreeState
  pub act : Change p seat s scene × Ground p now scene
  pub log : scene.log ≡ s.log
  pub counts : (server : ℕ) → scene.counter server ≡ f server
  pub keeps : KeepsActor p scene seat x
  pub adds : (server : ℕ) → WantsAdd p server x.client → w ≡ chunk.Event (Add (counter_word p server))

-- counters that were counted on alone
pub record Counts (p : ConfigParts) (seat : ℕ) (s : TreeState) (now : List ℕ) (f : ℕ → ℕ) : Type 0 where
  pub act : Change p seat s (with_counters s f) × Ground p now (with_counters s f)
  pub rise : (server : ℕ) → s.counter server ≤ f server

-- they leave the rest of the scene
counts_alone : (p : ConfigParts) (seat : ℕ) (s : TreeState) (now : List ℕ) (f : ℕ → ℕ) → Counts p seat s now f → SameNodes s (with_counters s f)
counts_alone p seat s now f c = record { log = refl; class = λ n. refl; post = λ n. refl; counts = c.rise }

-- a chunk is drawn
drawn_on : (p : ConfigParts) (seat : ℕ) (s : TreeState) (server e n : ℕ) → Change p seat s (drawn p s server seat) → e ≤ n → Grows s (drawn p s server seat) seat e n
drawn_on p seat s server e n ch le = record { more = []; longer = sym (append-nil s.log); linked = ch.linked; pending = λ m q. q; counts = counted_rise s server; later = le }

-- its lowest node is taken, and the others are spare
takes_chunk : (p : ConfigParts) (ok : IsSetting p) (s : TreeState) (seat server : ℕ) → let fresh : ℕ = first_node p server (s.counter server) in IsTaken (drawn p s server seat) seat fresh (without_lowest (nodes_from fresh p.chunk_nodes))
takes_chunk p ok s seat server = search (rules, takes_lowest, drawn_mine, nat_tests)

module _ (p : ConfigParts) (ok : IsSetting p) (words : List ℕ) (Has : ℕ → Actor → Type 0) (Out : ℕ → ℕ → ℕ → Type 0) (seat : ℕ) (s : TreeState) (b : Before p words Has Out s) (a : Actor) (r : Registers) where
  abbrev N : ℕ
  N = length s.log

  module _ (need : Need) (h : Has seat (actor_in p seat a r (Seek need))) where
    abbrev ph : Phase
    ph = Seek need

    abbrev K : KeepsActor p s seat (actor_in p seat a r ph)
    K = b.kept seat (actor_in p seat a r ph) h

    -- the actor whose walk is v, by what that wants
    abbrev pub walked_to : Walk → ChunkWant → Actor
    walked_to v w = becomes seat (actor_in p seat a r ph) s.log [] (sought_by (at p seat (record r { walk = v }) ph) need w)

    module _ (now : List ℕ) (v : Walk) where
      -- its call goes on
      counts_to : (f : ℕ → ℕ) (x : Registers) (to : Phase) (w : ChunkWant) → Counts p seat s now f → IsAtWork p (with_counters s f) seat a.first a.point N (at p seat x to) → pending seat x to ≡ pending seat r ph
          → ((server : ℕ) → WantsAdd p server (at p seat x to) → w ≡ chunk.Event (Add (counter_word p server))) → Reached p seat s now f w (next a N (at p seat x to))
      counts_to f x to w c work same adds = record { scene = with_counters s f; act = c.act; log = refl; counts = λ u. refl; keeps = goes_on p s (with_counters s f) seat N (actor_in p seat a r ph) (at p seat x to) K refl c.rise K.seen (omega arith) work same; adds = adds }

      pub going : (f : ℕ → ℕ) (e : Event) → walk_wants p v ≡ chunk.Event e → Counts p seat s now f → IsSeeking p (with_counters s f) v r.spare → Reached p seat s now f (chunk.Event e) (walked_to v (chunk.Event e))
      going f e at c here =
          let t : TreeState = with_counters s f in
          let same = counts_alone p seat s now f c in
          let x : Registers = record r { walk = v } in
          counts_to f x ph (chunk.Event e) c
          (work_with p s t seat a.first a.point a.seen N r ph K.work same K.seen x ph record { call_is = refl; reply_is = refl; spare_is = refl; skips_are = refl; cached_is = refl }
          record { needs = needs_on p s t seat r v K.work.duty (same_grows s t seat 0 0 same (omega arith)) refl refl need K.work.fits.needs; seeking = here } (subst (Hands t seat) (sym (need_lock_is p r v need)) (search rules)))
          refl (λ server q. ap chunk.Event (event_is e (Add (counter_word p server)) (sym (ap count_of at) ∙ q)))

      pub got : (server : ℕ) → Change p seat s (drawn p s server seat) × Ground p now (drawn p s server seat) → let w : ChunkWant = chunk.Got server (s.counter server) in Reached p seat s now (counted_on s server) w (walked_to v w)
      got server act =
          let t : TreeState = drawn p s server seat in
          let fresh : ℕ = first_node p server (s.counter server) in
          let rest : NodeRange = without_lowest (nodes_from fresh p.chunk_nodes) in
          let w : ChunkWant = chunk.Got server (s.counter server) in
          let taken = takes_chunk p ok s seat server in
          let owes = owes_on p s t seat a.first a.point a.seen N (drawn_on p seat s server a.seen N act.0 K.seen) r.call r.reply K.work.duty K.work.owes in
          let needs = needs_on p s t seat r v K.work.duty (drawn_on p seat s server 0 0 act.0 (omega arith)) refl refl need K.work.fits.needs in
          let z = begins p ok now t act.1 seat a.first a.point N (record r { walk = v }) K.work.seated.in_range K.work.duty owes fresh rest taken ph need needs in
          let x : Machine = at p seat z.registers (Fill fresh 0 z.filling) in
          let spares = subst (AreSpares t seat) (sym z.spare_is) taken.spares in
          let hands = subst (Hands t seat) (sym (z.lock_is ∙ need_lock_is p r v need)) (search rules) in
          let work = work_anew p s t seat a.first a.point a.seen N r ph K.work (λ n. refl) z.registers (Fill fresh 0 z.filling) z.call_is z.skips_are record { fills = z.fills; left = omega (arith, node_size_is p) } z.owes spares (subst (AreRowsOf t) (sym z.cached_is) (rows_linked p s t act.0.linked r.cached K.work.cached)) hands in
          subst (λ (m : Machine). Reached p seat s now (counted_on s server) w (becomes seat (actor_in p seat a r ph) s.log [] m)) (sym z.machine_is)
          record { scene = t; act = act; log = refl; counts = λ u. refl; keeps = goes_on p s t seat N (actor_in p seat a r ph) x K refl (counted_rise s server) K.seen (omega arith) work z.pending_is; adds = λ u q. absurd (cc) }

  -- ---- all chunks are spent

  -- a put is full
  full : (n : ℕ) (low : ℕ) → s.class n ≡ Linked 0 low → (f : ℕ → ℕ) → AreSpent p f → a.first ≤ N → (c : Call) → SplitsFor p (s.node n) c → IsDecided p (with_counters s f) seat a.first a.point N c reply.Full × (entries_by seat c reply.Full ≡ [])
  full n low linked f all began c k = search (rules, put_misses)

  pub spent : (need : Need) (h : Has seat (actor_in p seat a r (Seek need))) (now : List ℕ) (v : Walk) (f : ℕ → ℕ) → Counts p seat s now f → AreSpent p f → Reached p seat s now f chunk.AllSpent (walked_to need h v chunk.AllSpent)
  spent (ToSplit Own depth) h now v f c all =
      let need : Need = ToSplit Own depth in
      let t : TreeState = with_counters s f in
      let k = K need h in
      let z = k.work.fits.needs in
      let n : ℕ = r.reads.node in
      let there = z.holds.at.there in
      let splits = leaf_to_split p ok words s b.ground n r.call k.work.seated.in_range there r.reads refl z.to_split in
      let end = full n there.low there.linked f all (omega (arith, k.first, k.seen)) r.call splits.1 in
      let x : Registers = record r { walk = v; reply = reply.Full } in
      let to : Phase = Waiting depth (giving_of n Nothing Ends) in
      counts_to need h now v f x to chunk.AllSpent c
      (work_anew p s t seat a.first a.point a.seen N r (Seek need) k.work (λ n. refl) x to refl refl
      record { real = (b.ground.sits n 0 there.low there.linked).real; held = z.holds.held; plans = record { none = z.holds.at.duty_is; decided = end.0 } } (subst (Owes t seat a.first a.point N r.call reply.Full) (sym z.holds.at.duty_is) tt) k.work.spares (rows_linked p s t (λ m l a q. q) r.cached k.work.cached) k.work.hands)
      end.1 (λ server q. absurd (cc))
  spent (ToSplit (Gathers place) depth) h now v f c all = absurd (let z = (K (ToSplit (Gathers place) depth) h).work.fits.needs.holds.at.takes in cc)
  spent (ToSplit (Posts post) depth) h now v f c all =
      let need : Need = ToSplit (Posts post) depth in
      let ph : Phase = Seek need in
      let u : TreeState = with_counters s f in
      let same = counts_alone p seat s now f c in
      let k = K need h in
      let z = k.work.fits.needs in
      let n : ℕ = r.reads.node in
      let there = z.holds.at.there in
      let tally : Tally = record r.tally { skipped_spent = up r.tally.skipped_spent } in
      record {
        scene = skipped u post.node seat;
        act = skips_act p ok now s u seat a r ph k c.act same post z.holds.at.duty_is;
        log = refl;
        counts = λ w. refl;
        keeps = keeps_skipped p ok now s u seat a r ph k c.act same post z.holds.at.duty_is tally r.reads v (spent_more p ok now s u seat a r ph k c.act same post z.holds.at.duty_is) n depth z.holds.held (b.ground.sits n post.level there.low there.linked).real k.work.hands refl;
        adds = λ server q. absurd (cc);
      }
  spent (ToGrow post root) h now v f c all =
      let ph : Phase = Seek (ToGrow post root) in
      let u : TreeState = with_counters s f in
      let same = counts_alone p seat s now f c in
      let k = K (ToGrow post root) h in
      let duty = k.work.fits.needs.duty_is in
      let tally : Tally = record r.tally { skipped_spent = up r.tally.skipped_spent } in
      record {
        scene = skipped u post.node seat;
        act = skips_act p ok now s u seat a r ph k c.act same post duty;
        log = refl;
        counts = λ w. refl;
        keeps = keeps_ended p ok now s u seat a r ph k c.act same post duty tally r.reads v (spent_more p ok now s u seat a r ph k c.act same post duty) k.work.hands refl;
        adds = λ server q. absurd (cc);
      }
