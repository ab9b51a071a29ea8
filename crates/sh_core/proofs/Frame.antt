-- How a turn's new invariant is put together: the actor goes on with its call, or its call has ended.
use Rattle.std.proofs.Common.{rules, ◌≡◌, ◌≢◌, ℕ, ◌+◌, ◌<◌, ◌≤◌, true, List, [], ◌∷◌, ◌++◌, length, Option, Some, None, refl, sym, ap, ◌∙◌, subst, arith, append-nil, length-append}
use Rattle.std.proofs.lemmas.List.{take-append-le}
use Rattle.sh_base.specs.{declared.{config.ConfigParts.{ConfigParts}, event.Event.{Event}}, Memory.{apply, found_by}, Setting.{all_seats, IsSetting}, Layout.{counter_word}}
use Rattle.sh_base.specs.declared.event.Event.TheVariants as event
use Rattle.sh_map.specs.{declared.{call.{Call.{Call}, Reply.{Reply}}, log.Entry.{Entry as LogEntry}, book.{Done.{Done}, Row.{Row}}}, Map.{get}, Log.{map_of, map_at}, Made.{entries_by}}
use Rattle.sh_map.{specs.{Points.{IsLeastPoint, least_point, point_of}, Book.{made}}, proofs.{BookLemmas.{IsLeastPoint-push}, LeastLemmas.{least_is}}}
use Rattle.sh_map.specs.declared.call.Call.TheVariants as call
use Rattle.sh_map.specs.declared.call.Reply.TheVariants as reply
use Rattle.sh_state.{specs.{TreeState.{Pending, Skipped, Grant, Seat, LockState, Held, Owns, TreeState}, Ground.{Ground}, Change.{Change}}, proofs.{Joins.{nothing_done}, Puts.{put_else, put_case}}}
use Rattle.sh_acts.specs.{Acts.{with_hold}, Counters.{Bounded}}
use Rattle.sh_readers.{specs.Hand.{AreRowsOf}, proofs.RowLemmas.{rows_linked}}
use Rattle.sh_decide.specs.declared.state.Posting.{Posting}
use Rattle.sh_client.specs.declared.state.Want.TheVariants as want
use Rattle.sh_client.specs.{declared.state.Phase.{Phase, TheVariants.{Seek, Ended}}, Giving.{makes}, Machine.{Machine, Registers}, Rests.{rests, rows_for}}
use Rattle.sh_client.specs.Wants.{want_in, load_of}
use Rattle.sh_core.specs.{Actors.{Actor, ending, actor_stepped, done_of, IsAnswered, AreAnswered, made_by, updates}, Fits.{AreSpares, HadNone, IsDecided, Owes, Fits}, Causes.{HasCause}}
use Rattle.sh_core.specs.{Keeps.{holding, Hands, Waits, pending, IsSeated, skips_counted, Skips, IsAtWork, KeepsActor}, Core.{WantsAdd, SomeAdds, Inv, Moves}}
use Rattle.sh_core.proofs.{Logs.{grows as log_grows, updates-snoc, in_order_snoc, answered_snoc}, Causes.{causes_on, causes_snoc}, Others.{Grows, owes_on, adds_before, bounded_less, turn_to}}

-- the actor's call goes on, and its seat has seen so much of the log
abbrev pub next : Actor → ℕ → Machine → Actor
next a n m = record a { client = m; seen = n }

-- the machine of the setting and the seat, in a phase
abbrev pub at : ConfigParts → ℕ → Registers → Phase → Machine
at p i r ph = record { setting = p; seat = i; registers = r; phase = ph }

abbrev pub actor_in : ConfigParts → ℕ → Actor → Registers → Phase → Actor
actor_in p i a r ph = record a { client = at p i r ph }

-- a seated actor is the one of its setting, its seat and its phase
pub actor_is : (p : ConfigParts) (i : ℕ) (a : Actor) (ph : Phase) → IsSeated p i a.client.setting a.client.seat a.client.registers.call → a.client.phase ≡ ph → a ≡ actor_in p i a a.client.registers ph
actor_is p i a ph w e = λ z. record a { client = record { setting = w.setting_is z; seat = w.seat_is z; registers = a.client.registers; phase = e z } }

-- it goes on, and has made no entry now
pub goes_on : (p : ConfigParts) (s t : TreeState) (i n : ℕ) (a : Actor) (m : Machine) → KeepsActor p s i a → t.log ≡ s.log → ((server : ℕ) → s.counter server ≤ t.counter server) → a.seen ≤ n → n ≤ length s.log → IsAtWork p t i a.first a.point n m → pending i m.registers m.phase ≡ pending i a.client.registers a.client.phase → KeepsActor p t i (next a n m)
goes_on p s t i n a m k l rise more within w same = record {
  work = w;
  seen = omega (arith, ap length l, within);
  first = omega (arith, k.first, more);
  answered = subst (λ (es : List LogEntry). AreAnswered es i a.dones) (sym l) k.answered;
  causes = causes_on p s.counter t.counter (λ server lt. rise server) s.log [] t.log (l ∙ sym (append-nil s.log)) i a.dones k.answered k.causes;
  ordered = k.ordered;
  mine = ap (made_by i) l ∙ k.mine ∙ ap (λ (es : List LogEntry). updates a.dones ++ es) (sym same);
}

-- its call has ended
pub ends_now : (p : ConfigParts) (s t : TreeState) (i : ℕ) (a : Actor) (m : Machine) (sn : List LogEntry) → KeepsActor p s i a → t.log ≡ s.log → ((server : ℕ) → s.counter server ≤ t.counter server) → length sn ≤ length s.log → a.seen ≤ length sn → IsAtWork p t i (length sn) a.point (length sn) m
    → IsAnswered s.log i (done_of i a sn m) → let d : Done = done_of i a sn m in HasCause p s.counter s.log d.first d.point d.rows d.call d.reply → a.first ≤ d.point → d.point + made m.registers.call m.registers.reply ≤ length sn → pending i a.client.registers a.client.phase ≡ entries_by i m.registers.call m.registers.reply → pending i m.registers m.phase ≡ [] → KeepsActor p t i (ending i a sn m)
ends_now p s t i a m sn k l rise within more w ans cause from past was none =
    let d : Done = done_of i a sn m in
    record {
      work = w;
      seen = omega (arith, ap length l, within);
      first = omega arith;
      answered = subst (λ (es : List LogEntry). AreAnswered es i (a.dones ++ d ∷ [])) (sym l) (answered_snoc s.log i a.dones d k.answered ans);
      causes = causes_on p s.counter t.counter (λ server lt. rise server) s.log [] t.log (l ∙ sym (append-nil s.log)) i (a.dones ++ d ∷ []) (answered_snoc s.log i a.dones d k.answered ans) (causes_snoc p s.counter s.log a.dones d k.causes cause);
      ordered = in_order_snoc 0 a.dones d (length sn) k.ordered from past;
      mine = ap (made_by i) l ∙ k.mine ∙ ap (λ (es : List LogEntry). updates a.dones ++ es) was ∙ sym (updates-snoc a.dones d) ∙ sym (append-nil (updates (a.dones ++ d ∷ []))) ∙ ap (λ (es : List LogEntry). updates (a.dones ++ d ∷ []) ++ es) (sym none);
    }

-- ---- the answer of a call whose reply is decided

least_longer : (first key : ℕ) (had : Option (List ℕ)) (n : ℕ) (log more : List LogEntry) → IsLeastPoint log first key had n → IsLeastPoint (log ++ more) first key had n
least_longer first key had n log more h = log_grows (λ (es : List LogEntry). IsLeastPoint es first key had n) (λ es e k. IsLeastPoint-push es e first key had n k) log more h

-- a call that ends, and where its point is
pub record IsEnding (log : List LogEntry) (i n : ℕ) (d : Done) : Type 0 where
  pub answered : IsAnswered log i d
  pub from : d.first ≤ d.point
  pub past : d.point + made d.call d.reply ≤ n

module _ (p : ConfigParts) (s : TreeState) (sn rest : List LogEntry) (i : ℕ) (a : Actor) (rows : List Row) (whole : s.log ≡ sn ++ rest) (more : a.seen ≤ length sn) (began : a.first ≤ a.seen) where
  shorter : length sn ≤ length s.log
  shorter = omega (arith, ap length whole, length-append sn rest)

  abbrev done : Call → Reply → Done
  done c r = record { n = a.number; seat = i; call = c; reply = r; first = a.first; point = point_of sn a.first a.point c r; rows = rows_for c rows }

  absent_ends : (key : ℕ) → HadNone s.log a.first a.seen key → IsEnding s.log i (length sn) (done (call.Del key) reply.None)
  absent_ends key h =
      let le : h.at ≤ length sn = omega (arith, h.below, more) in
      let there : get (map_at sn h.at) key ≡ None = ap (λ (es : List LogEntry). get (map_of es) key) (sym (take-append-le h.at sn rest le)) ∙ subst (λ (es : List LogEntry). get (map_at es h.at) key ≡ None) whole h.absent in
      let l = least_is sn a.first key None h.at h.from le there in
      let l' : IsLeastPoint s.log a.first key None (least_point sn a.first key None) = subst (λ (es : List LogEntry). IsLeastPoint es a.first key None (least_point sn a.first key None)) (sym whole) (least_longer a.first key None (least_point sn a.first key None) sn rest l) in
      record { answered = record { seat_is = refl; answers = record { within = l'.within; row = l'.here }; least = l'; rows = refl }; from = l'.from; past = omega (arith, l.within) }

  -- an update, or a node or a pool that is used up
  pub decided_ends : (c : Call) (r : Reply) → IsDecided p s i a.first a.point a.seen c r → IsEnding s.log i (length sn) (done c r)
  decided_ends c r h = search (rules, shorter, absent_ends)

-- ---- the client's part

-- a duty is what it was, in a scene of the same posts
pub waits_on : (s t : TreeState) (i : ℕ) → ((n : ℕ) → t.post n ≡ s.post n) → (duty : Option Posting) → Waits s i duty → Waits t i duty
waits_on s t i e duty w = search rules

pub skips_on : (s t : TreeState) (i count now : ℕ) → ((n : ℕ) → t.post n ≡ s.post n) → now ≡ count → Skips s i count → Skips t i now
skips_on s t i count now e c h = record { nodes = h.nodes; once = h.once; are = λ n. let u = h.are n in ((λ q. e n ∙ u.0 q), (λ q. u.1 (sym (e n) ∙ q))); counted = h.counted ∙ sym c }

-- another scene of the same links, posts and log, whose counters are no lower
pub record SameNodes (s t : TreeState) : Type 0 where
  pub log : t.log ≡ s.log
  pub class : (n : ℕ) → t.class n ≡ s.class n
  pub post : (n : ℕ) → t.post n ≡ s.post n
  pub counts : (server : ℕ) → s.counter server ≤ t.counter server

pub same_here : (s : TreeState) → SameNodes s s
same_here s = record { log = refl; class = λ n. refl; post = λ n. refl; counts = λ server. omega arith }

pub same_grows : (s t : TreeState) (i e n : ℕ) → SameNodes s t → e ≤ n → Grows s t i e n
same_grows s t i e n h le = record { more = []; longer = h.log ∙ sym (append-nil s.log); linked = λ m l a q. h.class m ∙ q; pending = λ m q. h.post m ∙ q; counts = h.counts; later = le }

-- its duty stays: the seat has the same node to post
pub work_anew : (p : ConfigParts) (s t : TreeState) (i f q e n : ℕ) (r : Registers) (ph : Phase) (w : IsAtWork p s i f q e (at p i r ph)) → ((k : ℕ) → t.post k ≡ s.post k) → (x : Registers) (to : Phase) → x.call ≡ r.call → skips_counted x.tally ≡ skips_counted r.tally
    → Fits p t i f q n x w.duty to → Owes t i f q n x.call x.reply w.duty → AreSpares t i x.spare → AreRowsOf t x.cached → Hands t i (holding p x to) → IsAtWork p t i f q n (at p i x to)
work_anew p s t i f q e n r ph w post x to call sum fits owes spares cached hands = search (rules, waits_on, skips_on)

-- registers of the same call, with the same reply, spare nodes, skipped posts and cached nodes
pub record SameCall (r x : Registers) : Type 0 where
  pub call_is : x.call ≡ r.call
  pub reply_is : x.reply ≡ r.reply
  pub spare_is : x.spare ≡ r.spare
  pub skips_are : skips_counted x.tally ≡ skips_counted r.tally
  pub cached_is : x.cached ≡ r.cached

pub same_call : (r : Registers) → SameCall r r
same_call r = record { call_is = refl; reply_is = refl; spare_is = refl; skips_are = refl; cached_is = refl }

-- so what the seat owes stays, and its spare nodes do
pub owes_with : (s t : TreeState) (i f q e n : ℕ) (p : ConfigParts) (r x : Registers) (duty : Option Posting) → SameNodes s t → e ≤ n → SameCall r x → Owes s i f q e r.call r.reply duty → Owes t i f q n x.call x.reply duty
owes_with s t i f q e n p r x duty same le with o = search (rules, owes_on, same_grows)

pub spares_with : (s t : TreeState) (i : ℕ) (r x : Registers) → SameNodes s t → x.spare ≡ r.spare → AreSpares s i r.spare → AreSpares t i x.spare
spares_with s t i r x same is h = subst (AreSpares t i) (sym is) (λ k is. same.class k ∙ h k is)

pub cached_with : (p : ConfigParts) (s t : TreeState) (r x : Registers) → SameNodes s t → x.cached ≡ r.cached → AreRowsOf s r.cached → AreRowsOf t x.cached
cached_with p s t r x same is h = subst (AreRowsOf t) (sym is) (rows_linked p s t (λ k l a q. same.class k ∙ q) r.cached h)

module _ (p : ConfigParts) (s t : TreeState) (i f q e n : ℕ) (r : Registers) (ph : Phase) (w : IsAtWork p s i f q e (at p i r ph)) (same : SameNodes s t) (le : e ≤ n) where
  pub work_with : (x : Registers) (to : Phase) → SameCall r x → Fits p t i f q n x w.duty to → Hands t i (holding p x to) → IsAtWork p t i f q n (at p i x to)
  work_with x to with fits hands = work_anew p s t i f q e n r ph w same.post x to with.call_is with.skips_are fits (owes_with s t i f q e n p r x w.duty same le with w.owes) (spares_with s t i r x same with.spare_is w.spares) (cached_with p s t r x same with.cached_is w.cached) hands

  -- with nothing to post its call has ended, with any reply
  pub work_ended : (x : Registers) → x.call ≡ r.call → skips_counted x.tally ≡ skips_counted r.tally → x.spare ≡ r.spare → x.cached ≡ r.cached → w.duty ≡ None → Hands t i None → IsAtWork p t i n q n (at p i x Ended)
  work_ended x call sum spare cached none hands = record {
    seated = subst (IsSeated p i p i) (sym call) w.seated;
    duty = None;
    fits = refl;
    owes = tt;
    hands = hands;
    waits = waits_on s t i same.post None (subst (Waits s i) none w.waits);
    spares = spares_with s t i r x same spare w.spares;
    cached = cached_with p s t r x same cached w.cached;
    skips = skips_on s t i (skips_counted r.tally) (skips_counted x.tally) same.post sum w.skips;
  }

-- ---- a phase in which no counter is to be counted on
abbrev pub IsCalm : Phase → Type 0
IsCalm (Seek need) = ⊥
IsCalm ph = Unit {0}

load_no_add : (o : Option ℕ) (at : ℕ) → load_of o ≡ want.Event (event.Add at) → ⊥
load_no_add o at e = search rules

pub no_add : (p : ConfigParts) (server : ℕ) (m : Machine) (ph : Phase) → IsCalm ph → want_in m ph ≡ want.Event (event.Add (counter_word p server)) → ⊥
no_add p server m ph c e = search (rules, load_no_add)

-- a client at rest has nothing to post, holds no lock, and has no entry of a call under way
pub record NothingLeft (p : ConfigParts) (i : ℕ) (r : Registers) (duty : Option Posting) (ph : Phase) : Type 0 where
  pub none : duty ≡ None
  pub free : holding p r ph ≡ None
  pub made : pending i r ph ≡ []

pub nothing_left : (p : ConfigParts) (s : TreeState) (i f q e : ℕ) (r : Registers) (duty : Option Posting) (ph : Phase) → rests ph ≡ true → Fits p s i f q e r duty ph → NothingLeft p i r duty ph
nothing_left p s i f q e r duty ph t h = search rules

-- ---- what the invariant says before a turn
pub record Before (p : ConfigParts) (words : List ℕ) (Has : ℕ → Actor → Type 0) (Out : ℕ → ℕ → ℕ → Type 0) (s : TreeState) : Type 0 where
  pub ground : Ground p words s
  pub bounded : (server : ℕ) → server < p.servers → Bounded p.chunks (all_seats p) (s.counter server) (λ j. SomeAdds p Has server j)
  pub kept : (j : ℕ) (a : Actor) → Has j a → KeepsActor p s j a
  pub held : (j l : ℕ) → Owns (s.hold l) (Seat j) → (a : Actor) × Has j a
  pub pends : (j n : ℕ) → s.post n ≡ Pending j → (a : Actor) × Has j a
  pub skips : (j n : ℕ) → s.post n ≡ Skipped j → (a : Actor) × Has j a
  pub makes : (j : ℕ) → made_by j s.log ≢ [] → (a : Actor) × Has j a
  pub given : (l c d : ℕ) → s.hold l ≡ Held (Grant c) d → Out l c d
  pub out : (l c d : ℕ) → Out l c d → s.hold l ≡ Held (Grant c) d

pub before : (p : ConfigParts) (words : List ℕ) (log : List LogEntry) (Has : ℕ → Actor → Type 0) (Out : ℕ → ℕ → ℕ → Type 0) (inv : Inv p words log Has Out) → Before p words Has Out inv.scene
before p words log Has Out inv = record { ground = inv.ground; bounded = inv.bounded; kept = inv.kept; held = inv.held; pends = inv.pends; skips = inv.skips; makes = inv.makes; given = inv.given; out = inv.out }

module _ (p : ConfigParts) (ok : IsSetting p) (words : List ℕ) (Has Now : ℕ → Actor → Type 0) (Out : ℕ → ℕ → ℕ → Type 0) (i : ℕ) (s : TreeState) (b : Before p words Has Out s) where
  -- another scene with the same counters, where the actor is to count none on
  pub moves_by : (now : List ℕ) (t : TreeState) (x : Actor) → Change p i s t × Ground p now t → KeepsActor p t i x → ((server : ℕ) → t.counter server ≡ s.counter server) → ((server : ℕ) → WantsAdd p server x.client → ⊥) → Moves Has i x Now → Inv p now t.log Now Out
  moves_by now t x ch k same calm mv = turn_to p Has Now i x mv ok words now s t b.ground ch.1 k b.kept b.held b.pends b.skips b.makes Out ch.0 (λ server. omega (arith, same server))
      (λ server lt. subst (λ (c : ℕ). Bounded p.chunks (all_seats p) c (λ j. SomeAdds p Now server j)) (sym (same server))
      (bounded_less p.chunks (all_seats p) (s.counter server) (λ j. SomeAdds p Has server j) (λ j. SomeAdds p Now server j) (adds_before p Has Now i x mv server (calm server)) (b.bounded server lt)))
      b.given b.out

  pub moves_to : (now : List ℕ) (t : TreeState) (x : Actor) → Change p i s t × Ground p now t → KeepsActor p t i x → ((server : ℕ) → t.counter server ≡ s.counter server) → IsCalm x.client.phase → Moves Has i x Now → Inv p now t.log Now Out
  moves_to now t x ch k same calm mv = moves_by now t x ch k same (λ server q. no_add p server x.client x.client.phase calm q) mv

  -- nothing but the actor has changed
  pub stays : (x : Actor) → KeepsActor p s i x → IsCalm x.client.phase → Moves Has i x Now → Inv p words s.log Now Out
  stays x k calm mv = moves_to words s x (nothing_done p (λ o. o ≢ Seat i) s, b.ground) k (λ server. refl) calm mv

  pub one_log : (now : List ℕ) (t : TreeState) → t.log ≡ s.log → Inv p now t.log Now Out → Inv p now (s.log ++ []) Now Out
  one_log now t e inv = subst (λ (es : List LogEntry). Inv p now es Now Out) (e ∙ sym (append-nil s.log)) inv

-- another hold of a lock
pub same_hold : (s : TreeState) (l : ℕ) (x : LockState) → SameNodes s (with_hold s l x)
same_hold s l x = record { log = refl; class = λ n. refl; post = λ n. refl; counts = λ server. omega arith }

-- the seat's locks after a change of the one that it has
pub hands_take : (s : TreeState) (i l : ℕ) (x : LockState) → Hands s i None → Hands (with_hold s l x) i (Some l)
hands_take s i l x h k ne o = h k (subst (λ (z : LockState). Owns z (Seat i)) (put_else s.hold l x k ne) o)

pub hands_keep : (s : TreeState) (i l : ℕ) (x : LockState) → Hands s i (Some l) → Hands (with_hold s l x) i (Some l)
hands_keep s i l x h k ne o = h k ne (subst (λ (z : LockState). Owns z (Seat i)) (put_else s.hold l x k ne) o)

pub hands_drop : (s : TreeState) (i l : ℕ) (x : LockState) → (Owns x (Seat i) → ⊥) → Hands s i (Some l) → Hands (with_hold s l x) i None
hands_drop s i l x off h k = put_case (λ z. Owns z (Seat i) → ⊥) s.hold l x k (λ e. off) (λ ne. h k ne)

-- ---- a turn of one actor

module _ (p : ConfigParts) (ok : IsSetting p) (words : List ℕ) (Has Now : ℕ → Actor → Type 0) (Out : ℕ → ℕ → ℕ → Type 0) (i : ℕ) (s : TreeState) (b : Before p words Has Out s) (a : Actor) (r : Registers) where
  abbrev pub Claim : Phase → Event → Type 0
  Claim ph e = Has i (actor_in p i a r ph) → Moves Has i (actor_stepped i (actor_in p i a r ph) s.log (found_by words e)) Now → Inv p (apply words e) (s.log ++ makes (at p i r ph)) Now Out

  abbrev pub N : ℕ
  N = length s.log

  -- another scene of the same nodes, where the client goes on
  pub advance : (now : List ℕ) (t : TreeState) (ph to : Phase) (x : Registers) (k : KeepsActor p s i (actor_in p i a r ph)) → SameNodes s t → Change p i s t × Ground p now t → ((server : ℕ) → t.counter server ≡ s.counter server) → SameCall r x
      → Fits p t i a.first a.point N x k.work.duty to → Hands t i (holding p x to) → pending i x to ≡ pending i r ph → IsCalm to → Moves Has i (next a N (at p i x to)) Now → Inv p now (s.log ++ []) Now Out
  advance now t ph to x k same ch count with fits hands pend calm mv =
      let m : Machine = at p i x to in
      one_log p ok words Has Now Out i s b now t same.log
      (moves_to p ok words Has Now Out i s b now t (next a N m) ch
      (goes_on p s t i N (actor_in p i a r ph) m k same.log same.counts k.seen (omega arith) (work_with p s t i a.first a.point a.seen N r ph k.work same k.seen x to with fits hands) pend) count calm mv)

  -- The scene stays, and no counter is to be counted on now: the log and the posts are those of before, so the reply may be
  -- a new one where there is no duty.
  pub quiet_by : (ph to : Phase) (x : Registers) (k : KeepsActor p s i (actor_in p i a r ph)) → x.call ≡ r.call → skips_counted x.tally ≡ skips_counted r.tally → Fits p s i a.first a.point N x k.work.duty to → Owes s i a.first a.point N x.call x.reply k.work.duty → AreSpares s i x.spare → AreRowsOf s x.cached → Hands s i (holding p x to)
      → pending i x to ≡ pending i r ph → ((server : ℕ) → WantsAdd p server (at p i x to) → ⊥) → Moves Has i (next a N (at p i x to)) Now → Inv p words (s.log ++ []) Now Out
  quiet_by ph to x k call sum fits owes spares cached hands pend calm mv =
      let m : Machine = at p i x to in
      one_log p ok words Has Now Out i s b words s refl
      (moves_by p ok words Has Now Out i s b words s (next a N m) (nothing_done p (λ o. o ≢ Seat i) s, b.ground)
      (goes_on p s s i N (actor_in p i a r ph) m k refl (λ server. omega arith) k.seen (omega arith) (work_anew p s s i a.first a.point a.seen N r ph k.work (λ n. refl) x to call sum fits owes spares cached hands) pend) (λ server. refl) calm mv)

  -- the same, in a phase that counts on no counter
  pub quiet_with : (ph to : Phase) (x : Registers) (k : KeepsActor p s i (actor_in p i a r ph)) → x.call ≡ r.call → skips_counted x.tally ≡ skips_counted r.tally → Fits p s i a.first a.point N x k.work.duty to → Owes s i a.first a.point N x.call x.reply k.work.duty → AreSpares s i x.spare → AreRowsOf s x.cached → Hands s i (holding p x to)
      → pending i x to ≡ pending i r ph → IsCalm to → Moves Has i (next a N (at p i x to)) Now → Inv p words (s.log ++ []) Now Out
  quiet_with ph to x k call sum fits owes spares cached hands pend calm mv = quiet_by ph to x k call sum fits owes spares cached hands pend (λ server q. no_add p server (at p i x to) to calm q) mv

  -- nothing but the client has changed
  pub quiet : (ph to : Phase) (x : Registers) (k : KeepsActor p s i (actor_in p i a r ph)) → SameCall r x → Fits p s i a.first a.point N x k.work.duty to → Hands s i (holding p x to) → pending i x to ≡ pending i r ph → IsCalm to → Moves Has i (next a N (at p i x to)) Now → Inv p words (s.log ++ []) Now Out
  quiet ph to x k with fits hands pend calm mv = quiet_with ph to x k with.call_is with.skips_are fits (owes_with s s i a.first a.point a.seen N p r x k.work.duty (same_here s) k.seen with k.work.owes) (spares_with s s i r x (same_here s) with.spare_is k.work.spares) (cached_with p s s r x (same_here s) with.cached_is k.work.cached) hands pend calm mv
