-- A call begins, or is taken away when it has ended.
use Rattle.std.{proofs.Common.{rules, ◌≡◌, ◌≢◌, ℕ, true, List, [], ◌++◌, length, Some, None, refl, sym, ap, ◌∙◌, subst, arith}}
use Rattle.std.{proofs.lemmas.Bool.Decides.{nat_tests}}
use Rattle.sh_base.{specs.{declared.config.ConfigParts.{ConfigParts}, Setting.{IsSetting}}, proofs.LayoutLemmas.{node_size_is}}
use Rattle.sh_map.specs.{declared.{call.{Call.{Call}, Reply.{Reply}}, log.Entry.{Entry as LogEntry}}, Calls.{IsInRange}}
use Rattle.sh_image.specs.{Inner.{Inner}, declared.inner.Image.TheVariants.{Inner as InnerImage}}
use Rattle.sh_descend.specs.{Descent.{child_of}}
use Rattle.sh_cache.{specs.Cached.{found, FoundBy}, proofs.FindLemmas.{found_by}}
use Rattle.sh_state.{specs.TreeState.{Seat, TreeState}, proofs.Joins.{nothing_done}}
use Rattle.sh_readers.{specs.Hand.{AreRowsOf, IsNamed}, proofs.{HandLemmas.{down_named}, RowLemmas.{row_found}, Gathering.{gathered_begin}}}
use Rattle.sh_decide.specs.{declared.state.Aim.TheVariants.{Own}, Aims.{aim_of, aimed_key, call_key, takes_lock, target}}
use Rattle.sh_client.specs.{Machine.{Machine}}
use Rattle.sh_client.specs.{Feeds.{begun}, Rests.{rests}}
use Rattle.sh_core.specs.{Actors.{actor_begun, made_by, rested, updates}, Fits.{AreSpares, Fits}, Keeps.{Hands, IsAtWork, Skips, Waits, holding, pending, pending_aim, skips_counted}}
use Rattle.sh_core.{specs.Core.{Inv, BeginKeeps, RestKeeps}, proofs.{Logs.{in_order_later}, Frame.{IsCalm, nothing_left, before, moves_to}}}

-- What a client is that has begun a call: at the root, or at the child of a cached node.
record Begun (p : ConfigParts) (s : TreeState) (i n : ℕ) (old m : Machine) (call : Call) : Type 0 where
  pub seated : (m.setting ≡ old.setting) × (m.seat ≡ old.seat)
  pub call_is : m.registers.call ≡ call
  pub spare_is : m.registers.spare ≡ old.registers.spare
  pub cached_is : m.registers.cached ≡ old.registers.cached
  pub skips_are : skips_counted m.registers.tally ≡ skips_counted old.registers.tally
  pub fits : Fits p s i n 0 n m.registers None m.phase
  pub free : holding p m.registers m.phase ≡ None
  pub made : pending i m.registers m.phase ≡ []
  pub calm : IsCalm m.phase

module _ (p : ConfigParts) (ok : IsSetting p) (s : TreeState) (i n : ℕ) (old : Machine) where
  none_made : (call : Call) (r : Reply) → pending_aim i call r (aim_of call) ≡ []
  none_made call r = search rules

  at_leaf : (call : Call) → target (aim_of call) ≡ 0
  at_leaf call = search rules

  for_key : (call : Call) → aimed_key call (aim_of call) ≡ call_key call
  for_key call = search rules

  takes_own : (call : Call) → takes_lock call Own ≡ true → takes_lock call (aim_of call) ≡ true
  takes_own call e = search rules

  -- the child of a cached node is a leaf that begins no later than the key
  named_child : (call : Call) (row : Inner) → AreRowsOf s old.registers.cached → found old.registers.cached (call_key call) ≡ Some row → IsNamed s (target (aim_of call)) (child_of row.pairs (call_key call)) (aimed_key call (aim_of call))
  named_child call row h e =
      let key : ℕ = call_key call in
      let f = row_found s key old.registers.cached row h (subst (FoundBy old.registers.cached key) e (found_by old.registers.cached key)) in
      let named = (down_named s 1 row.low key 0 (InnerImage row) f.0 f.1 0 (child_of row.pairs key) refl (grind (arith, nat_tests, f.0.level_is, f.1, f.2))).0 in
      subst (λ (z : ℕ × ℕ). IsNamed s z.0 (child_of row.pairs (call_key call)) z.1) (λ j. (sym (at_leaf call) j, sym (for_key call) j)) named

  begins : (call : Call) → IsInRange p call → AreRowsOf s old.registers.cached → Begun p s i n old (begun old call) call
  begins call lawful rows = search (rules, takes_own, none_made, gathered_begin, node_size_is, named_child)

module _ (p : ConfigParts) (ok : IsSetting p) where
  pub begin_keeps : BeginKeeps p
  begin_keeps words log Has Now Out i number n a call inv h rest lawful past within mv =
      let s = inv.scene in
      let k = inv.kept i a h in
      let w = k.work in
      let no = nothing_left p s i a.first a.point a.seen a.client.registers w.duty a.client.phase rest w.fits in
      let z = begins p ok s i n a.client call lawful w.cached in
      subst (λ (es : List LogEntry). Inv p words es Now Out) inv.log_is
      (moves_to p ok words Has Now Out i s (before p words log Has Out inv) words s (actor_begun a number call n) (nothing_done p (λ o. o ≢ Seat i) s, inv.ground) record {
        work = record {
          seated = record { setting_is = z.seated.0 ∙ w.seated.setting_is; seat_is = z.seated.1 ∙ w.seated.seat_is; within = w.seated.within; in_range = subst (IsInRange p) (sym z.call_is) lawful };
          duty = None;
          fits = z.fits;
          owes = tt;
          hands = subst (Hands s i) (no.free ∙ sym z.free) w.hands;
          waits = subst (Waits s i) no.none w.waits;
          spares = subst (AreSpares s i) (sym z.spare_is) w.spares;
          cached = subst (AreRowsOf s) (sym z.cached_is) w.cached;
          skips = subst (Skips s i) (sym z.skips_are) w.skips;
        };
        seen = omega (arith, ap length inv.log_is, within);
        first = omega arith;
        answered = k.answered;
        causes = k.causes;
        ordered = in_order_later 0 a.dones a.first n k.ordered (omega (arith, k.first, past));
        mine = k.mine ∙ ap (λ (es : List LogEntry). updates a.dones ++ es) (no.made ∙ sym z.made);
      } (λ server. refl) z.calm mv)

  pub rest_keeps : RestKeeps p
  rest_keeps words log Has Now Out i a inv h ended mv =
      let s = inv.scene in
      let k = inv.kept i a h in
      let w = k.work in
      let no = nothing_left p s i a.first a.point a.seen a.client.registers w.duty a.client.phase (ap rests ended) w.fits in
      let work : IsAtWork p s i a.first a.point a.seen (rested a).client = record { seated = w.seated; duty = w.duty; fits = no.none; owes = w.owes; hands = subst (Hands s i) no.free w.hands; waits = w.waits; spares = w.spares; cached = w.cached; skips = w.skips } in
      let mine : made_by i s.log ≡ updates a.dones ++ [] = k.mine ∙ ap (λ (es : List LogEntry). updates a.dones ++ es) no.made in
      subst (λ (es : List LogEntry). Inv p words es Now Out) inv.log_is (moves_to p ok words Has Now Out i s (before p words log Has Out inv) words s (rested a) (nothing_done p (λ o. o ≢ Seat i) s, inv.ground) (assumption (work, mine, k)) (λ server. refl) tt mv)
