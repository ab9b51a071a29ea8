-- What a pass has cached was shown in its life.
use Rattle.std.proofs.Common.{rules, ◌≡◌, ℕ, List, [], ◌∷◌, Option, None, Some, Bor, ap, inl, inr, subst, sym, ◌∙◌, arith}
use Rattle.std.specs.{Prelude.{IfSome}, Option.{option_map}, List.{Contains}}
use Rattle.std.proofs.lemmas.List.Elements.{All-contains_itself, recursion_from_All}
use Rattle.sh_base.specs.declared.config.ConfigParts.{ConfigParts}
use Rattle.sh_image.specs.{Inner.{Inner}, declared.inner.Image.TheVariants.{Inner as InnerImage}}
use Rattle.sh_cache.{specs.Cached.{found}, proofs.FindLemmas.{found_has}}
use Rattle.sh_map.specs.declared.call.Call.{Call}
use Rattle.sh_read.specs.Reads.{accepted, reads_with}
use Rattle.sh_decide.specs.Aims.{call_key}
use Rattle.sh_client.{specs.{CachedTurns.{BeginsBy, ShowsParent}, Feeds.{begun}, Machine.{Machine, fresh_machine}}, proofs.{CachedLemmas.{begins_by, turned_learns}, ShownLemmas.{fed_shows}}}
use Rattle.sh_pool_rule.specs.{declared.view.Tiding.{Tiding, TheVariants.{CallTold, TurnTold, WordTold}}, Lives.{lived, MayLive}, Views.{view_seat}}
use Rattle.sh_pool.{specs.Passes.{life_of, IsPass, Standing, WasShown}, proofs.LoadedLemmas.{lived_setting, read_run, spelt}}

begun_cached : (m : Machine) (call : Call) (o : Option Inner) → BeginsBy m call o → (begun m call).registers.cached ≡ m.registers.cached
begun_cached m call o h = search rules

module _ (p : ConfigParts) (seat : ℕ) where
  abbrev m : Machine
  m = fresh_machine p seat

  more : (t : Tiding) (life : List Tiding) (row : Inner) → WasShown m life row → WasShown m (t ∷ life) row
  more t life row h = record { node = h.node; words = h.words; since = t ∷ h.since; before = h.before; whole = ap (λ l. t ∷ l) h.whole; image_is = h.image_is }

  shows : (word : ℕ) (life : List Tiding) (row : Inner) → MayLive p m life → ShowsParent (lived m life) word row → WasShown m (WordTold word ∷ life) row
  shows word life row may h =
      let x = lived m life in
      let run = read_run p m tt life h.aim h.top may h.reads in
      record {
        node = x.registers.reads.node;
        words = word ∷ x.registers.reads.loaded;
        since = [];
        before = run.0;
        whole = ap (λ l. WordTold word ∷ l) run.1;
        image_is = subst (λ (q : ConfigParts). accepted q (reads_with x.registers.reads.node (word ∷ x.registers.reads.loaded)) ≡ Some (InnerImage row)) (lived_setting p m tt life) (spelt x word (InnerImage row) h.image_is);
      }

  was_shown : (life : List Tiding) (row : Inner) → MayLive p m life → Contains (lived m life).registers.cached row → WasShown m life row
  was_shown [] row may h = absurd (omega (arith, h.1))
  was_shown (CallTold call ∷ life) row may h =
      let x = lived m life in
      more (CallTold call) life row (was_shown life row may.1 (subst (λ (l : List Inner). Contains l row) (begun_cached x call (found x.registers.cached (call_key call)) (begins_by x call)) h))
  was_shown (TurnTold depth ∷ life) row may h = more (TurnTold depth) life row (was_shown life row may.1 (subst (λ (l : List Inner). Contains l row) (turned_learns (lived m life) depth).0 h))
  was_shown (WordTold word ∷ life) row may h = elim (fed_shows (lived m life) word row h) [
    | inl before ↦ more (WordTold word) life row (was_shown life row may.1 before)
    | inr shown ↦ shows word life row may.1 shown
  ]

-- a cached row that a pass finds
pub row_shown : (p : Standing) (key : ℕ) (o : Option (Bor Inner)) → IsPass p → option_map (λ r. r.now) o ≡ found p.client.registers.cached key
    → IfSome o (λ r. WasShown (fresh_machine p.client.setting (view_seat p.view)) (life_of p) r.now)
row_shown p key None h is = tt
row_shown p key (Some r) h is =
    let rows = p.client.registers.cached in
    let here : Contains rows r.now = found_has (Contains rows) rows key r.now (sym is) (recursion_from_All (Contains rows) rows (All-contains_itself rows)) in
    was_shown p.client.setting (view_seat p.view) (life_of p) r.now h.lived.may (subst (λ (m : Machine). Contains m.registers.cached r.now) (h.tied ∙ h.lived.client) here)
