-- The invariant of a laid pool, and with a new client.
use Rattle.std.proofs.Common.{rules, ◌≡◌, ◌≢◌, ℕ, ◌<◌, List, [], ◌∷◌, None, refl, sym, ◌∙◌, subst}
use Rattle.sh_base.specs.{declared.config.ConfigParts.{ConfigParts}, Setting.{all_seats, IsSetting}}
use Rattle.sh_map.specs.declared.log.Entry.{Entry as LogEntry}
use Rattle.sh_state.{specs.TreeState.{Skipped, Seat, TreeState}, proofs.{Puts.{put_case}, Joins.{nothing_done}}}
use Rattle.sh_acts.{proofs.Own.{laid_ground, bounded_begin}}
use Rattle.sh_core.{specs.{Actors.{made_by}, Keeps.{Hands, Waits, KeepsActor}, Core.{Inv}, Opening.{entered, LaidKeeps, EnterKeeps}}, proofs.Frame.{before, moves_to}}

-- at a seat where nothing was done nothing is left to do
new_keeps : (p : ConfigParts) (s : TreeState) (seat : ℕ) → seat < all_seats p → Hands s seat None → Waits s seat None → ((n : ℕ) → s.post n ≢ Skipped seat) → made_by seat s.log ≡ [] → KeepsActor p s seat (entered p seat)
new_keeps p s seat lt hands waits skips made = search rules

module _ (p : ConfigParts) (ok : IsSetting p) where
  pub laid_keeps : LaidKeeps p
  laid_keeps words h1 h2 laid new none = search (rules, laid_ground, bounded_begin, put_case, new_keeps)

  pub enter_keeps : EnterKeeps p
  enter_keeps words log Has Now Out seat inv lt free mv =
      let s : TreeState = inv.scene in
      subst (λ (es : List LogEntry). Inv p words es Now Out) inv.log_is
      (moves_to p ok words Has Now Out seat s (before p words log Has Out inv) words s (entered p seat) (nothing_done p (λ o. o ≢ Seat seat) s, inv.ground)
      (new_keeps p s seat lt (λ lock o. let h = inv.held seat lock o in free h.0 h.1) (λ n e. let h = inv.pends seat n e in free h.0 h.1) (λ n e. let h = inv.skips seat n e in free h.0 h.1) (made_none (made_by seat s.log) refl))
      (λ server. refl) tt mv)
    where
      made_none : (es : List LogEntry) → made_by seat inv.scene.log ≡ es → made_by seat inv.scene.log ≡ []
      made_none [] e = e
      made_none (x ∷ es) e = let h = inv.makes seat (λ q. let z = sym e ∙ q in cc) in absurd (free h.0 h.1)
