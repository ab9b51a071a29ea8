-- The turn of a wanted event keeps the invariant, by what the client is at.
use Rattle.std.proofs.Common.{◌≡◌, ℕ, List, ◌++◌, sym, subst, refl}
use Rattle.sh_base.specs.{declared.{config.ConfigParts.{ConfigParts}, event.Event.{Event}}, Setting.{IsSetting}, Memory.{apply, found_by}}
use Rattle.sh_map.specs.declared.log.Entry.{Entry as LogEntry}
use Rattle.sh_state.specs.TreeState.{TreeState}
use Rattle.sh_client.specs.declared.state.Want.TheVariants as want
use Rattle.sh_client.specs.{declared.state.Phase.{Phase, TheVariants.{Root, Read, Grab, ReadLocked, Seek, Fill, Body, Unlock, Swap}}, Machine.{Registers}, Giving.{makes}, Wants.{want_in, want_of}}
use Rattle.sh_core.{specs.{Actors.{Actor, actor_stepped}, Core.{Inv, Moves, TurnKeeps}}, proofs.Frame.{actor_is, at, before, Before, Claim}}
use Rattle.sh_core_turns.proofs.{BodyEnds.{body}, FreshNodes.{fill}, InnerDecisions.{locked_claim}, Needs.{event_is}, OnWay.{read_claim}, Posts.{swap}, Standing.{grab, unlock, root, load_is}}
use Rattle.sh_core_turns.proofs.Walking.{seek}

module _ (p : ConfigParts) (ok : IsSetting p) (words : List ℕ) (Has Now : ℕ → Actor → Type 0) (Out : ℕ → ℕ → ℕ → Type 0) (seat : ℕ) (s : TreeState) (b : Before p words Has Out s) (a : Actor) (r : Registers) where
  abbrev C : Phase → Event → Type 0
  C ph e = Claim p ok words Has Now Out seat s b a r ph e

  turns : (ph : Phase) (e : Event) → want_in (at p seat r ph) ph ≡ want.Event e → C ph e
  turns (Root aim) e q = subst (C (Root aim)) (event_is _ e q) (λ h mv. root p ok words Has Now Out seat s b a r aim h mv)
  turns (Read aim top) e q = subst (C (Read aim top)) (load_is p r.reads e q) (λ h mv. read_claim p ok words Has Now Out seat s b a r aim top h mv)
  turns (Grab aim n) e q = subst (C (Grab aim n)) (event_is _ e q) (λ h mv. grab p ok words Has Now Out seat s b a r aim n h mv)
  turns (ReadLocked aim depth) e q = subst (C (ReadLocked aim depth)) (load_is p r.reads e q) (λ h mv. locked_claim p ok words Has Now Out seat s b a r aim depth h mv)
  turns (Seek need) e q = λ h mv. seek p ok words Has Now Out seat s b a r need e q h mv
  turns (Fill fresh done filling) e q = subst (C (Fill fresh done filling)) (event_is _ e q) (λ h mv. fill p ok words Has Now Out seat s b a r fresh done filling h mv)
  turns (Body carry done giving) e q = subst (C (Body carry done giving)) (event_is _ e q) (λ h mv. body p ok words Has Now Out seat s b a r carry done giving h mv)
  turns (Unlock n after) e q = subst (C (Unlock n after)) (event_is _ e q) (λ h mv. unlock p ok words Has Now Out seat s b a r n after h mv)
  turns (Swap post root fresh) e q = subst (C (Swap post root fresh)) (event_is _ e q) (λ h mv. swap p ok words Has Now Out seat s b a r post root fresh h mv)
  turns ph e q = cc

-- the law of the wanted turn
pub turn_keeps : (p : ConfigParts) → IsSetting p → TurnKeeps p
turn_keeps p ok words log Has Now Out seat a e inv h q mv =
    let s = inv.scene in
    let c = a.client in
    let is = actor_is p seat a c.phase (inv.kept seat a h).work.seated refl in
    let P : Actor → Type 0 = λ x. Has seat x → want_of x.client ≡ want.Event e → Moves Has seat (actor_stepped seat x s.log (found_by words e)) Now → Inv p (apply words e) (s.log ++ makes x.client) Now Out in
    let here : P a = subst P (sym is) (λ h q mv. turns p ok words Has Now Out seat s (before p words log Has Out inv) a c.registers c.phase e q h mv) in
    subst (λ (es : List LogEntry). Moves Has seat (actor_stepped seat a es (found_by words e)) Now → Inv p (apply words e) (es ++ makes c) Now Out) inv.log_is (here h q) mv
