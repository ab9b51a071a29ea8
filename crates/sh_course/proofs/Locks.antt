-- A lock that is held by a client's turns is that in whose line the client has its turn.
use Rattle.std.{proofs.{Common.{rules, ◌≡◌, ℕ, Bool, false, cond, Option, Some, None, List, ◌∷◌, refl, sym, subst, arith}, lemmas.Bool.Decides.{nat_tests}}, specs.Prelude.{◌==◌}}
use Rattle.sh_base.specs.{Layout.{lock_word}, declared.{config.ConfigParts.{ConfigParts}, event.Event.{TheVariants.{Exchange}}}}
use Rattle.sh_client.{proofs.InLineLemmas.{count_stands, draw_stands, fed_stands, leave_stands, look_stands, IsEvent}, specs.{InLine.{stand_in, stand_of, HasTurn}, Machine.{Machine}}}
use Rattle.sh_client.specs.{Feeds.{fed_by}, Wants.{want_in, want_of}, declared.state.{Phase.{Phase}, Want.{Want}}}
use Rattle.sh_course.specs.{Found.{holds, holds_by}, Turns.{machine_behind, turn_found, Found, MayFind, Taken, Turn, Word}}
use Rattle.sh_client.specs.declared.state.Want.TheVariants as want

-- each lock that is held is that in whose line it has its turn
abbrev pub HoldsOwn : ConfigParts → List Taken → Machine → Type 0
HoldsOwn p t m = (lock depth : ℕ) → holds p lock t ≡ Some depth → HasTurn lock (stand_of m)

exchanges : (m : Machine) (phase : Phase) (at old new lock : ℕ) → want_in m phase ≡ want.Event (Exchange at old new) → at ≡ lock_word m.setting lock → HasTurn lock (stand_in m.setting m.registers phase)
exchanges m phase at old new lock h1 h2 = search rules

kept : {depth : ℕ} (b : Bool) (o : Option ℕ) → cond b None o ≡ Some depth → (b ≡ false) × (o ≡ Some depth)
kept b o h = search rules

module _ (p : ConfigParts) (t : List Taken) (m : Machine) (same : m.setting ≡ p) (own : HoldsOwn p t m) where
  module _ (lock depth : ℕ) where
    abbrev before : Option ℕ
    before = holds p lock t

    fed_turn : (w : Want) (word : ℕ) → want_of m ≡ w → MayFind w (Word word) → holds_by p lock w (Word word) before ≡ Some depth → HasTurn lock (stand_of (fed_by m word))
    fed_turn want.Done word is may h = absurd may
    fed_turn (want.Event e) word is may h = subst (HasTurn lock) (sym (fed_stands m word m.phase (subst IsEvent (sym is) tt))) (search (rules, kept, exchanges))
    fed_turn (want.Draw l) word is may h = absurd (subst (HasTurn lock) (draw_stands m word l m.phase is).0 (own lock depth h))
    fed_turn (want.Look l) word is may h = subst (λ (x : Machine). HasTurn lock (stand_of x)) (sym (look_stands m word l None m.phase is).1) (own lock depth h)
    fed_turn (want.Waiting l) word is may h =
        let c = count_stands m word l m.phase is in
        search rules
    fed_turn (want.Leave l carry) word is may h =
        let k = kept (l == lock) before h in
        let at : l ≡ lock = subst (HasTurn lock) (leave_stands m word l carry m.phase is).0 (own lock depth k.1) in
        let not : (l == lock) ≡ false = k.0 in
        absurd (grind (arith, nat_tests, not, at))

  pub turn_holds : (x : Found) → MayFind (want_of m) x → HoldsOwn p (turn_found (want_of m) x ∷ t) (machine_behind m x)
  turn_holds (Word word) may = λ lock depth h. fed_turn lock depth (want_of m) word refl may h
  turn_holds (Turn o) may = λ lock depth h. search rules
