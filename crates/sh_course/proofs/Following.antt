-- The turns in which a lock is given back.
use Rattle.std.proofs.Common.{rules, ◌≡◌, ℕ, suc, ◌+◌, Bool, true, false, cond, Option, Some, None, List, [], ◌∷◌, ◌++◌, length, refl, sym, ap, subst, ◌∙◌, arith}
use Rattle.std.specs.Prelude.{◌==◌, if◌then◌else◌}
use Rattle.sh_logic.proofs.Tests.{is_eq}
use Rattle.sh_base.specs.{declared.{config.ConfigParts.{ConfigParts}, event.Event.TheVariants.{Store}}, Layout.{lock_of, node_word}}
use Rattle.sh_lock.specs.Locks.{release_of}
use Rattle.sh_client.specs.{declared.state.{Giving.{Giving}, Phase.{TheVariants.{Body, Ended, Leave, Unlock, Waiting}}, Then.{Then, TheVariants.{Ends}}, Want.{Want}}, Feeds.{fed_by}}
use Rattle.sh_client.specs.{Giving.{carried, counted, followed, queue_left, released, write_begun, writes_nothing}, Machine.{handed_over, Machine, to}}
use Rattle.sh_client.specs.Wants.{lock_word_of, offset_of, want_of}
use Rattle.sh_client.specs.declared.state.Want.TheVariants as want
use Rattle.sh_course.specs.{Turns.{machine_behind, reached, turn_found, turns_taken, AreFound, Found, MayFind, Taken, Turn, Word}, Stores.{frees, stores_to, wants_in, GaveBack}}

-- the words that are stored, and from where on
abbrev pub words_stored : Machine → Giving → List ℕ
words_stored m giving = if writes_nothing giving.write then [] else m.registers.body

abbrev pub place_stored : ConfigParts → Giving → ℕ
place_stored p giving = node_word p giving.node + offset_of p giving.write

-- another machine of the setting, with the same reply, call and spare nodes
pub record IsAlike (m x : Machine) : Type 0 where
  pub setting : x.setting ≡ m.setting
  pub call_is : x.registers.call ≡ m.registers.call
  pub reply_is : x.registers.reply ≡ m.registers.reply

module _ (m : Machine) (depth : ℕ) (giving : Giving) where
  abbrev p : ConfigParts
  p = m.setting

  abbrev carry_for : ℕ → Option ℕ
  carry_for count = carried depth (release_of count depth p.bound)

  abbrev asked_with : ℕ → List Taken
  asked_with count = turn_found (want.Waiting (lock_of p giving.node)) (Word count) ∷ []

  abbrev stored_words : List Want
  stored_words = stores_to (place_stored p giving) (words_stored m giving) (length (words_stored m giving))

  pub data Backs (t : List Taken) (x : Machine) : Type 0 where
    Asks : t ≡ [] → x ≡ to m (Waiting depth giving) → Backs t x
    Stores : (count done : ℕ) (more : List Taken) → t ≡ more ++ asked_with count → writes_nothing giving.write ≡ false → wants_in more ≡ stores_to (place_stored p giving) m.registers.body done → x ≡ to m (Body (carry_for count) done giving) → Backs t x
    Frees : (count : ℕ) (more : List Taken) (y : Machine) → t ≡ more ++ asked_with count → carry_for count ≡ None → wants_in more ≡ stored_words → IsAlike m y → x ≡ to y (Unlock giving.node giving.after) → Backs t x
    Leaves : (count : ℕ) (more : List Taken) (y : Machine) → t ≡ more ++ asked_with count → wants_in more ≡ frees p giving.node (carry_for count) ++ stored_words → IsAlike m y → x ≡ to y (Leave giving.node (carry_for count) giving.after) → Backs t x
    Past : (later : List Found) (back : List Taken) (y : Machine) → GaveBack p giving.node depth (place_stored p giving) (words_stored m giving) back → IsAlike m y → AreFound (followed y giving.after) later → t ≡ turns_taken (followed y giving.after) later ++ back → x ≡ reached (followed y giving.after) later → Backs t x

  alike : IsAlike m m
  alike = record { setting = refl; call_is = refl; reply_is = refl }

  -- behind the stores
  gives : (count : ℕ) (more : List Taken) (y : Machine) (carry : Option ℕ) → carry_for count ≡ carry → wants_in more ≡ stored_words → IsAlike m y → Backs (more ++ asked_with count) (released y giving.node carry giving.after)
  gives count more y None is w a = Frees count more y refl is w a refl
  gives count more y (Some d) is w a = Leaves count more y refl (w ∙ ap (λ (o : Option ℕ). frees p giving.node o ++ stored_words) (sym is)) a (ap (λ (o : Option ℕ). to y (Leave giving.node o giving.after)) (sym is))

  left_alike : (y : Machine) (carry : Option ℕ) → IsAlike m y → (z : Machine) × IsAlike m z × (queue_left y carry giving.after ≡ followed z giving.after)
  left_alike y (Some d) a = (handed_over y, record { setting = a.setting; call_is = a.call_is; reply_is = a.reply_is }, refl)
  left_alike y None a = (y, a, refl)

  module _ (word : ℕ) where
    asks : Backs (asked_with word) (write_begun m (carry_for word) giving)
    asks = by (writes_nothing giving.write) refl
      where
        by : (b : Bool) → writes_nothing giving.write ≡ b → Backs (asked_with word) (cond b (released m giving.node (carry_for word) giving.after) (to m (Body (carry_for word) 0 giving)))
        by true e = gives word [] m (carry_for word) refl (sym (ap (λ (l : List ℕ). stores_to (place_stored p giving) l (length l)) (ap (λ b. cond b [] m.registers.body) e))) alike
        by false e = Stores word 0 [] refl e refl refl

  -- a word is stored
  module _ (count done word : ℕ) (more : List Taken) (e : writes_nothing giving.write ≡ false) (w : wants_in more ≡ stores_to (place_stored p giving) m.registers.body done) where
    abbrev store : Taken
    store = turn_found (want_of (to m (Body (carry_for count) done giving))) (Word word)

    wants : wants_in (store ∷ more) ≡ stores_to (place_stored p giving) m.registers.body (suc done)
    wants = search rules

    stores_on : Backs (store ∷ (more ++ asked_with count)) (fed_by (to m (Body (carry_for count) done giving)) word)
    stores_on = by (done + 1 == length m.registers.body) refl
      where
        by : (b : Bool) → (done + 1 == length m.registers.body) ≡ b → Backs (store ∷ (more ++ asked_with count)) (cond b (released (counted (to m (Body (carry_for count) done giving)) giving.write) giving.node (carry_for count) giving.after) (to m (Body (carry_for count) (done + 1) giving)))
        by true f =
            let all : suc done ≡ length m.registers.body = let g = is_eq (done + 1) (length m.registers.body) f in omega (arith, g) in
            gives count (store ∷ more) (counted (to m (Body (carry_for count) done giving)) giving.write) (carry_for count) refl (wants ∙ ap (stores_to (place_stored p giving) m.registers.body) all ∙ sym (ap (λ b. let l = cond b [] m.registers.body in stores_to (place_stored p giving) l (length l)) e)) (search rules)
        by false f =
            let one : suc done ≡ done + 1 = omega arith in
            Stores count (done + 1) (store ∷ more) refl e (wants ∙ ap (stores_to (place_stored p giving) m.registers.body) one) refl

  pub backs_more : (t : List Taken) (x : Machine) (f : Found) → MayFind (want_of x) f → Backs t x → Backs (turn_found (want_of x) f ∷ t) (machine_behind x f)
  backs_more t x (Word word) may (Asks et ex) = rw (et, ex) (asks word)
  backs_more t x (Turn d) may (Asks et ex) = absurd (subst (λ (z : Machine). MayFind (want_of z) (Turn d)) ex may)
  backs_more t x (Turn d) may (Stores count done more et e w ex) = absurd (subst (λ (z : Machine). MayFind (want_of z) (Turn d)) ex may)
  backs_more t x (Word word) may (Stores count done more et e w ex) = rw (et, ex) (stores_on count done word more e w)
  backs_more t x (Turn d) may (Frees count more y et none w a ex) = absurd (subst (λ (z : Machine). MayFind (want_of z) (Turn d)) ex may)
  backs_more t x (Word word) may (Frees count more y et none w a ex) =
      let unlock = turn_found (want_of (to y (Unlock giving.node giving.after))) (Word word) in
      rw (et, ex) (Leaves count (unlock ∷ more) y refl (free ∙ ap (λ (o : Option ℕ). frees p giving.node o ++ stored_words) (sym none)) a (ap (λ (o : Option ℕ). to y (Leave giving.node o giving.after)) (sym none)))
    where
      free : wants_in (turn_found (want_of (to y (Unlock giving.node giving.after))) (Word word) ∷ more) ≡ frees p giving.node None ++ stored_words
      free = ap (λ (q : ConfigParts). want.Event (Store (lock_word_of q giving.node) 0) ∷ wants_in more) a.setting ∙ ap (λ (l : List Want). want.Event (Store (lock_word_of p giving.node) 0) ∷ l) w
  backs_more t x (Turn d) may (Leaves count more y et w a ex) = absurd (subst (λ (z : Machine). MayFind (want_of z) (Turn d)) ex may)
  backs_more t x (Word word) may (Leaves count more y et w a ex) =
      let leave = turn_found (want_of (to y (Leave giving.node (carry_for count) giving.after))) (Word word) in
      let z = left_alike y (carry_for count) a in
      rw (et, ex) (Past [] (leave ∷ (more ++ asked_with count)) z.0 (record { count = count; more = leave ∷ more; asked = refl; rest = ap (λ (q : ConfigParts). want.Leave (lock_of q giving.node) (carry_for count) ∷ wants_in more) a.setting ∙ ap (λ (l : List Want). want.Leave (lock_of p giving.node) (carry_for count) ∷ l) w }) z.1 tt refl z.2)
  backs_more t x f may (Past later back y g a ok et ex) = Past (f ∷ later) back y g a (subst (λ (z : Machine). MayFind (want_of z) f) ex may, ok) (ap (λ (z : Machine). turn_found (want_of z) f ∷ t) ex ∙ ap (λ (l : List Taken). turn_found (want_of (reached (followed y giving.after) later)) f ∷ l) et) (ap (λ (z : Machine). machine_behind z f) ex)

  pub backs : (later : List Found) → AreFound (to m (Waiting depth giving)) later → Backs (turns_taken (to m (Waiting depth giving)) later) (reached (to m (Waiting depth giving)) later)
  backs [] may = Asks refl refl
  backs (x ∷ xs) may = backs_more (turns_taken (to m (Waiting depth giving)) xs) (reached (to m (Waiting depth giving)) xs) x may.0 (backs xs may.1)

-- a client whose call ends behind its lock
pub record EndsBehind (m : Machine) (depth : ℕ) (giving : Giving) (t : List Taken) (x : Machine) : Type 0 where
  pub back : GaveBack m.setting giving.node depth (place_stored m.setting giving) (words_stored m giving) t
  pub reply_is : x.registers.reply ≡ m.registers.reply

module _ (m : Machine) (depth : ℕ) (giving : Giving) (t : List Taken) (x : Machine) (ends : giving.after ≡ Ends) (over : x.phase ≡ Ended) where
  pub ends_behind : Backs m depth giving t x → EndsBehind m depth giving t x
  ends_behind (Asks et ex) = let e = ap (λ (z : Machine). z.phase) ex in absurd (cc)
  ends_behind (Stores count done more et e w ex) = let e = ap (λ (z : Machine). z.phase) ex in absurd (cc)
  ends_behind (Frees count more y et none w a ex) = let e = ap (λ (z : Machine). z.phase) ex in absurd (cc)
  ends_behind (Leaves count more y et w a ex) = let e = ap (λ (z : Machine). z.phase) ex in absurd (cc)
  ends_behind (Past later back y g a ok et ex) = by later (subst (λ (n : Then). AreFound (followed y n) later) ends ok) (et ∙ ap (λ (n : Then). turns_taken (followed y n) later ++ back) ends) (ex ∙ ap (λ (n : Then). reached (followed y n) later) ends)
    where
      none : (later : List Found) → AreFound (to y Ended) later → later ≡ []
      none [] ok = refl
      none (f ∷ later) ok = absurd (let e = none later ok.1 in subst (λ (l : List Found). MayFind (want_of (reached (to y Ended) l)) f) e ok.0)

      by : (later : List Found) → AreFound (to y Ended) later → t ≡ turns_taken (to y Ended) later ++ back → x ≡ reached (to y Ended) later → EndsBehind m depth giving t x
      by [] ok et ex = record { back = subst (GaveBack m.setting giving.node depth (place_stored m.setting giving) (words_stored m giving)) (sym et) g; reply_is = ap (λ (z : Machine). z.registers.reply) ex ∙ a.reply_is }
      by (f ∷ later) ok et ex = absurd (let e = none (f ∷ later) ok in cc)
