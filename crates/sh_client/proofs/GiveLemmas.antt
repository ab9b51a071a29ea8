-- The turns of a client that gives a lock back.
use Rattle.std.proofs.Common.{rules, ◌≡◌, ◌≢◌, ◌⊎◌, ℕ, zero, suc, ◌+◌, ◌-◌, ◌<◌, ◌≤◌, false, cond, Option, None, List, [], ◌∷◌, length, drop, refl, sym, ap, subst, ◌∙◌, arith}
use Rattle.std.{specs.Prelude.{slice_index}, proofs.lemmas.{Bool.Decides.{nat_tests}, List.{drop_all, length-replicate}}}
use Rattle.sh_logic.proofs.Tests.{same_test, differ_test}
use Rattle.sh_base.specs.{declared.{event.Event.TheVariants.{Store}, config.ConfigParts.{ConfigParts}}, Layout.{entry_at, node_word}, Setting.{entry_size, node_size}}
use Rattle.sh_image.{specs.{Leaf.{Leaf as LeafOf, IsLeaf, leaf_words}, Entries.{entry_words}, declared.inner.Image.TheVariants.{Leaf as OfLeaf}}, proofs.LeafLemmas.{length-leaf_words}}
use Rattle.sh_map.specs.{declared.call.Call.{Call}, Calls.{IsInRange}}
use Rattle.sh_client.{proofs.ImageLemmas.{entry_is_whole, rewritten_count, rewritten_words}, specs.declared.state.{Phase.TheVariants.{Waiting, Body}, Then.TheVariants.{Ends}, Write.{Write}}}
use Rattle.sh_client.specs.{declared.state.Write.TheVariants.{Entry, Leaf}, Machine.{Machine, answering, storing, to}, Bodies.{answer_in, entry_left}}
use Rattle.sh_client.specs.{Courses.{after_stores, node_read, stores_of, wants_over, Finds, StoresThenFrees}, Cached.{settling}, Feeds.{did, fed_by, loaded}}
use Rattle.sh_client.specs.{Giving.{carried, counted, released, writes_nothing, write_begun}, Splitting.{giving_of}, declared.state.Giving.{Giving}, Wants.{lock_word_of, offset_of, want_of}}
use Rattle.sh_edit.specs.Rewriting.{rewritten}
use Rattle.sh_lock.specs.{declared.state.Release.TheVariants.{Free}, Locks.{release_of}}
use Rattle.sh_decide.specs.{declared.state.{Aim.TheVariants.{Own}, Decision.{Decision}}, Aims.{written_key, written_value}}
use Rattle.sh_decide.specs.declared.state.Decision.TheVariants as decision
use Rattle.sh_client.specs.declared.state.Want.TheVariants as want

drop_head : (xs : List ℕ) (k : ℕ) → k < length xs → drop k xs ≡ slice_index xs k ∷ drop (suc k) xs
drop_head [] k h = absurd (omega (arith, h))
drop_head (x ∷ xs) zero h = refl
drop_head (x ∷ xs) (suc k) h = drop_head xs k (omega (arith, h))

counted_setting : (m : Machine) (write : Write) → (counted m write).setting ≡ m.setting
counted_setting m write = search rules

module _ (m : Machine) (carry : Option ℕ) (giving : Giving) where
  abbrev storing_at : ℕ → Machine
  storing_at done = to m (Body carry done giving)

  abbrev place : ℕ → ℕ
  place done = node_word m.setting giving.node + (offset_of m.setting giving.write + done)

  step : (done : ℕ) → done + 1 ≢ length m.registers.body → fed_by (storing_at done) 0 ≡ storing_at (done + 1)
  step done more = ap (λ b. cond b (released (counted (storing_at done) giving.write) giving.node carry giving.after) (storing_at (done + 1))) (differ_test (done + 1) (length m.registers.body) more)

  last : (done : ℕ) → done + 1 ≡ length m.registers.body → fed_by (storing_at done) 0 ≡ released (counted (storing_at done) giving.write) giving.node carry giving.after
  last done end = ap (λ b. cond b (released (counted (storing_at done) giving.write) giving.node carry giving.after) (storing_at (done + 1))) (same_test (done + 1) (length m.registers.body) end)

  stores_rise : (k done : ℕ) → done + suc k ≡ length m.registers.body → wants_over (suc k) (storing_at done) ≡ stores_of (place done) (drop done m.registers.body)
  stores_rise zero done e =
      let none : drop (suc done) m.registers.body ≡ [] = drop_all (suc done) m.registers.body (omega (arith, e)) in
      sym (ap (stores_of (place done)) (drop_head m.registers.body done (omega (arith, e)) ∙ ap (λ l. slice_index m.registers.body done ∷ l) none))
  stores_rise (suc k) done e =
      let one : done + 1 ≡ suc done = omega arith in
      let at : place (done + 1) ≡ place done + 1 = omega arith in
      ap (λ l. want.Event (Store (place done) (slice_index m.registers.body done)) ∷ l)
      (ap (wants_over (suc k)) (step done (λ end. absurd (omega (arith, e, end))))
      ∙ stores_rise k (done + 1) (omega (arith, e))
      ∙ ap (λ a. stores_of a (drop (done + 1) m.registers.body)) at
      ∙ ap (λ n. stores_of (place done + 1) (drop n m.registers.body)) one)
      ∙ sym (ap (stores_of (place done)) (drop_head m.registers.body done (omega (arith, e))))

  stores_end : (k done : ℕ) → done + suc k ≡ length m.registers.body → (d : ℕ) × (after_stores (suc k) (storing_at done) ≡ released (counted (storing_at d) giving.write) giving.node carry giving.after)
  stores_end zero done e = (done, last done (omega (arith, e)))
  stores_end (suc k) done e =
      let rest = stores_end k (done + 1) (omega (arith, e)) in
      (rest.0, ap (after_stores (suc k)) (step done (λ end. absurd (omega (arith, e, end)))) ∙ rest.1)

pub freed : (count depth bound : ℕ) → (count ≡ 0) ⊎ (depth ≡ bound) → release_of count depth bound ≡ Free
freed count depth bound h = grind (arith, nat_tests)

module _ (m : Machine) (depth : ℕ) (giving : Giving) (some : writes_nothing giving.write ≡ false) (words : 1 ≤ length m.registers.body) where
  abbrev k : ℕ
  k = length m.registers.body - 1

  abbrev waits : Machine
  waits = to m (Waiting depth giving)

  size : suc k ≡ length m.registers.body
  size = omega (arith, words)

  start : 0 + suc k ≡ length m.registers.body
  start = omega (arith, words)

  -- the write begins, whatever is told of the queue
  begins : (carry : Option ℕ) → write_begun waits carry giving ≡ to m (Body carry 0 giving)
  begins carry = ap (λ b. cond b (released waits giving.node carry giving.after) (to m (Body carry 0 giving))) some

  gives : StoresThenFrees waits giving.node depth (node_word m.setting giving.node + offset_of m.setting giving.write) m.registers.body
  gives = record {
    asks = refl;
    stores = λ count.
        let carry : Option ℕ = carried depth (release_of count depth m.setting.bound) in
        let first : node_word m.setting giving.node + (offset_of m.setting giving.write + 0) ≡ node_word m.setting giving.node + offset_of m.setting giving.write = omega arith in
        ap (λ n. wants_over n (write_begun waits carry giving)) (sym size)
        ∙ ap (wants_over (suc k)) (begins carry)
        ∙ stores_rise m carry giving k 0 start
        ∙ ap (λ a. stores_of a m.registers.body) first;
    frees = λ count free.
        let none : carried depth (release_of count depth m.setting.bound) ≡ None = ap (carried depth) (freed count depth m.setting.bound free) in
        let rest = stores_end m None giving k 0 start in
        ap (λ c. want_of (after_stores (length m.registers.body) (write_begun waits c giving))) none
        ∙ ap (λ n. want_of (after_stores n (write_begun waits None giving))) (sym size)
        ∙ ap (λ x. want_of (after_stores (suc k) x)) (begins None)
        ∙ ap want_of rest.1
        ∙ ap (λ p. want.Event (Store (lock_word_of p giving.node) 0)) (counted_setting (to m (Body None rest.0 giving)) giving.write);
  }

-- what is found leads to what is decided of it
decided : (m : Machine) (word depth : ℕ) (a : LeafOf) (d : Decision) → Finds m word depth a d → fed_by m word ≡ did (settling (loaded m word) Own (OfLeaf a)) Own depth (OfLeaf a) d
decided m word depth a d h = search rules

pub entry_stores : (m : Machine) (word depth index : ℕ) (a : LeafOf) → Finds m word depth a (decision.Entry index) → StoresThenFrees (fed_by m word) (node_read m word) depth (node_word m.setting (node_read m word) + entry_at m.setting index) (entry_words (entry_left m.setting m.registers.call a index))
entry_stores m word depth index a h =
    subst (λ (x : Machine). StoresThenFrees x (node_read m word) depth (node_word m.setting (node_read m word) + entry_at m.setting index) (entry_words (entry_left m.setting m.registers.call a index))) (sym (decided m word depth a (decision.Entry index) h))
    (gives (storing (answering (settling (loaded m word) Own (OfLeaf a)) (answer_in m.registers.call (OfLeaf a))) (entry_words (entry_left m.setting m.registers.call a index))) depth (giving_of (node_read m word) (Entry index) Ends) refl (omega arith))

pub leaf_stores : (m : Machine) (word depth index : ℕ) (a : LeafOf) → Finds m word depth a (decision.Rewrite index) → StoresThenFrees (fed_by m word) (node_read m word) depth (node_word m.setting (node_read m word) + 0) (leaf_words (rewritten a index (written_key m.registers.call) (written_value m.setting m.registers.call)))
leaf_stores m word depth index a h =
    subst (λ (x : Machine). StoresThenFrees x (node_read m word) depth (node_word m.setting (node_read m word) + 0) (leaf_words (rewritten a index (written_key m.registers.call) (written_value m.setting m.registers.call)))) (sym (decided m word depth a (decision.Rewrite index) h))
    (gives (storing (answering (settling (loaded m word) Own (OfLeaf a)) (answer_in m.registers.call (OfLeaf a))) (leaf_words (rewritten a index (written_key m.registers.call) (written_value m.setting m.registers.call)))) depth (giving_of (node_read m word) Leaf Ends) refl (omega arith))

value_size : (p : ConfigParts) (call : Call) → IsInRange p call → length (written_value p call) ≡ p.value_words
value_size p call h = search (rules, length-replicate)

pub entry_words_are : (p : ConfigParts) (call : Call) (a : LeafOf) (index : ℕ) → IsInRange p call → length (entry_words (entry_left p call a index)) ≡ entry_size p
entry_words_are p call a index h = entry_is_whole p _ (entry_left p call a index) refl (value_size p call h)

pub leaf_words_are : (p : ConfigParts) (call : Call) (a : LeafOf) (index : ℕ) → IsInRange p call → IsLeaf p a → length (leaf_words (rewritten a index (written_key call) (written_value p call))) ≡ node_size p
leaf_words_are p call a index h lawful = length-leaf_words p (rewritten a index (written_key call) (written_value p call)) (rewritten_count p a index (written_key call) (written_value p call) lawful) (rewritten_words p a index (written_key call) (written_value p call) lawful (value_size p call h))
