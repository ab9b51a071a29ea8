-- Where the first entry with a key is, and whether no key stands twice.
use Rattle.std.proofs.Common.{rules, ◌≡◌, ℕ, zero, suc, ◌+◌, ◌<◌, Bool, true, false, List, [], ◌∷◌, length, refl, sym, ap, ◌∙◌, inl, inr, arith}
use Rattle.std.{specs.Prelude.{◌==◌, ◌||◌, not, ◌↔◌, IsTrue, Some, None, slice_get}, proofs.lemmas.{Bool.{cases_eq, false≢true}, Option.{get_or_from_slice_get}}}
use Rattle.sh_logic.proofs.Tests.{same_test, differ_test, and_true, or_false}
use Rattle.sh_map.specs.declared.call.Reply.TheVariants as reply
use Rattle.sh_edit.{proofs.{RoomLemmas.{once_head, once_tail}, HeldLemmas.{held_at, held_none}}, specs.{Held.{key_at, no_entry, HasKeysOnce}, Placing.{LacksKey, IsFirstWith}}}
use Rattle.sh_image.specs.declared.leaf.LeafEntry.{LeafEntry}
use Rattle.sh_decide.specs.Leaves.{leaf_answer, are_keys_once, has_leaf_key, index_from, index_of, reply_with}

first_from : (n : ℕ) (es : List LeafEntry) (key i : ℕ) → IsFirstWith es key i → index_from n es key ≡ Some (n + i)
first_from n [] key i h = absurd (omega (arith, h.in_range))
first_from n (e ∷ es) key zero h = rw (same_test e.key key h.here) (ap Some (omega arith))
first_from n (e ∷ es) key (suc i) h =
    let rest : IsFirstWith es key i = record { in_range = omega (arith, h.in_range); here = h.here; before = λ j less. h.before (suc j) (omega (arith, less)) } in
    rw (differ_test e.key key (h.before 0 (omega arith))) (first_from (n + 1) es key i rest ∙ ap Some (omega arith))

none_from : (n : ℕ) (es : List LeafEntry) (key : ℕ) → LacksKey es key → index_from n es key ≡ None
none_from n [] key h = refl
none_from n (e ∷ es) key h = rw (differ_test e.key key (h 0 (omega arith))) (none_from (n + 1) es key (λ j less. h (suc j) (omega (arith, less))))

pub first_index : (es : List LeafEntry) (key i : ℕ) → IsFirstWith es key i → index_of es key ≡ Some i
first_index es key i h = first_from 0 es key i h ∙ ap Some (omega arith)

pub no_index : (es : List LeafEntry) (key : ℕ) → LacksKey es key → index_of es key ≡ None
no_index es key h = none_from 0 es key h

pub answer_found : (es : List LeafEntry) (key i : ℕ) (e : LeafEntry) → IsFirstWith es key i → slice_get es i ≡ Some e → reply.Some e.value ≡ leaf_answer es key
answer_found es key i e h at = ap (λ (x : LeafEntry). reply.Some x.value) (sym (get_or_from_slice_get es i e no_entry at)) ∙ sym (ap reply_with (held_at es key i h))

pub no_answer : (es : List LeafEntry) (key : ℕ) → LacksKey es key → reply.None ≡ leaf_answer es key
no_answer es key h = sym (ap reply_with (held_none es key h))

lacks_key : (es : List LeafEntry) (key : ℕ) → LacksKey es key → has_leaf_key es key ≡ false
lacks_key [] key h = refl
lacks_key (e ∷ es) key h = rw (differ_test e.key key (h 0 (omega arith))) (lacks_key es key (λ j below. h (suc j) (omega (arith, below))))

key_none : (es : List LeafEntry) (key : ℕ) → has_leaf_key es key ≡ false → LacksKey es key
key_none [] key h j below is = absurd (omega (arith, below))
key_none (e ∷ es) key h zero below is = false≢true (sym (or_false (e.key == key) (has_leaf_key es key) h).0 ∙ same_test e.key key is)
key_none (e ∷ es) key h (suc j) below is = key_none es key (or_false (e.key == key) (has_leaf_key es key) h).1 j (omega (arith, below)) is

once_holds : (es : List LeafEntry) → HasKeysOnce es → are_keys_once es ≡ true
once_holds [] once = refl
once_holds (e ∷ es) once = elim (cases_eq e.key 0) [
  | inl z ↦ rw (same_test e.key 0 z) (once_holds es (once_tail e es once))
  | inr nz ↦ rw (differ_test e.key 0 nz, lacks_key es e.key (once_head e es nz once)) (once_holds es (once_tail e es once))
]

apart : (e : LeafEntry) (es : List LeafEntry) → ((e.key == 0) || not (has_leaf_key es e.key)) ≡ true → (j : ℕ) → j < length es → e.key ≡ key_at es j → e.key ≡ 0
apart e es h j below same = search (rules, cases_eq, key_none, differ_test)

holds_once : (es : List LeafEntry) → are_keys_once es ≡ true → HasKeysOnce es
holds_once [] h i j less below same = absurd (omega (arith, below))
holds_once (e ∷ es) h i zero less below same = absurd (omega (arith, less))
holds_once (e ∷ es) h zero (suc j) less below same = apart e es (and_true ((e.key == 0) || not (has_leaf_key es e.key)) (are_keys_once es) h).0 j (omega (arith, below)) same
holds_once (e ∷ es) h (suc i) (suc j) less below same = holds_once es (and_true ((e.key == 0) || not (has_leaf_key es e.key)) (are_keys_once es) h).1 i j (omega (arith, less)) (omega (arith, below)) same

pub once_is : (es : List LeafEntry) (b : Bool) → (IsTrue b ↔ HasKeysOnce es) → b ≡ are_keys_once es
once_is es b h = search (rules, once_holds, holds_once)
