-- A leaf without a key twice has room exactly where its map has fewer keys than it has entries.
use Rattle.std.{proofs.Common.{rules, ◌≡◌, ◌≢◌, ℕ, suc, ◌+◌, ◌<◌, ◌≤◌, Bool, true, false, cond, List, [], ◌∷◌, length, refl, sym, ap, ◌∙◌, inl, inr, None, arith}, specs.Prelude.{nat_lt, is_some}}
use Rattle.std.{proofs.lemmas.Bool.{cases_eq, eq-eqb}, specs.{Ordering.{nat_cmp}, Cmp.{nat_cmp_total}, FinMap.{len-insert, len-empty}}}
use Rattle.sh_logic.proofs.Tests.{differ_test}
use Rattle.sh_map.specs.Map.{get, size}
use Rattle.sh_image.specs.declared.leaf.LeafEntry.{LeafEntry}
use Rattle.sh_edit.{specs.{Held.{pairs_of, has_room, map_of_entries, HasKeysOnce}, Placing.{LacksKey}}, proofs.HeldLemmas.{get-map_of_entries, held_none}}

pub once_tail : (e : LeafEntry) (es : List LeafEntry) → HasKeysOnce (e ∷ es) → HasKeysOnce es
once_tail e es once i j less below same = once (suc i) (suc j) (omega arith) (omega arith) same

pub once_head : (e : LeafEntry) (es : List LeafEntry) → e.key ≢ 0 → HasKeysOnce (e ∷ es) → LacksKey es e.key
once_head e es nz once j below is = nz (once 0 (suc j) (omega arith) (omega arith) (sym is))

-- the map has as many keys as there are pairs
pub size_is_pairs : (es : List LeafEntry) → HasKeysOnce es → size (map_of_entries es) ≡ length (pairs_of es)
size_is_pairs [] once = len-empty nat_cmp (List ℕ)
size_is_pairs (e ∷ es) once = elim (cases_eq e.key 0) [
  | inl z ↦ rw (eq-eqb e.key 0 z) (size_is_pairs es (once_tail e es once))
  | inr nz ↦
      let absent : get (map_of_entries es) e.key ≡ None = get-map_of_entries es e.key nz ∙ held_none es e.key (once_head e es nz once) in
      rw (differ_test e.key 0 nz) (
      len-insert nat_cmp_total (map_of_entries es) e.key e.value
      ∙ ap (λ had. cond (is_some had) (size (map_of_entries es)) (size (map_of_entries es) + 1)) absent
      ∙ ap (λ n. n + 1) (size_is_pairs es (once_tail e es once)) ∙ omega arith)
]

-- as many pairs as entries where no entry is empty, else fewer
pairs_count : (es : List LeafEntry) → (length (pairs_of es) ≤ length es) × (has_room es ≡ true → length (pairs_of es) < length es) × (has_room es ≡ false → length (pairs_of es) ≡ length es)
pairs_count [] = (omega arith, λ e. absurd (cc), λ e. refl)
pairs_count (e ∷ es) =
    let h = pairs_count es in
    elim (cases_eq e.key 0) [
      | inl z ↦ rw (eq-eqb e.key 0 z) (omega (arith, h.0), λ is. omega (arith, h.0), λ is. absurd (cc))
      | inr nz ↦ rw (differ_test e.key 0 nz) (omega (arith, h.0), λ is. omega (arith, h.1 is), λ is. omega (arith, h.2 is))
    ]

room_test : (b : Bool) (n k : ℕ) → (b ≡ true → n < k) → (b ≡ false → n ≡ k) → nat_lt n k ≡ b
room_test b n k less same = search rules

pub room_is_size : (es : List LeafEntry) → HasKeysOnce es → nat_lt (size (map_of_entries es)) (length es) ≡ has_room es
room_is_size es once = ap (λ n. nat_lt n (length es)) (size_is_pairs es once) ∙ room_test (has_room es) _ _ (pairs_count es).1 (pairs_count es).2
