-- What a leaf holds after one entry is set.
use Rattle.std.proofs.Common.{rules, ◌≤◌, ◌≡◌, ◌≢◌, ◌⊎◌, ℕ, zero, suc, ◌<◌, Bool, cond, eqb, List, [], ◌∷◌, length, get_or, set, Some, None, refl, sym, ap, ◌∙◌, inl, inr, arith}
use Rattle.std.{proofs.lemmas.{Bool.{cases_lt, cases_eq, eq-eqb, Decides.{nat_tests}}, List.{get_or-set_same, get_or-set_other, length-set}}, specs.List.{AllByRecursion}}
use Rattle.std.specs.{Ordering.{nat_cmp, eq_by_cmp}, Cmp.{nat_cmp_total}, FinMap.{find, get-from_entries}}
use Rattle.sh_logic.proofs.Tests.{differ_test}
use Rattle.sh_map.{specs.Map.{get, put, del}, proofs.MapLemmas.{is_put, is_del, apart_test, same_test}}
use Rattle.sh_image.specs.declared.leaf.LeafEntry.{LeafEntry}
use Rattle.sh_edit.specs.{Held.{pairs_of, held, map_of_entries, no_entry, key_at, HasKeysOnce}, Placing.{IsFirstWith, LacksKey}}

-- a test by the order is a test of equality, either way round
test_is : (q k : ℕ) → eq_by_cmp nat_cmp q k ≡ eqb k q
test_is q k = search (rules, same_test, apart_test, differ_test)

-- the pairs have at a key what the entries hold at it
pub find-pairs_of : (es : List LeafEntry) (q : ℕ) → q ≢ 0 → find nat_cmp q (pairs_of es) ≡ held es q
find-pairs_of [] q h = refl
find-pairs_of (e ∷ es) q h =
    let kept = λ (b : Bool). find nat_cmp q (cond b (pairs_of es) ((e.key, e.value) ∷ pairs_of es)) in
    elim (cases_eq e.key 0) [
      | inl z ↦ ap kept (eq-eqb e.key 0 z) ∙ find-pairs_of es q h ∙ ap (λ b. cond b (Some e.value) (held es q)) (sym (differ_test e.key q (λ is. h (sym is ∙ z))))
      | inr nz ↦ ap kept (differ_test e.key 0 nz) ∙ ap (λ b. cond b (Some e.value) (find nat_cmp q (pairs_of es))) (test_is q e.key) ∙ ap (cond (eqb e.key q) (Some e.value)) (find-pairs_of es q h)
    ]

-- the key 0 is nobody's
find_zero : (es : List LeafEntry) → find nat_cmp 0 (pairs_of es) ≡ None
find_zero [] = refl
find_zero (e ∷ es) =
    let kept = λ (b : Bool). find nat_cmp 0 (cond b (pairs_of es) ((e.key, e.value) ∷ pairs_of es)) in
    elim (cases_eq e.key 0) [
      | inl z ↦ ap kept (eq-eqb e.key 0 z) ∙ find_zero es
      | inr nz ↦ ap kept (differ_test e.key 0 nz) ∙ ap (λ b. cond b (Some e.value) (find nat_cmp 0 (pairs_of es))) (apart_test 0 e.key (λ is. nz (sym is))) ∙ find_zero es
    ]

pub get-zero : (es : List LeafEntry) → get (map_of_entries es) 0 ≡ None
get-zero es = get-from_entries nat_cmp_total (pairs_of es) 0 ∙ find_zero es

pub get-map_of_entries : (es : List LeafEntry) (q : ℕ) → q ≢ 0 → get (map_of_entries es) q ≡ held es q
get-map_of_entries es q h = get-from_entries nat_cmp_total (pairs_of es) q ∙ find-pairs_of es q h

pub held_none : (es : List LeafEntry) (q : ℕ) → LacksKey es q → held es q ≡ None
held_none [] q h = refl
held_none (e ∷ es) q h = grind (arith, nat_tests, h 0 (omega arith), held_none es q (λ j lt. h (suc j) (omega arith)))

pub held_at : (es : List LeafEntry) (q i : ℕ) → IsFirstWith es q i → held es q ≡ Some (get_or es i no_entry).value
held_at [] q i at = absurd (omega (arith, at.in_range))
held_at (e ∷ es) q zero at = grind (arith, nat_tests, at.here)
held_at (e ∷ es) q (suc i) at = grind (arith, nat_tests, at.before 0 (omega arith), held_at es q i (first_tail e es q i at))
  where
    first_tail : (e : LeafEntry) (es : List LeafEntry) (q i : ℕ) → IsFirstWith (e ∷ es) q (suc i) → IsFirstWith es q i
    first_tail e es q i at = record { in_range = omega (arith, at.in_range); here = at.here; before = λ j lt. at.before (suc j) (omega arith) }

-- setting an entry leaves the keys that it neither had nor has
pub held-set_other : (es : List LeafEntry) (i q : ℕ) (x : LeafEntry) → key_at es i ≢ q → x.key ≢ q → held (set es i x) q ≡ held es q
held-set_other [] i q x old new = refl
held-set_other (e ∷ es) zero q x old new = grind (arith, nat_tests)
held-set_other (e ∷ es) (suc i) q x old new = ap (cond (eqb e.key q) (Some e.value)) (held-set_other es i q x old new)

-- and gives its own key its value
pub held-set_here : (es : List LeafEntry) (i q : ℕ) (x : LeafEntry) → i < length es → ((j : ℕ) → j < i → key_at es j ≢ q) → x.key ≡ q → held (set es i x) q ≡ Some x.value
held-set_here [] i q x in_range before here = absurd (omega arith)
held-set_here (e ∷ es) zero q x in_range before here = grind (arith, nat_tests)
held-set_here (e ∷ es) (suc i) q x in_range before here = grind (arith, nat_tests, before 0 (omega arith), held-set_here es i q x (omega arith) (λ j lt. before (suc j) (omega arith)) here)

-- ---- place and remove are put and del
-- an entry set at a place where no earlier one has the key, and whose old key is the new one or none
set_is_put : (es : List LeafEntry) (i : ℕ) (x : LeafEntry) → x.key ≢ 0 → i < length es → ((j : ℕ) → j < i → key_at es j ≢ x.key) → (key_at es i ≡ x.key) ⊎ (key_at es i ≡ 0) → map_of_entries (set es i x) ≡ put (map_of_entries es) x.key x.value
set_is_put es i x key in_range before old = is_put _ _ x.key x.value
    (get-map_of_entries (set es i x) x.key key ∙ held-set_here es i x.key x in_range before refl)
    (λ q differ. elim (cases_eq q 0) [
      | inl z ↦ ap (get (map_of_entries (set es i x))) z ∙ get-zero (set es i x) ∙ sym (ap (get (map_of_entries es)) z ∙ get-zero es)
      | inr nz ↦ get-map_of_entries (set es i x) q nz ∙ held-set_other es i q x (λ is. elim old [ inl e ↦ differ (sym is ∙ e) | inr e ↦ nz (sym is ∙ e) ]) (λ is. differ (sym is)) ∙ sym (get-map_of_entries es q nz)
    ])

pub over_is_put : (es : List LeafEntry) (i : ℕ) (x : LeafEntry) → x.key ≢ 0 → IsFirstWith es x.key i → map_of_entries (set es i x) ≡ put (map_of_entries es) x.key x.value
over_is_put es i x key at = set_is_put es i x key at.in_range at.before (inl at.here)

pub new_is_put : (es : List LeafEntry) (i : ℕ) (x : LeafEntry) → x.key ≢ 0 → LacksKey es x.key → IsFirstWith es 0 i → map_of_entries (set es i x) ≡ put (map_of_entries es) x.key x.value
new_is_put es i x key none at = set_is_put es i x key at.in_range (λ j lt. none j (omega (arith, at.in_range))) (inr at.here)

-- an entry that is emptied, of a leaf that has no key twice
pub removed_is_del : (es : List LeafEntry) (i key : ℕ) (x : LeafEntry) → x.key ≡ 0 → key ≢ 0 → HasKeysOnce es → IsFirstWith es key i → map_of_entries (set es i x) ≡ del (map_of_entries es) key
removed_is_del es i key x empty nz once at = is_del _ _ key
    (get-map_of_entries (set es i x) key nz ∙ held_none (set es i x) key gone)
    (λ q differ. elim (cases_eq q 0) [
      | inl z ↦ ap (get (map_of_entries (set es i x))) z ∙ get-zero (set es i x) ∙ sym (ap (get (map_of_entries es)) z ∙ get-zero es)
      | inr qz ↦ get-map_of_entries (set es i x) q qz ∙ held-set_other es i q x (λ is. differ (sym is ∙ at.here)) (λ is. qz (sym is ∙ empty)) ∙ sym (get-map_of_entries es q qz)
    ])
  where
    gone : LacksKey (set es i x) key
    gone j below is = elim (cases_eq j i) [
      | inl e ↦ nz (sym is ∙ ap (key_at (set es i x)) e ∙ ap (λ (y : LeafEntry). y.key) (get_or-set_same es i x no_entry at.in_range) ∙ empty)
      | inr ne ↦
          let old : key_at es j ≡ key = sym (ap (λ (y : LeafEntry). y.key) (get_or-set_other es i j x no_entry ne)) ∙ is in
          elim (cases_lt j i) [
            | inl lt ↦ at.before j lt old
            | inr ge ↦ nz (sym at.here ∙ once i j (omega arith) (omega (arith, below, length-set es i x)) (at.here ∙ sym old))
          ]
    ]

pub key_at-set_same : (es : List LeafEntry) (i : ℕ) (x : LeafEntry) → i < length es → key_at (set es i x) i ≡ x.key
key_at-set_same es i x h = ap (λ (y : LeafEntry). y.key) (get_or-set_same es i x no_entry h)

pub key_at-set_other : (es : List LeafEntry) (i j : ℕ) (x : LeafEntry) → j ≢ i → key_at (set es i x) j ≡ key_at es j
key_at-set_other es i j x h = ap (λ (y : LeafEntry). y.key) (get_or-set_other es i j x no_entry h)

-- a leaf keeps its keys apart, where the new entry has no other entry's key
pub once-set : (es : List LeafEntry) (i : ℕ) (x : LeafEntry) → i < length es → HasKeysOnce es → ((j : ℕ) → j < length es → j ≢ i → key_at es j ≡ x.key → x.key ≡ 0) → HasKeysOnce (set es i x)
once-set es i x in_range once apart a b less below same = search (rules, key_at-set_same, length-set, key_at-set_other)

-- a key outside the fences is held by no entry
pub held_outside : (es : List LeafEntry) (low high q : ℕ) → q ≢ 0 → (q < low) ⊎ (high ≤ q) → AllByRecursion (λ e. (e.key ≡ 0) ⊎ ((low ≤ e.key) × (e.key < high))) es → held es q ≡ None
held_outside [] low high q nz out h = refl
held_outside (e ∷ es) low high q nz out h = ap (λ b. cond b (Some e.value) (held es q)) (differ_test e.key q (λ is. elim h.0 [
  | inl z ↦ nz (sym is ∙ z)
  | inr within ↦ elim out [ inl below ↦ absurd (omega (arith, is, within)) | inr past ↦ absurd (omega (arith, is, within)) ]
])) ∙ held_outside es low high q nz out h.1
