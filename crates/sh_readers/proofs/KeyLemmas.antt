-- What a READ knows of one key is kept, and grows.
use Rattle.std.proofs.{Common.{rules, ◌≡◌, ◌≢◌, ◌⊎◌, ℕ, zero, suc, ◌+◌, ◌<◌, ◌≤◌, List, length, sym, ap, ◌∙◌, inl, inr, arith}, lemmas.Bool.{cases_lt, cases_eq}}
use Rattle.sh_image.specs.declared.leaf.LeafEntry.{LeafEntry}
use Rattle.sh_edit.specs.{Held.{key_at, HasKeysOnce}, Placing.{IsFirstWith, LacksKey}}
use Rattle.sh_readers.specs.Points.{FitsKey}

-- the first entry with a key, or none
pub first_or_none : (es : List LeafEntry) (key n : ℕ) → n ≤ length es → ((i : ℕ) × (i < n) × IsFirstWith es key i) ⊎ ((i : ℕ) → i < n → key_at es i ≢ key)
first_or_none es key zero h = inr (λ i lt. absurd (omega (arith, lt)))
first_or_none es key (suc n) h = elim (first_or_none es key n (omega arith)) [
  | inl found ↦ inl (found.0, omega (arith, found.1), found.2)
  | inr none ↦ elim (cases_eq (key_at es n) key) [
    | inl here ↦ inl (n, omega arith, record { in_range = omega arith; here = here; before = none })
    | inr differ ↦ inr (λ i lt. elim (cases_eq i n) [ inl e ↦ (λ is. differ (ap (key_at es) (sym e) ∙ is)) | inr ne ↦ none i (omega (arith, lt, ne)) ])
  ]
]

-- where a key stands once, its entry is the first with it
pub first_with : (es : List LeafEntry) (key i : ℕ) → HasKeysOnce es → key ≢ 0 → i < length es → key_at es i ≡ key → IsFirstWith es key i
first_with es key i once nz in_range here = record { in_range = in_range; here = here; before = λ j lt is. nz (sym is ∙ once j i lt in_range (is ∙ sym here)) }

module _ (A B : Type 0) (m : ℕ) (es : List LeafEntry) (got : ℕ → ℕ) (key : ℕ) where
  pub key_weaker : (A → B) → FitsKey A m es got key → FitsKey B m es got key
  key_weaker f h1 = search rules

module _ (A : Type 0) (m : ℕ) (es : List LeafEntry) (key : ℕ) where
  -- no entry is loaded
  pub key_begin : (got : ℕ → ℕ) → m ≡ length es → (LacksKey es key → A) → FitsKey A m es got key
  key_begin got all absent = elim (first_or_none es key (length es) (omega arith)) [
    | inl found ↦ inr (inr (found.0, omega (arith, found.1, all), found.1, found.2.here))
    | inr none ↦ inr (inl (absent none))
  ]

  -- the same keys behind
  pub key_same : (got new : ℕ → ℕ) → ((i : ℕ) → m ≤ i → i < length es → new i ≡ got i) → FitsKey A m es got key → FitsKey A m es new key
  key_same got new same h3 = search rules

  -- an entry is loaded whole, and is the one that stands
  pub key_load : (got new : ℕ → ℕ) → m < length es → new m ≡ key_at es m → ((i : ℕ) → m < i → i < length es → new i ≡ got i) → FitsKey A (m + 1) es got key → FitsKey A m es new key
  key_load got new lt here others h5 = search (rules, cases_eq)

  -- one entry is written
  pub key_written : (fs : List LeafEntry) (got : ℕ → ℕ) (j : ℕ) → key ≢ 0 → length fs ≡ length es → j < length es → HasKeysOnce es → ((i : ℕ) → i < length es → i ≢ j → key_at fs i ≡ key_at es i) → (LacksKey fs key → A) → FitsKey A m es got key → FitsKey A m fs got key
  key_written fs got j nz long in_range once others absent (inl x) = inl (x.0, x.1, omega (arith, x.2, long), x.3)
  key_written fs got j nz long in_range once others absent (inr (inl a)) = inr (inl a)
  key_written fs got j nz long in_range once others absent (inr (inr x)) = elim (cases_eq x.0 j) [
    | inr differ ↦ inr (inr (x.0, x.1, omega (arith, x.2, long), others x.0 x.2 differ ∙ x.3))
    | inl here ↦
        let old : key_at es j ≡ key = ap (key_at es) (sym here) ∙ x.3 in
        elim (cases_eq (key_at fs j) key) [
          | inl stays ↦ inr (inr (j, omega (arith, x.1, here), omega (arith, in_range, long), stays))
          | inr gone ↦ inr (inl (absent (λ i below is. elim (cases_eq i j) [
            | inl e ↦ gone (ap (key_at fs) (sym e) ∙ is)
            | inr ne ↦
                let below' : i < length es = omega (arith, below, long) in
                let other : key_at es i ≡ key = sym (others i below' ne) ∙ is in
                elim (cases_lt i j) [
                  | inl lt ↦ nz (sym other ∙ once i j lt in_range (other ∙ sym old))
                  | inr ge ↦ nz (sym old ∙ once j i (omega (arith, ge, ne)) below' (old ∙ sym other))
                ]
          ])))
        ]
  ]

-- at the end a key that was seen nowhere was absent
pub key_end : (A : Type 0) (es : List LeafEntry) (got : ℕ → ℕ) (key : ℕ) → ((i : ℕ) → i < length es → got i ≢ key) → FitsKey A 0 es got key → A
key_end h0 es got key unseen h5 = search rules
