-- The made calls: one call more, and that they are lawful and few.
use Rattle.std.proofs.Common.{rules, ℕ, zero, suc, ◌≡◌, ◌≤◌, ◌<◌, ◌+◌, ◌-◌, ◌%◌, Bool, List, [], ◌∷◌, ◌++◌, length, map, take, set, Some, subst, refl, sym, ap, ◌∙◌, arith, add-one, mod-lt, lt_of_not-le}
use Rattle.std.{specs.{Prelude.{All, if◌then◌else◌}, List.{fold, range_with_len, slice_get, sum_by}}, proofs.lemmas.List.{take_more_set, Elements.{All-cons, All-nil}}}
use Rattle.std.proofs.lemmas.{List.FromFn.{length-range_with_len, map-range_with_len_more}, Option.{same_Some}}
use Rattle.sh_base.specs.{declared.config.ConfigParts.{ConfigParts}, Setting.{all_seats, IsSetting}}
use Rattle.sh_map.specs.{declared.call.Call.{Call, TheVariants.{Get, Put, Del, Range}}, Calls.{IsInRange}}
use Rattle.sh_sheet.specs.Generate.{made_call, made_item, made_items, next_number, drawn_number}
use Rattle.sh_sheet.specs.{Sheet.{AreFew, AreMarksLawful, IsLawfulItem, IsLawfulMark, item_calls, most_rows, rows_of, item_turns}, declared.item.Item.{Item, TheVariants.{Ask}}}

-- numbers from a on, and one more
range_more : (a n : ℕ) → range_with_len a (n + 1) ≡ range_with_len a n ++ (a + n) ∷ []
range_more a zero = ap (λ m. m ∷ []) (omega arith)
range_more a (suc n) =
    let rest : range_with_len (a + 1) (n + 1) ≡ range_with_len (a + 1) n ++ (a + 1 + n) ∷ [] = range_more (a + 1) n in
    let last : a + 1 + n ≡ a + suc n = omega arith in
    let more : suc n + 1 ≡ suc (n + 1) = omega arith in
    rw more (ap (λ ms. a ∷ ms) rest ∙ ap (λ m. a ∷ (range_with_len (a + 1) n ++ m ∷ [])) last)

-- one word more, in its place
pub words_more : (words : List ℕ) (first place word : ℕ) → place < length words → take place words ≡ range_with_len first place → word ≡ first + place → take (place + 1) (set words place word) ≡ range_with_len first (place + 1)
words_more words first place word h e at = rw (take_more_set words place word h, e, at) (sym (range_more first place))

-- the seed, and the next number
pub number_first : (seed : ℕ) → seed ≡ drawn_number seed 0
unfolding drawn_number
number_first seed = refl

pub number_more : (seed i : ℕ) → drawn_number seed (i + 1) ≡ next_number (drawn_number seed i)
unfolding drawn_number
number_more seed i = ap (drawn_number seed) (add-one i)

module _ (p : ConfigParts) (n seed : ℕ) where
  -- one call more
  pub made_more : (place x y seat : ℕ) (call : Call) (items : List Item) → items ≡ map (made_item p n seed) (range_with_len 1 place)
      → x ≡ drawn_number seed place → y ≡ next_number x → seat ≡ place % all_seats p → call ≡ made_call p n (place + 1) y
      → items ++ Ask seat call ∷ [] ≡ map (made_item p n seed) (range_with_len 1 (place + 1))
  made_more place x y seat call items e at_x at_y at_seat at_call =
      let back : place + 1 - 1 ≡ place = omega arith in
      let number : y ≡ drawn_number seed (place + 1) = at_y ∙ ap next_number at_x ∙ sym (number_more seed place) in
      let item : Ask seat call ≡ made_item p n seed (place + 1) =
      ap (λ c. Ask seat c) (at_call ∙ ap (made_call p n (place + 1)) number)
      ∙ ap (λ s. Ask s (made_call p n (place + 1) (drawn_number seed (place + 1)))) (at_seat ∙ ap (λ s. s % all_seats p) (sym back)) in
      ap (λ xs. xs ++ Ask seat call ∷ []) e
      ∙ ap (λ t. map (made_item p n seed) (range_with_len 1 place) ++ t ∷ []) item
      ∙ sym (map-range_with_len_more (made_item p n seed) 1 place (place + 1) (omega arith))

  call_in_range : (one two three : Bool) (key : ℕ) (value : List ℕ) → 1 ≤ key → key ≤ 1000000 → length value ≡ p.value_words
      → IsInRange p (if one then Put key value else if two then Get key else if three then Del key else Range key (key + 16))
  call_in_range one two three key value low high long = search rules

  -- a made call is by a seat of the setting, and in range
  item_lawful : IsSetting p → 1 ≤ n → n ≤ 1000000 → (i : ℕ) → IsLawfulItem p (made_item p n seed i)
  item_lawful is low high i = search (rules, mod-lt, call_in_range, length-range_with_len)

  all_lawful : IsSetting p → 1 ≤ n → n ≤ 1000000 → (is : List ℕ) → All (IsLawfulItem p) (map (made_item p n seed) is)
  all_lawful set low high [] = All-nil (IsLawfulItem p)
  all_lawful set low high (i ∷ is) = All-cons (IsLawfulItem p) (made_item p n seed i) (map (made_item p n seed) is) (item_lawful set low high i) (all_lawful set low high is)

  -- the made calls are lawful
  pub made_lawful : IsSetting p → 1 ≤ n → n ≤ 1000000 → (items : List Item) → items ≡ made_items p n seed → All (IsLawfulItem p) items
  made_lawful set low high items e = rw e (all_lawful set low high (range_with_len 1 n))

  no_mark : (marks is : List ℕ) (i : ℕ) (item : Item) → slice_get (map (made_item p n seed) is) i ≡ Some item → IsLawfulMark marks item
  no_mark marks [] i item e = cc
  no_mark marks (j ∷ is) zero item e = subst (IsLawfulMark marks) (same_Some _ _ e) tt
  no_mark marks (j ∷ is) (suc i) item e = no_mark marks is i item e

  -- there are no marks among them
  pub made_marks : (items : List Item) → items ≡ made_items p n seed → AreMarksLawful items
  made_marks items e = rw e (λ i item at. no_mark _ (range_with_len 1 n) i item at)

  fold_calls : (k : ℕ) (is : List ℕ) → fold (λ a x. a + item_calls x) k (map (made_item p n seed) is) ≡ k + length is
  fold_calls k [] = omega arith
  fold_calls k (i ∷ is) = fold_calls (k + 1) is ∙ omega arith

  fold_turns : (k : ℕ) (is : List ℕ) → fold (λ a x. a + item_turns x) k (map (made_item p n seed) is) ≡ k
  fold_turns k [] = refl
  fold_turns k (i ∷ is) = fold_turns (k + 0) is ∙ omega arith

  -- where they are too many, their ranges have too many rows
  pub made_rows : n ≤ 1000000 → (items : List Item) → items ≡ made_items p n seed → (AreFew p items → ⊥) → most_rows < sum_by (rows_of p) (made_items p n seed)
  made_rows high items e many =
      let made : List Item = made_items p n seed in
      let calls : sum_by item_calls made ≡ n = fold_calls 0 (range_with_len 1 n) ∙ omega (arith, length-range_with_len 1 n) in
      let turns : sum_by item_turns made ≡ 0 = fold_turns 0 (range_with_len 1 n) in
      lt_of_not-le (λ few. many (rw e (record { calls = omega arith; turns = omega arith; rows = few })))
