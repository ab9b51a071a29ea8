-- A printed number is read back.
use Rattle.std.proofs.Common.{rules, ℕ, ◌≡◌, ◌≤◌, ◌<◌, ◌+◌, ◌^◌, Bool, true, false, not, List, [], ◌∷◌, length, get_or, Some, ◌⊎◌, None, zero, suc, ◌%◌, refl, sym, ◌∙◌, ap, arith}
use Rattle.std.specs.{Prelude.{◌==◌, if◌then◌else◌}, Fmt.{decimal}, List.{list_all}, Str.Parse.{AllDigits}}
use Rattle.std.proofs.lemmas.{Bool.{Decides.{nat_tests}}, List.{length-append, get_or_append_left}}
use Rattle.std.proofs.lemmas.Fmt.{decimal_by_steps_wide, decimal_digit, decimal_is_IsNumeral_wide, length-decimal-le_wide}
use Rattle.std.proofs.lemmas.Str.Parse.{IsDigitsTest, IsNumeralModel, FoldsDigits, numerals_by_fold, digit_from_value}
use Rattle.sh_sheet.{specs.Number.{are_digits, number_of, value_from}, proofs.Digits.{number_of_digits}}
use Rattle.sh_judge.{specs.Fields.{has_zero, wide_of, word_of}, proofs.Numbers.{wide_of_digits}}

-- no byte has this code
abbrev pub lacks : ℕ → List ℕ → Bool
lacks code bs = list_all (λ b. not (b == code)) bs

digits_test : IsDigitsTest (λ ds. are_digits ds ≡ true)
digits_test = search rules

folded : FoldsDigits value_from
folded = record { empty = λ n. refl; more = λ n c cs k. refl }

spelled : IsNumeralModel (λ ds. are_digits ds ≡ true) (value_from 0)
spelled = numerals_by_fold (λ ds. are_digits ds ≡ true) digits_test value_from folded

digits_lack : (code : ℕ) (ds : List ℕ) → (code < 48) ⊎ (57 < code) → AllDigits 10 ds → lacks code ds ≡ true
digits_lack code [] apart d = refl
digits_lack code (c ∷ cs) apart d =
    let k = digit_from_value c d.0 in
    let rest = digits_lack code cs apart d.1 in
    grind (arith, nat_tests)

module _ (n : ℕ) (small : n < 10 ^ 64) where
  numeral : (0 < length (decimal n)) × AllDigits 10 (decimal n)
  numeral = (decimal_is_IsNumeral_wide n small).0

  -- it has no byte but digits
  pub decimal_lacks : (code : ℕ) → (code < 48) ⊎ (57 < code) → lacks code (decimal n) ≡ true
  decimal_lacks code apart = digits_lack code (decimal n) apart numeral.1

  value_is : value_from 0 (decimal n) ≡ n
  value_is = spelled.same (decimal n) numeral.1 ∙ (decimal_is_IsNumeral_wide n small).1

pub plain : (n : ℕ) → n < 10 ^ 64 → has_zero (decimal n) ≡ false
plain zero small = ap has_zero (decimal_digit 0 (omega arith))
plain (suc n) small =
    let first = (decimal_by_steps_wide (λ m ds. (0 < length ds) × (0 < m → 48 < get_or ds 0 0)) (λ m l. (omega arith, λ a. omega arith))
    (λ m ds l h. (omega (arith, length-append ds ((48 + m % 10) ∷ [])), λ a. omega (arith, get_or_append_left ds ((48 + m % 10) ∷ []) 0 0 h.0, h.1 (omega arith)))) (suc n) small).1 (omega arith) in
    grind (arith, nat_tests)

-- a word
pub word_decimal : (n : ℕ) → n < 2 ^ 64 → word_of (decimal n) ≡ Some n
word_decimal n small =
    let wide : n < 10 ^ 64 = omega arith in
    let short : length (decimal n) ≤ 20 = length-decimal-le_wide 20 n (omega arith) (omega arith) wide in
    ap (λ b. if b then None else number_of (decimal n)) (plain n wide) ∙ sym (number_of_digits (decimal n) n (numeral n wide).0 short (spelled.from (decimal n) (numeral n wide).1) (value_is n wide) small)

-- a number of two words
pub wide_decimal : (n : ℕ) → n < 2 ^ 128 → wide_of (decimal n) ≡ Some n
wide_decimal n small = search (rules, wide_of_digits, numeral, plain, spelled, value_is)
