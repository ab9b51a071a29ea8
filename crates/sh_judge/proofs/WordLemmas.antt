-- How many words a value has, by what the parse tells.
use Rattle.std.{proofs.Common.{◌≡◌, ℕ, List, Option, None, refl, ap, ap₂, sym, subst, ◌∙◌}, specs.Prelude.{option_and_then, unwrap_or, codes}}
use Rattle.clap.specs.{Words.{first_value, found_of}, declared.parser.matches.ArgMatches.{ArgMatches}}
use Rattle.sh_sheet.specs.Number.{number_of}
use Rattle.sh_options.specs.{Holds.{Told}, Uses.{Names, Text, told_by}}
use Rattle.sh_judge.specs.Words.{judge_names, width_if, width_in, width_of}

pub names_are : {options flags : List Text} → options ≡ judge_names.options → flags ≡ judge_names.flags → (let n : Names = record { options = options; flags = flags } in n ≡ judge_names)
names_are options flags = ap₂ (λ o f. record { options = o; flags = f }) options flags

module _ (n : Names) (words : List Text) (same : n ≡ judge_names) where
  pub width_is : (m : ArgMatches) (found : Option ℕ) → Told n words m → found ≡ option_and_then number_of (first_value (found_of m) (codes "value-words")) → width_of words ≡ width_if (unwrap_or found 1)
  unfolding width_of
  width_is m found told is =
      let t = subst (λ (x : Names). Told x words m) same told in
      ap (option_and_then width_in) t.are ∙ ap (λ o. width_if (unwrap_or o 1)) (sym (is ∙ ap (option_and_then number_of) (t.reads.values (codes "value-words") refl)))

  pub no_width : told_by n words ≡ None → width_of words ≡ None
  unfolding width_of
  no_width none = ap (option_and_then width_in) (ap (λ (x : Names). told_by x words) (sym same) ∙ none)
