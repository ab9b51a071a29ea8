-- The order, by what the parse tells.
use Rattle.std.proofs.Common.{rules}
use Rattle.std.{proofs.Common.{◌≡◌, ℕ, Bool, List, [], ◌∷◌, None, true, refl, ap, ap₂, sym, subst, ◌∙◌}, specs.Prelude.{option_and_then, unwrap_or, codes}}
use Rattle.clap.specs.{Words.{first_value, found_of, one_text}, declared.parser.matches.ArgMatches.{ArgMatches}}
use Rattle.sh_base.specs.declared.config.ConfigParts.{ConfigParts}
use Rattle.sh_sheet.specs.Number.{number_of}
use Rattle.sh_options.{specs.{Holds.{flag_text, Told}, Narrow.{narrow_parts}, Order.{parts_in, setting_options, ReadsSetting}, Uses.{has_use, Names, Text, Use, told_by}}, proofs.AllNumbers.{no_flag}}
use Rattle.sh_options.proofs.OrderLemmas.{narrow_kept}
use Rattle.sh_bulk.specs.Order.{asked_if, asked_in, bulk_names, order_of}

pub names_are : {options flags : List Text} → options ≡ bulk_names.options → flags ≡ bulk_names.flags → (let n : Names = record { options = options; flags = flags } in n ≡ bulk_names)
names_are options flags = ap₂ (λ o f. record { options = o; flags = f }) options flags

module _ (n : Names) (words : List Text) (same : n ≡ bulk_names) where
  pub order_is : (m : ArgMatches) (parts : ConfigParts) (workers : ℕ) (picture : Bool) → Told n words m
      → ((us : List Use) → ReadsSetting (found_of m) us → parts ≡ narrow_parts (parts_in us))
      → workers ≡ unwrap_or (option_and_then number_of (first_value (found_of m) (codes "workers"))) 4
      → ((known used : Bool) → one_text (found_of m) (codes "picture") ≡ flag_text known used → picture ≡ used)
      → order_of words ≡ asked_if parts workers picture
  unfolding order_of
  order_is m parts workers picture told parts_are workers_are picture_is =
      let t = subst (λ (x : Names). Told x words m) same told in
      let us = t.uses in
      let reads = t.reads in
      let setting = parts_are us (λ name among. reads.values name (no_flag setting_options (codes "picture" ∷ []) name refl among)) in
      let count = workers_are ∙ ap (λ o. unwrap_or (option_and_then number_of o) 4) (reads.values (codes "workers") refl) in
      let flag = picture_is true (has_use (codes "picture") us) (reads.flags (codes "picture") refl) in
      ap (option_and_then asked_in) t.are
      ∙ (λ i. asked_if (parts_in us) (sym count i) (sym flag i))
      ∙ (sym (narrow_kept (λ q. asked_if q workers picture) (parts_in us) (λ q why e. simp e)) ∙ ap (λ q. asked_if q workers picture) (sym setting))

  pub no_order : told_by n words ≡ None → order_of words ≡ None
  unfolding order_of
  no_order none = ap (option_and_then asked_in) (ap (λ (x : Names). told_by x words) (sym same) ∙ none)
