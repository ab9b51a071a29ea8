-- The place of the row that is found, in the columns of the fences.
use Rattle.std.proofs.Common.{rules, ◌≡◌, ℕ, ◌+◌, ◌<◌, Bool, List, length, drop, sym, ap, ◌∙◌}
use Rattle.std.{specs.Prelude.{if◌then◌else◌, option_map, IfSome, Option, Some, slice_index}, proofs.{Math.ListN.{get_or-map}, lemmas.List.{length-map}}}
use Rattle.sh_image.specs.Inner.{Inner}
use Rattle.sh_cache.{specs.{Cached.{better, found, found_from, is_above}, Columns.{better_place, is_above_at, highs_of, lows_of, no_row, row_in}}, proofs.FindLemmas.{found_step}}

module _ (rows : List Inner) where
  pub low_at : (i : ℕ) → slice_index (lows_of rows) i ≡ (row_in rows i).low
  low_at i = get_or-map (λ (r : Inner). r.low) rows i no_row

  high_at : (i : ℕ) → slice_index (highs_of rows) i ≡ (row_in rows i).high
  high_at i = get_or-map (λ (r : Inner). r.high) rows i no_row

  pick : (b : Bool) (best : Option ℕ) (at : ℕ) → option_map (row_in rows) (if b then Some at else best) ≡ (if b then Some (row_in rows at) else option_map (row_in rows) best)
  pick b best at = search rules

  above_is : (best : Option ℕ) (at : ℕ) → is_above_at (lows_of rows) best at ≡ is_above (row_in rows at) (option_map (row_in rows) best)
  above_is best at = search (rules, low_at)

  better_is : (key : ℕ) (best : Option ℕ) (at : ℕ) → option_map (row_in rows) (better_place (lows_of rows) (highs_of rows) key best at) ≡ better (option_map (row_in rows) best) (row_in rows at) key
  better_is key best at = search (rules, low_at, high_at, above_is, pick)

-- the best place of the first rows, and what is found of the rest from there
pub record IsBest (lows highs : List ℕ) (key i : ℕ) (best : Option ℕ) : Type 0 where
  pub in_range : IfSome best (λ b. b < length lows)
  pub rest : (rows : List Inner) → lows ≡ lows_of rows → highs ≡ highs_of rows → found_from (option_map (row_in rows) best) (drop i rows) key ≡ found rows key

as_many : (rows : List Inner) (lows : List ℕ) → lows ≡ lows_of rows → length rows ≡ length lows
as_many rows lows is = sym (ap length is ∙ length-map rows (λ (r : Inner). r.low))

pub best_more : (lows highs : List ℕ) (key i : ℕ) (best : Option ℕ) → i < length lows → IsBest lows highs key i best → IsBest lows highs key (i + 1) (better_place lows highs key best i)
best_more lows highs key i best below h = search (rules, better_is, found_step, as_many)
