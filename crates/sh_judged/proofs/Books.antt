-- The lines of a lawful and closed book, of its map and of its numbers are found lawful.
use Rattle.std.proofs.Common.{ℕ, ◌≡◌, ◌≤◌, ◌<◌, ◌+◌, ◌^◌, Bool, true, false, List, [], ◌∷◌, ◌++◌, length, ◌⊎◌, subst, refl, sym, ap, ◌∙◌, inl, inr, arith, if◌then◌else◌}
use Rattle.std.{specs.{Prelude.{Some}, List.{AllByRecursion, flat_map}}, proofs.lemmas.List.Elements.{recursion_from_All}}
use Rattle.sh_logic.proofs.Lists.{all_weaker}
use Rattle.sh_map.specs.{declared.{log.Entry.{Entry}, book.{Done.{Done}, Row.{Row}}}, Book.{Answers, IsClosed, IsLawful}}
use Rattle.sh_core.specs.Actors.{HasOwnRows}
use Rattle.sh_text.specs.Text.{calls_text, end_line, map_line, sum_of}
use Rattle.sh_text.specs.declared.points.Points.TheVariants as points
use Rattle.sh_judge.specs.{declared.{finding.Finding.TheVariants.{Lawful}, found.End.{End}}, Finding.{IsFinding, IsFoundIn, log_rows}, Places.{log_of}, Reading.{made_end}}
use Rattle.sh_judged.proofs.{Bounds.{HasSmallVersion, fit, map_fits, sums_within}, Lines.{FitsCall, IsFit, IsFitRow}, Places.{are_placed, few_entries, log_is}}
use Rattle.sh_judged.proofs.Tells.{told_closed, told_lawful, told_length, told_on}
use Rattle.sh_judged.proofs.Texts.{AreNumbered, Goes, calls_go, end_goes, maps_go, told_so}

-- what the book doesn't say of a call
pub record IsTellable (words : ℕ) (d : Done) : Type 0 where
  pub seat : d.seat ≤ 63
  pub call : FitsCall words d.call
  pub rows : HasOwnRows d.call d.rows
  pub version : HasSmallVersion d.reply

module _ (words : ℕ) (some : 1 ≤ words) (narrow : words ≤ 8) (log : List Entry) (dones : List Done) (law : IsLawful log dones) (closed : IsClosed log dones) (few : length dones ≤ 1000000)
    (tellable : AllByRecursion (IsTellable words) dones) (numbers : AreNumbered 1 dones) (few_rows : length (log_rows log) ≤ 4294967296) where
  short : length log ≤ length dones
  short = few_entries log dones law closed

  calls : AllByRecursion (λ d. FitsCall words d.call) dones
  calls = all_weaker (IsTellable words) (λ d. FitsCall words d.call) dones (λ d h. h.call) tellable

  each : (ds : List Done) → AllByRecursion (Answers log) ds → AllByRecursion (λ d. d.first ≤ d.point) ds → AllByRecursion (IsTellable words) ds → AllByRecursion (IsFit words) ds
  each [] a f h = tt
  each (d ∷ ds) a f h = (fit words log dones law closed calls d a.0 f.0 (omega (arith, short, few)) h.0.call h.0.seat h.0.rows h.0.version, each ds a.1 f.1 h.1)

  all_fit : AllByRecursion (IsFit words) dones
  all_fit = each dones (recursion_from_All (Answers log) dones law.answers) (recursion_from_All (λ d. d.first ≤ d.point) dones law.firsts) tellable

  told_book : IsLawful log (told_on [] dones) × IsClosed log (told_on [] dones)
  told_book = (told_lawful log dones (omega (arith, short, few)) law closed, told_closed log dones (omega (arith, short, few)) law closed)

  log_told : log_of (told_on [] dones) ≡ log
  log_told = log_is log (told_on [] dones) told_book.0 told_book.1

  count_told : length (told_on [] dones) ≡ length dones
  count_told = told_length [] dones ∙ omega arith

  last : End
  last = made_end (length dones) (length (log_rows log)) (sum_of (log_rows log))

  found : (maps : List Row) (k : ℕ) → (maps ≡ []) ⊎ (maps ≡ log_rows log) → IsFoundIn (record { dones = told_on [] dones; maps = maps; end = Some last }) k (Lawful (length dones) (length log))
  unfolding last
  found maps k has = (
    record { placed = are_placed log (told_on [] dones) told_book.0 told_book.1; lawful = subst (λ l. IsLawful l (told_on [] dones)) (sym log_told) told_book.0 },
    subst (λ l. (maps ≡ []) ⊎ (maps ≡ log_rows l)) (sym log_told) has,
    subst (λ l. Some last ≡ Some (made_end (length (told_on [] dones)) (length (log_rows l)) (sum_of (log_rows l)))) (sym log_told) (ap (λ n. Some (made_end n (length (log_rows log)) (sum_of (log_rows log)))) (sym count_told)),
    sym count_told,
    ap length (sym log_told),
  )

  rows_fit : AllByRecursion (IsFitRow words) (log_rows log)
  rows_fit = map_fits words log dones law closed calls

  end_is : (maps : List Row) → (maps ≡ []) ⊎ (maps ≡ log_rows log) → Goes words some (Lawful (length dones) (length log)) (told_so (told_on [] dones) maps) (end_line (length dones) (length (log_rows log)) (sum_of (log_rows log)))
  unfolding last
  end_is maps has =
      let sum : sum_of (log_rows log) < 2 ^ 128 = omega (arith, sums_within words (log_rows log) narrow rows_fit, few_rows) in
      end_goes words some (Lawful (length dones) (length log)) (told_on [] dones) maps (length dones) (length (log_rows log)) (sum_of (log_rows log)) (omega (arith, few)) (omega (arith, few_rows)) sum (λ k. found maps k has)

  ends : (asked : Bool) → Goes words some (Lawful (length dones) (length log)) (told_so (told_on [] dones) []) ((if asked then flat_map map_line (log_rows log) else []) ++ end_line (length dones) (length (log_rows log)) (sum_of (log_rows log)))
  ends true = maps_go words some (Lawful (length dones) (length log)) (told_on [] dones) [] (log_rows log) (end_line (length dones) (length (log_rows log)) (sum_of (log_rows log))) rows_fit (end_is (log_rows log) (inr refl))
  ends false = end_is [] (inl refl)

  pub lines_lawful : (asked : Bool) → IsFinding words (calls_text points.Shown dones ++ ((if asked then flat_map map_line (log_rows log) else []) ++ end_line (length dones) (length (log_rows log)) (sum_of (log_rows log)))) (Lawful (length dones) (length log))
  unfolding IsFinding Goes
  lines_lawful asked =
      let within : length {A = Done} [] + length dones ≤ 1000000 = omega (arith, few) in
      calls_go words some (Lawful (length dones) (length log)) [] dones ((if asked then flat_map map_line (log_rows log) else []) ++ end_line (length dones) (length (log_rows log)) (sum_of (log_rows log))) all_fit numbers within (ends asked) 0
