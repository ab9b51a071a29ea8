-- The reading of a text, line by line.
use Rattle.std.proofs.Common.{rules, ℕ, ◌≡◌, ◌≤◌, ◌+◌, Bool, true, false, List, ◌∷◌, length, Some, None, refl, ◌∙◌, if◌then◌else◌}
use Rattle.sh_judge.{specs.{Fields.{parts_at}, Reading.{Reading, Astray, LinesTold, reading_from, told_then, told_with}}, proofs.Parts.{has_part}}

step_of : (words : ℕ) (t : LinesTold) (n : ℕ) (line : List ℕ) (parts : List (List ℕ)) → 1 ≤ length parts
    → reading_from words t n (line ∷ parts) ≡ told_then (told_with words t line) (n + 1) (λ u. reading_from words u (n + 1) parts)
step_of words t n line parts some = search rules

reading_step : (words : ℕ) (t : LinesTold) (n : ℕ) (line more : List ℕ) (parts : List (List ℕ)) → parts ≡ line ∷ parts_at 10 more
    → reading_from words t n parts ≡ told_then (told_with words t line) (n + 1) (λ u. reading_from words u (n + 1) (parts_at 10 more))
reading_step words t n line more parts are = rw are (step_of words t n line (parts_at 10 more) (has_part 10 more))

-- A line that is taken, or isn't.
module _ (r : Reading) (words : ℕ) (t u : LinesTold) (n : ℕ) (line more : List ℕ) (parts : List (List ℕ)) (taken : Bool)
    (reads : r ≡ reading_from words t n parts) (are : parts ≡ line ∷ parts_at 10 more) (gives : told_with words t line ≡ (if taken then Some u else None)) where
  pub line_refused : taken ≡ false → r ≡ Astray (n + 1)
  line_refused is = reads ∙ reading_step words t n line more parts are ∙ rw (gives, is) refl

  pub line_taken : taken ≡ true → r ≡ reading_from words u (n + 1) (parts_at 10 more)
  line_taken is = reads ∙ reading_step words t n line more parts are ∙ rw (gives, is) refl
