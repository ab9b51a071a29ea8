-- A value: one to eight words, kept in an array whose rest is 0.
use Rattle.std.{specs.Prelude.{◌≡◌, ℕ, ◌-◌, ◌≤◌, List, ◌++◌, length, take, drop, replicate}, proofs.{Common.{ap, ◌∙◌, sym, arith}, lemmas.List.{length-take-le, take-append-drop}}}

-- the words, and zeros behind them
abbrev pub eight : List ℕ → List ℕ
eight ws = ws ++ replicate (8 - length ws) 0

pub record IsValue (count : ℕ) (words : List ℕ) : Type 0 where
  pub low : 1 ≤ count
  pub high : count ≤ 8
  pub whole : length words ≡ 8
  pub rest : drop count words ≡ replicate (8 - count) 0

pub eight_take : (count : ℕ) (words : List ℕ) → IsValue count words → (length (take count words) ≡ count) × (eight (take count words) ≡ words)
eight_take count words h =
    let long : length (take count words) ≡ count = length-take-le count words (omega (arith, h.high, h.whole)) in
    (long, ap (λ n. take count words ++ replicate (8 - n) 0) long ∙ ap (λ l. take count words ++ l) (sym h.rest) ∙ take-append-drop count words)
