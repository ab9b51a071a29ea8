use Rattle.std.proofs.Common.{rules, ◌≡◌, ℕ, ◌≤◌, arith}
use Rattle.sh_edit.proofs.{SplitLemmas.{halves_are_put, sides}, HalvesLemmas.{left_once, right_once, separator_within, left_lawful, right_lawful}}
use Rattle.sh_edit.proofs.laws.splits_are_the_maps.Goals as goal

is_key : (key : ℕ) → 1 ≤ key → key ≡ 0 → ⊥
is_key key h e = omega arith

pub returns-clause-together : goal.returns-clause-together
returns-clause-together c = λ a key right value nz. halves_are_put a key value right nz

pub returns-clause-left : goal.returns-clause-left
returns-clause-left c = λ a key right q value h below. (sides a key value right h.some (is_key key h.is_key) h.lacks h.full h.once q).0 below

pub returns-clause-right : goal.returns-clause-right
returns-clause-right c = λ a key right q value h from. (sides a key value right h.some (is_key key h.is_key) h.lacks h.full h.once q).1 from

pub returns-clause-once : goal.returns-clause-once
returns-clause-once c = λ a key right value nz. (left_once a key value right nz, right_once a key value right nz)

pub returns-clause-separator : goal.returns-clause-separator
returns-clause-separator c = λ p a key value h lawful words low high. separator_within p a key value 0 lawful h.some h.lacks h.full h.once low h.is_key high words

pub returns-clause-lawful : goal.returns-clause-lawful
returns-clause-lawful c = search (rules, left_lawful, is_key, right_lawful)
