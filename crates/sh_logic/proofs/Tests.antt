-- What a test of numbers tells, what decides it, and both of two tests.
use Rattle.std.{proofs.Common.{Bool, true, false}, specs.Prelude.{T, ◌&&◌}}
pub use Rattle.std.proofs.lemmas.Bool.{lt-ltb as less_test, le-ltb as not_less_test, le-leb as at_most_test, lt-leb as above_test, eq-eqb as same_test, ne_eqb as differ_test, ltb-true as is_lt, ltb-false as not_lt, leb-true as is_le, leb-false as not_le, eqb-true as is_eq, eqb-false as not_eq, and_parts as and_true, and_from as true_and, and_right as false_right, or_parts as or_false, false_from_ne_true as not_true}

pub first : (a b : Bool) → T (a && b) → T a
first true b h = tt
first false b h = h

pub second : (a b : Bool) → T (a && b) → T b
second true b h = h
second false b h = absurd h

pub both : (a b : Bool) → T a → T b → T (a && b)
both true b p q = q
both false b p q = p
