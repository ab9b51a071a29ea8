-- Texts that are joined by a byte are cut into what was joined.
use Rattle.std.proofs.Common.{ℕ, ◌≡◌, true, false, not, List, [], ◌∷◌, ◌++◌, map, refl, ◌∙◌, ap, arith}
use Rattle.std.specs.{Prelude.{◌==◌, All}, List.{AllByRecursion, flat_map}}
use Rattle.std.proofs.lemmas.{Bool.{and_parts, Decides.{nat_tests}}, List.{append-nil, Elements.{All-nil, All-cons}, Folds.{list_all-append}, Splits.{slice_split_at, slice_split_none}}}
use Rattle.sh_judge.specs.Fields.{parts_at}
use Rattle.sh_judged.proofs.Decimals.{lacks}

other : (b code : ℕ) → not (b == code) ≡ true → (b == code) ≡ false
other b code e = grind (arith, nat_tests)

here : (code : ℕ) → (code == code) ≡ true
here code = grind (arith, nat_tests)

none_is : (code : ℕ) (bs : List ℕ) → lacks code bs ≡ true → All (λ b. (b == code) ≡ false) bs
none_is code [] e = All-nil (λ b. (b == code) ≡ false)
none_is code (b ∷ bs) e =
    let k = and_parts (not (b == code)) (lacks code bs) e in
    All-cons (λ x. (x == code) ≡ false) b bs (other b code k.0) (none_is code bs k.1)

-- what has no such byte is the first part before one, and the last part
pub part_before : (code : ℕ) (part more : List ℕ) → lacks code part ≡ true → parts_at code (part ++ code ∷ more) ≡ part ∷ parts_at code more
part_before code part more e = slice_split_at (λ b. b == code) part code more (none_is code part e) (here code)

pub part_alone : (code : ℕ) (part : List ℕ) → lacks code part ≡ true → parts_at code part ≡ part ∷ []
part_alone code part e = slice_split_none (λ b. b == code) part (none_is code part e)

pub lacks_both : (code : ℕ) (xs ys : List ℕ) → lacks code xs ≡ true → lacks code ys ≡ true → lacks code (xs ++ ys) ≡ true
lacks_both code xs ys e f = list_all-append (λ b. not (b == code)) xs ys ∙ rw (e, f) refl

-- texts of these, joined by a byte
abbrev pub joined : {X : Type 0} → (code : ℕ) → (X → List ℕ) → X → List X → List ℕ
joined code text x xs = text x ++ flat_map (λ y. code ∷ text y) xs

module _ {X : Type 0} (code : ℕ) (text : X → List ℕ) where
  -- they are the parts
  pub joined_parts : (x : X) (xs : List X) → lacks code (text x) ≡ true → AllByRecursion (λ y. lacks code (text y) ≡ true) xs → parts_at code (joined code text x xs) ≡ text x ∷ map text xs
  joined_parts x [] e es = rw (append-nil (text x)) (part_alone code (text x) e)
  joined_parts x (y ∷ xs) e es = part_before code (text x) (joined code text y xs) e ∙ ap (λ ps. text x ∷ ps) (joined_parts y xs es.0 es.1)

  -- and another byte that none of them has isn't there
  pub joined_lacks : (b : ℕ) (x : X) (xs : List X) → (code == b) ≡ false → lacks b (text x) ≡ true → AllByRecursion (λ y. lacks b (text y) ≡ true) xs → lacks b (joined code text x xs) ≡ true
  joined_lacks b x [] apart e es = rw (append-nil (text x)) e
  joined_lacks b x (y ∷ xs) apart e es = lacks_both b (text x) (code ∷ joined code text y xs) e (rw apart (joined_lacks b y xs apart es.0 es.1))
