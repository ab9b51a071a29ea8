-- Known bytes over several reads or writes.
use Rattle.std.proofs.{Common.{rules, arith, refl, ℕ, ◌≡◌, ◌+◌, ◌-◌, List, [], ◌++◌, Option, length, take, drop, sym, append_assoc}, lemmas.List.{append-nil, take_rest, take-append-drop, drop-drop}}
use Rattle.std.{proofs.{Math.Seq.{take-add}, KnownBytes.{Consumes-nil}}, specs.Io.KnownBytes.{Appends, Keeps}}
use Rattle.sh_port.specs.Intake.{TookNoMoreThan, TookUpTo}

-- the bytes from a place on are n of them, and those after
pub drop_front : (bytes into : List ℕ) (at n : ℕ) → take n into ≡ take n (take (length bytes - at) (drop at bytes)) → drop at bytes ≡ take n into ++ drop (at + n) bytes
drop_front bytes into at n copied =
    rw (copied, take_rest, ← drop-drop n at bytes) (sym (take-append-drop n (drop at bytes)))

-- nothing is appended yet
pub appends_none : (a : Option (List ℕ)) → Appends a a []
appends_none a = search (rules, append-nil)

-- one write after another
pub appends_more : (a b c : Option (List ℕ)) (xs ys : List ℕ) → Appends a b xs → Appends b c ys → Appends a c (xs ++ ys)
appends_more a b c xs ys p q = search (rules, append_assoc)

-- a write of m of the bytes from n on, after those before n; `take (length xs - n) (drop n xs)` is the slice `&xs[n..]`
pub appends_take : (a b c : Option (List ℕ)) (n m : ℕ) (xs : List ℕ) → Appends a b (take n xs) → Appends b c (take m (take (length xs - n) (drop n xs))) → Appends a c (take (n + m) xs)
appends_take a b c n m xs p q = search (rules, take-add, appends_more, take_rest)

-- a failed write keeps what was written
pub appends_keeps : (a b c : Option (List ℕ)) (xs : List ℕ) → Appends a b xs → Keeps b c → Appends a c xs
appends_keeps a b c xs p q = search rules

-- where nothing was taken, or all that was left, no more was taken than may be
pub few_none : (most : ℕ) (left : Option (List ℕ)) (now : ℕ) → TookNoMoreThan most left left now now
few_none most left now = record { bytes = []; taken = Consumes-nil left; short = omega arith; count = refl }

pub few_all : (most : ℕ) (left rest : Option (List ℕ)) (before now : ℕ) (bytes : List ℕ) → TookUpTo most left rest before now bytes → TookNoMoreThan most left rest before now
few_all most left rest before now bytes h = record { bytes = bytes; taken = h.taken; short = h.short; count = h.count }
