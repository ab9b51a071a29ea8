-- Each entry of a log is some call's own, where each place is taken once.
use Rattle.std.{proofs.Common.{rules, ℕ, zero, suc, ◌≡◌, ◌≢◌, ◌≤◌, ◌<◌, Bool, true, List, [], ◌∷◌, length, Option, refl, arith, length-append}, specs.{Prelude.{find}, List.{list_any}}}
use Rattle.std.proofs.lemmas.{Bool.Decides.{nat_tests}, List.Folds.{Any-from_list_any}}
use Rattle.sh_map.specs.{declared.{call.{Call.{Call}, Reply.{Reply}}, book.Done.{Done}}, Book.{IsClosed, IsOwn}, Made.{entries_by}}
use Rattle.sh_judge.specs.Places.{ArePlaced, count_at, placed_entry, entry_of, is_at, log_of, log_to, update_count}

one_entry : (seat : ℕ) (call : Call) (answer : Reply) → length (entries_by seat call answer) ≤ 1
one_entry seat call answer = search rules

one_at : (d : Option Done) → length (entry_of d) ≤ 1
one_at d = search (rules, one_entry)

short : (dones : List Done) (n : ℕ) → length (log_to dones n) ≤ n
unfolding log_to
short dones zero = omega arith
short dones (suc n) = omega (arith, length-append (log_to dones n) (placed_entry dones n), short dones n, one_at (find (is_at n) dones))

counted : (p : ℕ) (dones : List Done) (d : Done) (t : Bool) → is_at p d ≡ t → count_at p (d ∷ dones) ≢ 0 → (count_at p dones ≢ 0 → list_any (is_at p) dones ≡ true) → list_any (is_at p) (d ∷ dones) ≡ true
counted p dones d t e some rest = search rules

is_among : (p : ℕ) (dones : List Done) → count_at p dones ≢ 0 → list_any (is_at p) dones ≡ true
is_among p [] some = absurd (some refl)
is_among p (d ∷ dones) some = counted p dones d (is_at p d) refl some (is_among p dones)

own : (p : ℕ) (d : Done) → is_at p d ≡ true → IsOwn p d
own p d e = grind (arith, nat_tests)

pub closed : (dones : List Done) → ArePlaced dones → IsClosed (log_of dones) dones
closed dones placed i within =
    let small : i < update_count dones = omega (arith, within, short dones (update_count dones)) in
    let some : count_at i dones ≢ 0 = omega (arith, placed i small) in
    let any = Any-from_list_any (is_at i) dones (is_among i dones some) in
    (any.0, any.1, any.2, any.3, own i any.1 any.4)
