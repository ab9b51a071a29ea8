-- The log of calls, with one place more.
use Rattle.std.{proofs.Common.{ℕ, ◌≡◌, ◌<◌, ◌+◌, List, [], ◌++◌, length, get_or, add-one, ap, refl, arith}, specs.Prelude.{find, slice_get}}
use Rattle.sh_map.specs.declared.{log.Entry.{Entry}, book.Done.{Done}}
use Rattle.sh_judge.specs.{Places.{placed_entry, entry_of, is_at, log_to}, Tables.{AreOwners}}

pub log_none : (dones : List Done) → [] ≡ log_to dones 0
unfolding log_to
log_none dones = refl

log_more : (dones : List Done) (n : ℕ) → log_to dones n ++ placed_entry dones n ≡ log_to dones (n + 1)
unfolding log_to
log_more dones n = rw (add-one n) refl

-- the entry of the next place's owner
pub log_owned : (n : ℕ) (dones : List Done) (owners got : List ℕ) (log : List Entry) (i : ℕ) → AreOwners n dones dones owners → got ≡ owners → i < length got → log ≡ log_to dones i
    → log ++ entry_of (slice_get dones (get_or got i 0)) ≡ log_to dones (i + 1)
log_owned n dones owners got log i are same within is =
    let owner : slice_get dones (get_or got i 0) ≡ find (is_at i) dones = rw same (are.each i (omega (arith, within, are.long, ap (λ (l : List ℕ). length l) same))) in
    rw (owner, is) (log_more dones i)
