use Rattle.sh_map.proofs.{BookLemmas.{IsLawful-push_entry, IsLawful-push_done}, LawfulLemmas.{no_misfit}, SeatLemmas.{seat_updates}}
use Rattle.sh_map.proofs.laws.book_laws.Goals as goal

pub returns-clause-entry : goal.returns-clause-entry
returns-clause-entry c = λ log dones e lawful next others. IsLawful-push_entry log e dones lawful next others

pub returns-clause-done : goal.returns-clause-done
returns-clause-done c = IsLawful-push_done

pub returns-clause-no_misfit : goal.returns-clause-no_misfit
returns-clause-no_misfit c = λ log dones m lawful h. no_misfit log dones lawful m h

pub returns-clause-seat : goal.returns-clause-seat
returns-clause-seat c = seat_updates
