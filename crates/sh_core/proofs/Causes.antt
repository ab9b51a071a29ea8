-- The causes of refusals stay, as the log and the counters grow.
use Rattle.std.proofs.{Common.{rules, ◌≡◌, ℕ, ◌+◌, ◌≤◌, ◌<◌, List, [], ◌∷◌, ◌++◌, length, sym, subst, arith}, lemmas.{Bool.Decides.{nat_tests}, List.{take-append-le}}}
use Rattle.sh_base.specs.declared.config.ConfigParts.{ConfigParts}
use Rattle.sh_map.specs.{declared.{call.{Call.{Call}, Reply.{Reply}}, log.Entry.{Entry as LogEntry}, book.{Done.{Done}, Row.{Row}}}}
use Rattle.sh_map.specs.Points.{point_of}
use Rattle.sh_state.specs.TreeState.{TreeState}
use Rattle.sh_core.specs.{Actors.{Actor, AreAnswered}, Fits.{IsDecided}, Causes.{EndsByRows, HasCause, HaveCauses}}
use Rattle.sh_edit.specs.Ranging.{last_key, upto_of}

module _ (p : ConfigParts) (c now : ℕ → ℕ) (rise : (server : ℕ) → server < p.servers → c server ≤ now server) (log more : List LogEntry) where
  cause_longer : (first point : ℕ) (rows : List Row) (call : Call) (r : Reply) → point ≤ length log → HasCause p c log first point rows call r → HasCause p now (log ++ more) first point rows call r
  cause_longer first point rows call r le h = search (rules, take-append-le)

  longer : (seat : ℕ) (ds : List Done) → AreAnswered log seat ds → HaveCauses p c log ds → HaveCauses p now (log ++ more) ds
  longer seat [] a h = tt
  longer seat (d ∷ ds) a h = (cause_longer d.first d.point d.rows d.call d.reply a.0.answers.within h.0, longer seat ds a.1 h.1)

  pub causes_on : (after : List LogEntry) → after ≡ log ++ more → (seat : ℕ) (ds : List Done) → AreAnswered log seat ds → HaveCauses p c log ds → HaveCauses p now after ds
  causes_on after e seat ds a h = subst (λ (es : List LogEntry). HaveCauses p now es ds) (sym e) (longer seat ds a h)

pub causes_snoc : (p : ConfigParts) (c : ℕ → ℕ) (log : List LogEntry) (ds : List Done) (d : Done) → HaveCauses p c log ds → HasCause p c log d.first d.point d.rows d.call d.reply → HaveCauses p c log (ds ++ d ∷ [])
causes_snoc p c log [] d h k = (k, tt)
causes_snoc p c log (x ∷ ds) d h k = (h.0, causes_snoc p c log ds d h.1 k)

-- a reply that was decided
pub decided_cause : (p : ConfigParts) (s : TreeState) (sn : List LogEntry) (i : ℕ) (a : Actor) → a.seen ≤ length sn → (rows : List Row) (call : Call) (r : Reply) → IsDecided p s i a.first a.point a.seen call r → HasCause p s.counter s.log a.first (point_of sn a.first a.point call r) rows call r
decided_cause p s sn i a more rows call r h = search rules

-- the bound that a range's rows give it
module _ (p : ConfigParts) (high : ℕ) (rows : List Row) where
  abbrev upto : ℕ
  upto = upto_of p.rows high rows

  early : upto < high → (length rows ≡ p.rows) × (upto ≡ last_key rows + 1)
  early lt = (grind (arith, nat_tests), grind (arith, nat_tests))

  pub ends_by_rows : length rows ≤ p.rows → EndsByRows p high upto rows
  ends_by_rows few = record { few = few; within = grind (arith, nat_tests); early = early; full = λ is lt. grind (arith, nat_tests) }
