-- How far a text is read.
use Rattle.std.specs.Prelude.{ℕ, ◌≡◌, ◌<◌, List, length, get_or}
use Rattle.sh_map.specs.declared.book.Done.{Done}
use Rattle.sh_judge.specs.{declared.{found.Found.{Found}, read.ReadFault.{ReadFault}}, Reading.{Reading, Astray, LinesTold, least_first}}
use Rattle.sh_judge.specs.declared.read.ReadFault.TheVariants as fault

abbrev pub told_of : Found → LinesTold
told_of f = record { dones = f.dones.items; maps = f.maps.items; end = f.end }

-- for each seat, the least place at which its next call may begin
pub record HasLeast (ends : List ℕ) (dones : List Done) : Type 0 where
  pub long : length ends ≡ 64
  pub each : (seat : ℕ) → seat < 64 → get_or ends seat 0 ≡ least_first dones seat

-- why a text isn't read: a line isn't in its place, or memory is wanting
abbrev pub IsReadFault : Reading → ReadFault → Type 0
IsReadFault reading (fault.Line at) = reading ≡ Astray at
IsReadFault reading fault.NoMemory = Unit {0}
