-- A building that meets nothing in its way ends well.
use Rattle.std.{proofs.{Common.{rules, ◌≡◌, ◌≢◌, ◌∙◌, ◌≤◌, ◌-◌, ◌^◌, ℕ, List, Option, Some, length, ap, sym, inl, inr, length-append, arith}, lemmas.List.{append-nil}}, specs.Io.KnownBytes.{Consumes}}
use Rattle.sh_port.specs.{Port.{HasRisen}, Intake.{TookAll}}
use Rattle.sh_bulk.specs.{Complete.{EndsWell, IsFree}, Order.{Asked}, Sheet.{rows_of, Good, Reading}, Top.{Headline, HasRead}, declared.status.BulkStatus.{BulkStatus}}

no_rise : (a b : ℕ) → HasRisen a b → (b ≡ a) × (b ≢ 2 ^ 64 - 1) → ⊥
no_rise a b h free = elim h [ inl lt ↦ omega (arith, lt, free.0) | inr last ↦ free.1 last ]

module _ (asked : Asked) (left rest : Option (List ℕ)) (before now : ℕ) (held after : Option (List ℕ)) (fell fallen : ℕ) where
  read_is : (reading : Reading) → HasRead asked.parts left rest before now reading → (free : IsFree asked left before now fell fallen) → reading ≡ Good free.rows
  read_is reading h free = sym h.says ∙ (ap (rows_of asked.parts) (search (rules, append-nil)) ∙ free.says)

pub complete : (asked : Asked) (left rest : Option (List ℕ)) (before now : ℕ) (held after : Option (List ℕ)) (fell fallen : ℕ) (s : BulkStatus) → Headline (Some asked) left rest before now held after fell fallen s → IsFree asked left before now fell fallen → EndsWell s
complete asked left rest before now held after fell fallen s = λ h free. search (rules, no_rise, length-append, read_is)
