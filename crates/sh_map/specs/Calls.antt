-- Calls, and which of them are in range for a setting.
use Rattle.std.specs.Prelude.{◌≡◌, ℕ, ◌-◌, ◌^◌, ◌<◌, ◌≤◌, length}
use Rattle.sh_base.specs.declared.config.ConfigParts.{ConfigParts}
use Rattle.sh_map.specs.declared.call.Call.{Call, TheVariants.{Get, Put, Del, Range}}

-- a key: neither 0, which marks an empty entry, nor the last word, which is the end of all ranges
abbrev pub IsKey : ℕ → Type 0
IsKey key = (1 ≤ key) × (key < 2 ^ 64 - 1)

-- A put's value has the setting's number of words. A range holds the keys from low up to but without high.
abbrev pub IsInRange : ConfigParts → Call → Type 0
IsInRange p (Get key) = IsKey key
IsInRange p (Put key value) = IsKey key × (length value ≡ p.value_words)
IsInRange p (Del key) = IsKey key
IsInRange p (Range low high) = IsKey low × (low ≤ high) × (high ≤ 2 ^ 64 - 1)
