-- What the words ask for.
use Rattle.std.specs.Prelude.{ℕ, Bool, ◌&&◌, nat_le, List, [], ◌∷◌, ◌++◌, codes, Option, Some, None, is_none, option_and_then, if◌then◌else◌}
use Rattle.sh_base.specs.{declared.config.ConfigParts.{ConfigParts}, Faults.{fault_of}, Parts.{parts_of}}
use Rattle.sh_options.specs.{Order.{number_or, parts_in, setting_options}, Uses.{Names, Text, Use, has_use, told_by}}
use Rattle.sh_bulk.specs.declared.order.BulkOrder.{BulkOrder}

-- the options: the setting's numbers and the workers; and the one flag
abbrev pub bulk_names : Names
bulk_names = record { options = setting_options ++ codes "workers" ∷ []; flags = codes "picture" ∷ [] }

-- what an order asks for
pub record Asked : Type 0 where
  pub parts : ConfigParts
  pub workers : ℕ
  pub picture : Bool

abbrev pub asked_of : BulkOrder → Asked
asked_of o = record { parts = parts_of o.cfg; workers = o.workers; picture = o.picture }

-- the order of a setting, a number of workers and a flag, where the setting is lawful and there are 1 to 64 workers
abbrev pub asked_if : ConfigParts → ℕ → Bool → Option Asked
asked_if p workers picture = if is_none (fault_of p) && (nat_le 1 workers && nat_le workers 64) then Some (record { parts = p; workers = workers; picture = picture }) else None

-- there are 4 workers where the words say nothing else
abbrev pub asked_in : List Use → Option Asked
asked_in us = asked_if (parts_in us) (number_or (codes "workers") 4 us) (has_use (codes "picture") us)

-- What the words ask for. None is where they are refused.
unfoldable pub order_of : List Text → Option Asked
order_of words = option_and_then asked_in (told_by bulk_names words)
