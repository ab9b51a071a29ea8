-- The word memory and its events.
use Rattle.std.specs.Prelude.{ℕ, ◌+◌, ◌%◌, ◌^◌, ◌==◌, if◌then◌else◌, List, slice_index, slice_set}
use Rattle.sh_base.specs.declared.event.Event.{Event, TheVariants.{Load, Store, Exchange, Add}}

abbrev pub Memory : Type 0
Memory = List ℕ

-- the address that an event is about
abbrev pub at_of : Event → ℕ
at_of (Load at) = at
at_of (Store at word) = at
at_of (Exchange at old new) = at
at_of (Add at) = at

-- the word that an event finds; a store finds 0
abbrev pub found_by : Memory → Event → ℕ
found_by memory (Load at) = slice_index memory at
found_by memory (Store at word) = 0
found_by memory (Exchange at old new) = slice_index memory at
found_by memory (Add at) = slice_index memory at

-- The memory after an event. An exchange stores its new word exactly where it finds the old one; an add counts on, and
-- from the last word to 0.
abbrev pub apply : Memory → Event → Memory
apply memory (Load at) = memory
apply memory (Store at word) = slice_set memory at word
apply memory (Exchange at old new) = if slice_index memory at == old then slice_set memory at new else memory
apply memory (Add at) = slice_set memory at ((slice_index memory at + 1) % 2 ^ 64)
