-- What a key has after a log.
use Rattle.std.proofs.Common.{rules, ◌≡◌, ℕ, ◌+◌, ◌<◌, List, length, get_or, sym, ap, ◌∙◌}
use Rattle.sh_map.{specs.{declared.log.{Change.{Change}, Entry.{Entry}}, Map.{Map, get}, Log.{change_key, left_value, changed, map_at}}, proofs.MapLemmas.{get-put, get-del}}
use Rattle.sh_map.proofs.LogLemmas.{map_more}

pub changed_here : (m : Map) (change : Change) → get (changed m change) (change_key change) ≡ left_value change
changed_here m change = search (rules, get-put, get-del)

-- a walk over a log, one entry on, which was read
module _ (log : List Entry) (at : ℕ) (e : Entry) (in_range : at < length log) (read : e ≡ get_or log at e) where
  pub map_next : map_at log (at + 1) ≡ changed (map_at log at) e.change
  map_next = map_more log at e in_range ∙ ap (λ (x : Entry). changed (map_at log at) x.change) (sym read)

-- a change is known by its key and what it leaves
pub same_change : (a b : Change) → change_key a ≡ change_key b → left_value a ≡ left_value b → a ≡ b
same_change a b k v = search rules
