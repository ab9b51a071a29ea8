-- The memory of a tree that is built at once.
use Rattle.std.specs.Prelude.{ℕ, zero, suc, ◌-◌, ◌*◌, min, List, ◌∷◌, ◌++◌, length, map, replicate}
use Rattle.std.specs.List.{range_with_len, flat_map}
use Rattle.sh_base.specs.{declared.config.ConfigParts.{ConfigParts}, Setting.{all_locks, node_size, nodes}}
use Rattle.sh_map.specs.declared.book.Row.{Row}
use Rattle.sh_bulk.specs.{Shape.{div_up, count_in, need_of, height_of}, Nodes.{words_at}}

-- the words of count nodes of a level, from node j on
abbrev pub words_from : ConfigParts → List Row → (level j count : ℕ) → List ℕ
words_from p rows level j count = flat_map (words_at p rows level) (range_with_len j count)

-- the words of a level's nodes
abbrev pub level_words : ConfigParts → List Row → (level : ℕ) → List ℕ
level_words p rows level = words_from p rows level 0 (count_in p (length rows) level)

-- the words of all nodes from the leaves up to a level
abbrev pub words_to : ConfigParts → List Row → (level : ℕ) → List ℕ
words_to p rows zero = level_words p rows 0
words_to p rows (suc level) = words_to p rows level ++ level_words p rows (suc level)

-- a server's counter, where nodes 1 to `need` are numbered: how many of its chunks hold one of them
unfoldable pub drawn_of : ConfigParts → (need server : ℕ) → ℕ
drawn_of p need server = min p.chunks (div_up need p.chunk_nodes - server * p.chunks)

-- the words before the nodes: the pool's own, the root word, the counters, and the locks
unfoldable pub front_words : ConfigParts → (need : ℕ) → List ℕ
front_words p need = 0 ∷ need ∷ (map (drawn_of p need) (range_with_len 0 p.servers) ++ replicate (all_locks p) 0)

-- The memory of a setting's pool with a tree of these rows. The nodes that aren't needed are 0.
abbrev pub bulk_words : ConfigParts → List Row → List ℕ
bulk_words p rows =
    front_words p (need_of p (length rows))
    ++ (words_to p rows (height_of p (length rows))
    ++ replicate ((nodes p - need_of p (length rows)) * node_size p) 0)
