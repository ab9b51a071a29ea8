use Rattle.std.{proofs.Common.{◌≡◌, ◌+◌, ◌-◌, ◌∷◌, map, take, drop}, specs.{Prelude.{replicate}, List.{range_with_len}}}
use Rattle.sh_base.specs.Setting.{first_node_word}
use Rattle.sh_bulk.specs.Words.{drawn_of}
use Rattle.sh_bulk.proofs.front.put_front.Given as goal

-- the counters so far, and zeros behind them
abbrev pub invariant-loop-server : goal.invariant-loop-server
invariant-loop-server l = (take (2 + l.server) l.out ≡ 0 ∷ l.need ∷ map (drawn_of l.cfg.parts l.need) (range_with_len 0 l.server)) × (drop (2 + l.server) l.out ≡ replicate (first_node_word l.cfg.parts - (2 + l.server)) 0)
