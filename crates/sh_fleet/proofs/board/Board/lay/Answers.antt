use Rattle.std.proofs.Common.{arith, inl, refl, subst, sym, ℕ}
use Rattle.sh_fleet.{specs.{Boards.{IsChain}, Wants.{wants_of}}, proofs.BoardLemmas.{item_within, mark_chain}}
use Rattle.sh_fleet.proofs.board.Board.lay.Goals as goal

pub index-first-requires : goal.index-first-requires
index-first-requires g c = omega (arith, item_within _ _ _ _ _ c.self.invariant c.args.at _ refl (inl c.requires.mark), c.self.inside.links.ok.0)

pub lay_chain-requires-clause-chain : goal.lay_chain-requires-clause-chain
lay_chain-requires-clause-chain g c = subst (λ (k : ℕ). IsChain (wants_of g.N.Naming.items) k c.args.pass.now) (sym c.index-first.ensures) (mark_chain _ _ _ _ _ c.self.invariant c.args.at _ _ c.requires.mark c.requires.maker)
