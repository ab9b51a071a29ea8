use Rattle.std.proofs.Common.{◌≡◌, ◌+◌, ◌≤◌, ◌++◌, map, vec_capacity, vec_len}
use Rattle.std.specs.Vec.Iter.{into_iter_items, into_iter_len}
use Rattle.sh_fleet.specs.declared.work.Work.{Work}
use Rattle.sh_fleet.proofs.sharing.split.Given as goal

abbrev pub invariant-loop-work : goal.invariant-loop-work
invariant-loop-work l =
    let rest = l.work-iterator in
    (vec_len l.passes + into_iter_len rest ≤ vec_capacity l.passes)
    × (vec_len l.answers + into_iter_len rest ≤ vec_capacity l.answers)
    × (l.passes.items ++ map (λ (w : Work). w.pass) (into_iter_items rest) ≡ map (λ (w : Work). w.pass) l.fn.works.items)
    × (l.answers.items ++ map (λ (w : Work). w.answers) (into_iter_items rest) ≡ map (λ (w : Work). w.answers) l.fn.works.items)
