use Rattle.std.proofs.{Common.{rules, ◌+◌, ◌<◌, ◌∙◌, length, subst, sym, arith}, lemmas.List.{length-set}}
use Rattle.sh_base.specs.Setting.{node_size}
use Rattle.sh_read.{specs.Reads.{Reader}, proofs.KeptLemmas.{inside_is, kept_under_way, size_small}}
use Rattle.sh_read.proofs.state.Reading.fed_inside.Goals as goal

pub overflow_sub-left : goal.overflow_sub-left
overflow_sub-left c =
    let h = inside_is c.self.inside.cfg.parts c.self.inside.cfg.lawful c.self.inside.left c.self.inside.words c.self.invariant.room c.self.invariant.within c.self.inside.node c.args.word (subst (λ (r : Reader). length r.reads.loaded + 1 < node_size r.setting) (sym c.self.view_is) c.requires) in
    omega (arith, h.0)

pub bounds-self-inside-left : goal.bounds-self-inside-left
bounds-self-inside-left c = search (rules, inside_is, size_small)

pub invariant_of-self : goal.invariant_of-self
invariant_of-self c =
    let h = inside_is c.self.inside.cfg.parts c.self.inside.cfg.lawful c.self.inside.left c.self.inside.words c.self.invariant.room c.self.invariant.within c.self.inside.node c.args.word (subst (λ (r : Reader). length r.reads.loaded + 1 < node_size r.setting) (sym c.self.view_is) c.requires) in
    kept_under_way c.self.inside.cfg.parts c.self.inside.cfg.lawful c.self.inside.node c.self.inside.first _ _ _ c.self.invariant.here c.self.invariant.address (length-set c.self.inside.words _ c.args.word ∙ c.self.invariant.room) _ (omega (arith, c.self.invariant.within)) (omega (arith, h.0))

pub returns : goal.returns
returns c =
    let h = inside_is c.self.inside.cfg.parts c.self.inside.cfg.lawful c.self.inside.left c.self.inside.words c.self.invariant.room c.self.invariant.within c.self.inside.node c.args.word (subst (λ (r : Reader). length r.reads.loaded + 1 < node_size r.setting) (sym c.self.view_is) c.requires) in
    rw (← c.self.view_is) h.1
