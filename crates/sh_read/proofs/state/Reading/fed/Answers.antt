use Rattle.std.{proofs.{Common.{rules, ◌≢◌, ◌≤◌, ◌∙◌, ◌-◌, ℕ, take, ap, refl, sym, subst, arith}, lemmas.List.{length-set}}, specs.Prelude.{slice_index, slice_set, None}}
use Rattle.sh_base.specs.Setting.{node_size}
use Rattle.sh_image.specs.declared.read.Seen.{Seen}
use Rattle.sh_read.specs.{Reads.{Reader, answer_to, image_in, wanted}, Judging.{seen_of}, Kept.{image_at, KeepsImage}}
use Rattle.sh_read.proofs.KeptLemmas.{size_small, some_left, fed_more, answers_last, fed_last, kept_judged, left_after_within}
use Rattle.sh_read.proofs.state.Reading.fed.Goals as goal

pub overflow_sub-self : goal.overflow_sub-self
overflow_sub-self c = some_left c.self.inside.cfg.parts c.self.inside.cfg.lawful c.self.inside.left c.self.inside.words c.self.invariant.room c.self.invariant.within c.self.inside.node (subst (λ (r : Reader). wanted r.setting r.reads ≢ None) (sym c.self.view_is) c.requires)

pub bounds-self-inside-self-inside : goal.bounds-self-inside-self-inside
bounds-self-inside-self-inside c = omega (arith, c.self.invariant.within, size_small c.self.inside.cfg.parts c.self.inside.cfg.lawful)

pub returns-then-self-gt0-clause-reads : goal.returns-then-self-gt0-clause-reads
returns-then-self-gt0-clause-reads c = search (rules, fed_more)

pub shared_ref_as_front-words : goal.shared_ref_as_front-words
shared_ref_as_front-words c = omega (arith, c.node_size-size.ensures, size_small c.self.inside.cfg.parts c.self.inside.cfg.lawful)

pub returns-clause-reads : goal.returns-clause-reads
returns-clause-reads c = search (rules, some_left, fed_last)

pub returns-clause-answer : goal.returns-clause-answer
returns-clause-answer c =
    let p = c.self.inside.cfg.parts in
    let some = some_left p c.self.inside.cfg.lawful c.self.inside.left c.self.inside.words c.self.invariant.room c.self.invariant.within c.self.inside.node (subst (λ (r : Reader). wanted r.setting r.reads ≢ None) (sym c.self.view_is) c.requires) in
    let seen : ℕ → Seen = λ n. seen_of p (take n (slice_set c.self.inside.words (c.self.inside.left - 1) c.args.word)) in
    rw (← c.self.view_is) (c.judge-progress.ensures.progress ∙ ap (λ n. answer_to (seen n)) c.node_size-size.ensures ∙ answers_last p c.self.inside.cfg.lawful c.self.inside.left c.self.inside.words c.self.invariant.room c.self.invariant.within c.self.inside.node c.args.word some (seen (node_size p)) (omega (arith, c.if-self-gt0.false)) refl)

pub invariant_of-self-2 : goal.invariant_of-self-2
invariant_of-self-2 c =
    let p = c.self.inside.cfg.parts in
    let words = slice_set c.self.inside.words (c.self.inside.left - 1) c.args.word in
    let within : c.left-self-inside.result ≤ node_size p = omega (arith, left_after_within c.judge-progress.result c.node_size-size.result c.left-self-inside.result c.left-self-inside.ensures, c.node_size-size.ensures) in
    kept_judged p c.self.inside.cfg.lawful c.self.inside.node c.self.inside.first words c.judge-progress.new.leaf c.judge-progress.new.inner c.self.invariant.here c.self.invariant.address (length-set c.self.inside.words (c.self.inside.left - 1) c.args.word ∙ c.self.invariant.room) c.left-self-inside.result within (subst (λ n. KeepsImage (image_in (seen_of p (take n words))) (image_at (slice_index (take n words) 1) c.judge-progress.new.leaf c.judge-progress.new.inner)) c.node_size-size.ensures c.judge-progress.ensures.image)
