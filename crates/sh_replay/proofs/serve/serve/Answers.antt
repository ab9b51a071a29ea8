use Rattle.std.{proofs.Common.{length, sym, ap, subst, ◌≤◌, ◌∙◌, arith}, specs.Io.KnownBytes.{Appends}}
use Rattle.sh_base.specs.Parts.{parts_of}
use Rattle.sh_options.specs.Order.{asked_of}
use Rattle.sh_replay.specs.{Course.{budget_of, finished}, Headline.{IsWritten}, Output.{event_lines}}
use Rattle.sh_replay.proofs.{ReplayLemmas.{ended, stopped_at}, ServeLemmas.{after_ended, after_few, after_laid, given_all, given_count, given_laid, has_served, has_stopped, left_laid}}
use Rattle.sh_replay.proofs.serve.serve.Goals as goal

pub budget_of-budget-requires : goal.budget_of-budget-requires
budget_of-budget-requires g c = let r = c.requires.ready in omega (arith, c.len.ensures, ap length c.calls.ensures, given_count (parts_of c.args.order.now.cfg) r.items c.args.world.now r.given_is r.can, r.few.calls)

pub make_turns-requires : goal.make_turns-requires
make_turns-requires g c = let r = c.requires.ready in record { laid = given_laid (parts_of c.args.order.now.cfg) r.items c.args.world.now r.given_is c.args.order.now.cfg.lawful }

pub keeps_the_laws-requires : goal.keeps_the_laws-requires
keeps_the_laws-requires g c = let r = c.requires.ready in given_laid (parts_of c.args.order.now.cfg) r.items c.args.world.now r.given_is c.args.order.now.cfg.lawful

pub keeps_the_laws-requires-in-Ok : goal.keeps_the_laws-requires-in-Ok
keeps_the_laws-requires-in-Ok g c =
    let r = c.requires.ready in
    let p = parts_of c.args.order.now.cfg in
    after_laid p r.items c.args.world.now r.given_is r.can c.budget_of-budget.result (c.budget_of-budget.ensures ∙ ap budget_of (c.len.ensures ∙ ap length c.calls.ensures)) c.make_turns.new.world (g.K.Sink.held c.args.sink.now) (g.K.Sink.held c.make_turns.new.sink) g.T.Tells.TOLD c.in-Ok.finish (c.in-Ok.ensures.ok r.items r.plan_is (given_all p r.items c.args.world.now r.given_is r.can)) c.args.order.now.cfg.lawful

pub keeps_the_laws-requires-in-Err : goal.keeps_the_laws-requires-in-Err
keeps_the_laws-requires-in-Err g c =
    let r = c.requires.ready in
    left_laid (parts_of c.args.order.now.cfg) r.items c.args.world.now r.given_is r.can c.budget_of-budget.result (c.budget_of-budget.ensures ∙ ap budget_of (c.len.ensures ∙ ap length c.calls.ensures)) c.make_turns.new.world (g.K.Sink.held c.args.sink.now) (g.K.Sink.held c.make_turns.new.sink) (c.in-Err.ensures.err r.items r.plan_is) c.args.order.now.cfg.lawful

pub write_behind-requires-clause-few : goal.write_behind-requires-clause-few
write_behind-requires-clause-few g c =
    let r = c.requires.ready in
    let p = parts_of c.args.order.now.cfg in
    let few : length c.args.world.now.calls ≤ 1000000 = omega (arith, given_count p r.items c.args.world.now r.given_is r.can, r.few.calls) in
    after_few p r.items c.args.world.now r.given_is r.can c.budget_of-budget.result (c.budget_of-budget.ensures ∙ ap budget_of (c.len.ensures ∙ ap length c.calls.ensures)) c.make_turns.new.world (g.K.Sink.held c.args.sink.now) (g.K.Sink.held c.make_turns.new.sink) g.T.Tells.TOLD c.in-Ok.finish (c.in-Ok.ensures.ok r.items r.plan_is (given_all p r.items c.args.world.now r.given_is r.can)) few

pub write_behind-requires-clause-ended : goal.write_behind-requires-clause-ended
write_behind-requires-clause-ended g c =
    let r = c.requires.ready in
    let p = parts_of c.args.order.now.cfg in
    after_ended p r.items c.args.world.now r.given_is r.can c.budget_of-budget.result (c.budget_of-budget.ensures ∙ ap budget_of (c.len.ensures ∙ ap length c.calls.ensures)) c.make_turns.new.world (g.K.Sink.held c.args.sink.now) (g.K.Sink.held c.make_turns.new.sink) g.T.Tells.TOLD c.in-Ok.finish (c.in-Ok.ensures.ok r.items r.plan_is (given_all p r.items c.args.world.now r.given_is r.can))

pub returns-in-Ok : goal.returns-in-Ok
returns-in-Ok g c items blank left rest before now plan given can are few =
    let p = parts_of c.args.order.now.cfg in
    let o = asked_of c.args.order.now in
    let over = c.in-Ok.ensures.ok items plan (given_all p items c.args.world.now given can) in
    let few_calls : length c.args.world.now.calls ≤ 1000000 = omega (arith, given_count p items c.args.world.now given can, few.calls) in
    ended o blank c.make_turns.new.world left rest before now (g.K.Sink.held c.args.sink.now) (g.K.Sink.held c.write_behind.new.sink) (g.K.Sink.faults c.args.sink.now) (g.K.Sink.faults c.write_behind.new.sink) items are few c.in-Ok.finish (finished c.args.world.now items c.budget_of-budget.result).events (g.K.Sink.held c.make_turns.new.sink)
    (subst (λ t. Appends (g.K.Sink.held c.args.sink.now) (g.K.Sink.held c.make_turns.new.sink) (event_lines t (finished c.args.world.now items c.budget_of-budget.result).events)) (sym c.requires.told) over.lines)
    (λ rows holds. has_served p items c.args.world.now given can c.budget_of-budget.result (c.budget_of-budget.ensures ∙ ap budget_of (c.len.ensures ∙ ap length c.calls.ensures)) c.make_turns.new.world (g.K.Sink.held c.args.sink.now) (g.K.Sink.held c.make_turns.new.sink) g.T.Tells.TOLD c.in-Ok.finish over rows few_calls c.keeps_the_laws.ensures.running (c.keeps_the_laws-in-Ok.ensures.lawful, c.keeps_the_laws-in-Ok.ensures.running) holds)
    c.write_behind.result
    (subst (λ n. IsWritten o c.make_turns.new.world c.in-Ok.finish (g.K.Sink.held c.make_turns.new.sink) (g.K.Sink.held c.write_behind.new.sink) n (g.K.Sink.faults c.write_behind.new.sink) c.write_behind.result) c.in-Ok.ensures.cause c.write_behind.ensures)

pub returns-in-Err : goal.returns-in-Err
returns-in-Err g c items blank left rest before now plan given can are few =
    let p = parts_of c.args.order.now.cfg in
    let o = asked_of c.args.order.now in
    rw c.unwritten.ensures (stopped_at o blank c.make_turns.new.world left rest before now (g.K.Sink.held c.args.sink.now) (g.K.Sink.held c.make_turns.new.sink) (g.K.Sink.faults c.args.sink.now) (g.K.Sink.faults c.make_turns.new.sink) items are few c.in-Err.error (c.requires.told ∙ c.in-Err.ensures.told)
    (has_stopped p items c.args.world.now given can c.budget_of-budget.result (c.budget_of-budget.ensures ∙ ap budget_of (c.len.ensures ∙ ap length c.calls.ensures)) c.make_turns.new.world (g.K.Sink.held c.args.sink.now) (g.K.Sink.held c.make_turns.new.sink) (c.in-Err.ensures.err items plan) c.keeps_the_laws.ensures.running (c.keeps_the_laws-in-Err.ensures.lawful, c.keeps_the_laws-in-Err.ensures.running)) c.in-Err.ensures.cause)
