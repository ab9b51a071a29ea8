use Rattle.std.{proofs.Common.{List, map, length, IfOk, sym, ap, subst, ◌∙◌}, specs.{List.{fold}}}
use Rattle.std.proofs.lemmas.List.Sums.{fold-append}
use Rattle.sh_world.specs.States.{State}
use Rattle.sh_replay.specs.{Course.{begun, goes_on, rounds_asks, Asking, Course, Stage}, Served.{item_of}, Standing.{HasEnds}, Stopping.{Stops}, TurnRows.{kept_asks}}
use Rattle.sh_replay.proofs.{CallLemmas.{turn_same}, ServeLemmas.{asks_are}, StageLemmas.{begins, on_error, stops_before, stops_behind}, TurnLemmas.{all_keep}}
use Rattle.sh_replay.proofs.turns.make_turns.Goals as goal

pub returns-in-Ok-clause-ok : goal.returns-in-Ok-clause-ok
returns-in-Ok-clause-ok g c items plan are =
    let first = c.args.world.now in
    let begin = begun first c.args.budget in
    let rows = c.deref.result.now in
    let n = length c.take_all.new.world.seats in
    let split = asks_are items rows n (length first.seats) c.args.budget (c.deref.ensures.value ∙ plan.turns) c.in-Ok.ensures.seats in
    let taken = c.in-Ok.ensures.ok items begin c.args.budget (g.K.Sink.held c.args.sink.now) (begins items g.T.Tells.TOLD first c.args.plan.marks c.args.budget (g.K.Sink.held c.args.sink.now) (plan.marks first)) in
    subst (λ (x : Course). IfOk c.finish_rounds.result (λ f. HasEnds g.T.Tells.TOLD c.args.budget x f c.finish_rounds.new.world (g.K.Sink.held c.args.sink.now) (g.K.Sink.held c.finish_rounds.new.sink)))
    (sym (fold-append (goes_on items) begin (kept_asks rows) (rounds_asks c.args.budget n)) ∙ ap (fold (goes_on items) begin) split)
    (c.finish_rounds.ensures.ok items (fold (goes_on items) begin (kept_asks rows)) (g.K.Sink.held c.args.sink.now) taken
    (ap (λ (r : Stage). map item_of r.world.calls) taken.stage ∙ all_keep items (λ (s : State). map item_of s.calls) turn_same (kept_asks rows) begin ∙ are))

pub returns-in-Ok-clause-err : goal.returns-in-Ok-clause-err
returns-in-Ok-clause-err g c items plan =
    let first = c.args.world.now in
    let begin = begun first c.args.budget in
    let rows = c.deref.result.now in
    let n = length c.take_all.new.world.seats in
    let split = asks_are items rows n (length first.seats) c.args.budget (c.deref.ensures.value ∙ plan.turns) c.in-Ok.ensures.seats in
    let taken = c.in-Ok.ensures.ok items begin c.args.budget (g.K.Sink.held c.args.sink.now) (begins items g.T.Tells.TOLD first c.args.plan.marks c.args.budget (g.K.Sink.held c.args.sink.now) (plan.marks first)) in
    on_error c.finish_rounds.result _ _ (λ stops. subst (λ (l : List Asking). Stops items begin l c.finish_rounds.new.world (g.K.Sink.held c.args.sink.now) (g.K.Sink.held c.finish_rounds.new.sink)) split (stops_behind items begin (kept_asks rows) (rounds_asks c.args.budget n) c.finish_rounds.new.world (g.K.Sink.held c.args.sink.now) (g.K.Sink.held c.finish_rounds.new.sink) stops))
    (c.finish_rounds.ensures.err items (fold (goes_on items) begin (kept_asks rows)) (g.K.Sink.held c.args.sink.now) taken)

pub returns-clause-err : goal.returns-clause-err
returns-clause-err g c items plan =
    let first = c.args.world.now in
    let begin = begun first c.args.budget in
    let rows = c.deref.result.now in
    let n = length c.take_all.new.world.seats in
    let split = asks_are items rows n (length first.seats) c.args.budget (c.deref.ensures.value ∙ plan.turns) c.in-Err.ensures.seats in
    subst (λ (l : List Asking). Stops items begin l c.take_all.new.world (g.K.Sink.held c.args.sink.now) (g.K.Sink.held c.take_all.new.sink)) split
    (stops_before items begin (kept_asks rows) (rounds_asks c.args.budget n) c.take_all.new.world (g.K.Sink.held c.args.sink.now) (g.K.Sink.held c.take_all.new.sink) (c.in-Err.ensures.err items begin c.args.budget (g.K.Sink.held c.args.sink.now) (begins items g.T.Tells.TOLD first c.args.plan.marks c.args.budget (g.K.Sink.held c.args.sink.now) (plan.marks first))))
