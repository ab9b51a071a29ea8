use Rattle.std.proofs.Common.{ℕ, ◌+◌, ◌*◌, ◌<◌, ◌≤◌, List, sym, subst, arith}
use Rattle.std.{specs.Prelude.{◌^◌}, proofs.lemmas.Nat.{mul-le}}
use Rattle.sh_base.specs.Places.{Counter}
use Rattle.sh_state.specs.{Ground.{Ground}, Change.{Change}}
use Rattle.sh_acts.{specs.{Acts.{counted, drawn}, Counters.{IsAmong}}, proofs.{Own.{fresh_act, spent_act, draw_act, drawn_mine, bounded, raises}, Events.{added}}}
use Rattle.sh_acts.proofs.fresh_nodes.own_nodes.Goals as goal

pub returns-clause-filled : goal.returns-clause-filled
returns-clause-filled c = λ words s seat n offset word g e lt. fresh_act c.args.cfg.now.parts words s g seat n offset word e lt

pub returns-clause-drawn : goal.returns-clause-drawn
returns-clause-drawn c = λ words s seat server g lt room.
    let p = c.args.cfg.now.parts in
    let t = drawn p s server seat in
    let few : s.counter server + 1 < 2 ^ 64 = omega (arith, room, c.args.cfg.now.lawful.ranged.chunks.1) in
    subst (λ (now : List ℕ). Change p seat s t × Ground p now t) (sym (added words _ (s.counter server) (g.shows.each (Counter server) lt) few)) (draw_act p words s g seat server lt room)

pub returns-clause-spent : goal.returns-clause-spent
returns-clause-spent c = λ words s seat server g lt le.
    let p = c.args.cfg.now.parts in
    let t = counted s server in
    let ranged = c.args.cfg.now.lawful.ranged in
    let seats : p.computes * p.seats ≤ 64 = mul-le p.computes p.seats 8 8 ranged.computes.1 ranged.seats.1 in
    let few : s.counter server + 1 < 2 ^ 64 = omega (arith, le, ranged.chunks.1, seats) in
    subst (λ (now : List ℕ). Change p seat s t × Ground p now t) (sym (added words _ (s.counter server) (g.shows.each (Counter server) lt) few)) (spent_act p words s g seat server lt)

pub returns-clause-bounded : goal.returns-clause-bounded
returns-clause-bounded c = λ limit seats counter wants b. bounded limit seats counter (λ i. IsAmong i wants) b

pub returns-clause-raised : goal.returns-clause-raised
returns-clause-raised c = λ limit seats counter seat wants now b lt is ends back. raises limit seats counter (λ i. IsAmong i wants) b seat (λ i. IsAmong i now) lt is ends back

pub returns-clause-mine : goal.returns-clause-mine
returns-clause-mine c = λ s seat server n h. drawn_mine c.args.cfg.now.parts s seat server n h
