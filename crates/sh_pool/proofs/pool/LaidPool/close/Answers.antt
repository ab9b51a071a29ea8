use Rattle.std.{proofs.Common.{rules, ◌≡◌, ◌<◌, ℕ, List, ap, sym, subst, ◌∙◌, refl, arith}}
use Rattle.sh_base.specs.{declared.config.ConfigParts.{ConfigParts}, Parts.{parts_of}}
use Rattle.sh_client.proofs.WithinLemmas.{root_within}
use Rattle.sh_logic.proofs.Lists.{all_weaker}
use Rattle.sh_local.specs.{Calls.{given, taken, total}, Chairs.{AreAll, Sitting}}
use Rattle.sh_pool_rule.{specs.{declared.view.PassView.{PassView}}, proofs.BesideLemmas.{entering}}
use Rattle.sh_pool.specs.{Handed.{Handed}, Passes.{PoolTable, Standing}, Gathering.{AreAllPasses, IsGatheredFrom}, declared.right.Knower.{Knower}}
use Rattle.sh_pool.proofs.GatherLemmas.{chairs_all, closes}
use Rattle.sh_pool.proofs.pool.LaidPool.close.Goals as goal

pub load_new_seat-last-requires : goal.load_new_seat-last-requires
load_new_seat-last-requires c =
    let p : ConfigParts = parts_of c.self.inside.table.shared.key in (
      subst (λ (n : ℕ). 0 < n) (sym c.self.invariant.1) (let w = root_within p in omega (arith, w)),
      (λ s r homes small. let e = entering p c.self.inside.table.shared.table_id.slots 0 s r homes small in (e.0, e.1, (e.2, refl))),
    )

pub take_all-chairs-requires-clause-table : goal.take_all-chairs-requires-clause-table
take_all-chairs-requires-clause-table c = search (rules, root_within)

pub take_all-chairs-requires-clause-passes : goal.take_all-chairs-requires-clause-passes
take_all-chairs-requires-clause-passes c = search (rules, all_weaker)

pub gather-requires : goal.gather-requires
gather-requires c =
    let t : PoolTable = record { table = c.self.inside.table.shared.table_id; setting = parts_of c.self.inside.table.shared.key; cells = c.self.inside.cells } in
    let all : AreAllPasses t c.args.passes.items = subst (λ (x : PoolTable). AreAllPasses x c.args.passes.items) (sym c.self.view_is) c.requires.all in
    let e = c.take_all-chairs.ensures in
    subst (AreAll t.cells) (sym e.chairs) (chairs_all t t.cells refl c.self.invariant.2 c.args.passes.items all e.passes)

pub returns : goal.returns
returns c =
    let t : PoolTable = record { table = c.self.inside.table.shared.table_id; setting = parts_of c.self.inside.table.shared.key; cells = c.self.inside.cells } in
    let qs : List Standing = c.args.passes.items in
    let all : AreAllPasses t qs = subst (λ (x : PoolTable). AreAllPasses x qs) (sym c.self.view_is) c.requires.all in
    let e = c.take_all-chairs.ensures in
    let last = c.take_all-chairs.new.last in
    let f = c.close_with.ensures.values.2 in
    let even = subst (λ (cs : List (Sitting Handed Knower)). total (λ (s : Sitting Handed Knower). given s.view) cs ≡ total (λ (s : Sitting Handed Knower). taken s.view) cs) e.chairs c.gather.ensures.gathered.even in
    subst (λ (x : PoolTable). IsGatheredFrom x.setting qs c.read_out.result.items) c.self.view_is
    (subst (IsGatheredFrom t.setting qs) (f.2 ∙ sym c.read_out.ensures) (closes t f.0.words qs all e.passes f.0.views f.1.0 last.id last.me.0 f.1.1 (ap (λ (m : PassView × List (ℕ × Unit {0})). m.0) e.seat.1) even))
