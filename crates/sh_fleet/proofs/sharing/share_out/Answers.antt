use Rattle.std.proofs.Common.{◌≡◌, ◌<◌, ◌+◌, ◌∷◌, [], ◌++◌, rules, arith, drop, length, sym, subst, slice_index_or, slice_set, vec_len, ℕ}
use Rattle.std.specs.Vec.Iter.{into_iter_items, into_iter_len}
use Rattle.sh_base.specs.{Parts.{parts_of}}
use Rattle.sh_fleet.specs.{declared.sharing.Share.{Share}, Sharing.{AreShares, AreUnused, AreWorks, IsBegun}}
use Rattle.sh_fleet.proofs.BeginLemmas.{begun_more, laid_long, laid_unused, unused_left}
use Rattle.sh_fleet.proofs.sharing.share_out.Goals as goal

pub loop-pass-init : goal.loop-pass-init
loop-pass-init c =
    let gives = c.into_iter-pass-iterator.ensures.into_iter_gives in
    let long = laid_long _ _ _ c.requires.laid in
    let none = c.in_ok-works.ensures.len in
    let unused = subst (AreUnused (parts_of c.args.cfg.now) c.args.pool.now.laid 0) (sym gives.0) (laid_unused _ _ _ c.requires.laid c.requires.ready) in
    (omega (arith, none, gives.1, long, c.args.passes.ok.0), omega (arith, none, gives.1, c.in_ok-works.ensures.capacity, c.len.ensures), c.in_ok-shares.ensures.long, subst (λ (n : ℕ). AreUnused (parts_of c.args.cfg.now) c.args.pool.now.laid n (into_iter_items c.into_iter-pass-iterator.result)) (sym none) unused, subst (λ (n : ℕ). AreShares (parts_of c.args.cfg.now) c.args.items.now c.args.items.now n (drop n c.in_ok-shares.shares.items)) (sym none) c.in_ok-shares.ensures.shares, subst (AreWorks (parts_of c.args.cfg.now) c.args.pool.now.laid c.args.items.now 0) (sym c.in_ok-works.ensures.items) tt)

pub loop-pass-preserved : goal.loop-pass-preserved
loop-pass-preserved c =
    let step = c.in-Some.ensures.steps in
    let gives : into_iter_items c.loop-pass.pass-iterator ≡ c.in-Some.pass ∷ into_iter_items c.next.new.self = grind rules in
    let left : into_iter_len c.loop-pass.pass-iterator ≡ into_iter_len c.next.new.self + 1 = grind rules in
    let pushed : vec_len c.push_reserved.new.self ≡ vec_len c.loop-pass.works + 1 = search rules in
    let items : c.push_reserved.new.self.items ≡ c.loop-pass.works.items ++ c.in_ok-work_of.field-0 ∷ [] = search rules in
    let was = c.loop-pass.invariant in
    let lt : vec_len c.loop-pass.works < length c.loop-pass.shares.items = omega (arith, left, was.0, was.2, c.loop-pass.shares.ok.0) in
    let unused = subst (AreUnused (parts_of c.args.cfg.now) c.args.pool.now.laid (vec_len c.loop-pass.works)) gives was.3 in
    let rest = unused_left _ _ c.args.items.now _ _ _ _ c.loop-pass.shares.items c.replace-share.new.dest pushed lt unused was.4 in
    let here = subst (λ (k : ℕ). c.index_mut.result.now ≡ slice_index_or c.loop-pass.shares.items k c.index_mut.result.now) c.len-seat.ensures c.index_mut.ensures.value in
    let begun = subst (λ (s : Share). IsBegun c.in-Some.pass s c.in_ok-work_of.field-0) c.replace-share.ensures.value c.in_ok-work_of.ensures in
    let done = begun_more _ _ _ _ _ _ _ c.index_mut.result.now _ c.in_ok-work_of.field-0 c.loop-pass.works.ok.0 lt unused was.4 here was.5 begun in
    (omega (arith, was.0, left, pushed), omega (arith, was.1, left, pushed, c.push_reserved.ensures.capacity), was.2, rest.0, subst (λ (k : ℕ). AreShares (parts_of c.args.cfg.now) c.args.items.now c.args.items.now (vec_len c.push_reserved.new.self) (drop (vec_len c.push_reserved.new.self) (slice_set c.loop-pass.shares.items k c.replace-share.new.dest))) (sym c.len-seat.ensures) rest.1, subst (AreWorks (parts_of c.args.cfg.now) c.args.pool.now.laid c.args.items.now 0) (sym items) done)
