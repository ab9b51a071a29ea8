use Rattle.std.proofs.Common.{below_more, length, ◌<◌, refl, ap, sym, ◌∙◌, arith}
use Rattle.sh_map.{specs.Log.{changed}, proofs.{EntryLemmas.{next_here}, ReplyLemmas.{map_next}}}
use Rattle.sh_map.proofs.entries.first_unfit_entry.Goals as goal

pub loop-at-preserved : goal.loop-at-preserved
loop-at-preserved c =
    let log = c.args.log.now in
    let at = c.loop-at.at in
    let in_range : at < length log = omega arith in
    let next = c.if-not-is_next.ensures.0 refl in
    record {
      fits = below_more _ _ c.loop-at.invariant.fits (
        next_here log at c.index-log-at.result c.loop-at.map in_range c.index-log-at.is c.loop-at.invariant.map (next.0 ∙ c.in_ok-before.ensures.before, next.1),
        c.if-not-has_owner.ensures.0 refl,
      );
      map = c.in_ok-before.ensures.ok ∙ ap (λ m. changed m c.index-log-at.result.change) c.loop-at.invariant.map ∙ sym (map_next log at c.index-log-at.result in_range c.index-log-at.is);
    }

pub returns : goal.returns
returns c = λ i h. c.loop-at.invariant.fits i (omega arith)
