use Rattle.std.proofs.Common.{[], length, None, Some, refl, inl, inr, sym}
use Rattle.sh_base.specs.{Layout.{lock_of}, Memory.{found_by}}
use Rattle.sh_core.specs.{Actors.{actor_begun, rested, actor_stepped, actor_turned}, Opening.{entered}, Listed.{HasAt, OutAt, without}}
use Rattle.sh_core.proofs.Lists.{none_at, list_moves, push_moves, end_is_free, without_back, without_on}
use Rattle.sh_core_turns.proofs.{Opening.{laid_keeps, enter_keeps}, Calls.{begin_keeps, rest_keeps}, Turns.{turn_keeps}, LocalLaws.{local_keeps, look_keeps, take_keeps, part_keeps}}
use Rattle.sh_core_turns.proofs.clients_take_turns.Goals as goal

pub returns-clause-laid : goal.returns-clause-laid
returns-clause-laid c = λ words laid. laid_keeps c.args.cfg.now.parts c.args.cfg.now.lawful words (HasAt []) (OutAt []) laid (λ seat a h. absurd (none_at seat a h)) (λ lock compute depth o. o)

pub returns-clause-entered : goal.returns-clause-entered
returns-clause-entered c = λ words log actors rights inv lt. let p = c.args.cfg.now.parts in enter_keeps p c.args.cfg.now.lawful words log (HasAt actors) _ (OutAt rights) (length actors) inv lt (end_is_free actors) (push_moves actors (entered p (length actors)))

pub returns-clause-begun : goal.returns-clause-begun
returns-clause-begun c = λ words log actors rights seat number n a call inv h rest lawful past within. begin_keeps c.args.cfg.now.parts c.args.cfg.now.lawful words log (HasAt actors) _ (OutAt rights) seat number n a call inv h rest lawful past within (list_moves actors seat a (actor_begun a number call n) h)

pub returns-clause-turn : goal.returns-clause-turn
returns-clause-turn c = λ words log actors rights seat a e inv h wants. turn_keeps c.args.cfg.now.parts c.args.cfg.now.lawful words log (HasAt actors) _ (OutAt rights) seat a e inv h wants (list_moves actors seat a (actor_stepped seat a log (found_by words e)) h)

pub returns-clause-local : goal.returns-clause-local
returns-clause-local c = λ words log seen actors rights seat word a inv h is saw. local_keeps c.args.cfg.now.parts c.args.cfg.now.lawful words log seen (HasAt actors) _ (OutAt rights) seat word a inv h is saw (list_moves actors seat a (actor_stepped seat a seen word) h)

pub returns-clause-look : goal.returns-clause-look
returns-clause-look c = λ words log seen actors rights seat n a aim inv h is saw. look_keeps c.args.cfg.now.parts c.args.cfg.now.lawful words log seen (HasAt actors) _ (OutAt rights) seat a aim n inv h is saw (list_moves actors seat a (actor_turned seat a seen None) h)

pub returns-clause-take : goal.returns-clause-take
returns-clause-take c = λ words log seen actors rights seat n depth a aim inv h is saw out.
    let lock = lock_of c.args.cfg.now.parts n in
    take_keeps c.args.cfg.now.parts c.args.cfg.now.lawful words log seen (HasAt actors) _ (OutAt rights) (OutAt (without lock rights)) seat a aim n depth inv h is saw out (λ l k d. without_back rights lock l k d) (λ l k d. without_on rights lock l k d) (list_moves actors seat a (actor_turned seat a seen (Some depth)) h)

pub returns-clause-part : goal.returns-clause-part
returns-clause-part c = λ words log seen actors rights seat word n depth a after inv h is saw.
    part_keeps c.args.cfg.now.parts c.args.cfg.now.lawful words log seen (HasAt actors) _ (OutAt rights) _ seat word a n depth after inv h is saw (inl (refl, refl, refl)) (λ l k d o. elim o [ inl e ↦ inl (sym e.0, sym e.1, sym e.2) | inr r ↦ inr r ]) (λ l k d o. inr o) (list_moves actors seat a (actor_stepped seat a seen word) h)

pub returns-clause-ended : goal.returns-clause-ended
returns-clause-ended c = λ words log actors rights seat a inv h is. rest_keeps c.args.cfg.now.parts c.args.cfg.now.lawful words log (HasAt actors) _ (OutAt rights) seat a inv h is (list_moves actors seat a (rested a) h)
