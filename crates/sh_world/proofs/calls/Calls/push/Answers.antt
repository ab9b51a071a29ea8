use Rattle.std.proofs.Common.{◌∙◌, ◌++◌, ◌∷◌, [], ap, arith}
use Rattle.sh_world.{specs.{declared.calls.ReplyKind.TheVariants.{Waiting}, States.{fresh_call}, Columns.{Listed}}, proofs.RowLemmas.{pushed_is, pushed_keeps}}
use Rattle.sh_world.proofs.calls.Calls.push.Goals as goal

pub invariant_of-self-2 : goal.invariant_of-self-2
invariant_of-self-2 c =
    let i = c.self.inside in
    let more = c.push_reserved.ensures.items ∙ (λ t. c.reserve.ensures.items t ++ record { key = c.call_key.ensures t; seat = c.args.seat; first = 0; point = 0; start = 0; count = 0; call = c.kind_of.ensures t; reply = Waiting } ∷ []) in
    let rows = c.reserve-2.ensures.items in
    pushed_keeps i.cfg.parts i.kept.items i.words.items i.rows.items i.owed _ c.self.invariant _ _ _ _ c.call_words-words.result c.args.seat c.args.call.now c.value_words-width.ensures more c.in_ok-extend_from_slice.ensures.items rows c.call_words-words.ensures.back
    c.room_words.result _ c.room_words.ensures.value (omega (arith, c.call_words-words.ensures.length, c.value_words-width.ensures, i.cfg.lawful.ranged.value_words.1))
    (omega (arith, c.in_ok-reserve-2.ensures.ok, c.reserve-2.ensures.len, c.reserve-2.new.self.ok.0))

pub returns-clause-ok : goal.returns-clause-ok
returns-clause-ok c =
    let i = c.self.inside in
    let more = c.push_reserved.ensures.items ∙ (λ t. c.reserve.ensures.items t ++ record { key = c.call_key.ensures t; seat = c.args.seat; first = 0; point = 0; start = 0; count = 0; call = c.kind_of.ensures t; reply = Waiting } ∷ []) in
    ap (λ cs. record { setting = i.cfg.parts; calls = cs }) (pushed_is i.cfg.parts i.kept.items i.words.items i.rows.items i.owed _ c.self.invariant _ _ _ _ c.call_words-words.result c.args.seat c.args.call.now c.value_words-width.ensures more c.in_ok-extend_from_slice.ensures.items c.reserve-2.ensures.items c.call_words-words.ensures.back)
    ∙ ap (λ (l : Listed). record { setting = l.setting; calls = l.calls ++ fresh_call c.args.seat c.args.call.now ∷ [] }) c.self.view_is
