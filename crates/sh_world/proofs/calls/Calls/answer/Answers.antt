use Rattle.std.proofs.{Common.{rules, ◌<◌, ◌≤◌, ◌∙◌, arith, length, refl}, lemmas.Option.{slice_get_read}}
use Rattle.sh_world.proofs.RowLemmas.{answered_is, answered_keeps, kept_long, room_reserved, rows_fit}
use Rattle.sh_world.proofs.calls.Calls.answer.Goals as goal

pub prove-unreachable-requires : goal.prove-unreachable-requires
prove-unreachable-requires c = search (rules, kept_long)

pub overflow_sub-owed : goal.overflow_sub-owed
overflow_sub-owed c =
    let i = c.self.inside in
    let r = room_reserved i.cfg.parts i.kept.items i.words.items i.rows.items i.owed _ c.self.invariant c.args.self.now c.self.view_is c.args.place _ c.get.ensures (c.requires.waits _ c.get.ensures) in
    omega (arith, r, c.room_words.ensures.value)

pub push_rows-requires-clause-room : goal.push_rows-requires-clause-room
push_rows-requires-clause-room c =
    let i = c.self.inside in
    let r = rows_fit i.cfg.parts i.kept.items i.words.items i.rows.items i.owed _ c.self.invariant c.args.self.now c.self.view_is c.args.place _ c.get.ensures (c.requires.waits _ c.get.ensures) c.args.rows.now c.requires.rows (c.requires.keys _ c.get.ensures) c.value_words-width.result c.value_words-width.ensures in
    omega (arith, r, i.rows.ok.0)

pub invariant_of-self : goal.invariant_of-self
invariant_of-self c =
    let i = c.self.inside in
    let w = c.value_words-width.result in
    let lt : c.args.place < length i.kept.items = omega (arith, c.if-prove.false, c.len.ensures, i.kept.ok.0) in
    let long : w ≤ length c.reply_words-words.result = omega (arith, c.reply_words-words.ensures.length, c.value_words-width.ensures, i.cfg.lawful.ranged.value_words.1) in
    answered_keeps i.cfg.parts i.kept.items i.words.items i.rows.items i.owed _ c.self.invariant c.args.self.now c.self.view_is c.args.place _ c.get.ensures (c.requires.waits _ c.get.ensures) c.args.rows.now c.requires.rows (c.requires.keys _ c.get.ensures) w c.value_words-width.ensures
    c.requires.values c.index_mut-kept.result.now (slice_get_read i.kept.items _ c.args.place c.index_mut-kept.result.now refl lt c.index_mut-kept.ensures.value) c.push_rows.new.words.items c.push_rows.ensures.items c.len-start.result (c.len-start.ensures ∙ i.rows.ok.0)
    c.args.reply.now c.reply_kind_of-kept.result c.reply_kind_of-kept.ensures c.reply_words-words.result long c.reply_words-words.ensures.back c.deref_mut.result.now c.write_words.new.words c.deref_mut.ensures.value c.write_words.ensures.long c.write_words.ensures.written i.words.len _ i.words.ok.0 c.args.first c.args.point
    c.room_words.result _ c.room_words.ensures.value (let longer = c.push_rows.ensures.len in omega (arith, longer, i.rows.ok.0, c.push_rows.new.words.ok.0)) c.push_rows.ensures.room

pub returns : goal.returns
returns c =
    let i = c.self.inside in
    let w = c.value_words-width.result in
    let lt : c.args.place < length i.kept.items = omega (arith, c.if-prove.false, c.len.ensures, i.kept.ok.0) in
    let long : w ≤ length c.reply_words-words.result = omega (arith, c.reply_words-words.ensures.length, c.value_words-width.ensures, i.cfg.lawful.ranged.value_words.1) in
    answered_is i.cfg.parts i.kept.items i.words.items i.rows.items i.owed _ c.self.invariant c.args.self.now c.self.view_is c.args.place _ c.get.ensures (c.requires.waits _ c.get.ensures) c.args.rows.now c.requires.rows (c.requires.keys _ c.get.ensures) w c.value_words-width.ensures
    c.requires.values c.index_mut-kept.result.now (slice_get_read i.kept.items _ c.args.place c.index_mut-kept.result.now refl lt c.index_mut-kept.ensures.value) c.push_rows.new.words.items c.push_rows.ensures.items c.len-start.result (c.len-start.ensures ∙ i.rows.ok.0)
    c.args.reply.now c.reply_kind_of-kept.result c.reply_kind_of-kept.ensures c.reply_words-words.result long c.reply_words-words.ensures.back c.deref_mut.result.now c.write_words.new.words c.deref_mut.ensures.value c.write_words.ensures.long c.write_words.ensures.written i.words.len _ i.words.ok.0 c.args.first c.args.point
