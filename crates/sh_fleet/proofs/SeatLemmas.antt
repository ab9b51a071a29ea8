-- What a seat's items come to, one by one.
use Rattle.std.proofs.Common.{◌≡◌, ◌≤◌, ◌<◌, ◌-◌, ◌+◌, ℕ, zero, suc, List, [], ◌∷◌, ◌++◌, map, length, take, drop, refl, sym, ap, ap₂, subst, length-append, append-nil, ◌∙◌, arith}
use Rattle.std.{specs.{Prelude.{All, AllPairs, slice_index_or, Bool, true, false, ◌==◌, Option, Some, None, filter, slice_get, nat_le, if◌then◌else◌}, Option.{option_map}}, proofs.lemmas.{Bool.Decides.{nat_tests}, List.{drop-append-le, length-drop, length-map, map-append, take-append-le, Elements.{filter-append}, Sums.{sum_by-append, sum_by-cons}}, Option.{get_or_from_slice_get, slice_get-map, slice_get_read}}}
use Rattle.std.proofs.Math.Seq.{take-length}
use Rattle.sh_logic.proofs.Options.{some_is, some_none}
use Rattle.sh_base.specs.declared.config.ConfigParts.{ConfigParts}
use Rattle.sh_map.specs.{declared.{book.{Done.{Done}, Row.{Row}}, call.{Call.{Call, TheVariants.{Get, Put, Del, Range}}, Reply.{Reply}}, log.Entry.{Entry}}, Book.{AnswersAt}}
use Rattle.sh_map.specs.declared.call.Reply.TheVariants as reply
use Rattle.sh_sheet.specs.{declared.item.Item.{Item, TheVariants.{Ask, Mark, After, Turn}}, Sheet.{done_item, is_call, item_calls, item_seat, rows_of}}
use Rattle.sh_core.specs.Actors.{Actor, AreAnswered, HasOwnRows, IsAnswered}
use Rattle.sh_client.specs.Rests.{is_resting, rows_told as machine_rows}
use Rattle.sh_pool_rule.specs.Views.{view_seat}
use Rattle.sh_pool.specs.{Calls.{HasServed}, Passes.{pass_actor, PoolTable, Standing}, Pools.{IsOfTables}}
use Rattle.sh_fleet.specs.{declared.{answers.{Answer.{Answer}, Answers.{Answers}}, work.{Place.{Place}, Work.{Work}}}, Sharing.{answers_in, answers_of, items_of, rows_told, told, told_of, AreOrdered, ArePlaces, HasAsked, HasLearned, HasRoom, HasServedItem, IsWork, KeepsRest}}
use Rattle.sh_fleet.{specs.{Boards.{want_at, want_by, IsMaker, StandsAt}, Wants.{heeds_of, is_after, no_tally, stand, tally_from, Heed, Want}}, proofs.HeardLemmas.{heard_asked, heard_learnt, heard_same, calls_before, heed_at, learnt_before}}

-- rows that rise between two bounds are no more than the numbers between them
rising_few : (low high : ℕ) (rows : List Row) → AllPairs (λ (x y : Row). x.key < y.key) rows → All (λ (x : Row). (low ≤ x.key) × (x.key < high)) rows → length rows ≤ high - low
rising_few low high [] ps all = omega arith
rising_few low high (r ∷ rs) ps all =
    let rest = rising_few (suc r.key) high rs (λ i j d lt below. ps (suc i) (suc j) d (omega (arith, lt)) (omega (arith, below))) (λ k d below. (ps 0 (suc k) d (omega arith) (omega (arith, below)), (all (suc k) d (omega (arith, below))).1)) in
    let here = all 0 r (omega arith) in
    omega (arith, rest, here.0, here.1)

least_fits : (n a b : ℕ) → n ≤ a → n ≤ b → n ≤ (if nat_le a b then a else b)
least_fits n a b one two = grind (arith, nat_tests)

range_few : (p : ConfigParts) (seat low high : ℕ) (log : List Entry) (d : Done) (r : Reply) → AnswersAt log d (Range low high) r → length d.rows ≤ p.rows → length d.rows ≤ rows_of p (Ask seat (Range low high))
range_few p seat low high log d (reply.Rows upto) h few =
    let n = rising_few low upto d.rows h.2.rising h.2.within in
    least_fits (length d.rows) p.rows (high - low) few (omega (arith, n, h.0, h.1))
range_few p seat low high log d (reply.Some value) h few = elim h [ ]
range_few p seat low high log d reply.None h few = elim h [ ]
range_few p seat low high log d reply.Full h few = elim h [ ]
range_few p seat low high log d (reply.Worn version) h few = elim h [ ]

answer_few : (p : ConfigParts) (seat : ℕ) (log : List Entry) (d : Done) (call : Call) → AnswersAt log d call d.reply → HasOwnRows call d.rows → length d.rows ≤ p.rows → length d.rows ≤ rows_of p (Ask seat call)
answer_few p seat log d (Get key) h own few = omega (arith, ap length own)
answer_few p seat log d (Put key value) h own few = omega (arith, ap length own)
answer_few p seat log d (Del key) h own few = omega (arith, ap length own)
answer_few p seat log d (Range low high) h own few = range_few p seat low high log d d.reply h few

last_answered : (log : List Entry) (seat : ℕ) (xs : List Done) (d : Done) → AreAnswered log seat (xs ++ d ∷ []) → IsAnswered log seat d
last_answered log seat [] d h = h.0
last_answered log seat (x ∷ xs) d h = last_answered log seat xs d h.1

pub served_few : (seat : ℕ) (call : Call) (r : Reply) (q t : Standing) → HasServed call r q t → length (machine_rows t.client) ≤ rows_of t.client.setting (Ask seat call)
served_few seat call r q t h =
    let d = h.done in
    let k = view_seat q.view in
    let last : IsAnswered t.view.seen k d = last_answered t.view.seen k (pass_actor q).dones d (subst (λ (xs : List Done). AreAnswered t.view.seen k xs) h.dones h.answered.answered) in
    let few : length d.rows ≤ t.client.setting.rows = omega (arith, ap length h.rows_are, h.few_rows) in
    let n = answer_few t.client.setting seat t.view.seen d call (subst (λ (c : Call). AnswersAt t.view.seen d c d.reply) h.call_is last.answers.row) (subst (λ (c : Call). HasOwnRows c d.rows) h.call_is last.rows) few in
    omega (arith, n, ap length h.rows_are)

placed : (x o : Option Item) → Some x ≡ option_map (λ (i : Item). Some i) o → (it : Item) × (x ≡ Some it) × (o ≡ Some it)
placed x None h = absurd (some_none h)
placed x (Some it) h = (it, some_is h, refl)

pub split_at : {A : Type 0} (mine : List A) (k : ℕ) (it : A) → slice_get mine k ≡ Some it → (drop k mine ≡ it ∷ drop (suc k) mine) × (take (suc k) mine ≡ take k mine ++ it ∷ [])
split_at [] k it h = absurd (some_none (sym h))
split_at (x ∷ xs) zero it h = let is = some_is h in (ap (λ i. i ∷ xs) is, ap (λ i. i ∷ []) is)
split_at (x ∷ xs) (suc k) it h = let s = split_at xs k it h in (s.0, ap (λ ys. x ∷ ys) s.1)

pub same_setting : (o : Option PoolTable) (q t : Standing) → IsOfTables o q → IsOfTables o t → t.client.setting ≡ q.client.setting
same_setting None q t a b = absurd a
same_setting (Some pool) q t a b = b.setting ∙ sym a.setting

pub fits_rows : (o : Option PoolTable) (seat : ℕ) (call : Call) (r : Reply) (q t : Standing) → IsOfTables o q → IsOfTables o t → HasServed call r q t → length (machine_rows t.client) ≤ rows_of q.client.setting (Ask seat call)
fits_rows o seat call r q t a b h = subst (λ (p : ConfigParts). length (machine_rows t.client) ≤ rows_of p (Ask seat call)) (same_setting o q t a b) (served_few seat call r q t h)

-- the item at the seat's next place is the next one of the seat's
pub item_here : (items mine : List Item) (places : List Place) (k : ℕ) (a : Place) → ArePlaces items mine places → slice_get places k ≡ Some a → (it : Item) × (slice_get items a.at ≡ Some it) × (slice_get mine k ≡ Some it)
item_here items mine places k a h here =
    let left : slice_get (map (λ (x : Place). slice_get items x.at) places) k ≡ Some (slice_get items a.at) = slice_get-map (λ (x : Place). slice_get items x.at) places k ∙ ap (option_map (λ (x : Place). slice_get items x.at)) here in
    let right : slice_get (map (λ (i : Item). Some i) mine) k ≡ option_map (λ (i : Item). Some i) (slice_get mine k) = slice_get-map (λ (i : Item). Some i) mine k in
    placed (slice_get items a.at) (slice_get mine k) (sym left ∙ (ap (λ ys. slice_get ys k) h ∙ right))

seat_by : (seat : ℕ) (x : Item) (xs : List Item) (k : ℕ) (it : Item) (b : Bool) → (item_seat x == seat) ≡ b → slice_get (if b then x ∷ items_of seat xs else items_of seat xs) k ≡ Some it
    → ((j : ℕ) (i : Item) → slice_get (items_of seat xs) j ≡ Some i → item_seat i ≡ seat) → item_seat it ≡ seat
seat_by seat x xs k it false is h more = more k it h
seat_by seat x xs zero it true is h more = ap item_seat (sym (some_is h)) ∙ grind (arith, nat_tests, is)
seat_by seat x xs (suc k) it true is h more = more k it h

-- an item of a seat's is of that seat
pub of_seat : (seat : ℕ) (items : List Item) (k : ℕ) (it : Item) → slice_get (items_of seat items) k ≡ Some it → item_seat it ≡ seat
of_seat seat [] k it h = absurd (some_none (sym h))
of_seat seat (x ∷ xs) k it h = seat_by seat x xs k it (item_seat x == seat) refl h (of_seat seat xs)

answer_one : (rows more : List Row) (r : Reply) → 0 ≡ length rows → answers_in (record { reply = r; rows = length more } ∷ []) (rows ++ more) ≡ told r more ∷ []
answer_one [] more r h = ap (λ ys. told r ys ∷ []) (take-length more)
answer_one (x ∷ xs) more r h = absurd (omega (arith, h))

answer_step : (x : Answer) (xs : List Answer) (rows more : List Row) (r : Reply) → rows_told (x ∷ xs) ≡ length rows → (rows_told xs ≡ length (drop x.rows rows) → answers_in (xs ++ record { reply = r; rows = length more } ∷ []) (drop x.rows rows ++ more) ≡ answers_in xs (drop x.rows rows) ++ told r more ∷ [])
    → answers_in (x ∷ (xs ++ record { reply = r; rows = length more } ∷ [])) (rows ++ more) ≡ told x.reply (take x.rows rows) ∷ (answers_in xs (drop x.rows rows) ++ told r more ∷ [])
answer_step x xs rows more r h rest =
    let n : rows_told (x ∷ xs) ≡ x.rows + rows_told xs = sum_by-cons (λ (y : Answer). y.rows) x xs in
    let fits : x.rows ≤ length rows = omega (arith, n, h) in
    let left : rows_told xs ≡ length (drop x.rows rows) = omega (arith, n, h, length-drop x.rows rows) in
    rw (take-append-le x.rows rows more fits, drop-append-le x.rows rows more fits, rest left) refl

-- the answers with one more
pub answer_more : (xs : List Answer) (rows more : List Row) (r : Reply) → rows_told xs ≡ length rows → answers_in (xs ++ record { reply = r; rows = length more } ∷ []) (rows ++ more) ≡ answers_in xs rows ++ told r more ∷ []
answer_more [] rows more r h = answer_one rows more r h
answer_more (x ∷ xs) rows more r h = answer_step x xs rows more r h (answer_more xs (drop x.rows rows) more r)

-- room for the items behind the first one
room_asked : (p : ConfigParts) (seat : ℕ) (call : Call) (rest : List Item) (v w : Work) (r : Reply) (t : Standing) → HasAsked call v w → w.pass ≡ t → length (machine_rows t.client) ≤ rows_of p (Ask seat call) → HasRoom p (Ask seat call ∷ rest) v.answers → HasRoom p rest w.answers
room_asked p seat call rest v w r t h is few room =
    let it = Ask seat call in
    let one : Answer = record { reply = h.reply; rows = length (machine_rows w.pass.client) } in
    let n : length w.answers.replies.items ≡ length v.answers.replies.items + 1 = ap length h.replies ∙ length-append v.answers.replies.items (one ∷ []) in
    let m : length w.answers.rows.items ≡ length v.answers.rows.items + length (machine_rows w.pass.client) = ap length h.rows ∙ length-append v.answers.rows.items (machine_rows w.pass.client) in
    let few' : length (machine_rows w.pass.client) ≤ rows_of p it = subst (λ (q : Standing). length (machine_rows q.client) ≤ rows_of p it) (sym is) few in
    record {
      replies = omega (arith, n, h.reply_room, room.replies, sum_by-cons item_calls it rest);
      rows = omega (arith, m, few', h.row_room, room.rows, sum_by-cons (rows_of p) it rest);
    }

next_calls : (mine : List Item) (k : ℕ) (it : Item) (d : Done) (xs ys : List Done) → slice_get mine k ≡ Some it → done_item d ≡ it → ys ≡ xs ++ d ∷ [] → map done_item xs ≡ filter is_call (take k mine) → map done_item ys ≡ filter is_call (take (k + 1) mine)
next_calls mine k it d xs ys here is so h =
    let next : suc k ≡ k + 1 = omega arith in
    let parts = split_at mine k it here in
    let one : filter is_call (it ∷ []) ≡ it ∷ [] = subst (λ (i : Item). filter is_call (i ∷ []) ≡ i ∷ []) is refl in
    let left : map done_item ys ≡ map done_item xs ++ done_item d ∷ [] = ap (map done_item) so ∙ map-append done_item xs (d ∷ []) in
    let right : filter is_call (take (suc k) mine) ≡ filter is_call (take k mine) ++ it ∷ [] = ap (filter is_call) parts.1 ∙ (filter-append is_call (take k mine) (it ∷ []) ∙ ap (λ zs. filter is_call (take k mine) ++ zs) one) in
    left ∙ (ap₂ (λ zs z. zs ++ z ∷ []) h is ∙ (sym right ∙ ap (λ (n : ℕ). filter is_call (take n mine)) next))

-- the afters among the first items of a seat, with one item more
after_count : (mine : List Item) (k : ℕ) (it : Item) → slice_get mine k ≡ Some it → length (filter is_after (take (k + 1) mine)) ≡ length (filter is_after (take k mine)) + length (filter is_after (it ∷ []))
after_count mine k it here =
    let next : suc k ≡ k + 1 = omega arith in
    ap (λ (n : ℕ). length (filter is_after (take n mine))) (sym next) ∙ (ap (λ xs. length (filter is_after xs)) (split_at mine k it here).1 ∙ (ap length (filter-append is_after (take k mine) (it ∷ [])) ∙ length-append (filter is_after (take k mine)) (filter is_after (it ∷ []))))

asked_kept : (p : ConfigParts) (laid : Option PoolTable) (items : List Item) (seat : ℕ) (call : Call) (v w : Work) → IsWork p laid items seat v → v.next < length v.places.items → slice_get (items_of seat items) v.next ≡ Some (Ask seat call) → IsOfTables laid w.pass → HasAsked call v w → IsWork p laid items seat (record w { next = v.next + 1 })
asked_kept p laid items seat call v w old below here of h =
    let mine = items_of seat items in
    let it = Ask seat call in
    let d = h.served.done in
    let next : suc v.next ≡ v.next + 1 = omega arith in
    let parts = split_at mine v.next it here in
    let item_is : done_item d ≡ it = ap (λ (s : ℕ). Ask s d.call) (h.served.seat_is ∙ old.seat_is) ∙ ap (λ (c : Call). Ask seat c) h.served.call_is in
    let told_is : told_of d ≡ told h.reply (machine_rows w.pass.client) = ap (λ (r : Reply). told r d.rows) h.served.reply_is ∙ ap (told h.reply) h.served.rows_are in
    let setting = same_setting laid v.pass w.pass old.ready.0 of in
    let few = subst (λ (q : ConfigParts). length (machine_rows w.pass.client) ≤ rows_of q it) old.ready.2 (fits_rows laid seat call h.reply v.pass w.pass old.ready.0 of h.served) in
    let one : Answer = record { reply = h.reply; rows = length (machine_rows w.pass.client) } in
    let more = sum_by-append (λ (x : Answer). x.rows) v.answers.replies.items (one ∷ []) in
    record {
      ready = (of, h.served.rests, setting ∙ old.ready.2);
      seat_is = h.served.same_seat ∙ old.seat_is;
      places = subst (λ (ps : List Place). ArePlaces items mine ps) (sym h.places) old.places;
      order = subst (λ (ps : List Place). AreOrdered items seat mine ps) (sym h.places) old.order;
      next = omega (arith, below, ap length h.places);
      heard = heard_asked items seat v.next (v.next + 1) v.pass w.pass old.heard call h.reply h.served (omega (arith, after_count mine v.next it here));
      calls = next_calls mine v.next it d (pass_actor v.pass).dones (pass_actor w.pass).dones here item_is h.served.dones old.calls;
      told = ap (map told_of) h.served.dones ∙ (map-append told_of (pass_actor v.pass).dones (d ∷ []) ∙ (ap₂ (λ xs x. xs ++ x ∷ []) old.told told_is ∙ (sym (answer_more v.answers.replies.items v.answers.rows.items (machine_rows w.pass.client) h.reply old.counted) ∙ ap₂ answers_in (sym h.replies) (sym h.rows))));
      counted = ap rows_told h.replies ∙ (more ∙ omega (arith, old.counted, ap length h.rows, length-append v.answers.rows.items (machine_rows w.pass.client), sum_by-cons (λ (x : Answer). x.rows) one []));
      room = subst (λ (xs : List Item). HasRoom p xs w.answers) (ap (λ (k : ℕ). drop k mine) next) (room_asked p seat call (drop (suc v.next) mine) v w h.reply w.pass h refl few (subst (λ (xs : List Item). HasRoom p xs v.answers) parts.0 old.room));
    }

-- an item that is no call: the pass's calls and all but the pass stay
passed_over : (p : ConfigParts) (laid : Option PoolTable) (items : List Item) (seat : ℕ) (it : Item) (v w : Work) → IsWork p laid items seat v → v.next < length v.places.items → slice_get (items_of seat items) v.next ≡ Some it → IsOfTables laid w.pass → is_call it ≡ false → item_calls it ≡ 0 → rows_of p it ≡ 0
    → w.pass.client ≡ v.pass.client → view_seat w.pass.view ≡ view_seat v.pass.view → pass_actor w.pass ≡ pass_actor v.pass → KeepsRest v w → HasLearned items seat (v.next + 1) w.pass → IsWork p laid items seat (record w { next = v.next + 1 })
passed_over p laid items seat it v w old below here of not none no_rows client seat_same actor kept heard =
    let mine = items_of seat items in
    let next : suc v.next ≡ v.next + 1 = omega arith in
    let parts = split_at mine v.next it here in
    let none_of : filter is_call (it ∷ []) ≡ [] = rw not refl in
    let same : filter is_call (take (suc v.next) mine) ≡ filter is_call (take v.next mine) = ap (filter is_call) parts.1 ∙ (filter-append is_call (take v.next mine) (it ∷ []) ∙ (ap (λ zs. filter is_call (take v.next mine) ++ zs) none_of ∙ append-nil (filter is_call (take v.next mine)))) in
    let room = subst (λ (xs : List Item). HasRoom p xs v.answers) parts.0 old.room in
    let rest : HasRoom p (drop (suc v.next) mine) v.answers = record {
      replies = omega (arith, room.replies, sum_by-cons item_calls it (drop (suc v.next) mine), none);
      rows = omega (arith, room.rows, sum_by-cons (rows_of p) it (drop (suc v.next) mine), no_rows);
    } in
    record {
      ready = (of, ap is_resting client ∙ old.ready.1, ap (λ m. m.setting) client ∙ old.ready.2);
      seat_is = seat_same ∙ old.seat_is;
      places = subst (λ (ps : List Place). ArePlaces items mine ps) (sym kept.places) old.places;
      order = subst (λ (ps : List Place). AreOrdered items seat mine ps) (sym kept.places) old.order;
      next = omega (arith, below, ap length kept.places);
      heard = heard;
      calls = ap (λ (a : Actor). map done_item a.dones) actor ∙ (old.calls ∙ (sym same ∙ ap (λ (n : ℕ). filter is_call (take n mine)) next));
      told = ap (λ (a : Actor). map told_of a.dones) actor ∙ (old.told ∙ ap answers_of (sym kept.answers));
      counted = subst (λ (a : Answers). rows_told a.replies.items ≡ length a.rows.items) (sym kept.answers) old.counted;
      room = subst (λ (a : Answers). HasRoom p (drop (v.next + 1) mine) a) (sym kept.answers) (subst (λ (xs : List Item). HasRoom p xs v.answers) (ap (λ (k : ℕ). drop k mine) next) rest);
    }

-- ---- where a seat stands at its next item

module _ (p : ConfigParts) (laid : Option PoolTable) (items : List Item) (seat : ℕ) (v : Work) (old : IsWork p laid items seat v) (at : ℕ) (order : items_of seat (take at items) ≡ take v.next (items_of seat items)) where
  calls_here : length (pass_actor v.pass).dones ≡ (tally_from no_tally (take at items)).calls seat
  calls_here = sym (calls_before seat (take at items) ∙ (ap (λ xs. length (filter is_call xs)) order ∙ (sym (ap length old.calls) ∙ length-map (pass_actor v.pass).dones done_item)))

  learnt_here : length v.pass.view.cards ≡ (tally_from no_tally (take at items)).learnt seat
  learnt_here = sym (learnt_before seat (take at items) ∙ (ap (λ xs. length (filter is_after xs)) order ∙ sym old.heard.count))

  -- what the note of a mark here carries
  stands : (it : Item) → slice_get items at ≡ Some it → item_seat it ≡ seat → StandsAt (want_at items at) it v.pass
  stands (Mark k n) here is =
      let want : want_at items at ≡ stand (tally_from no_tally (take at items)) seat = ap (want_by (tally_from no_tally (take at items))) here ∙ ap (stand (tally_from no_tally (take at items))) is in
      subst (λ (w : Want). IsMaker w v.pass) (sym want) (record { seat = old.seat_is; calls = calls_here; learnt = learnt_here })
  stands (Ask k call) here is = tt
  stands (After k n) here is = tt
  stands (Turn k n) here is = tt

  -- the after here is the next one of the seat's
  heed_here : (k n : ℕ) → slice_get items at ≡ Some (After k n) → k ≡ seat → slice_get (heeds_of seat items) (length v.pass.view.cards) ≡ Some (record { want = want_at items at; behind = (tally_from no_tally (take at items)).calls seat })
  heed_here k n here is =
      let own : slice_get items at ≡ Some (After seat n) = here ∙ ap (λ (j : ℕ). Some (After j n)) is in
      let want : want_at items at ≡ (tally_from no_tally (take at items)).marks n = ap (want_by (tally_from no_tally (take at items))) here in
      ap (slice_get (heeds_of seat items)) (old.heard.count ∙ sym (ap (λ xs. length (filter is_after xs)) order))
      ∙ (heed_at seat no_tally items at n own ∙ ap (λ (w : Want). Some (record { want = w; behind = (tally_from no_tally (take at items)).calls seat })) (sym want))

  pub item_kept : (it : Item) (w : Work) → v.next < length v.places.items → slice_get items at ≡ Some it → slice_get (items_of seat items) v.next ≡ Some it → IsOfTables laid w.pass → HasServedItem (want_at items at) it v w → IsWork p laid items seat (record w { next = v.next + 1 })
  item_kept (Ask k call) w below there here of h =
      let same : k ≡ seat = of_seat seat items v.next (Ask k call) here in
      asked_kept p laid items seat call v w old below (here ∙ ap (λ (n : ℕ). Some (Ask n call)) same) of h
  item_kept (Mark k n) w below there here of h =
      passed_over p laid items seat (Mark k n) v w old below here of refl refl refl h.0.client h.0.seat_is h.0.actor h.1 (heard_same items seat v.next (v.next + 1) v.pass w.pass old.heard h.0.actor h.0.cards h.0.seen (omega (arith, after_count (items_of seat items) v.next (Mark k n) here)))
  item_kept (After k n) w below there here of h =
      let same : k ≡ seat = of_seat seat items v.next (After k n) here in
      let x : Heed = record { want = want_at items at; behind = (tally_from no_tally (take at items)).calls seat } in
      passed_over p laid items seat (After k n) v w old below here of refl refl refl h.learnt.kept.client h.learnt.kept.seat_is h.learnt.kept.actor h.rest (heard_learnt items seat v.next (v.next + 1) v.pass w.pass old.heard h.note x h.learnt h.card (heed_here k n there same) (omega (arith, calls_here)) (after_count (items_of seat items) v.next (After k n) here))
  item_kept (Turn k n) w below there here of h =
      let same : record w { next = v.next + 1 } ≡ record v { next = v.next + 1 } = ap (λ (x : Work). record x { next = v.next + 1 }) h in
      subst (λ (x : Work). IsWork p laid items seat x) (sym same) (passed_over p laid items seat (Turn k n) v v old below here old.ready.0 refl refl refl refl refl refl (record { answers = refl; places = refl; next = refl })
      (heard_same items seat v.next (v.next + 1) v.pass v.pass old.heard refl refl refl (omega (arith, after_count (items_of seat items) v.next (Turn k n) here))))

-- the item that was read at the seat's next place is the seat's next one
pub next_item : (p : ConfigParts) (laid : Option PoolTable) (items : List Item) (seat : ℕ) (v : Work) (a : Place) → IsWork p laid items seat v → v.next < length v.places.items → a ≡ slice_index_or v.places.items v.next a → (it : Item) × (slice_get items a.at ≡ Some it) × (slice_get (items_of seat items) v.next ≡ Some it)
next_item p laid items seat v a work below read = item_here items (items_of seat items) v.places.items v.next a work.places (slice_get_read v.places.items (length v.places.items) v.next a refl below read)

pub read_item : (p : ConfigParts) (laid : Option PoolTable) (items : List Item) (seat : ℕ) (v : Work) (a : Place) (it : Item) → IsWork p laid items seat v → v.next < length v.places.items → a ≡ slice_index_or v.places.items v.next a → it ≡ slice_index_or items a.at it → slice_get (items_of seat items) v.next ≡ Some it
read_item p laid items seat v a it work below read is =
    let h = next_item p laid items seat v a work below read in
    h.2 ∙ ap (λ (i : Item). Some i) (sym (is ∙ get_or_from_slice_get items a.at h.0 it h.1))

-- room for the seat's next item, in the pass's own setting
pub next_room : (p : ConfigParts) (laid : Option PoolTable) (items : List Item) (seat : ℕ) (v : Work) (it : Item) → IsWork p laid items seat v → slice_get (items_of seat items) v.next ≡ Some it → HasRoom v.pass.client.setting (it ∷ []) v.answers
next_room p laid items seat v it work here =
    let rest = drop (suc v.next) (items_of seat items) in
    let room = subst (λ (xs : List Item). HasRoom p xs v.answers) (split_at (items_of seat items) v.next it here).0 work.room in
    subst (λ (q : ConfigParts). HasRoom q (it ∷ []) v.answers) (sym work.ready.2) (record {
      replies = omega (arith, room.replies, sum_by-cons item_calls it rest, sum_by-cons item_calls it []);
      rows = omega (arith, room.rows, sum_by-cons (rows_of p) it rest, sum_by-cons (rows_of p) it []);
    })

pub same_places : (want : Want) (it : Item) (v w : Work) → HasServedItem want it v w → (w.places.items ≡ v.places.items) × (w.next ≡ v.next)
same_places want (Ask k call) v w h = (h.places, h.next)
same_places want (Mark k n) v w h = (h.1.places, h.1.next)
same_places want (After k n) v w h = (h.rest.places, h.rest.next)
same_places want (Turn k n) v w h = (ap (λ (x : Work). x.places.items) h, ap (λ (x : Work). x.next) h)

-- the seat's next place, as it was read, with the item that was read there
module _ (p : ConfigParts) (laid : Option PoolTable) (items : List Item) (seat : ℕ) (v : Work) (a : Place) (it : Item) (old : IsWork p laid items seat v) (below : v.next < length v.places.items) (read : a ≡ slice_index_or v.places.items v.next a) (is : it ≡ slice_index_or items a.at it) where
  pub read_there : slice_get items a.at ≡ Some it
  read_there = let h = next_item p laid items seat v a old below read in h.1 ∙ ap (λ (i : Item). Some i) (sym (is ∙ get_or_from_slice_get items a.at h.0 it h.1))

  order_here : items_of seat (take a.at items) ≡ take v.next (items_of seat items)
  order_here = old.order v.next a (slice_get_read v.places.items (length v.places.items) v.next a refl below read)

  pub stands_here : StandsAt (want_at items a.at) it v.pass
  stands_here = stands p laid items seat v old a.at order_here it read_there (of_seat seat items v.next it (read_item p laid items seat v a it old below read is))

  pub item_served : (w : Work) → IsOfTables laid w.pass → HasServedItem (want_at items a.at) it v w → IsWork p laid items seat (record w { next = w.next + 1 })
  item_served w of h = subst (λ (n : ℕ). IsWork p laid items seat (record w { next = n + 1 })) (sym (same_places (want_at items a.at) it v w h).1) (item_kept p laid items seat v old a.at order_here it w below read_there (read_item p laid items seat v a it old below read is) of h)
