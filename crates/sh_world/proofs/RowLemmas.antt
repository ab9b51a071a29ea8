-- Calls in columns: rows in words and their room; how calls are read, pushed and answered by their places; and that they
-- stay in columns.
use Rattle.std.proofs.Common.{rules, ◌≡◌, ℕ, zero, suc, ◌+◌, ◌*◌, ◌<◌, ◌≤◌, List, [], ◌∷◌, ◌++◌, length, set, take, drop, Some, None, refl, sym, ap, ◌∙◌, arith, ◌-◌, get_or, subst}
use Rattle.std.{proofs.Math.Nat.{mul-le-mul_right, le-min}, specs.{List.{flat_map, All}, Prelude.{slice_get, slice_index, slice_index_or}}}
use Rattle.std.proofs.lemmas.List.{drop-drop, drop_all, drop_more, take_all, take-append-le, drop-append-le, length-drop, drop-take, take-take, length-append, length_push, length-set, length-take-le}
use Rattle.std.proofs.lemmas.{List.{take_at}, Option.{get_or_from_slice_get, slice_get_read, slice_get_within}}
use Rattle.sh_logic.proofs.{Lists.{all_at, all_join, all_set, all_weaker}, Options.{some_is}}
use Rattle.sh_base.specs.declared.config.ConfigParts.{ConfigParts}
use Rattle.sh_map.specs.declared.{call.{Reply.{Reply}, Call.{Call}}, book.Row.{Row}}
use Rattle.sh_world.specs.Columns.{owed_by, owed_words, room_of, row_words, rows_read, AreInside, LiesBefore, IsRowWide, call_of, calls_of, given_of, kind_of, reply_kind_of, reply_read, IsWritten, keys_of}
use Rattle.sh_world.specs.{Columns.{AreColumns, Listed}, States.{Given, answered, fresh_call, rows_at, rows_in}, declared.calls.{Kept.{Kept}, ReplyKind.{TheVariants.{Waiting}, ReplyKind}}}
use Rattle.sh_decide.specs.Aims.{call_key}
use Rattle.sh_map.specs.declared.call.Reply.TheVariants as reply

-- the words of the next row lie behind those of this one
next_row : (n width : ℕ) → suc n * (width + 1) ≡ (width + 1) + n * (width + 1)
next_row n width = grind arith

pub row_first : (n : ℕ) → 0 * n ≡ 0
row_first n = grind arith

module _ (width : ℕ) where
  -- words behind those of the rows change none of them
  front : (n : ℕ) (words more : List ℕ) → n * (width + 1) ≤ length words → rows_read width n (words ++ more) ≡ rows_read width n words
  unfolding rows_read
  front zero words more le = refl
  front (suc n) [] more le = absurd (omega (arith, le, next_row n width))
  front (suc n) (w ∷ words) more le =
      let next = next_row n width in
      let all : width + 1 ≤ length (w ∷ words) = omega (arith, le, next) in
      let value : take width (words ++ more) ≡ take width words = take-append-le width words more (omega (arith, all)) in
      let rest : drop (width + 1) ((w ∷ words) ++ more) ≡ drop (width + 1) (w ∷ words) ++ more = drop-append-le (width + 1) (w ∷ words) more all in
      let rows = front n (drop (width + 1) (w ∷ words)) more (omega (arith, length-drop (width + 1) (w ∷ words), le, next)) in
      λ t. record { key = w; value = value t } ∷ (ap (rows_read width n) rest ∙ rows) t

  pub rows_front : (n start : ℕ) (words more : List ℕ) → start + n * (width + 1) ≤ length words → rows_read width n (drop start (words ++ more)) ≡ rows_read width n (drop start words)
  rows_front n start words more le =
      ap (rows_read width n) (drop-append-le start words more (omega (arith, le)))
      ∙ front n (drop start words) more (omega (arith, length-drop start words, le))

  pub length_rows : (n : ℕ) (words : List ℕ) → length (rows_read width n words) ≡ n
  unfolding rows_read
  length_rows zero words = refl
  length_rows (suc n) words = ap suc (length_rows n (drop (width + 1) words))

  -- the row at a place
  pub row_at : (n : ℕ) (words : List ℕ) (j : ℕ) → j < n → slice_get (rows_read width n words) j ≡ Some (record { key = slice_index (drop (j * (width + 1)) words) 0; value = take width (drop (j * (width + 1) + 1) words) })
  unfolding rows_read
  row_at zero words j lt = absurd (omega (arith, lt))
  row_at (suc n) words zero lt =
      let none = row_first (width + 1) in
      let one : 1 ≡ 0 * (width + 1) + 1 = omega (arith, none) in
      λ t. Some (record { key = slice_index (drop (sym none t) words) 0; value = take width (drop (one t) words) })
  row_at (suc n) words (suc j) lt =
      let next = next_row j width in
      let a : (width + 1) + j * (width + 1) ≡ suc j * (width + 1) = sym next in
      let b : (width + 1) + (j * (width + 1) + 1) ≡ suc j * (width + 1) + 1 = omega (arith, next) in
      row_at n (drop (width + 1) words) j (omega (arith, lt))
      ∙ (λ t. Some (record { key = slice_index ((drop-drop (j * (width + 1)) (width + 1) words ∙ ap (λ (k : ℕ). drop k words) a) t) 0; value = take width ((drop-drop (j * (width + 1) + 1) (width + 1) words ∙ ap (λ (k : ℕ). drop k words) b) t) }))

  pub inside_at : (end : ℕ) (kept : List Kept) (i : ℕ) (k : Kept) → slice_get kept i ≡ Some k → AreInside width end kept → LiesBefore width end k
  inside_at end kept i k e h = subst (LiesBefore width end) (get_or_from_slice_get kept i k k e) (all_at (LiesBefore width end) kept i k h (slice_get_within kept i k e))

  -- rows in words are read back
  pub rows_back : (rows : List Row) → All (IsRowWide width) rows → rows_read width (length rows) (flat_map row_words rows) ≡ rows
  unfolding rows_read
  rows_back [] h = refl
  rows_back (r ∷ rows) h =
      let wide : length r.value ≡ width = h 0 r (omega arith) in
      let value : take width (r.value ++ flat_map row_words rows) ≡ r.value = take-append-le width r.value (flat_map row_words rows) (omega (arith, wide)) ∙ take_all width r.value (omega (arith, wide)) in
      let one : width + 1 ≡ suc width = omega arith in
      let rest : drop (width + 1) (r.key ∷ r.value ++ flat_map row_words rows) ≡ flat_map row_words rows = ap (λ (n : ℕ). drop n (r.key ∷ r.value ++ flat_map row_words rows)) one ∙ drop-append-le width r.value (flat_map row_words rows) (omega (arith, wide)) ∙ ap (λ (ws : List ℕ). ws ++ flat_map row_words rows) (drop_all width r.value (omega (arith, wide))) in
      let more = rows_back rows (λ k d lt. h (suc k) d (omega (arith, lt))) in
      λ t. record { key = r.key; value = value t } ∷ (ap (rows_read width (length rows)) rest ∙ more) t

-- ---- the room of rows that are still to come

pub owed_push : (p : ConfigParts) (calls : List Given) (g : Given) → owed_words p (calls ++ g ∷ []) ≡ owed_words p calls + owed_by p g g.reply
owed_push p [] g = omega arith
owed_push p (x ∷ calls) g = let rest = owed_push p calls g in omega (arith, rest)

pub owed_answered : (p : ConfigParts) (calls : List Given) (i : ℕ) (g : Given) (r : Reply) (rs : List Row) (f pt : ℕ) → slice_get calls i ≡ Some g → g.reply ≡ None
    → owed_words p calls ≡ owed_words p (answered calls i r rs f pt) + room_of p g.call * (p.value_words + 1)
owed_answered p [] i g r rs f pt e waits = absurd (cc)
owed_answered p (x ∷ calls) zero g r rs f pt e waits =
    let same : x ≡ g = some_is e in
    let own : owed_by p x x.reply ≡ room_of p g.call * (p.value_words + 1) = ap (λ (y : Given). owed_by p y y.reply) same ∙ ap (owed_by p g) waits in
    omega (arith, own)
owed_answered p (x ∷ calls) (suc i) g r rs f pt e waits = let rest = owed_answered p calls i g r rs f pt e waits in omega (arith, rest)

-- ---- one row

-- it lies among the words of its call's rows
pub row_within : (W w row start count len : ℕ) → w ≡ W → row < count → start + count * (W + 1) ≤ len → start + row * (w + 1) + (w + 1) ≤ len
row_within h0 w row start count len is lt le = search (rules, next_row, mul-le-mul_right)

-- and is read there
pub row_read : (W w row start count : ℕ) (words : List ℕ) (key : ℕ) (value : List ℕ) → w ≡ W → row < count → start + count * (W + 1) ≤ length words
    → key ≡ slice_index_or words (start + row * (w + 1)) key → value ≡ take w (drop (start + row * (w + 1) + 1) words)
    → slice_get (rows_read W count (drop start words)) row ≡ Some (record { key = key; value = value })
row_read W w row start count words key value is lt le key_is value_is =
    let at : start + row * (W + 1) ≡ start + row * (w + 1) = ap (λ (n : ℕ). start + row * (n + 1)) (sym is) in
    let next : start + (row * (W + 1) + 1) ≡ start + row * (w + 1) + 1 = omega (arith, at) in
    let inside = row_within W w row start count (length words) is lt le in
    let first : slice_index (drop (row * (W + 1)) (drop start words)) 0 ≡ key =
    ap (λ (ws : List ℕ). slice_index ws 0) (drop-drop (row * (W + 1)) start words ∙ ap (λ (n : ℕ). drop n words) at ∙ drop_more words (start + row * (w + 1)) key (omega (arith, inside))) ∙ sym key_is in
    let rest : take W (drop (row * (W + 1) + 1) (drop start words)) ≡ value =
    ap (take W) (drop-drop (row * (W + 1) + 1) start words ∙ ap (λ (n : ℕ). drop n words) next) ∙ ap (λ (n : ℕ). take n (drop (start + row * (w + 1) + 1) words)) (sym is) ∙ sym value_is in
    row_at W count (drop start words) row lt ∙ (λ t. Some (record { key = first t; value = rest t }))

-- ---- the calls in columns, by their places: how they are read, pushed and answered

-- the values of the next call lie behind those of this one
pub row_next : (i n : ℕ) → suc i * n ≡ n + i * n
row_next i n = grind arith

-- so it is seen from the n-th word on, and before there is nothing new
written_on : (old new : List ℕ) (at n rest : ℕ) (v : List ℕ) → at ≡ n + rest → IsWritten old new at v → IsWritten (drop n old) (drop n new) rest v
written_on old new at n rest v is h = record {
  before = sym (drop-take n rest new) ∙ ap (λ (k : ℕ). drop n (take k new)) (sym is) ∙ ap (drop n) h.before ∙ ap (λ (k : ℕ). drop n (take k old)) is ∙ drop-take n rest old;
  here = ap (take (length v)) (drop-drop rest n new ∙ ap (λ (k : ℕ). drop k new) (sym is)) ∙ h.here;
  behind = let e : n + (rest + length v) ≡ at + length v = omega (arith, is) in drop-drop (rest + length v) n new ∙ ap (λ (k : ℕ). drop k new) e ∙ h.behind ∙ ap (λ (k : ℕ). drop k old) (sym e) ∙ sym (drop-drop (rest + length v) n old);
}

written_not : (old new : List ℕ) (at n : ℕ) (v : List ℕ) → n ≤ at → IsWritten old new at v → take n new ≡ take n old
written_not old new at n v le h = sym (take-take n at new le) ∙ ap (take n) h.before ∙ take-take n at old le

-- what is kept of a call that was just given
abbrev pub fresh : (seat : ℕ) → Call → Kept
fresh seat c = record { key = call_key c; seat = seat; first = 0; point = 0; start = 0; count = 0; call = kind_of c; reply = Waiting }

module _ (width : ℕ) where
  pub length_calls : (kept : List Kept) (words rows : List ℕ) → length (calls_of width kept words rows) ≡ length kept
  unfolding calls_of
  length_calls [] words rows = refl
  length_calls (k ∷ kept) words rows = ap suc (length_calls kept (drop (2 * width) words) rows)

  -- the call at a place
  pub call_at : (kept : List Kept) (words rows : List ℕ) (i : ℕ) (k : Kept) → slice_get kept i ≡ Some k
      → slice_get (calls_of width kept words rows) i ≡ Some (given_of width k (take width (drop (i * (2 * width)) words)) (take width (drop (i * (2 * width) + width) words)) rows)
  unfolding calls_of
  call_at [] words rows i k e = absurd (cc)
  call_at (x ∷ kept) words rows zero k e =
      let none = row_first (2 * width) in
      let one : width ≡ 0 * (2 * width) + width = omega (arith, none) in
      λ t. Some (given_of width (some_is e t) (take width (drop (sym none t) words)) (take width (drop (one t) words)) rows)
  call_at (x ∷ kept) words rows (suc i) k e =
      let next = row_next i (2 * width) in
      let a : 2 * width + i * (2 * width) ≡ suc i * (2 * width) = sym next in
      let b : 2 * width + (i * (2 * width) + width) ≡ suc i * (2 * width) + width = omega (arith, next) in
      call_at kept (drop (2 * width) words) rows i k e
      ∙ (λ t. Some (given_of width k (take width ((drop-drop (i * (2 * width)) (2 * width) words ∙ ap (λ (n : ℕ). drop n words) a) t)) (take width ((drop-drop (i * (2 * width) + width) (2 * width) words ∙ ap (λ (n : ℕ). drop n words) b) t)) rows))

  -- and its rows
  pub rows_of_call : (kept : List Kept) (words rows : List ℕ) (i : ℕ) (k : Kept) → slice_get kept i ≡ Some k → rows_at (calls_of width kept words rows) i ≡ rows_read width k.count (drop k.start rows)
  rows_of_call kept words rows i k e = ap rows_in (call_at kept words rows i k e)

  -- a call more
  push_at : (kept : List Kept) (words rows v : List ℕ) (k : Kept) → length words ≡ length kept * (2 * width) → calls_of width (kept ++ k ∷ []) (words ++ v) rows ≡ calls_of width kept words rows ++ given_of width k (take width v) (take width (drop width v)) rows ∷ []
  unfolding calls_of
  push_at [] [] rows v k long = refl
  push_at [] (w ∷ words) rows v k long = absurd (omega (arith, long, row_first (2 * width)))
  push_at (x ∷ kept) words rows v k long =
      let next = row_next (length kept) (2 * width) in
      let all : 2 * width ≤ length words = omega (arith, long, next) in
      let half : width ≤ length (drop width words) = omega (arith, length-drop width words, all) in
      let rest : length (drop (2 * width) words) ≡ length kept * (2 * width) = omega (arith, length-drop (2 * width) words, long, next) in
      let a : take width (words ++ v) ≡ take width words = take-append-le width words v (omega (arith, all)) in
      let b : take width (drop width (words ++ v)) ≡ take width (drop width words) = ap (take width) (drop-append-le width words v (omega (arith, all))) ∙ take-append-le width (drop width words) v half in
      let c : calls_of width (kept ++ k ∷ []) (drop (2 * width) (words ++ v)) rows ≡ calls_of width kept (drop (2 * width) words) rows ++ given_of width k (take width v) (take width (drop width v)) rows ∷ [] = ap (λ (ws : List ℕ). calls_of width (kept ++ k ∷ []) ws rows) (drop-append-le (2 * width) words v all) ∙ push_at kept (drop (2 * width) words) rows v k rest in
      λ t. given_of width x (a t) (b t) rows ∷ c t

  fresh_is : (seat : ℕ) (c : Call) (asked answer rows : List ℕ) → call_of (kind_of c) (call_key c) asked ≡ c → given_of width (fresh seat c) asked answer rows ≡ fresh_call seat c
  unfolding rows_read
  fresh_is seat c asked answer rows back = λ t. record { seat = seat; call = back t; reply = None; first = 0; point = 0; rows = [] }

  pub call_pushed : (kept more : List Kept) (words all rows r : List ℕ) (seat : ℕ) (c : Call) → length words ≡ length kept * (2 * width) → call_of (kind_of c) (call_key c) (take width r) ≡ c
      → more ≡ kept ++ fresh seat c ∷ [] → all ≡ words ++ take (2 * width) r
      → calls_of width more all rows ≡ calls_of width kept words rows ++ fresh_call seat c ∷ []
  call_pushed kept more words all rows r seat c long back more_is all_is =
      let front : take width (take (2 * width) r) ≡ take width r = take-take width (2 * width) r (omega arith) in
      (λ t. calls_of width (more_is t) (all_is t) rows)
      ∙ push_at kept words rows (take (2 * width) r) (fresh seat c) long
      ∙ ap (λ g. calls_of width kept words rows ++ g ∷ []) (fresh_is seat c (take width (take (2 * width) r)) (take width (drop width (take (2 * width) r))) rows (ap (call_of (kind_of c) (call_key c)) front ∙ back))

  -- rows that come behind those of the calls change none of them
  pub rows_behind : (kept : List Kept) (words rows more : List ℕ) → AreInside width (length rows) kept → calls_of width kept words (rows ++ more) ≡ calls_of width kept words rows
  unfolding calls_of
  rows_behind [] words rows more h = refl
  rows_behind (k ∷ kept) words rows more h =
      let own = rows_front width k.count k.start rows more h.0 in
      let rest = rows_behind kept (drop (2 * width) words) rows more h.1 in
      λ t. record { seat = k.seat; call = call_of k.call k.key (take width words); reply = reply_read k.reply (take width (drop width words)); first = k.first; point = k.point; rows = own t } ∷ rest t

  -- a call is answered, with rows that lie in the column
  pub call_answered : (kept : List Kept) (words new rows : List ℕ) (i at : ℕ) (k : Kept) (v : List ℕ) (r : Reply) (rs : List Row) (f p start count : ℕ) → at ≡ i * (2 * width) + width → slice_get kept i ≡ Some k → length v ≡ width → IsWritten words new at v
      → reply_read (reply_kind_of r) v ≡ Some r → rows_read width count (drop start rows) ≡ rs
      → calls_of width (set kept i (record { key = k.key; seat = k.seat; first = f; point = p; start = start; count = count; call = k.call; reply = reply_kind_of r })) new rows ≡ answered (calls_of width kept words rows) i r rs f p
  unfolding calls_of
  call_answered [] words new rows i at k v r rs f p start count is e long h back told_rows = refl
  call_answered (x ∷ kept) words new rows zero at k v r rs f p start count is e long h back told_rows =
      let first : at ≡ width = omega (arith, is, row_first (2 * width)) in
      let end : at + length v ≡ 2 * width = omega (arith, first, long) in
      let same : k ≡ x = sym (some_is e) in
      let a : take width new ≡ take width words = written_not words new at width v (omega (arith, first)) h in
      let b : take width (drop width new) ≡ v = ap (λ (n : ℕ). take n (drop width new)) (sym long) ∙ ap (λ (n : ℕ). take (length v) (drop n new)) (sym first) ∙ h.here in
      let c : drop (2 * width) new ≡ drop (2 * width) words = ap (λ (n : ℕ). drop n new) (sym end) ∙ h.behind ∙ ap (λ (n : ℕ). drop n words) end in
      let told : reply_read (reply_kind_of r) (take width (drop width new)) ≡ Some r = ap (reply_read (reply_kind_of r)) b ∙ back in
      λ t. record { seat = (same t).seat; call = call_of (same t).call (same t).key (a t); reply = told t; first = f; point = p; rows = told_rows t } ∷ calls_of width kept (c t) rows
  call_answered (x ∷ kept) words new rows (suc i) at k v r rs f p start count is e long h back told_rows =
      let next = row_next i (2 * width) in
      let two : take (2 * width) new ≡ take (2 * width) words = written_not words new at (2 * width) v (omega (arith, is, next)) h in
      let a : take width new ≡ take width words = written_not words new at width v (omega (arith, is, next)) h in
      let w : width + width ≡ 2 * width = omega arith in
      let b : take width (drop width new) ≡ take width (drop width words) = sym (drop-take width width new) ∙ ap (λ (n : ℕ). drop width (take n new)) w ∙ ap (drop width) two ∙ ap (λ (n : ℕ). drop width (take n words)) (sym w) ∙ drop-take width width words in
      let on = written_on words new at (2 * width) (i * (2 * width) + width) v (omega (arith, is, next)) h in
      let c = call_answered kept (drop (2 * width) words) (drop (2 * width) new) rows i (i * (2 * width) + width) k v r rs f p start count refl e long on back told_rows in
      λ t. given_of width x (a t) (b t) rows ∷ c t

-- ---- calls stay in columns: one that is pushed, and one that is answered

-- as many calls are kept as there are
pub kept_long : (p : ConfigParts) (kept : List Kept) (words rows : List ℕ) (l : Listed) → record { setting = p; calls = calls_of p.value_words kept words rows } ≡ l → length kept ≡ length l.calls
kept_long p kept words rows l e = sym (length_calls p.value_words kept words rows) ∙ ap (λ (x : Listed). length x.calls) e

-- a row of a call lies among the words of all rows, and these are the call's rows
pub record IsRowOf (W : ℕ) (k : Kept) (words : List ℕ) (row : ℕ) (rows : List Row) : Type 0 where
  pub count : row < k.count
  pub inside : k.start + k.count * (W + 1) ≤ length words
  pub rows_are : rows ≡ rows_read W k.count (drop k.start words)

module _ (p : ConfigParts) (kept : List Kept) (words rows : List ℕ) (owed room : ℕ) (h : AreColumns p kept words rows owed room) where
  abbrev W : ℕ
  W = p.value_words

  pub row_of : (l : Listed) → record { setting = p; calls = calls_of W kept words rows } ≡ l → (i : ℕ) (k : Kept) → i < length kept → k ≡ get_or kept i k → (row : ℕ) → row < length (rows_at l.calls i) → IsRowOf W k rows row (rows_at l.calls i)
  row_of l l_is i k lt read row row_lt =
      let here = slice_get_read kept (length kept) i k refl lt read in
      let are = ap (λ (x : Listed). rows_at x.calls i) (sym l_is) ∙ rows_of_call W kept words rows i k here in
      record { count = omega (arith, row_lt, ap length are, length_rows W k.count (drop k.start rows)); inside = inside_at W (length rows) kept i k here h.inside; rows_are = are }

  -- so it ends among them
  pub row_ends : (l : Listed) → record { setting = p; calls = calls_of W kept words rows } ≡ l → (i : ℕ) (k : Kept) → i < length kept → k ≡ get_or kept i k → (row : ℕ) → row < length (rows_at l.calls i) → (w : ℕ) → w ≡ W → k.start + row * (w + 1) + (w + 1) ≤ length rows
  row_ends l l_is i k lt read row row_lt w w_is = let own = row_of l l_is i k lt read row row_lt in row_within W w row k.start k.count (length rows) w_is own.count own.inside

  -- ---- a call is pushed

  module _ (w : ℕ) (more : List Kept) (all now r : List ℕ) (seat : ℕ) (c : Call) (w_is : w ≡ W) (more_is : more ≡ kept ++ fresh seat c ∷ []) (all_is : all ≡ words ++ take (2 * w) r) (now_is : now ≡ rows) (back : call_of (kind_of c) (call_key c) (take w r) ≡ c) where
    pub pushed_is : calls_of W more all now ≡ calls_of W kept words rows ++ fresh_call seat c ∷ []
    pushed_is = call_pushed W kept more words all now r seat c h.long (ap (λ (n : ℕ). call_of (kind_of c) (call_key c) (take n r)) (sym w_is) ∙ back) more_is (all_is ∙ ap (λ (n : ℕ). words ++ take (2 * n) r) w_is)
        ∙ ap (λ (rs : List ℕ). calls_of W kept words rs ++ fresh_call seat c ∷ []) now_is

    pub pushed_keeps : (add later : ℕ) → add ≡ room_of p c * (W + 1) → 2 * w ≤ length r → length now + (owed + add) ≤ later → AreColumns p more all now (owed + add) later
    pushed_keeps add later add_is long fits =
        let one : length more ≡ suc (length kept) = ap length more_is ∙ (let l = length_push kept (fresh seat c) in omega (arith, l)) in
        let next : length more * (2 * W) ≡ 2 * W + length kept * (2 * W) = ap (λ (n : ℕ). n * (2 * W)) one ∙ row_next (length kept) (2 * W) in
        let part = length-take-le (2 * w) r long in
        let whole : length all ≡ length words + 2 * w = ap length all_is ∙ length-append words (take (2 * w) r) ∙ ap (λ (n : ℕ). length words + n) part in
        let owes = ap (owed_words p) pushed_is ∙ owed_push p (calls_of W kept words rows) (fresh_call seat c) in
        record {
          long = omega (arith, whole, w_is, h.long, next);
          inside = rw (more_is, now_is) (all_join (LiesBefore W (length rows)) kept (fresh seat c ∷ []) h.inside (omega arith, tt));
          owed_is = omega (arith, owes, h.owed_is, add_is);
          fits = fits;
        }

  -- ---- a call is answered

  module _ (l : Listed) (l_is : record { setting = p; calls = calls_of W kept words rows } ≡ l) (i : ℕ) (g : Given) (here : slice_get l.calls i ≡ Some g) (waits : g.reply ≡ None) where
    owes : (r : Reply) (rs : List Row) (f pt : ℕ) → owed ≡ owed_words p (answered l.calls i r rs f pt) + room_of p g.call * (W + 1)
    owes r rs f pt = h.owed_is ∙ ap (λ (x : Listed). owed_words p x.calls) l_is ∙ owed_answered p l.calls i g r rs f pt here waits

    -- the room of its rows is reserved
    pub room_reserved : room_of p g.call * (W + 1) ≤ owed
    room_reserved = let o = owes reply.None [] 0 0 in omega (arith, o)

    module _ (rs : List Row) (few : length rs ≤ l.setting.rows) (keys : length rs ≤ keys_of g.call) (w : ℕ) (w_is : w ≡ W) where
      covered : length rs * (W + 1) ≤ room_of p g.call * (W + 1)
      covered = mul-le-mul_right (W + 1) (le-min (let most = ap (λ (x : Listed). x.setting.rows) l_is in omega (arith, few, most)) keys)

      pub rows_fit : length rows + length rs * (w + 1) ≤ room
      rows_fit =
          let same : length rs * (w + 1) ≡ length rs * (W + 1) = ap (λ (n : ℕ). length rs * (n + 1)) w_is in
          omega (arith, same, covered, room_reserved, h.fits)

      -- its rows are put behind the others, and its reply's words over those that are there
      module _ (wide : All (IsRowWide l.setting.value_words) rs) (k : Kept) (read : slice_get kept i ≡ Some k) (now : List ℕ) (now_is : now ≡ rows ++ flat_map row_words rs) (start : ℕ) (start_is : start ≡ length rows)
          (r : Reply) (kind : ReplyKind) (kind_is : kind ≡ reply_kind_of r) (told : List ℕ) (long : w ≤ length told) (back : reply_read (reply_kind_of r) (take w told) ≡ Some r)
          (mid new : List ℕ) (mid_is : mid ≡ words) (same : length new ≡ length mid) (written : IsWritten mid new (i * (2 * w) + w) (take w told)) (n : ℕ) (rest : List ℕ) (n_is : n ≡ length words) (f pt : ℕ) where
        abbrev now_kept : Kept
        now_kept = record { key = k.key; seat = k.seat; first = f; point = pt; start = start; count = length rs; call = k.call; reply = kind }

        as_long : length new ≡ n
        as_long = same ∙ ap length mid_is ∙ sym n_is

        at_is : i * (2 * w) + w ≡ i * (2 * W) + W
        at_is = λ t. i * (2 * w_is t) + w_is t

        told_rows : rows_read W (length rs) (drop start now) ≡ rs
        told_rows =
            ap (rows_read W (length rs)) ((λ t. drop (start_is t) (now_is t)) ∙ drop-append-le (length rows) rows (flat_map row_words rs) (omega arith) ∙ ap (λ (ws : List ℕ). ws ++ flat_map row_words rs) (drop_all (length rows) rows (omega arith)))
            ∙ rows_back W rs (subst (λ (q : ConfigParts). All (IsRowWide q.value_words) rs) (ap (λ (x : Listed). x.setting) (sym l_is)) wide)

        answered_calls : calls_of W (set kept i now_kept) (take n (new ++ rest)) now ≡ answered l.calls i r rs f pt
        answered_calls =
            (λ t. calls_of W (set kept i (record { key = k.key; seat = k.seat; first = f; point = pt; start = start; count = length rs; call = k.call; reply = kind_is t })) ((take_at new rest n as_long) t) now)
            ∙ call_answered W kept words new now i (i * (2 * w) + w) k (take w told) r rs f pt start (length rs) at_is read (length-take-le w told long ∙ w_is) (subst (λ (ws : List ℕ). IsWritten ws new (i * (2 * w) + w) (take w told)) mid_is written) back told_rows
            ∙ ap (λ (cs : List Given). answered cs i r rs f pt) (ap (calls_of W kept words) now_is ∙ rows_behind W kept words rows (flat_map row_words rs) h.inside ∙ ap (λ (x : Listed). x.calls) l_is)

        pub answered_is : record { setting = p; calls = calls_of W (set kept i now_kept) (take n (new ++ rest)) now } ≡ record l { calls = answered l.calls i r rs f pt }
        answered_is = λ t. record { setting = (ap (λ (x : Listed). x.setting) l_is) t; calls = answered_calls t }

        pub answered_keeps : (gone later : ℕ) → gone ≡ room_of p g.call * (W + 1) → length now ≡ length rows + length rs * (w + 1) → room ≤ later → AreColumns p (set kept i now_kept) (take n (new ++ rest)) now (owed - gone) later
        answered_keeps gone later gone_is longer more =
            let set_long : length (set kept i now_kept) * (2 * W) ≡ length kept * (2 * W) = ap (λ (m : ℕ). m * (2 * W)) (length-set kept i now_kept) in
            let words_long : length (take n (new ++ rest)) ≡ length words = ap length (take_at new rest n as_long) ∙ as_long ∙ n_is in
            let each : length rs * (w + 1) ≡ length rs * (W + 1) = ap (λ (m : ℕ). length rs * (m + 1)) w_is in
            let o = owes r rs f pt in
            let left = ap (owed_words p) answered_calls in
            record {
              long = omega (arith, words_long, h.long, set_long);
              inside = all_set (LiesBefore W (length now)) kept i now_kept (all_weaker (LiesBefore W (length rows)) (LiesBefore W (length now)) kept (λ k le. omega (arith, le, longer)) h.inside) (omega (arith, start_is, longer, each));
              owed_is = omega (arith, gone_is, o, left);
              fits = omega (arith, longer, each, covered, room_reserved, gone_is, h.fits, more);
            }
