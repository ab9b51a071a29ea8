-- What a call's line says is read back, field by field.
use Rattle.std.proofs.Common.{rules, ℕ, ◌≡◌, ◌≤◌, ◌<◌, ◌^◌, Bool, true, List, [], ◌∷◌, length, map, Some, None, option_map, ◌⊎◌, inl, inr, refl, ap, ◌∙◌, arith, if◌then◌else◌}
use Rattle.std.{specs.{Prelude.{◌==◌, nat_lt, codes}, Fmt.{decimal}, List.{AllByRecursion}}, proofs.lemmas.{List.{length-map}}}
use Rattle.sh_logic.proofs.{Lists.{all_weaker}, Tests.{same_test}}
use Rattle.sh_map.specs.{declared.{call.{Call.{Call, TheVariants.{Get, Put, Del, Range}}, Reply.{Reply}}, book.{Done.{Done}, Row.{Row}}}, Calls.{IsKey}}
use Rattle.sh_map.specs.declared.call.Reply.TheVariants as reply
use Rattle.sh_sheet.specs.Row.{joined}
use Rattle.sh_text.specs.Text.{a_of, b_text, op_text, point_text, reply_text, reply_value, value_text}
use Rattle.sh_judge.specs.CallLine.{call_spelled, done_at, done_spelled, ends_of, key_spelled, reply_spelled, seat_of}
use Rattle.sh_judge.specs.{Fields.{parts_at, value_of, words_spelled}, Reading.{row_spelled}}
use Rattle.sh_judged.proofs.{Cuts.{joined_lacks, joined_parts, lacks_both, part_alone, part_before}, Decimals.{decimal_lacks, lacks, word_decimal}, Tells.{ends_for}}

-- a field has neither a line feed nor a comma
abbrev pub IsPlain : List ℕ → Type 0
IsPlain text = (lacks 10 text ≡ true) × (lacks 44 text ≡ true)

pub decimal_plain : (n : ℕ) → n < 10 ^ 64 → IsPlain (decimal n)
decimal_plain n small = (decimal_lacks n small 10 (inl (omega arith)), decimal_lacks n small 44 (inl (omega arith)))

-- so many words
pub record IsWordy (words : ℕ) (value : List ℕ) : Type 0 where
  pub long : length value ≡ words
  pub each : AllByRecursion (λ w. w < 2 ^ 64) value

-- ---- values and keys

spelled_words : (ws : List ℕ) → AllByRecursion (λ w. w < 2 ^ 64) ws → words_spelled (map decimal ws) ≡ Some ws
spelled_words [] h = refl
spelled_words (w ∷ ws) h = (λ k. joined (word_decimal w h.0 k) (spelled_words ws h.1 k))

all_lack : (code : ℕ) (ws : List ℕ) → (code < 48) ⊎ (57 < code) → AllByRecursion (λ w. w < 2 ^ 64) ws → AllByRecursion (λ w. lacks code (decimal w) ≡ true) ws
all_lack code ws apart h = all_weaker (λ w. w < 2 ^ 64) (λ w. lacks code (decimal w) ≡ true) ws (λ w small. decimal_lacks w (omega arith) code apart) h

pub value_plain : (value : List ℕ) → AllByRecursion (λ w. w < 2 ^ 64) value → IsPlain (value_text value)
value_plain [] h = (refl, refl)
value_plain (w ∷ ws) h =
    let ten = all_lack 10 (w ∷ ws) (inl (omega arith)) h in
    let comma = all_lack 44 (w ∷ ws) (inl (omega arith)) h in
    (joined_lacks 58 decimal 10 w ws refl ten.0 ten.1, joined_lacks 58 decimal 44 w ws refl comma.0 comma.1)

pub value_read : (words : ℕ) (value : List ℕ) → 1 ≤ words → IsWordy words value → value_of words (value_text value) ≡ Some value
value_read words [] some h = absurd (omega (arith, h.long))
value_read words (w ∷ ws) some h =
    let apart = all_lack 58 (w ∷ ws) (inr (omega arith)) h.each in
    let parts : parts_at 58 (value_text (w ∷ ws)) ≡ map decimal (w ∷ ws) = joined_parts 58 decimal w ws apart.0 apart.1 in
    let count : (length (parts_at 58 (value_text (w ∷ ws))) == words) ≡ true = same_test _ _ (ap length parts ∙ length-map (w ∷ ws) decimal ∙ h.long) in
    ap (λ t. if t then words_spelled (parts_at 58 (value_text (w ∷ ws))) else None) count ∙ ap words_spelled parts ∙ spelled_words (w ∷ ws) h.each

-- ---- calls and replies that can be told

abbrev pub FitsCall : (words : ℕ) → Call → Type 0
FitsCall words (Get key) = IsKey key
FitsCall words (Put key value) = IsKey key × IsWordy words value
FitsCall words (Del key) = IsKey key
FitsCall words (Range low high) = IsKey low × (low ≤ high) × (high < 2 ^ 64)

abbrev pub FitsReply : (words : ℕ) → Call → Reply → Type 0
FitsReply words (Range low high) (reply.Rows upto) = upto ≤ high
FitsReply words (Range low high) answer = ⊥
FitsReply words call (reply.Some value) = IsWordy words value
FitsReply words call reply.None = Unit {0}
FitsReply words (Put key value) reply.Full = Unit {0}
FitsReply words (Put key value) (reply.Worn version) = version < 2 ^ 64
FitsReply words (Del key) (reply.Worn version) = version < 2 ^ 64
FitsReply words call answer = ⊥

-- rows that can be told, which a range alone has
pub record IsFitRow (words : ℕ) (r : Row) : Type 0 where
  pub key : r.key < 2 ^ 64
  pub value : IsWordy words r.value

abbrev pub FitsRows : (words : ℕ) → Call → List Row → Type 0
FitsRows words (Range low high) rows = AllByRecursion (IsFitRow words) rows
FitsRows words call rows = rows ≡ []

-- an ended call that can be told
pub record IsFit (words : ℕ) (d : Done) : Type 0 where
  pub seat : d.seat ≤ 63
  pub call : FitsCall words d.call
  pub answer : FitsReply words d.call d.reply
  pub first : d.first < 2 ^ 64
  pub point : d.point < 2 ^ 64
  pub rows : FitsRows words d.call d.rows

module _ (words : ℕ) (some : 1 ≤ words) where
  call_read : (call : Call) → FitsCall words call → call_spelled words (op_text call) (decimal (a_of call)) (b_text call) ≡ Some call
  call_read call h = search (rules, option_map, value_read, word_decimal)

  answer_read : (call : Call) (answer : Reply) → FitsCall words call → FitsReply words call answer → reply_spelled words call (reply_text call answer) (reply_value answer) ≡ Some answer
  answer_read call answer c h = search (rules, option_map, value_read, word_decimal)

  ends_read : (answer : Reply) (least first point : ℕ) → first < 2 ^ 64 → point < 2 ^ 64 → ends_of answer least (point_text answer first point) ≡ Some (ends_for answer least first point)
  ends_read answer least first point f p = search (rules, option_map, word_decimal, lacks, decimal_lacks, part_before, part_alone)

  seat_read : (seat : ℕ) → seat ≤ 63 → seat_of (decimal seat) ≡ Some seat
  seat_read seat h = search (rules, word_decimal)

  -- the call that its line says
  pub done_read : (d : Done) (least : ℕ → ℕ) → IsFit words d
      → done_spelled words d.n least (record { seat = decimal d.seat; op = op_text d.call; a = decimal (a_of d.call); b = b_text d.call; reply = reply_text d.call d.reply; value = reply_value d.reply; point = point_text d.reply d.first d.point })
      ≡ Some (done_at d.n d.seat d.call d.reply (ends_for d.reply (least d.seat) d.first d.point))
  done_read d least h = rw (seat_read d.seat h.seat, call_read d.call h.call, answer_read d.call d.reply h.call h.answer, ends_read d.reply (least d.seat) d.first d.point h.first h.point) refl

  -- a row that its fields say
  pub row_read : (r : Row) → IsFitRow words r → row_spelled words (decimal r.key) (value_text r.value) ≡ Some r
  row_read r h = rw (word_decimal r.key h.key, value_read words r.value some h.value) refl

a_plain : (words : ℕ) (call : Call) → FitsCall words call → IsPlain (decimal (a_of call))
a_plain words (Get key) h = decimal_plain key (omega (arith, h.1))
a_plain words (Put key value) h = decimal_plain key (omega (arith, h.0.1))
a_plain words (Del key) h = decimal_plain key (omega (arith, h.1))
a_plain words (Range low high) h = decimal_plain low (omega (arith, h.0.1))

b_plain : (words : ℕ) (call : Call) → FitsCall words call → IsPlain (b_text call)
b_plain words (Get key) h = (refl, refl)
b_plain words (Put key value) h = value_plain value h.1.each
b_plain words (Del key) h = (refl, refl)
b_plain words (Range low high) h = decimal_plain high (omega (arith, h.2))

told_plain : (words : ℕ) (call : Call) (answer : Reply) → FitsCall words call → FitsReply words call answer → IsPlain (reply_value answer)
told_plain words (Range low high) (reply.Rows upto) c h = decimal_plain upto (omega (arith, h, c.2))
told_plain words (Get key) (reply.Some value) c h = value_plain value h.each
told_plain words (Put key put) (reply.Some value) c h = value_plain value h.each
told_plain words (Del key) (reply.Some value) c h = value_plain value h.each
told_plain words (Put key put) (reply.Worn version) c h = decimal_plain version (omega (arith, h))
told_plain words (Del key) (reply.Worn version) c h = decimal_plain version (omega (arith, h))
told_plain words call reply.None c h = (refl, refl)
told_plain words call reply.Full c h = (refl, refl)
told_plain words call answer c h = absurd h

point_plain : (answer : Reply) (first point : ℕ) → first < 2 ^ 64 → point < 2 ^ 64 → IsPlain (point_text answer first point)
point_plain (reply.Some value) first point f p = decimal_plain point (omega arith)
point_plain reply.None first point f p = decimal_plain point (omega arith)
point_plain (reply.Rows upto) first point f p =
    let a = decimal_plain first (omega arith) in
    let b = decimal_plain point (omega arith) in
    (lacks_both 10 (decimal first) (58 ∷ decimal point) a.0 b.0, lacks_both 44 (decimal first) (58 ∷ decimal point) a.1 b.1)
point_plain reply.Full first point f p = (refl, refl)
point_plain (reply.Worn version) first point f p = (refl, refl)

pub fields_plain : (words : ℕ) (d : Done) → IsFit words d → d.n < 2 ^ 64
    → AllByRecursion IsPlain (decimal d.n ∷ decimal d.seat ∷ op_text d.call ∷ decimal (a_of d.call) ∷ b_text d.call ∷ reply_text d.call d.reply ∷ reply_value d.reply ∷ point_text d.reply d.first d.point ∷ [])
fields_plain words d h small = (
  decimal_plain d.n (omega arith),
  (
    decimal_plain d.seat (omega (arith, h.seat)),
    (
      search rules,
      (
        a_plain words d.call h.call,
        (
          b_plain words d.call h.call,
          (
            search rules,
            (told_plain words d.call d.reply h.call h.answer, (point_plain d.reply d.first d.point h.first h.point, tt)),
          ),
        ),
      ),
    ),
  ),
)
