-- A printed text is read whole: the calls with their rows, the map's lines, and the last line.
use Rattle.std.proofs.Common.{rules, ℕ, ◌≡◌, ◌≤◌, ◌<◌, ◌+◌, ◌^◌, true, false, List, [], ◌∷◌, ◌++◌, length, Option, Some, None, option_map, refl, sym, ap, subst, ◌∙◌, arith, append_assoc, append-nil}
use Rattle.std.proofs.Common.{length-append, if◌then◌else◌}
use Rattle.std.specs.{Prelude.{◌-◌, is_some, nat_lt, codes, slice_get}, Fmt.{decimal}, List.{AllByRecursion, flat_map}, Str.{bytes_eq}, Str.Parse.{AllDigits}}
use Rattle.std.proofs.lemmas.{Bool.Decides.{nat_tests}, Fmt.{decimal_is_IsNumeral}}
use Rattle.std.proofs.lemmas.{List.{map-id}, Str.Parse.{digit_from_value}}
use Rattle.sh_logic.proofs.{Lists.{all_weaker, slice_get-push_end}, Tests.{same_test, differ_test}}
use Rattle.sh_map.specs.declared.{call.{Call.{Call, TheVariants.{Range}}}, book.{Done.{Done}, Row.{Row}}}
use Rattle.sh_text.specs.{Text.{a_of, b_text, call_line, call_text, calls_text, end_line, finished_of, map_line, op_text, point_text, reply_text, reply_value, row_line, value_text}}
use Rattle.sh_text.specs.declared.points.Points.TheVariants as points
use Rattle.sh_judge.specs.{declared.{finding.Finding.{Finding}, found.End.{End}}, Fields.{fields_of, parts_at}, Finding.{IsFoundIn, IsFoundOf}}
use Rattle.sh_judge.specs.Reading.{LinesTold, ends_in_range, is_range, is_range_of, least_first, made_end, reading_from, says, told_with, with_fields, with_last_row, with_row}
use Rattle.sh_judge.proofs.{FoundLemmas.{row_more}, ReadLemmas.{line_taken}}
use Rattle.sh_judged.proofs.{Cuts.{joined, joined_lacks, joined_parts, part_before}, Decimals.{lacks, wide_decimal, word_decimal}}
use Rattle.sh_judged.proofs.{Lines.{FitsRows, IsFit, IsFitRow, IsPlain, decimal_plain, done_read, fields_plain, row_read, value_plain}, Tells.{tell, told_on}}

-- fields, joined by commas
abbrev line_of : List ℕ → List (List ℕ) → List ℕ
line_of f fs = joined 44 (λ x. x) f fs

abbrev spelled : List ℕ → List (List ℕ) → (more : List ℕ) → List ℕ
spelled f [] more = f ++ 10 ∷ more
spelled f (g ∷ fs) more = f ++ 44 ∷ spelled g fs more

line_text : (f : List ℕ) (fs : List (List ℕ)) (more : List ℕ) → spelled f fs more ≡ line_of f fs ++ 10 ∷ more
line_text f [] more = ap (λ x. x ++ 10 ∷ more) (sym (append-nil f))
line_text f (g ∷ fs) more = ap (λ x. f ++ 44 ∷ x) (line_text g fs more) ∙ sym (append_assoc f (44 ∷ line_of g fs) (10 ∷ more))

-- a number is no word
no_word : (ds : List ℕ) (c : ℕ) (cs : List ℕ) → 57 < c → AllDigits 10 ds → bytes_eq ds (c ∷ cs) ≡ false
no_word ds c cs h d = search (rules, digit_from_value, differ_test)

-- the calls that are told so far, and the rows of the map
abbrev pub told_so : List Done → List Row → LinesTold
told_so dones maps = record { dones = dones; maps = maps; end = None }

abbrev pub AreNumbered : (n : ℕ) → List Done → Type 0
AreNumbered n [] = Unit {0}
AreNumbered n (d ∷ dones) = (d.n ≡ n) × AreNumbered (n + 1) dones

module _ (words : ℕ) (some : 1 ≤ words) (found : Finding) where
  -- behind lines that told this, the rest of the text comes to the finding, however many lines there were
  unfoldable pub Goes : LinesTold → List ℕ → Type 0
  Goes t text = (k : ℕ) → IsFoundOf (reading_from words t k (parts_at 10 text)) found

  -- one line more
  line_goes : (t u : LinesTold) (f : List ℕ) (fs : List (List ℕ)) (more : List ℕ) → AllByRecursion IsPlain (f ∷ fs) → t.end ≡ None → with_fields words t (f ∷ fs) ≡ Some u → Goes u more → Goes t (spelled f fs more)
  unfolding Goes told_with
  line_goes t u f fs more plain none said next k =
      let ten = all_weaker IsPlain (λ x. lacks 10 x ≡ true) (f ∷ fs) (λ x p. p.0) plain in
      let comma = all_weaker IsPlain (λ x. lacks 44 x ≡ true) (f ∷ fs) (λ x p. p.1) plain in
      let cut : parts_at 10 (line_of f fs ++ 10 ∷ more) ≡ line_of f fs ∷ parts_at 10 more = part_before 10 (line_of f fs) more (joined_lacks 44 (λ x. x) 10 f fs refl ten.0 ten.1) in
      let fields : fields_of (line_of f fs) ≡ f ∷ fs = joined_parts 44 (λ x. x) f fs comma.0 comma.1 ∙ ap (λ xs. f ∷ xs) (map-id fs) in
      let told : told_with words t (line_of f fs) ≡ Some u = ap (λ (o : Option End). if is_some o then None else with_fields words t (fields_of (line_of f fs))) none ∙ ap (with_fields words t) fields ∙ said in
      subst (λ r. IsFoundOf r found) (sym (line_taken (reading_from words t k (parts_at 10 (spelled f fs more))) words t u k (line_of f fs) more (parts_at 10 (spelled f fs more)) true refl (ap (parts_at 10) (line_text f fs more) ∙ cut) told refl)) (next (k + 1))

  -- ---- the lines of a call

  call_goes : (before : List Done) (d : Done) (more : List ℕ) → IsFit words d → d.n ≡ length before + 1 → d.n ≤ 1000000
      → Goes (told_so (before ++ record (tell before d) { rows = [] } ∷ []) []) more → Goes (told_so before []) (call_line points.Shown (finished_of d) ++ more)
  unfolding call_line
  call_goes before d more fit number few next =
      let fields = decimal d.seat ∷ op_text d.call ∷ decimal (a_of d.call) ∷ b_text d.call ∷ reply_text d.call d.reply ∷ reply_value d.reply ∷ point_text d.reply d.first d.point ∷ [] in
      let small : d.n < 2 ^ 64 = omega (arith, few) in
      let said : with_fields words (told_so before []) (decimal d.n ∷ fields) ≡ Some (told_so (before ++ record (tell before d) { rows = [] } ∷ []) []) =
      let word = (decimal_is_IsNumeral d.n small).0.1 in
      let short : nat_lt (length before) (2 ^ 32 - 1) ≡ true = grind (arith, nat_tests) in
      let numbered : says (decimal d.n) (length before + 1) ≡ true = rw (word_decimal d.n small) (same_test _ _ number) in
      rw (no_word (decimal d.n) 114 (111 ∷ 119 ∷ []) (omega arith) word, no_word (decimal d.n) 109 (97 ∷ 112 ∷ []) (omega arith) word, no_word (decimal d.n) 101 (110 ∷ 100 ∷ []) (omega arith) word, short, numbered, ← number)
      (ap (option_map (λ x. told_so (before ++ x ∷ []) [])) (done_read words some d (least_first before) fit)) in
      let text : call_line points.Shown (finished_of d) ++ more ≡ spelled (decimal d.n) fields more = simp append_assoc in
      subst (Goes (told_so before [])) (sym text) (line_goes (told_so before []) (told_so (before ++ record (tell before d) { rows = [] } ∷ []) []) (decimal d.n) fields more (fields_plain words d fit small) refl said next)

  -- one row more of a range
  row_goes : (front : List Done) (d : Done) (n : ℕ) (r : Row) (more : List ℕ) → is_range d.call ≡ true → n ≡ length front + 1 → n ≤ 1000000 → IsFitRow words r
      → Goes (told_so (front ++ with_row d r ∷ []) []) more → Goes (told_so (front ++ d ∷ []) []) (row_line n r ++ more)
  unfolding row_line
  row_goes front d n r more range number few fit next =
      let long : length (front ++ d ∷ []) ≡ n = length-append front (d ∷ []) ∙ sym number in
      let last : slice_get (front ++ d ∷ []) (length (front ++ d ∷ []) - 1) ≡ Some d = ap (slice_get (front ++ d ∷ [])) (omega (arith, long, number)) ∙ slice_get-push_end front d in
      let in_range : ends_in_range (front ++ d ∷ []) ≡ true = ap is_range_of last ∙ range in
      let numbered : says (decimal n) (length (front ++ d ∷ [])) ≡ true = rw (word_decimal n (omega (arith, few)), long) (same_test n n refl) in
      let said : with_fields words (told_so (front ++ d ∷ []) []) (codes "row" ∷ decimal n ∷ decimal r.key ∷ value_text r.value ∷ []) ≡ Some (told_so (front ++ with_row d r ∷ []) []) =
      rw (in_range, numbered) (ap (option_map (λ x. told_so (with_last_row (front ++ d ∷ []) x) [])) (row_read words some r fit) ∙ ap (λ ds. Some (told_so ds [])) (sym (row_more _ _ _ d (with_row d r) r refl refl refl))) in
      let text : row_line n r ++ more ≡ spelled (codes "row") (decimal n ∷ decimal r.key ∷ value_text r.value ∷ []) more = simp append_assoc in
      subst (Goes (told_so (front ++ d ∷ []) [])) (sym text) (line_goes (told_so (front ++ d ∷ []) []) (told_so (front ++ with_row d r ∷ []) []) (codes "row") (decimal n ∷ decimal r.key ∷ value_text r.value ∷ []) more
      ((refl, refl), (decimal_plain n (omega (arith, few)), (decimal_plain r.key (omega (arith, fit.key)), (value_plain r.value fit.value.each, tt)))) refl said next)

  with_rows : Done → List Row → Done
  with_rows d rows = record d { rows = d.rows ++ rows }

  rows_go : (front : List Done) (d : Done) (n : ℕ) (rows : List Row) (more : List ℕ) → is_range d.call ≡ true → n ≡ length front + 1 → n ≤ 1000000 → AllByRecursion (IsFitRow words) rows
      → Goes (told_so (front ++ with_rows d rows ∷ []) []) more → Goes (told_so (front ++ d ∷ []) []) (flat_map (row_line n) rows ++ more)
  unfolding with_rows
  rows_go front d n [] more range number few fit next = subst (λ (rs : List Row). Goes (told_so (front ++ record d { rows = rs } ∷ []) []) more) (append-nil d.rows) next
  rows_go front d n (r ∷ rows) more range number few fit next =
      subst (Goes (told_so (front ++ d ∷ []) [])) (sym (append_assoc (row_line n r) (flat_map (row_line n) rows) more))
      (row_goes front d n r (flat_map (row_line n) rows ++ more) range number few fit.0
      (rows_go front (with_row d r) n rows more range number few fit.1 (subst (λ (rs : List Row). Goes (told_so (front ++ record d { rows = rs } ∷ []) []) more) (sym (append_assoc d.rows (r ∷ []) rows)) next)))

  -- all lines of a call
  one_goes : (before : List Done) (d : Done) (more : List ℕ) → IsFit words d → d.n ≡ length before + 1 → d.n ≤ 1000000 → Goes (told_so (before ++ tell before d ∷ []) []) more → Goes (told_so before []) (call_text points.Shown d ++ more)
  unfolding with_rows
  one_goes before d more fit number few next =
      subst (Goes (told_so before [])) (sym (append_assoc (call_line points.Shown (finished_of d)) (flat_map (row_line d.n) d.rows) more))
      (call_goes before d (flat_map (row_line d.n) d.rows ++ more) fit number few (by d.call refl fit.rows)) where
        none : d.rows ≡ [] → Goes (told_so (before ++ record (tell before d) { rows = [] } ∷ []) []) (flat_map (row_line d.n) d.rows ++ more)
        none e = subst (λ (rs : List Row). Goes (told_so (before ++ record (tell before d) { rows = [] } ∷ []) []) (flat_map (row_line d.n) rs ++ more)) (sym e)
            (subst (λ (rs : List Row). Goes (told_so (before ++ record (tell before d) { rows = rs } ∷ []) []) more) e next)

        by : (call : Call) → d.call ≡ call → FitsRows words call d.rows → Goes (told_so (before ++ record (tell before d) { rows = [] } ∷ []) []) (flat_map (row_line d.n) d.rows ++ more)
        by (Range low high) e rows = rows_go before (record (tell before d) { rows = [] }) d.n d.rows more (ap is_range e) number few rows next
        by call e rows = none rows

  -- the lines of calls that are numbered in their order
  pub calls_go : (before dones : List Done) (more : List ℕ) → AllByRecursion (IsFit words) dones → AreNumbered (length before + 1) dones → length before + length dones ≤ 1000000
      → Goes (told_so (told_on before dones) []) more → Goes (told_so before []) (calls_text points.Shown dones ++ more)
  calls_go before [] more fit numbers few next = next
  calls_go before (d ∷ dones) more fit numbers few next =
      let long = length-append before (tell before d ∷ []) in
      subst (Goes (told_so before [])) (sym (append_assoc (call_text points.Shown d) (calls_text points.Shown dones) more))
      (one_goes before d (calls_text points.Shown dones ++ more) fit.0 numbers.0 (omega (arith, numbers.0, few))
      (calls_go (before ++ tell before d ∷ []) dones more fit.1 (subst (λ k. AreNumbered (k + 1) dones) (sym long) numbers.1) (omega (arith, long, few)) next))

  -- ---- the last lines

  map_goes : (dones : List Done) (maps : List Row) (r : Row) (more : List ℕ) → IsFitRow words r → Goes (told_so dones (maps ++ r ∷ [])) more → Goes (told_so dones maps) (map_line r ++ more)
  unfolding map_line
  map_goes dones maps r more fit next =
      let said : with_fields words (told_so dones maps) (codes "map" ∷ decimal r.key ∷ value_text r.value ∷ []) ≡ Some (told_so dones (maps ++ r ∷ [])) = ap (option_map (λ x. told_so dones (maps ++ x ∷ []))) (row_read words some r fit) in
      let text : map_line r ++ more ≡ spelled (codes "map") (decimal r.key ∷ value_text r.value ∷ []) more = simp append_assoc in
      subst (Goes (told_so dones maps)) (sym text) (line_goes (told_so dones maps) (told_so dones (maps ++ r ∷ [])) (codes "map") (decimal r.key ∷ value_text r.value ∷ []) more
      ((refl, refl), (decimal_plain r.key (omega (arith, fit.key)), (value_plain r.value fit.value.each, tt))) refl said next)

  pub maps_go : (dones : List Done) (maps rows : List Row) (more : List ℕ) → AllByRecursion (IsFitRow words) rows → Goes (told_so dones (maps ++ rows)) more → Goes (told_so dones maps) (flat_map map_line rows ++ more)
  maps_go dones maps [] more fit next = subst (λ m. Goes (told_so dones m) more) (append-nil maps) next
  maps_go dones maps (r ∷ rows) more fit next =
      subst (Goes (told_so dones maps)) (sym (append_assoc (map_line r) (flat_map map_line rows) more))
      (map_goes dones maps r (flat_map map_line rows ++ more) fit.0 (maps_go dones (maps ++ r ∷ []) rows more fit.1 (subst (λ m. Goes (told_so dones m) more) (sym (append_assoc maps (r ∷ []) rows)) next)))

  pub end_goes : (dones : List Done) (maps : List Row) (calls keys sum : ℕ) → calls < 2 ^ 64 → keys < 2 ^ 64 → sum < 2 ^ 128
      → ((k : ℕ) → IsFoundIn (record { dones = dones; maps = maps; end = Some (made_end calls keys sum) }) k found) → Goes (told_so dones maps) (end_line calls keys sum)
  unfolding Goes end_line
  end_goes dones maps calls keys sum c k s next =
      let t : LinesTold = record { dones = dones; maps = maps; end = Some (made_end calls keys sum) } in
      let said : with_fields words (told_so dones maps) (codes "end" ∷ decimal calls ∷ decimal keys ∷ decimal sum ∷ []) ≡ Some (record { dones = dones; maps = maps; end = Some (made_end calls keys sum) }) =
      rw (word_decimal calls c, word_decimal keys k, wide_decimal sum s) refl in
      let text : end_line calls keys sum ≡ spelled (codes "end") (decimal calls ∷ decimal keys ∷ decimal sum ∷ []) [] = simp append_assoc in
      subst (Goes (told_so dones maps)) (sym text) (line_goes (told_so dones maps) (record { dones = dones; maps = maps; end = Some (made_end calls keys sum) }) (codes "end") (decimal calls ∷ decimal keys ∷ decimal sum ∷ []) []
      ((refl, refl), (decimal_plain calls (omega arith), (decimal_plain keys (omega arith), (decimal_plain sum (omega arith), tt)))) refl said (λ n. next n))
