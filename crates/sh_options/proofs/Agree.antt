-- clap finds no fault exactly where the words make uses, each at most once.
use Rattle.std.proofs.Common.{rules, ◌≡◌, Bool, true, false, not, ◌==◌, ℕ, List, [], ◌∷◌, ◌++◌, map, Option, Some, None, refl, ap, ap₂, sym, ◌∙◌, append-nil, append_assoc}
use Rattle.std.{specs.{Prelude.{fold, slice_get}, List.{list_all}, Option.{option_map_or}, Str.{chars}}, proofs.lemmas.List.{map-append}}
use Rattle.clap.{proofs.WalkLemmas.{both}, specs.{Faults.{repeat_fault, settle_fault, turn_fault, walk_fault}, Kinds.{Kinds, or_else}, Lexer.{long_of, short_of}}}
use Rattle.clap.specs.Walk.{Row, Rule, Walk, arg_by_id, has_row, settled, settled_rows, used, walked}
use Rattle.sh_logic.proofs.Tests.{or_false}
use Rattle.sh_options.specs.{Command.{has_end, is_end}, Uses.{Names, Said, Text, Use, after_word, gives, asks, has_use, is_among, is_once_after, said_of, spelled, strange, uses_from, with_use}}
use Rattle.sh_options.proofs.Rows.{Word, bare, flag, flag_used, flag_value, has_row_is, joined, option_used, row_for, stray, unknown, word_is}
use Rattle.sh_options.proofs.Steps.{bare_fault, bare_walked, between, flag_fault, flag_value_fault, flag_walked, held, joined_fault, joined_walked, option_built, or_else_nil, shape_with, stray_refused, unknown_fault, wait_char, wait_flag, wait_flag_value, wait_no_char, wait_none, wait_option, wait_plain, wait_unknown, within}
use Rattle.sh_options.proofs.Tables.{bytes_eq_self, end_fault, end_is, id_option, long_flag, long_none, long_option, no_place, no_short, rules_built}

-- what is found wrong from here on
unfoldable pub rest_fault : List Rule → Walk → List Text → Kinds
rest_fault c w words = or_else (walk_fault (shape_with c) [] w words) (end_fault c (fold (walked c []) w words).held)

-- the rows after the last word, with the last option settled
unfoldable pub rows_end : List Rule → Walk → List Text → List Row
rows_end c w words = (settled c (fold (walked c []) w words).held).rows

pub nil_both : (a b : Kinds) → or_else a b ≡ [] → (a ≡ []) × (b ≡ [])
nil_both a b e = search rules

or_else_assoc : (a b c : Kinds) → or_else (or_else a b) c ≡ or_else a (or_else b c)
or_else_assoc a b c = search rules

rest_more : (c : List Rule) (w : Walk) (word : Text) (words : List Text)
    → rest_fault c w (word ∷ words) ≡ or_else (turn_fault (shape_with c) [] w word) (rest_fault c (walked c [] w word) words)
unfolding rest_fault walk_fault
rest_more c w word words =
    or_else_assoc (turn_fault (shape_with c) [] w word) (walk_fault (shape_with c) [] (walked c [] w word) words) (end_fault c (fold (walked c []) w (word ∷ words)).held)

rows_more : (c : List Rule) (w : Walk) (word : Text) (words : List Text) → rows_end c w (word ∷ words) ≡ rows_end c (walked c [] w word) words
unfolding rows_end
rows_more c w word words = refl

-- the next word is no fault, and nor is what follows
step_of : (c : List Rule) (w : Walk) (word : Text) (words : List Text) → rest_fault c w (word ∷ words) ≡ []
    → (turn_fault (shape_with c) [] w word ≡ []) × (rest_fault c (walked c [] w word) words ≡ [])
step_of c w word words nil = nil_both _ _ (sym (rest_more c w word words) ∙ nil)

rest_none : (n : Names) (rows : List Row) (p : Option (Text × List Text)) → rest_fault (rules_built n) (between rows p) [] ≡ settle_fault (rules_built n) false (held rows p)
unfolding rest_fault walk_fault
rest_none n rows p = end_is n (held rows p)

rest_within : (n : Names) (id : Text) (rows : List Row) → rest_fault (rules_built n) (within id rows) [] ≡ settle_fault (rules_built n) false (held rows (Some (id, [])))
unfolding rest_fault walk_fault
rest_within n id rows = end_is n (held rows (Some (id, [])))

-- ---- repeats

repeat_nil : (name : Text) (rows : List Row) → repeat_fault false name rows ≡ [] → has_row name rows ≡ false
repeat_nil name rows nil = search rules

no_repeat : (name : Text) (rows : List Row) → has_row name rows ≡ false → repeat_fault false name rows ≡ []
no_repeat name rows none = simp none

no_row : (name : Text) (rows : List Row) (seen : List Use) → rows ≡ map row_for seen → has_use name seen ≡ false → has_row name rows ≡ false
no_row name rows seen e none = ap (has_row name) e ∙ has_row_is name seen ∙ none

unused : (name : Text) (rows : List Row) (seen : List Use) → rows ≡ map row_for seen → has_row name rows ≡ false → has_use name seen ≡ false
unused name rows seen e none = sym (ap (has_row name) e ∙ has_row_is name seen) ∙ none

more_rows : (rows : List Row) (seen : List Use) (u : Use) → rows ≡ map row_for seen → rows ++ row_for u ∷ [] ≡ map row_for (seen ++ u ∷ [])
more_rows rows seen u e = ap (λ rs. rs ++ row_for u ∷ []) e ∙ sym (map-append row_for seen (u ∷ []))

pending_fault : (n : Names) (id v : Text) (rows : List Row) → is_among id n.options ≡ true
    → settle_fault (rules_built n) false (held rows (Some (id, v ∷ []))) ≡ repeat_fault false id rows
pending_fault n id v rows among = let mine = id_option n id among in simp mine (or_else_nil _)

pending_rows : (n : Names) (id v : Text) (rows : List Row) → is_among id n.options ≡ true
    → settled_rows (rules_built n) (Some (id, v ∷ [])) rows ≡ used (option_built id) (v ∷ []) rows
pending_rows n id v rows among = let mine = id_option n id among in simp mine

no_value : (n : Names) (id : Text) (rows : List Row) → is_among id n.options ≡ true → settle_fault (rules_built n) false (held rows (Some (id, []))) ≡ [] → ⊥
no_value n id rows among nil = let mine = id_option n id among in let bad = simp mine at nil in cc

-- ---- from clap to ours

pub record After (n : Names) (seen : List Use) (waiting : Option Text) (words : List Text) (end : List Row) : Type 0 where
  pub uses : List Use
  pub are : uses_from n waiting words ≡ Some uses
  pub once : is_once_after seen uses ≡ true
  pub rows : end ≡ map row_for (seen ++ uses)

add : (n : Names) (seen : List Use) (name : Text) (v waiting : Option Text) (words rest : List Text) (end later : List Row) → has_use name seen ≡ false
    → uses_from n waiting words ≡ with_use name v (uses_from n None rest) → end ≡ later
    → After n (seen ++ record { name = name; value = v } ∷ []) None rest later → After n seen waiting words end
add n seen name v waiting words rest end later none reads same h = search (rules, row_for, append_assoc)

-- what is taken between two options settles the last one
settles : (n : Names) (words : List Text) (rows : List Row) (p : Option (Text × List Text)) → has_end words ≡ false
    → rest_fault (rules_built n) (between rows p) words ≡ [] → settle_fault (rules_built n) false (held rows p) ≡ []
settles n [] rows p ends nil = sym (rest_none n rows p) ∙ nil
settles n (w ∷ ws) rows p ends nil = go (word_is n w (or_false _ _ ends).0) (or_false (is_end w) _ ends).0 (step_of (rules_built n) (between rows p) w ws nil).0
  where
    c : List Rule
    c = rules_built n

    go : Word n w → is_end w ≡ false → turn_fault (shape_with c) [] (between rows p) w ≡ [] → settle_fault c false (held rows p) ≡ []
    go (joined name v reads among said) ok t = (nil_both _ _ (sym (joined_fault c rows p w ok name v reads (long_option n name among)) ∙ t)).0
    go (bare name reads among said) ok t = sym (bare_fault c rows p w ok name reads (long_option n name among)) ∙ t
    go (flag name reads none among said) ok t = (nil_both _ _ (sym (flag_fault c rows p w ok name reads (long_flag n name none among)) ∙ t)).0
    go (flag_value name v reads none among said) ok t = let bad = sym (flag_value_fault c rows p w ok name v reads (long_flag n name none among)) ∙ t in cc
    go (unknown name v reads none also said) ok t = let bad = sym (unknown_fault c rows p w ok name v reads (long_none n name none also)) ∙ t in cc
    go (stray reads said) ok t = let bad = sym (stray_refused c rows p w ok reads (no_short n) (no_place n)) ∙ t in cc

abbrev pub TakenBetween : Names → List Text → Type 0
TakenBetween n words = (rows : List Row) (p : Option (Text × List Text)) (seen : List Use) → settled_rows (rules_built n) p rows ≡ map row_for seen
    → rest_fault (rules_built n) (between rows p) words ≡ [] → After n seen None words (rows_end (rules_built n) (between rows p) words)

abbrev pub TakenWithin : Names → List Text → Type 0
TakenWithin n words = (id : Text) (rows : List Row) (seen : List Use) → is_among id n.options ≡ true → rows ≡ map row_for seen
    → rest_fault (rules_built n) (within id rows) words ≡ [] → After n seen (Some id) words (rows_end (rules_built n) (within id rows) words)

-- a value that clap takes
value_taken : (n : Names) (id word : Text) (rows : List Row) → is_end word ≡ false → is_among id n.options ≡ true
    → turn_fault (shape_with (rules_built n)) [] (within id rows) word ≡ [] → walked (rules_built n) [] (within id rows) word ≡ between rows (Some (id, word ∷ []))
value_taken n id word rows ok mine t = go (word_is n word ok)
  where
    c : List Rule
    c = rules_built n

    Goal : Type 0
    Goal = walked c [] (within id rows) word ≡ between rows (Some (id, word ∷ []))

    known : arg_by_id c id ≡ Some (option_built id)
    known = id_option n id mine

    on_char : (o : Option ℕ) (x : ℕ) (xs : Text) → long_of word ≡ None → short_of word ≡ Some (x ∷ xs) → slice_get (chars (x ∷ xs)) 0 ≡ o → Goal
    on_char None x xs no_long reads is = (wait_no_char c rows id word ok known (bytes_eq_self id) no_long x xs reads is).1
    on_char (Some y) x xs no_long reads is =
        let bad = sym (wait_char c rows id word ok known (bytes_eq_self id) no_long x y xs reads is (no_short n y)) ∙ t in cc

    on_short : (o : Option Text) → long_of word ≡ None → short_of word ≡ o → Goal
    on_short None no_long reads = (wait_plain c rows id word ok known (bytes_eq_self id) no_long reads).1
    on_short (Some []) no_long reads = (wait_none c rows id word ok known (bytes_eq_self id) no_long reads).1
    on_short (Some (x ∷ xs)) no_long reads = on_char _ x xs no_long reads refl

    go : Word n word → Goal
    go (joined name v reads among said) = let bad = sym (wait_option c rows id word ok known name (Some v) reads (long_option n name among)) ∙ t in cc
    go (bare name reads among said) = let bad = sym (wait_option c rows id word ok known name None reads (long_option n name among)) ∙ t in cc
    go (flag name reads none among said) = let bad = sym (wait_flag c rows id word ok known name reads (long_flag n name none among)) ∙ t in cc
    go (flag_value name v reads none among said) = let bad = sym (wait_flag_value c rows id word ok known name v reads (long_flag n name none among)) ∙ t in cc
    go (unknown name v reads none also said) = let bad = sym (wait_unknown c rows id word ok known name v reads (long_none n name none also)) ∙ t in cc
    go (stray reads said) = on_short (short_of word) reads refl

within_taken : (n : Names) (w : Text) (ws : List Text) → is_end w ≡ false → has_end ws ≡ false → TakenBetween n ws → TakenWithin n (w ∷ ws)
unfolding uses_from
within_taken n w ws ok ends next id rows seen among are nil =
    let c = rules_built n in
    let step = step_of c (within id rows) w ws nil in
    let after : walked c [] (within id rows) w ≡ between rows (Some (id, w ∷ [])) = value_taken n id w rows ok among step.0 in
    let rest : rest_fault c (between rows (Some (id, w ∷ []))) ws ≡ [] = ap (λ s. rest_fault c s ws) (sym after) ∙ step.1 in
    let first : has_row id rows ≡ false =
    repeat_nil id rows (sym (pending_fault n id w rows among) ∙ settles n ws rows (Some (id, w ∷ [])) ends rest) in
    add n seen id (Some w) (Some id) (w ∷ ws) ws _ _ (unused id rows seen are first) refl
    (rows_more c (within id rows) w ws ∙ ap (λ s. rows_end c s ws) after)
    (next rows (Some (id, w ∷ [])) (seen ++ record { name = id; value = Some w } ∷ [])
    (pending_rows n id w rows among ∙ option_used id w rows first ∙ more_rows rows seen (record { name = id; value = Some w }) are) rest)

reading : (n : Names) (w : Text) (ws : List Text) (s : Said) → said_of n (spelled w) ≡ s → uses_from n None (w ∷ ws) ≡ after_word s (λ waiting. uses_from n waiting ws)
unfolding uses_from
reading n w ws s said = ap (λ x. after_word x (λ waiting. uses_from n waiting ws)) said

between_taken : (n : Names) (w : Text) (ws : List Text) → is_end w ≡ false → TakenBetween n ws → TakenWithin n ws → TakenBetween n (w ∷ ws)
between_taken n w ws ok next inner rows p seen are nil = go (word_is n w ok)
  where
    c : List Rule
    c = rules_built n

    now : List Row
    now = settled_rows c p rows

    Goal : Type 0
    Goal = After n seen None (w ∷ ws) (rows_end c (between rows p) (w ∷ ws))

    turn : turn_fault (shape_with c) [] (between rows p) w ≡ []
    turn = (step_of c (between rows p) w ws nil).0

    more : rest_fault c (walked c [] (between rows p) w) ws ≡ []
    more = (step_of c (between rows p) w ws nil).1

    -- an option or a flag that is given here
    given : (name : Text) (v : Option Text) (rows-after : List Row) → said_of n (spelled w) ≡ gives name v → has_row name now ≡ false
        → walked c [] (between rows p) w ≡ between rows-after None → rows-after ≡ now ++ row_for (record { name = name; value = v }) ∷ [] → Goal
    given name v rows-after said first after is =
        add n seen name v None (w ∷ ws) ws _ _ (unused name now seen are first) (reading n w ws _ said)
        (rows_more c (between rows p) w ws ∙ ap (λ s. rows_end c s ws) after)
        (next rows-after None (seen ++ record { name = name; value = v } ∷ []) (is ∙ more_rows now seen (record { name = name; value = v }) are)
        (ap (λ s. rest_fault c s ws) (sym after) ∙ more))

    go : Word n w → Goal
    go (joined name v reads among said) =
        let known = long_option n name among in
        let first = repeat_nil name now (nil_both _ _ (sym (joined_fault c rows p w ok name v reads known) ∙ turn)).1 in
        given name (Some v) _ said first (joined_walked c rows p w ok name v reads known) (option_used name v now first)
    go (bare name reads among said) =
        let after = bare_walked c rows p w ok name reads (long_option n name among) in
        let h = inner name now seen among are (ap (λ s. rest_fault c s ws) (sym after) ∙ more) in
        record {
          uses = h.uses;
          are = reading n w ws _ said ∙ h.are;
          once = h.once;
          rows = rows_more c (between rows p) w ws ∙ ap (λ s. rows_end c s ws) after ∙ h.rows;
        }
    go (flag name reads none among said) =
        let known = long_flag n name none among in
        let first = repeat_nil name now (nil_both _ _ (sym (flag_fault c rows p w ok name reads known) ∙ turn)).1 in
        given name None _ said first (flag_walked c rows p w ok name reads known) (flag_used name now first)
    go (flag_value name v reads none among said) = let bad = sym (flag_value_fault c rows p w ok name v reads (long_flag n name none among)) ∙ turn in cc
    go (unknown name v reads none also said) = let bad = sym (unknown_fault c rows p w ok name v reads (long_none n name none also)) ∙ turn in cc
    go (stray reads said) = let bad = sym (stray_refused c rows p w ok reads (no_short n) (no_place n)) ∙ turn in cc

no_words : (n : Names) → TakenBetween n []
unfolding rows_end uses_from
no_words n rows p seen are nil = record { uses = []; are = refl; once = refl; rows = are ∙ ap (map row_for) (sym (append-nil seen)) }

no_words_within : (n : Names) → TakenWithin n []
no_words_within n id rows seen among are nil = absurd (no_value n id rows among (sym (rest_within n id rows) ∙ nil))

pub taken_both : (n : Names) (words : List Text) → has_end words ≡ false → TakenBetween n words × TakenWithin n words
taken_both n [] ends = (no_words n, no_words_within n)
taken_both n (w ∷ ws) ends =
    let (ok, later) = or_false (is_end w) (has_end ws) ends in
    let (next, inner) = taken_both n ws later in
    (between_taken n w ws ok next inner, within_taken n w ws ok later next)

-- ---- from ours to clap

abbrev pub is_plain : Text → Bool
is_plain [] = true
is_plain (x ∷ xs) = not (x == 45)

-- no value begins with a hyphen
abbrev pub all_plain : List Use → Bool
all_plain us = list_all (λ u. option_map_or is_plain u.value true) us

plain_word : (w : Text) → is_plain w ≡ true → (is_end w ≡ false) × (long_of w ≡ None) × (short_of w ≡ None)
plain_word w e = search rules

-- a first use, and the rest
record Split (n : Names) (seen : List Use) (name : Text) (v : Option Text) (words : List Text) (us : List Use) : Type 0 where
  rest : List Use
  reads : uses_from n None words ≡ Some rest
  is : us ≡ record { name = name; value = v } ∷ rest
  first : has_use name seen ≡ false
  once : is_once_after (seen ++ record { name = name; value = v } ∷ []) rest ≡ true
  plain : option_map_or is_plain v true ≡ true
  others : all_plain rest ≡ true

pub not_true : (b : Bool) → not b ≡ true → b ≡ false
not_true b e = search rules

split : (n : Names) (seen : List Use) (name : Text) (v : Option Text) (words : List Text) (us : List Use) → with_use name v (uses_from n None words) ≡ Some us
    → is_once_after seen us ≡ true → all_plain us ≡ true → Split n seen name v words us
split n seen name v words us reads once plain = search (rules, both, not_true)

abbrev pub ReadBetween : Names → List Text → Type 0
ReadBetween n words = (rows : List Row) (p : Option (Text × List Text)) (seen us : List Use) → settled_rows (rules_built n) p rows ≡ map row_for seen
    → settle_fault (rules_built n) false (held rows p) ≡ [] → uses_from n None words ≡ Some us → is_once_after seen us ≡ true → all_plain us ≡ true
    → rest_fault (rules_built n) (between rows p) words ≡ []

abbrev pub ReadWithin : Names → List Text → Type 0
ReadWithin n words = (id : Text) (rows : List Row) (seen us : List Use) → is_among id n.options ≡ true → rows ≡ map row_for seen
    → uses_from n (Some id) words ≡ Some us → is_once_after seen us ≡ true → all_plain us ≡ true
    → rest_fault (rules_built n) (within id rows) words ≡ []

steps_on : (c : List Rule) (w after : Walk) (word : Text) (words : List Text) → turn_fault (shape_with c) [] w word ≡ [] → walked c [] w word ≡ after → rest_fault c after words ≡ []
    → rest_fault c w (word ∷ words) ≡ []
steps_on c w after word words t is rest = rest_more c w word words ∙ ap₂ or_else t (ap (λ s. rest_fault c s words) is ∙ rest)

within_read : (n : Names) (w : Text) (ws : List Text) → ReadBetween n ws → ReadWithin n (w ∷ ws)
unfolding uses_from
within_read n w ws next id rows seen us among are reads once plain =
    let c = rules_built n in
    let s = split n seen id (Some w) ws us reads once plain in
    let (ok, no_long, no_short) = plain_word w s.plain in
    let taken = wait_plain c rows id w ok (id_option n id among) (bytes_eq_self id) no_long no_short in
    let first : has_row id rows ≡ false = no_row id rows seen are s.first in
    steps_on c (within id rows) _ w ws taken.0 taken.1
    (next rows (Some (id, w ∷ [])) (seen ++ record { name = id; value = Some w } ∷ []) s.rest
    (pending_rows n id w rows among ∙ option_used id w rows first ∙ more_rows rows seen (record { name = id; value = Some w }) are)
    (pending_fault n id w rows among ∙ no_repeat id rows first) s.reads s.once s.others)

between_read : (n : Names) (w : Text) (ws : List Text) → is_end w ≡ false → ReadBetween n ws → ReadWithin n ws → ReadBetween n (w ∷ ws)
between_read n w ws ok next inner rows p seen us are settled-now reads once plain = go (word_is n w ok)
  where
    c : List Rule
    c = rules_built n

    now : List Row
    now = settled_rows c p rows

    Goal : Type 0
    Goal = rest_fault c (between rows p) (w ∷ ws) ≡ []

    refused : said_of n (spelled w) ≡ strange → Goal
    refused said = let bad : None ≡ Some us = sym (reading n w ws strange said) ∙ reads in cc

    given : (name : Text) (v : Option Text) (rows-after : List Row) → said_of n (spelled w) ≡ gives name v
        → turn_fault (shape_with c) [] (between rows p) w ≡ or_else (settle_fault c false (held rows p)) (repeat_fault false name now)
        → walked c [] (between rows p) w ≡ between rows-after None → (has_row name now ≡ false → rows-after ≡ now ++ row_for (record { name = name; value = v }) ∷ []) → Goal
    given name v rows-after said turn after is =
        let s = split n seen name v ws us (sym (reading n w ws (gives name v) said) ∙ reads) once plain in
        let first : has_row name now ≡ false = no_row name now seen are s.first in
        steps_on c (between rows p) _ w ws (turn ∙ ap₂ or_else settled-now (no_repeat name now first)) after
        (next rows-after None (seen ++ record { name = name; value = v } ∷ []) s.rest (is first ∙ more_rows now seen (record { name = name; value = v }) are) refl s.reads s.once s.others)

    go : Word n w → Goal
    go (joined name v reads among said) =
        let known = long_option n name among in
        given name (Some v) _ said (joined_fault c rows p w ok name v reads known) (joined_walked c rows p w ok name v reads known) (option_used name v now)
    go (bare name reads-long among said) =
        let known = long_option n name among in
        steps_on c (between rows p) _ w ws (bare_fault c rows p w ok name reads-long known ∙ settled-now) (bare_walked c rows p w ok name reads-long known)
        (inner name now seen us among are (sym (reading n w ws (asks name) said) ∙ reads) once plain)
    go (flag name reads none among said) =
        let known = long_flag n name none among in
        given name None _ said (flag_fault c rows p w ok name reads known) (flag_walked c rows p w ok name reads known) (flag_used name now)
    go (flag_value name v reads none among said) = refused said
    go (unknown name v reads none also said) = refused said
    go (stray reads said) = refused said

none_read : (n : Names) → ReadBetween n []
none_read n rows p seen us are settled-now reads once plain = rest_none n rows p ∙ settled-now

none_read_within : (n : Names) → ReadWithin n []
unfolding uses_from
none_read_within n id rows seen us among are reads once plain = let bad : None ≡ Some us = reads in cc

pub read_both : (n : Names) (words : List Text) → has_end words ≡ false → ReadBetween n words × ReadWithin n words
read_both n [] ends = (none_read n, none_read_within n)
read_both n (w ∷ ws) ends =
    let (ok, later) = or_false (is_end w) (has_end ws) ends in
    let (next, inner) = read_both n ws later in
    (between_read n w ws ok next inner, within_read n w ws next)
