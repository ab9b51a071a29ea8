-- What a range has gathered grows with the log and leaf by leaf, and answers it at its end.
use Rattle.std.proofs.Common.{rules, ◌≡◌, ◌≢◌, ◌⊎◌, ℕ, zero, suc, ◌+◌, ◌-◌, ◌<◌, ◌≤◌, cond, List, [], ◌∷◌, ◌++◌, length, length-append, append_assoc, append-nil, get_or, map, Option, Some, None, refl, sym, ap, ◌∙◌, subst, inl, inr, arith}
use Rattle.std.{specs.{Option.{unwrap_or}, Ordering.{nat_cmp}, Cmp.{nat_cmp_total}, FinMap.{find, from_entries, get-from_entries}}, proofs.lemmas.Bool.{cases_lt, cases_eq}}
use Rattle.std.proofs.lemmas.List.{map-append, take-append-le, Elements.{All-push}, Quantifiers.{all_pairs_push}}
use Rattle.sh_logic.proofs.{Tests.{less_test, not_less_test}, Lookups.{find_past, find_before}}
use Rattle.sh_base.specs.declared.config.ConfigParts.{ConfigParts}
use Rattle.sh_map.{specs.{declared.{log.Entry.{Entry}, book.Row.{Row}}, Map.{get, row_pair, pair_row}, Log.{map_of}, Book.{AnswersRange}, Rows.{nothing}}, proofs.MapLemmas.{apart_test, same_test}}
use Rattle.sh_map.proofs.RowsLemmas.{missed_in}
use Rattle.sh_image.specs.declared.leaf.LeafEntry.{LeafEntry}
use Rattle.sh_edit.specs.{Held.{held}, Ranging.{end_in, least_key, last_key, row_of, taken, upto_of}}
use Rattle.sh_edit.proofs.RangeLemmas.{least_is, none_from, taken_end, taken_past, taken_next, last_key-push, upto_full, upto_short}
use Rattle.sh_state.specs.Nodes.{low_in, high_in, standing_entries}
use Rattle.sh_readers.{specs.{Points.{HadSince, IsReadLeaf}, Ranges.{IsGathered, HeldSince, IsTaken, IsDone, IsBehind}}, proofs.PointLemmas.{HadAt-more}}

found_in_rows : (rows : List Row) (q : ℕ) → get (from_entries (map row_pair rows)) q ≡ find nat_cmp q (map row_pair rows)
found_in_rows rows q = get-from_entries nat_cmp_total (map row_pair rows) q

some_value : (found : Option (List ℕ)) (value : List ℕ) → found ≡ Some value → found ≡ Some (unwrap_or found [])
some_value found value e = search rules

-- the end of a range in a leaf lies within both
pub end_within_high : (leaf_high high : ℕ) → end_in leaf_high high ≤ high
end_within_high leaf_high high = elim (cases_lt leaf_high high) [ inl less ↦ rw (less_test leaf_high high less) (omega arith) | inr past ↦ rw (not_less_test leaf_high high past) (omega arith) ]

pub end_within_leaf : (leaf_high high : ℕ) → end_in leaf_high high ≤ leaf_high
end_within_leaf leaf_high high = elim (cases_lt leaf_high high) [ inl less ↦ rw (less_test leaf_high high less) (omega arith) | inr past ↦ rw (not_less_test leaf_high high past) (omega arith) ]

module _ (log : List Entry) (first low : ℕ) where
  pub gathered_begin : IsGathered log first low low []
  gathered_begin = search rules

  pub gathered_more : (more : List Entry) (place : ℕ) (rows : List Row) → IsGathered log first low place rows → IsGathered (log ++ more) first low place rows
  gathered_more more place rows h = record { reached = h.reached; rising = h.rising; within = h.within; points = λ key from below. HadAt-more log more first key _ (h.points key from below) }

  module _ (place : ℕ) (rows : List Row) (h : IsGathered log first low place rows) where
    -- a key from the place on has no row
    no_row : (key : ℕ) → place ≤ key → get (from_entries (map row_pair rows)) key ≡ None
    no_row key past = sym (missed_in rows key (length rows) (record {
      in_range = omega arith;
      smaller_before = λ j lt. let k = h.within j nothing lt in omega (arith, k.1);
      greater_after = λ j from lt. absurd (omega arith);
    }))

    -- keys that nothing was at need no row
    moved : (to : ℕ) → place ≤ to → ((key : ℕ) → place ≤ key → key < to → HadSince log first key None) → IsGathered log first low to rows
    moved to le none = record {
      reached = omega (arith, h.reached);
      rising = h.rising;
      within = λ i d lt. let k = h.within i d lt in (k.0, omega (arith, k.1));
      points = λ key from below. elim (cases_lt key place) [
        | inl less ↦ h.points key from less
        | inr past ↦ subst (HadSince log first key) (sym (no_row key past)) (none key past below)
      ];
    }

    row_before : (value : List ℕ) (key : ℕ) → key ≢ place → get (from_entries (map row_pair (rows ++ pair_row place value ∷ []))) key ≡ get (from_entries (map row_pair rows)) key
    row_before value key ne =
        found_in_rows (rows ++ pair_row place value ∷ []) key ∙ ap (find nat_cmp key) (map-append row_pair rows (pair_row place value ∷ []))
        ∙ find_before (map row_pair rows) ((place, value) ∷ []) key (ap (λ b. cond b (Some value) None) (apart_test key place ne)) ∙ sym (found_in_rows rows key)

    row_here : (value : List ℕ) → get (from_entries (map row_pair (rows ++ pair_row place value ∷ []))) place ≡ Some value
    row_here value =
        found_in_rows (rows ++ pair_row place value ∷ []) place ∙ ap (find nat_cmp place) (map-append row_pair rows (pair_row place value ∷ []))
        ∙ find_past (map row_pair rows) ((place, value) ∷ []) place (sym (found_in_rows rows place) ∙ no_row place (omega arith)) ∙ ap (λ b. cond b (Some value) None) (same_test place)

    -- the key at the place gets its row
    added : (value : List ℕ) → HadSince log first place (Some value) → IsGathered log first low (place + 1) (rows ++ pair_row place value ∷ [])
    added value had = record {
      reached = omega (arith, h.reached);
      rising = all_pairs_push (λ (x : Row) (y : Row). x.key < y.key) rows (pair_row place value) h.rising (λ k d lt. (h.within k d lt).1);
      within = All-push (λ (x : Row). (low ≤ x.key) × (x.key < place + 1)) rows (pair_row place value) (λ i d lt. let k = h.within i d lt in (k.0, omega (arith, k.1))) (h.reached, omega arith);
      points = λ key from below. elim (cases_eq key place) [
        | inl is ↦ subst (λ (q : ℕ). HadSince log first q (get (from_entries (map row_pair (rows ++ pair_row place value ∷ []))) q)) (sym is) (subst (HadSince log first place) (sym (row_here value)) had)
        | inr ne ↦ subst (HadSince log first key) (sym (row_before value key ne)) (h.points key from (omega arith))
      ];
    }

    -- there are no more rows than keys
    climbs : (i : ℕ) → i < length rows → low + i ≤ (get_or rows i nothing).key
    climbs zero lt = let k = h.within 0 nothing lt in omega (arith, k.0)
    climbs (suc i) lt = omega (arith, climbs i (omega arith), h.rising i (suc i) nothing (omega arith) lt)

    pub gathered_few : low + length rows ≤ place
    gathered_few = elim (cases_lt 0 (length rows)) [
      | inl some ↦
          let last : length rows - 1 < length rows = omega arith in
          omega (arith, climbs (length rows - 1) last, (h.within (length rows - 1) nothing last).1)
      | inr none ↦ omega (arith, h.reached)
    ]

    -- the rows answer the range so far
    pub gathered_answers : AnswersRange log first (length log) low place rows
    gathered_answers = record { rising = h.rising; within = h.within; points = h.points }

    -- and they do in a longer log
    pub gathered_answers_more : (more : List Entry) → AnswersRange (log ++ more) first (length log) low place rows
    gathered_answers_more more = record {
      rising = h.rising;
      within = h.within;
      points = λ key from below.
          let p = h.points key from below in
          (p.0, p.1, p.2, ap (λ (es : List Entry). get (map_of es) key) (take-append-le p.0 log more p.2) ∙ p.3);
    }

  -- ---- rows of a leaf
  -- nothing was taken, with room for something
  taken_none : (bound room : ℕ) (rows : List Row) → 1 ≤ room → IsGathered log first low bound rows → IsTaken log first low bound room rows []
  taken_none bound room rows some h = search (rules, append-nil)

  -- there is no room, and the last row ends at the place
  taken_full : (place bound : ℕ) (rows : List Row) → last_key rows + 1 ≡ place → place ≤ bound → IsGathered log first low place rows → IsTaken log first low bound 0 rows []
  taken_full place bound rows is le h = search (rules, append-nil)

  taken_row : (bound room : ℕ) (rows more : List Row) (row : Row) → IsTaken log first low bound room (rows ++ row ∷ []) more → IsTaken log first low bound (suc room) rows (row ∷ more)
  taken_row bound room rows more row h = search (rules, append_assoc)

  module _ (es : List LeafEntry) (bound : ℕ) where
    -- the rows that are taken of a leaf, after a start with room or with a row
    pub leaf_taken : (room place : ℕ) (rows : List Row) → (1 ≤ room) ⊎ (last_key rows + 1 ≡ place) → IsGathered log first low place rows → place ≤ bound → HeldSince log first place bound es → IsTaken log first low bound room rows (taken es bound room place)
    leaf_taken zero place rows start h le holds = elim start [ inl some ↦ absurd (omega arith) | inr is ↦ taken_full place bound rows is le h ]
    leaf_taken (suc room) place rows start h le holds = elim (least_key es place) as (λ f. least_key es place ≡ f → IsTaken log first low bound (suc room) rows (taken es bound (suc room) place)) [
      | None ↦ λ e.
          let to_bound = moved place rows h bound le (λ key from below. subst (HadSince log first key) (none_from es place e key from) (holds key from below)) in
          subst (IsTaken log first low bound (suc room) rows) (sym (taken_end es bound (suc room) place e)) (taken_none bound (suc room) rows (omega arith) to_bound)
      | Some key ↦ λ e.
          let least = least_is es place key e in
          elim (cases_lt key bound) [
            | inr past ↦
                let to_bound = moved place rows h bound le (λ q from below. subst (HadSince log first q) (least.below q from (omega arith)) (holds q from below)) in
                subst (IsTaken log first low bound (suc room) rows) (sym (taken_past es bound (suc room) place key e past)) (taken_none bound (suc room) rows (omega arith) to_bound)
            | inl less ↦
                let to_key = moved place rows h key least.from (λ q from below. subst (HadSince log first q) (least.below q from below) (holds q from (omega arith))) in
                let had = subst (HadSince log first key) (some_value (held es key) least.value least.here) (holds key least.from less) in
                let with_row = added key rows to_key (unwrap_or (held es key) []) had in
                let rest = leaf_taken room (key + 1) (rows ++ row_of es key ∷ []) (inr (ap (λ n. n + 1) (last_key-push rows (row_of es key)))) with_row (omega arith) (λ q from below. holds q (omega (arith, least.from)) below) in
                subst (IsTaken log first low bound (suc room) rows) (sym (taken_next es bound room place key e less)) (taken_row bound room rows (taken es bound room (key + 1)) (row_of es key) rest)
          ]
    ] refl

  -- ---- behind a leaf
  done_at : (high most at : ℕ) (rows : List Row) → upto_of most high rows ≡ at → at ≤ high → IsGathered log first low at rows → IsDone log first low high most rows
  done_at high most at rows is le h = record { within = omega arith; gathered = subst (λ (n : ℕ). IsGathered log first low n rows) (sym is) h }

  module _ (leaf_high high most : ℕ) (rows more : List Row) (left : length rows < most) (h : IsTaken log first low (end_in leaf_high high) (most - length rows) rows more) where
    long : length (rows ++ more) ≡ length rows + length more
    long = length-append rows more

    full_done : most ≤ length (rows ++ more) → IsDone log first low high most (rows ++ more)
    full_done full =
        let all : length more ≡ most - length rows = omega (arith, long, h.few) in
        let within : last_key (rows ++ more) + 1 ≤ high = omega (arith, h.within all, end_within_high leaf_high high) in
        let as_long : length (rows ++ more) ≡ most = omega (arith, long) in
        done_at high most (last_key (rows ++ more) + 1) (rows ++ more) (upto_full most high (rows ++ more) as_long within) within (h.full all)

    short_done : high ≤ leaf_high → length (rows ++ more) < most → IsDone log first low high most (rows ++ more)
    short_done past short =
        let at_high = subst (λ (n : ℕ). IsGathered log first low n (rows ++ more)) (ap (λ b. cond b leaf_high high) (not_less_test leaf_high high past)) (h.short (omega (arith, long))) in
        done_at high most high (rows ++ more) (upto_short most high (rows ++ more) (λ is. omega arith)) (omega arith) at_high

    behind_taken : IsBehind log first low leaf_high high most (rows ++ more)
    behind_taken = record {
      few = omega (arith, long, h.few);
      on = λ less short. subst (λ (n : ℕ). IsGathered log first low n (rows ++ more)) (ap (λ b. cond b leaf_high high) (less_test leaf_high high less)) (h.short (omega (arith, long)));
      done = λ ends. elim (cases_lt (length (rows ++ more)) most) [
        | inl short ↦ elim ends [ inl past ↦ short_done past short | inr full ↦ absurd (omega arith) ]
        | inr full ↦ full_done full
      ];
    }

  -- a range takes of a leaf what it has room for, from the place that it has reached on
  pub leaf_behind : (place leaf_high high most : ℕ) (es : List LeafEntry) (rows : List Row) → IsGathered log first low place rows → place ≤ leaf_high → place ≤ high → length rows < most → HeldSince log first place (end_in leaf_high high) es
      → IsBehind log first low leaf_high high most (rows ++ taken es (end_in leaf_high high) (most - length rows) place)
  leaf_behind place leaf_high high most es rows h within below left holds =
      let le : place ≤ end_in leaf_high high = elim (cases_lt leaf_high high) [ inl less ↦ rw (less_test leaf_high high less) within | inr past ↦ rw (not_less_test leaf_high high past) below ] in
      behind_taken leaf_high high most rows (taken es (end_in leaf_high high) (most - length rows) place) left (leaf_taken es (end_in leaf_high high) (most - length rows) place rows (inl (omega arith)) h le holds)

  -- a range that is done is answered by its rows
  pub done_answers : (high most : ℕ) (rows : List Row) → IsDone log first low high most rows → (low ≤ upto_of most high rows) × (upto_of most high rows ≤ high) × AnswersRange log first (length log) low (upto_of most high rows) rows
  done_answers high most rows h = (h.gathered.reached, h.within, gathered_answers (upto_of most high rows) rows h.gathered)

-- what an accepted READ of a leaf found, between its fences
pub read_held : (p : ConfigParts) (log : List Entry) (first low high : ℕ) (standing got : List ℕ) → IsReadLeaf p log first standing got → 1 ≤ low → low_in got ≤ low → high ≤ high_in got → HeldSince log first low high (standing_entries p got)
read_held p log first low high standing got h some above within key from below = h.holds key (λ z. omega arith) (omega arith) (omega arith)
