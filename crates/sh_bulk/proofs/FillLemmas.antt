-- How far the nodes of a pool are written.
use Rattle.std.proofs.Common.{rules, ◌≡◌, ℕ, suc, ◌+◌, ◌-◌, ◌*◌, ◌^◌, ◌<◌, ◌≤◌, List, ◌++◌, length, take, drop, replicate, refl, sym, ap, subst, ◌∙◌, arith}
use Rattle.std.{specs.Prelude.{slice_index}, proofs.{Math.Nat.{mul-le-mul_right}, lemmas.{Nat.{mul-le}, List.{drop-drop, drop-replicate, drop_at, ext_get_or, length-replicate, replicate-append-replicate, take-append-drop, take-replicate, take_at}}}}
use Rattle.std.proofs.lemmas.Slice.{take-put_mid, drop-put_mid}
use borrow.Rule.Slice.PartMut.{put_mid}
use Rattle.sh_base.{specs.{declared.config.ConfigParts.{ConfigParts}, Setting.{all_locks, first_node_word, node_size, nodes, pool_words, IsSetting}}, proofs.LayoutLemmas.{nodes_small}}
use Rattle.sh_map.specs.declared.book.Row.{Row}
use Rattle.sh_bulk.specs.{Shape.{count_in, div_up, first_in, height_of, inner_fill, leaf_fill, need_of, span_in}, Nodes.{words_at, HaveValues}, Words.{level_words, words_from, words_to}}
use Rattle.sh_bulk.proofs.{LevelLemmas.{leaf_long}, PieceLemmas.{length-pieces}, ShapeLemmas.{first_up, height_is, node_begins, two_parts, within_need}}

module _ (p : ConfigParts) where
  pub pool_is : pool_words p ≡ first_node_word p + nodes p * node_size p
  unfolding pool_words
  pool_is = refl

  -- where the nodes begin, and how long the memory is
  pub front_at : (parts : ConfigParts) (locks : ℕ) (ws : List ℕ) → parts ≡ p → locks ≡ all_locks p → ws ≡ replicate (pool_words p) 0 → (2 + parts.servers + locks ≡ first_node_word p) × (length ws ≡ first_node_word p + nodes p * node_size p)
  front_at parts locks ws is also blank = (omega (arith, ap (λ (q : ConfigParts). q.servers) is, also), ap length blank ∙ (length-replicate {A = ℕ} (pool_words p) 0 ∙ pool_is))

-- zeros and more zeros
pub zeros_more : (a b n : ℕ) (front more out : List ℕ) → front ≡ replicate a 0 → more ≡ replicate b 0 → a + b ≡ n → out ≡ front ++ more → out ≡ replicate n 0
zeros_more a b n front more out is also e joined = joined ∙ ((λ t. is t ++ also t) ∙ (replicate-append-replicate a b 0 ∙ ap (λ k. replicate k 0) e))

-- the two parts of zeros
pub blank_front : (a b n : ℕ) (ws : List ℕ) → ws ≡ replicate n 0 → n ≡ a + b → take a ws ≡ replicate a 0
blank_front a b n ws is e = ap (take a) is ∙ take-replicate a n 0 (omega arith)

pub blank_rest : (a b n : ℕ) (ws : List ℕ) → ws ≡ replicate n 0 → n ≡ a + b → drop a ws ≡ replicate b 0
blank_rest a b n ws is e = (let rest : n - a ≡ b = omega arith in ap (drop a) is ∙ (drop-replicate a n 0 ∙ ap (λ k. replicate k 0) rest))

-- the levels up to this one are written, and zeros stand behind them
pub record IsFilled (p : ConfigParts) (rows : List Row) (number count first span at : ℕ) (out : List ℕ) : Type 0 where
  pub count_is : count ≡ count_in p (length rows) number
  pub first_is : first ≡ first_in p (length rows) number
  pub span_is : span ≡ span_in p number
  pub at_is : at + node_size p ≡ first_in p (length rows) (suc number) * node_size p
  pub front : take at out ≡ words_to p rows number
  pub rest : drop at out ≡ replicate (nodes p * node_size p - at) 0

module _ (p : ConfigParts) (lawful : IsSetting p) (rows : List Row) (room : need_of p (length rows) ≤ nodes p) where
  -- what the code's sums and products come to at the leaves
  pub record IsBegun (at long : ℕ) : Type 0 where
    pub at_is : at ≡ count_in p (length rows) 0 * node_size p
    pub within : at ≤ long
    pub long_is : long ≡ nodes p * node_size p
    pub small : long ≤ 4194304

  pub begun : (count size : ℕ) (out : List ℕ) → count ≡ count_in p (length rows) 0 → size ≡ node_size p → out ≡ replicate (nodes p * node_size p) 0 → IsBegun (count * size) (length out)
  begun count size out is wide blank =
      let at : count * size ≡ count_in p (length rows) 0 * node_size p = λ t. is t * wide t in
      let long : length out ≡ nodes p * node_size p = ap length blank ∙ length-replicate {A = ℕ} (nodes p * node_size p) 0 in
      let row : count_in p (length rows) 0 * node_size p ≤ nodes p * node_size p = mul-le-mul_right (node_size p) (omega (arith, room, within_need p lawful (length rows) 0 (omega arith))) in
      record { at_is = at; within = omega (arith, at, long, row); long_is = long; small = omega (arith, long, lawful.size, pool_is p) }

  pub filled_start : HaveValues p rows → (count span at : ℕ) (out new : List ℕ) → count ≡ count_in p (length rows) 0 → span ≡ leaf_fill p → at ≡ count * node_size p → out ≡ replicate (nodes p * node_size p) 0 → length new ≡ at
      → ((i : ℕ) → i < at → slice_index new i ≡ slice_index (level_words p rows 0) i) → IsFilled p rows 0 count 1 span at (new ++ drop at out)
  filled_start values count span at out new is wide place blank long each =
      let many : at ≡ count_in p (length rows) 0 * node_size p = place ∙ ap (λ c. c * node_size p) is in
      let all = length-pieces (words_at p rows 0) (node_size p) 0 (count_in p (length rows) 0) (λ j ge lt. leaf_long p lawful rows j values) in
      let same : new ≡ level_words p rows 0 = ext_get_or 0 new (level_words p rows 0) (omega (arith, long, many, all)) (λ i lt. each i (omega (arith, long, lt))) in
      let step : (1 + count_in p (length rows) 0) * node_size p ≡ count_in p (length rows) 0 * node_size p + node_size p = grind arith in
      record {
        count_is = is;
        first_is = refl;
        span_is = wide;
        at_is = omega (arith, many, step);
        front = take_at new (drop at out) at long ∙ same;
        rest = drop_at new (drop at out) at long ∙ (ap (drop at) blank ∙ drop-replicate at (nodes p * node_size p) 0);
      }

  -- what they come to over a level below the top one
  pub record IsBounded (number count first span at above size fill : ℕ) : Type 0 where
    pub above_is : above ≡ count_in p (length rows) (suc number)
    pub size_is : above * size ≡ above * node_size p
    pub end : at + above * size ≤ nodes p * node_size p
    pub small : nodes p * node_size p ≤ 4194304
    pub numbers : first + count ≤ nodes p
    pub few : nodes p < 2 ^ 32
    pub wide : length rows ≤ 2 ^ 57 → span * fill ≤ 2 ^ 57 * 96

  pub level_bounded : (number count first span at above size fill : ℕ) (out : List ℕ) → number < height_of p (length rows) → above ≡ div_up count fill → size ≡ node_size p → fill ≡ inner_fill p → fill ≤ 96 → IsFilled p rows number count first span at out → IsBounded number count first span at above size fill
  level_bounded number count first span at above size fill out below above_is size_is fill_is narrow was =
      let is : above ≡ count_in p (length rows) (suc number) = above_is ∙ (λ t. div_up (was.count_is t) (fill_is t)) in
      let whole : above * size ≡ above * node_size p = ap (λ w. above * w) size_is in
      let up = within_need p lawful (length rows) (suc number) (omega arith) in
      let begins = node_begins p lawful (length rows) number 1 ((height_is p lawful (length rows)).below number (omega arith) below) (λ e. omega arith) in
      let row : (first_in p (length rows) (suc number) + count_in p (length rows) (suc number)) * node_size p ≤ (nodes p + 1) * node_size p = mul-le-mul_right (node_size p) (omega (arith, up, room)) in
      let left : (first_in p (length rows) (suc number) + count_in p (length rows) (suc number)) * node_size p ≡ first_in p (length rows) (suc number) * node_size p + count_in p (length rows) (suc number) * node_size p = grind arith in
      let right : (nodes p + 1) * node_size p ≡ nodes p * node_size p + node_size p = grind arith in
      record {
        above_is = is;
        size_is = whole;
        end = omega (arith, row, left, right, was.at_is, whole, ap (λ c. c * node_size p) is);
        small = omega (arith, lawful.size, pool_is p);
        numbers = omega (arith, first_up p lawful (length rows) number (height_of p (length rows)) below, room, was.first_is, was.count_is);
        few = omega (arith, nodes_small p lawful);
        wide = λ h. mul-le span fill (2 ^ 57) 96 (omega (arith, begins, was.span_is, h)) narrow;
      }

  pub filled_more : (number count first span at above size fill : ℕ) (out new : List ℕ) → number < height_of p (length rows) → IsBounded number count first span at above size fill → fill ≡ inner_fill p
      → length out ≡ nodes p * node_size p → length new ≡ at + above * size - at → new ≡ words_from p rows (suc number) 0 above
      → IsFilled p rows number count first span at out → IsFilled p rows (number + 1) above (first + count) (span * fill) (at + above * size) (put_mid at (at + above * size - at) out new)
  filled_more number count first span at above size fill out new below bounds wide long same made was =
      let is = bounds.above_is in
      let end = at + above * size in
      let place : end ≡ at + above * node_size p = omega (arith, bounds.size_is) in
      let up : suc number ≡ number + 1 = omega arith in
      let turned : span_in p number * inner_fill p ≡ inner_fill p * span_in p number = grind arith in
      let step : (first_in p (length rows) (suc number) + count_in p (length rows) (suc number)) * node_size p ≡ first_in p (length rows) (suc number) * node_size p + count_in p (length rows) (suc number) * node_size p = grind arith in
      let inside : at ≤ length out = omega (arith, long, bounds.end) in
      subst (λ k. IsFilled p rows k above (first + count) (span * fill) end (put_mid at (end - at) out new)) up (record {
        count_is = is;
        first_is = (λ t. was.first_is t + was.count_is t);
        span_is = (λ t. was.span_is t * wide t) ∙ turned;
        at_is = omega (arith, place, was.at_is, step, ap (λ c. c * node_size p) is);
        front = take-put_mid at (end - at) out new end (omega (arith, same)) inside ∙ (λ t. was.front t ++ made t) ∙ ap (λ c. words_to p rows number ++ words_from p rows (suc number) 0 c) is;
        rest = drop-put_mid at (end - at) out new end (omega arith) inside (omega (arith, same))
            ∙ (let on : end ≡ at + (end - at) = omega (arith, place) in ap (λ k. drop k out) on ∙ (sym (drop-drop (end - at) at out) ∙ (ap (drop (end - at)) was.rest ∙ (drop-replicate (end - at) (nodes p * node_size p - at) 0 ∙ (let left : nodes p * node_size p - at - (end - at) ≡ nodes p * node_size p - end = omega (arith, place) in ap (λ k. replicate k 0) left)))));
      })

  pub filled_end : (number count first span at : ℕ) (out : List ℕ) → number ≡ height_of p (length rows) → IsFilled p rows number count first span at out
      → out ≡ words_to p rows number ++ replicate ((nodes p - need_of p (length rows)) * node_size p) 0
  filled_end number count first span at out top was =
      let one : count_in p (length rows) number ≡ 1 = ap (count_in p (length rows)) top ∙ (height_is p lawful (length rows)).one in
      let need : first_in p (length rows) number ≡ need_of p (length rows) = ap (first_in p (length rows)) top in
      let ends : first_in p (length rows) (suc number) * node_size p ≡ (need_of p (length rows) + 1) * node_size p = (λ t. (need t + one t) * node_size p) in
      let split : (need_of p (length rows) + 1) * node_size p ≡ need_of p (length rows) * node_size p + node_size p = grind arith in
      let sums : need_of p (length rows) * node_size p + (nodes p - need_of p (length rows)) * node_size p ≡ nodes p * node_size p = two_parts (need_of p (length rows)) (nodes p) (node_size p) room in
      let left : nodes p * node_size p - at ≡ (nodes p - need_of p (length rows)) * node_size p = omega (arith, was.at_is, ends, split, sums) in
      sym (take-append-drop at out) ∙ (λ t. was.front t ++ (was.rest ∙ ap (λ k. replicate k 0) left) t)
