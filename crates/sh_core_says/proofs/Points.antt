-- The points of a seat's updates, and the places of its entries.
use Rattle.std.proofs.Common.{rules, ◌≡◌, ℕ, zero, suc, ◌+◌, ◌<◌, ◌≤◌, Bool, true, false, cond, List, [], ◌∷◌, ◌++◌, length, Some, refl, sym, ap, ◌∙◌, subst, inl, inr, arith, length-append, eq-eqb}
use Rattle.std.specs.{Prelude.{◌==◌, if◌then◌else◌, map, slice_get, Any}, List.{AllByRecursion}}
use Rattle.sh_map.specs.{declared.{call.{Call.{Call}, Reply.{Reply}}, log.Entry.{Entry}, book.Done.{Done}}, Made.{entries_by}, Book.{AnswersAt, IsOwn, made}, Laws.{places_of}}
use Rattle.sh_map.specs.declared.call.Call.TheVariants as call
use Rattle.sh_map.specs.declared.call.Reply.TheVariants as reply
use Rattle.sh_tree.{specs.Lists.{is_in, outside, AreDifferent}, proofs.ListLemmas.{in_head, in_more, in_cases}}
use Rattle.sh_core_says.{proofs.Trees.{not_in}, specs.Books.{calls_by, numbered}}
use Rattle.sh_core.specs.Actors.{AreAnswered, AreInOrder, made_by, updates}

-- where so many entries were made, their point
abbrev point_where : (entries point : ℕ) → List ℕ → List ℕ
point_where zero point ps = ps
point_where (suc n) point ps = point ∷ ps

-- the points of the ended calls that have made an entry
abbrev pub points : List Done → List ℕ
points [] = []
points (d ∷ ds) = point_where (made d.call d.reply) d.point (points ds)

pub points_numbered : (ds : List Done) → points (map (numbered 0) ds) ≡ points ds
points_numbered [] = refl
points_numbered (d ∷ ds) = ap (point_where (made d.call d.reply) d.point) (points_numbered ds)

made_small : (c : Call) (r : Reply) → made c r ≤ 1
made_small c r = search rules

pub made_entries : (seat : ℕ) (c : Call) (r : Reply) → length (entries_by seat c r) ≡ made c r
made_entries seat c r = search rules

pub points_long : (ds : List Done) → length (points ds) ≡ length (updates ds)
points_long [] = refl
points_long (d ∷ ds) = at (points_long ds) (made d.call d.reply) refl
  where
    at : length (points ds) ≡ length (updates ds) → (n : ℕ) → made d.call d.reply ≡ n → length (point_where n d.point (points ds)) ≡ length (entries_by d.seat d.call d.reply ++ updates ds)
    at rest zero q = omega (arith, q, rest, made_entries d.seat d.call d.reply, length-append (entries_by d.seat d.call d.reply) (updates ds))
    at rest (suc n) q = omega (arith, q, made_small d.call d.reply, rest, made_entries d.seat d.call d.reply, length-append (entries_by d.seat d.call d.reply) (updates ds))

in_order_high : (low : ℕ) (ds : List Done) (high : ℕ) → AreInOrder low ds high → low ≤ high
in_order_high low [] high h = h
in_order_high low (d ∷ ds) high h = omega (arith, h.0, h.1, in_order_high (d.point + made d.call d.reply) ds high h.2)

pub points_in : (low : ℕ) (ds : List Done) (high : ℕ) → AreInOrder low ds high → (k : ℕ) → is_in (points ds) k ≡ true → (low ≤ k) × (k < high)
points_in low [] high h k w = absurd (cc)
points_in low (d ∷ ds) high h k w = at (λ w. let u = points_in (d.point + made d.call d.reply) ds high h.2 k w in (omega (arith, u.0, h.0, h.1), u.1)) (made d.call d.reply) refl w
  where
    at : (is_in (points ds) k ≡ true → (low ≤ k) × (k < high)) → (n : ℕ) → made d.call d.reply ≡ n → is_in (point_where n d.point (points ds)) k ≡ true → (low ≤ k) × (k < high)
    at behind zero q w = behind w
    at behind (suc n) q w = elim (in_cases d.point k (points ds) w) [
      | inl e ↦ (omega (arith, e, h.0, h.1), omega (arith, e, q, in_order_high (d.point + made d.call d.reply) ds high h.2))
      | inr later ↦ behind later
    ]

pub points_differ : (low : ℕ) (ds : List Done) (high : ℕ) → AreInOrder low ds high → AreDifferent (points ds)
points_differ low [] high h = tt
points_differ low (d ∷ ds) high h = at (points_differ (d.point + made d.call d.reply) ds high h.2) (made d.call d.reply) refl
  where
    at : AreDifferent (points ds) → (n : ℕ) → made d.call d.reply ≡ n → AreDifferent (point_where n d.point (points ds))
    at rest zero q = rest
    at rest (suc n) q = (not_in d.point (points ds) (λ w. let u = points_in (d.point + made d.call d.reply) ds high h.2 d.point w in omega (arith, u.0, q)), rest)

-- ---- the places of a seat's entries

place_from : (seat n : ℕ) (log : List Entry) (k : ℕ) → is_in (places_of seat n log) k ≡ true → n ≤ k
place_from seat n [] k w = absurd (cc)
place_from seat n (e ∷ log) k w = by (λ w. omega (arith, place_from seat (n + 1) log k w)) (e.seat == seat) w
  where
    by : (is_in (places_of seat (n + 1) log) k ≡ true → n ≤ k) → (t : Bool) → is_in (if t then n ∷ places_of seat (n + 1) log else places_of seat (n + 1) log) k ≡ true → n ≤ k
    by behind true w = elim (in_cases n k (places_of seat (n + 1) log) w) [ inl q ↦ omega (arith, q) | inr later ↦ behind later ]
    by behind false w = behind w

pub places_differ : (seat n : ℕ) (log : List Entry) → AreDifferent (places_of seat n log)
places_differ seat n [] = tt
places_differ seat n (e ∷ log) = by (places_differ seat (n + 1) log) (e.seat == seat)
  where
    by : AreDifferent (places_of seat (n + 1) log) → (t : Bool) → AreDifferent (if t then n ∷ places_of seat (n + 1) log else places_of seat (n + 1) log)
    by rest true = (not_in n (places_of seat (n + 1) log) (λ w. let le = place_from seat (n + 1) log n w in omega (arith, le)), rest)
    by rest false = rest

pub places_long : (seat n : ℕ) (log : List Entry) → length (places_of seat n log) ≡ length (made_by seat log)
places_long seat n [] = refl
places_long seat n (e ∷ log) = by (places_long seat (n + 1) log) (e.seat == seat)
  where
    by : length (places_of seat (n + 1) log) ≡ length (made_by seat log) → (t : Bool) → length (if t then n ∷ places_of seat (n + 1) log else places_of seat (n + 1) log) ≡ length (cond t (e ∷ made_by seat log) (made_by seat log))
    by rest true = ap suc rest
    by rest false = rest

pub place_in : (seat n : ℕ) (log : List Entry) (j k : ℕ) (e : Entry) → slice_get log j ≡ Some e → e.seat ≡ seat → k ≡ n + j → is_in (places_of seat n log) k ≡ true
place_in seat n [] j k e here is at = absurd (cc)
place_in seat n (x ∷ log) zero k e here is at =
    let same : x ≡ e = cc in
    subst (λ (t : Bool). is_in (if t then n ∷ places_of seat (n + 1) log else places_of seat (n + 1) log) k ≡ true) (sym (eq-eqb x.seat seat (ap (λ (y : Entry). y.seat) same ∙ is)))
    (let q : n ≡ k = omega (arith, at) in subst (λ (z : ℕ). is_in (z ∷ places_of seat (n + 1) log) k ≡ true) (sym q) (in_head k (places_of seat (n + 1) log)))
place_in seat n (x ∷ log) (suc j) k e here is at = by (x.seat == seat) (place_in seat (n + 1) log j k e here is (omega (arith, at)))
  where
    by : (t : Bool) → is_in (places_of seat (n + 1) log) k ≡ true → is_in (if t then n ∷ places_of seat (n + 1) log else places_of seat (n + 1) log) k ≡ true
    by true w = in_more n k (places_of seat (n + 1) log) w
    by false w = w

-- the entry of an ended call that has made one is of its seat
pub points_stand : (log : List Entry) (seat : ℕ) (ds : List Done) → AreAnswered log seat ds → AllByRecursion (λ (k : ℕ). is_in (places_of seat 0 log) k ≡ true) (points ds)
points_stand log seat [] h = tt
points_stand log seat (d ∷ ds) h = at (points_stand log seat ds h.1) (made d.call d.reply) refl
  where
    own : (c : Call) (r : Reply) (n : ℕ) → made c r ≡ suc n → AnswersAt log d c r → is_in (places_of seat 0 log) d.point ≡ true
    own (call.Put key value) (reply.Some old) n q k = place_in seat 0 log d.point d.point _ k h.0.seat_is (omega arith)
    own (call.Put key value) reply.None n q k = place_in seat 0 log d.point d.point _ k h.0.seat_is (omega arith)
    own (call.Del key) (reply.Some old) n q k = place_in seat 0 log d.point d.point _ k h.0.seat_is (omega arith)
    own c r n q k = absurd (cc)

    at : AllByRecursion (λ (k : ℕ). is_in (places_of seat 0 log) k ≡ true) (points ds) → (n : ℕ) → made d.call d.reply ≡ n → AllByRecursion (λ (k : ℕ). is_in (places_of seat 0 log) k ≡ true) (point_where n d.point (points ds))
    at rest zero q = rest
    at rest (suc n) q = (own d.call d.reply n q h.0.answers.row, rest)

-- where none is outside, all are named
pub all_named : (named ns : List ℕ) → outside named ns ≡ 0 → (k : ℕ) → is_in ns k ≡ true → is_in named k ≡ true
all_named named [] e k w = absurd (cc)
all_named named (n ∷ ns) e k w = by (λ e w. all_named named ns e k w) (is_in named n) refl e
  where
    by : (outside named ns ≡ 0 → is_in ns k ≡ true → is_in named k ≡ true) → (t : Bool) → is_in named n ≡ t → (if t then outside named ns else outside named ns + 1) ≡ 0 → is_in named k ≡ true
    by rest true q e = elim (in_cases n k ns w) [ inl z ↦ subst (λ (y : ℕ). is_in named y ≡ true) z q | inr later ↦ rest e later ]
    by rest false q e = absurd (omega (arith, e))

-- the point of a seat's call in a book is that of one of the book's own entries
any_more : (P : Done → Type 0) (d : Done) (ds : List Done) → Any P ds → Any P (d ∷ ds)
any_more P d ds h = (suc h.0, h.1, omega (arith, h.2), h.3, h.4)

pub any_own : (seat k : ℕ) (ds : List Done) → is_in (points (calls_by seat ds)) k ≡ true → Any (IsOwn k) ds
any_own seat k [] w = absurd (cc)
any_own seat k (d ∷ ds) w = by (λ w. any_more (IsOwn k) d ds (any_own seat k ds w)) (d.seat == seat) w
  where
    at : (is_in (points (calls_by seat ds)) k ≡ true → Any (IsOwn k) (d ∷ ds)) → (n : ℕ) → made d.call d.reply ≡ n → is_in (point_where n d.point (points (calls_by seat ds))) k ≡ true → Any (IsOwn k) (d ∷ ds)
    at behind zero q w = behind w
    at behind (suc n) q w = elim (in_cases d.point k (points (calls_by seat ds)) w) [
      | inl e ↦ (0, d, omega arith, refl, (omega (arith, q, made_small d.call d.reply), e))
      | inr later ↦ behind later
    ]

    by : (is_in (points (calls_by seat ds)) k ≡ true → Any (IsOwn k) (d ∷ ds)) → (t : Bool) → is_in (points (cond t (d ∷ calls_by seat ds) (calls_by seat ds))) k ≡ true → Any (IsOwn k) (d ∷ ds)
    by behind true w = at behind (made d.call d.reply) refl w
    by behind false w = behind w
