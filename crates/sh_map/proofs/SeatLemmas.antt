-- In a lawful closed book the entries of a seat are those of its calls, in their order.
use Rattle.std.proofs.Common.{◌≡◌, ◌⊎◌, ℕ, zero, suc, ◌+◌, ◌<◌, ◌≤◌, Bool, true, false, cond, eqb, ◌&&◌, eq-eqb, zero-add, List, [], ◌∷◌, length, get_or, Some, inl, inr, refl, sym, ap, subst, ◌∙◌, arith}
use Rattle.std.{specs.Prelude.{slice_get, All, AllPairs}, proofs.lemmas.{Bool.{eqb-true, and_parts, and_from}, Option.{slice_get_within, slice_get-get_or, get_or_from_slice_get}}}
use Rattle.sh_map.specs.{declared.{call.{Call.{Call}, Reply.{Reply}}, log.Entry.{Entry}, book.Done.{Done}}, Book.{AnswersAt, Answers, made, IsClosed, IsLater, IsLawful}, Laws.{places_of, updates_of}}
use Rattle.sh_map.specs.declared.call.Call.TheVariants as call
use Rattle.sh_map.specs.declared.call.Reply.TheVariants as reply

-- n stands in the list
abbrev In : ℕ → List ℕ → Type 0
In n [] = ⊥
In n (x ∷ xs) = (n ≡ x) ⊎ In n xs

abbrev Rises : List ℕ → Type 0
Rises [] = Unit {0}
Rises (x ∷ xs) = ((n : ℕ) → In n xs → x < n) × Rises xs

-- two rising lists of the same numbers are one
same_members : (xs ys : List ℕ) → Rises xs → Rises ys → ((n : ℕ) → In n xs → In n ys) → ((n : ℕ) → In n ys → In n xs) → xs ≡ ys
same_members [] [] rx ry f g = refl
same_members [] (y ∷ ys) rx ry f g = absurd (g y (inl refl))
same_members (x ∷ xs) [] rx ry f g = absurd (f x (inl refl))
same_members (x ∷ xs) (y ∷ ys) rx ry f g =
    let first : x ≡ y = elim (f x (inl refl)) [
      | inl e ↦ e
      | inr later ↦ elim (g y (inl refl)) [ inl e ↦ sym e | inr back ↦ absurd (omega (arith, ry.0 x later, rx.0 y back)) ]
    ] in
    let rest : xs ≡ ys = same_members xs ys rx.1 ry.1
    (λ n h. elim (f n (inr h)) [ inl e ↦ absurd (omega (arith, rx.0 n h)) | inr t ↦ t ])
    (λ n h. elim (g n (inr h)) [ inl e ↦ absurd (omega (arith, ry.0 n h)) | inr t ↦ t ]) in
    ap (λ k. k ∷ xs) first ∙ ap (λ l. y ∷ l) rest

-- a list with a number in front where a test says so
in_cond : (b : Bool) (n p : ℕ) (rest : List ℕ) → In n (cond b (p ∷ rest) rest) → ((b ≡ true) × (n ≡ p)) ⊎ In n rest
in_cond true n p rest h = elim h [ inl e ↦ inl (refl, e) | inr t ↦ inr t ]
in_cond false n p rest h = inr h

in_cond_here : (b : Bool) (n p : ℕ) (rest : List ℕ) → b ≡ true → n ≡ p → In n (cond b (p ∷ rest) rest)
in_cond_here true n p rest is e = inl e
in_cond_here false n p rest is e = absurd (cc)

in_cond_later : (b : Bool) (n p : ℕ) (rest : List ℕ) → In n rest → In n (cond b (p ∷ rest) rest)
in_cond_later true n p rest h = inr h
in_cond_later false n p rest h = h

rises_cond : (b : Bool) (p : ℕ) (rest : List ℕ) → Rises rest → (b ≡ true → (n : ℕ) → In n rest → p < n) → Rises (cond b (p ∷ rest) rest)
rises_cond true p rest h above = (above refl, h)
rises_cond false p rest h above = h

-- places of a seat's entries
place_of : (seat n : ℕ) (log : List Entry) (i : ℕ) → In i (places_of seat n log) → (j : ℕ) × (e : Entry) × (i ≡ n + j) × (slice_get log j ≡ Some e) × (e.seat ≡ seat)
place_of seat n [] i h = absurd h
place_of seat n (x ∷ log) i h = elim (in_cond (eqb x.seat seat) i n (places_of seat (n + 1) log) h) [
  | inl here ↦ (0, x, omega (arith, here.1), refl, eqb-true x.seat seat here.0)
  | inr later ↦ let p = place_of seat (n + 1) log i later in (suc p.0, p.1, omega (arith, p.2), p.3, p.4)
]

has_place : (seat n : ℕ) (log : List Entry) (j : ℕ) (e : Entry) → slice_get log j ≡ Some e → e.seat ≡ seat → In (n + j) (places_of seat n log)
has_place seat n [] j e here is = absurd (cc)
has_place seat n (x ∷ log) zero e here is =
    let same : x ≡ e = cc in
    in_cond_here (eqb x.seat seat) (n + zero) n (places_of seat (n + 1) log) (eq-eqb x.seat seat (ap (λ (y : Entry). y.seat) same ∙ is)) (omega arith)
has_place seat n (x ∷ log) (suc j) e here is =
    let place : (n + 1) + j ≡ n + suc j = omega arith in
    in_cond_later (eqb x.seat seat) (n + suc j) n (places_of seat (n + 1) log) (subst (λ k. In k (places_of seat (n + 1) log)) place (has_place seat (n + 1) log j e here is))

places_rise : (seat n : ℕ) (log : List Entry) → Rises (places_of seat n log)
places_rise seat n [] = tt
places_rise seat n (x ∷ log) = rises_cond (eqb x.seat seat) n (places_of seat (n + 1) log) (places_rise seat (n + 1) log) (λ is i h. omega (arith, (place_of seat (n + 1) log i h).2))

-- points of a seat's updates
abbrev IsUpdate : ℕ → List Done → ℕ → ℕ → Done → Type 0
IsUpdate seat dones n k d = (slice_get dones k ≡ Some d) × (d.seat ≡ seat) × (made d.call d.reply ≡ 1) × (d.point ≡ n)

update_of : (seat : ℕ) (dones : List Done) (n : ℕ) → In n (updates_of seat dones) → (k : ℕ) × (d : Done) × IsUpdate seat dones n k d
update_of seat [] n h = absurd h
update_of seat (x ∷ dones) n h = elim (in_cond (eqb x.seat seat && eqb (made x.call x.reply) 1) n x.point (updates_of seat dones) h) [
  | inl here ↦
      let both = and_parts (eqb x.seat seat) (eqb (made x.call x.reply) 1) here.0 in
      (0, x, (refl, eqb-true x.seat seat both.0, eqb-true (made x.call x.reply) 1 both.1, sym here.1))
  | inr later ↦ let u = update_of seat dones n later in (suc u.0, u.1, u.2)
]

has_update : (seat : ℕ) (dones : List Done) (n k : ℕ) (d : Done) → IsUpdate seat dones n k d → In n (updates_of seat dones)
has_update seat [] n k d h = absurd (let is = h.0 in cc)
has_update seat (x ∷ dones) n zero d h =
    let is = h.0 in
    let same : x ≡ d = cc in
    in_cond_here (eqb x.seat seat && eqb (made x.call x.reply) 1) n x.point (updates_of seat dones)
    (and_from (eqb x.seat seat) (eqb (made x.call x.reply) 1)
    (eq-eqb x.seat seat (ap (λ (y : Done). y.seat) same ∙ h.1))
    (eq-eqb (made x.call x.reply) 1 (ap (λ (y : Done). made y.call y.reply) same ∙ h.2)))
    (sym (ap (λ (y : Done). y.point) same ∙ h.3))
has_update seat (x ∷ dones) n (suc k) d h = in_cond_later (eqb x.seat seat && eqb (made x.call x.reply) 1) n x.point (updates_of seat dones) (has_update seat dones n k d h)

updates_rise : (seat : ℕ) (dones : List Done) → All (λ d. d.first ≤ d.point) dones → AllPairs IsLater dones → Rises (updates_of seat dones)
updates_rise seat [] firsts order = tt
updates_rise seat (x ∷ dones) firsts order = rises_cond (eqb x.seat seat && eqb (made x.call x.reply) 1) x.point (updates_of seat dones)
    (updates_rise seat dones (λ k d lt. firsts (suc k) d (omega arith)) (λ i j d lt in_range. order (suc i) (suc j) d (omega arith) (omega arith)))
    (λ is n h.
    let both = and_parts (eqb x.seat seat) (eqb (made x.call x.reply) 1) is in
    let u = update_of seat dones n h in
    let d = u.1 in
    let in_range : u.0 < length dones = slice_get_within dones u.0 d u.2.0 in
    let at_d : get_or dones u.0 d ≡ d = get_or_from_slice_get dones u.0 d d u.2.0 in
    let first : d.first ≤ d.point = subst (λ (y : Done). y.first ≤ y.point) at_d (firsts (suc u.0) d (omega arith)) in
    let later : x.point + made x.call x.reply ≤ d.first = subst (IsLater x) at_d (order 0 (suc u.0) d (omega arith) (omega arith)) (eqb-true x.seat seat both.0 ∙ sym u.2.1) in
    omega (arith, first, later, eqb-true (made x.call x.reply) 1 both.1, u.2.3))

-- an update's own entry is of its seat
own_seat : (log : List Entry) (d : Done) (asked : Call) (answer : Reply) → made asked answer ≡ 1 → AnswersAt log d asked answer → (e : Entry) × (slice_get log d.point ≡ Some e) × (e.seat ≡ d.seat)
own_seat log d (call.Put key value) (reply.Some old) is h = (_, h, refl)
own_seat log d (call.Put key value) reply.None is h = (_, h, refl)
own_seat log d (call.Del key) (reply.Some old) is h = (_, h, refl)
own_seat log d asked answer is h = absurd (cc)

pub seat_updates : (log : List Entry) (dones : List Done) (seat : ℕ) → IsLawful log dones → IsClosed log dones → updates_of seat dones ≡ places_of seat 0 log
seat_updates log dones seat lawful closed =
    let answered : (k : ℕ) (d : Done) → slice_get dones k ≡ Some d → Answers log d = λ k d is. subst (Answers log) (get_or_from_slice_get dones k d d is) (lawful.answers k d (slice_get_within dones k d is)) in
    same_members (updates_of seat dones) (places_of seat 0 log) (updates_rise seat dones lawful.firsts lawful.order) (places_rise seat 0 log)
    (λ n h.
    let u = update_of seat dones n h in
    let d = u.1 in
    let own = own_seat log d d.call d.reply u.2.2 (answered u.0 d u.2.0).row in
    subst (λ i. In i (places_of seat 0 log)) (zero-add n) (has_place seat 0 log n own.0 (subst (λ i. slice_get log i ≡ Some own.0) u.2.3 own.1) (own.2 ∙ u.2.1)))
    (λ n h.
    let p = place_of seat 0 log n h in
    let here : slice_get log n ≡ Some p.1 = subst (λ i. slice_get log i ≡ Some p.1) (sym (p.2 ∙ zero-add p.0)) p.3 in
    let any = closed n (slice_get_within log n p.1 here) in
    let d = any.1 in
    let at_d : slice_get dones any.0 ≡ Some d = slice_get-get_or dones any.0 d any.2 ∙ ap Some any.3 in
    let own = own_seat log d d.call d.reply any.4.0 (answered any.0 d at_d).row in
    let there : slice_get log n ≡ Some own.0 = subst (λ i. slice_get log i ≡ Some own.0) any.4.1 own.1 in
    let same : own.0 ≡ p.1 = same_entry (sym there ∙ here) in
    has_update seat dones n any.0 d (at_d, sym own.2 ∙ ap (λ (e : Entry). e.seat) same ∙ p.4, any.4.0, any.4.1))
  where
    same_entry : {x y : Entry} → Some x ≡ Some y → x ≡ y
    same_entry h = cc
