-- The entry of a call under way; the book of all calls; and the causes of refusals.
use Rattle.std.proofs.Common.{rules, ◌≡◌, ◌⊎◌, ℕ, List, [], Option, Some, refl, subst, inl, inr, ◌≢◌, ◌+◌, ◌≤◌, Bool, true, false, cond, ◌∷◌, ◌++◌, length, get_or, None, sym, ap, ◌∙◌, arith, length-append}
use Rattle.std.{proofs.{Common.{eq-eqb, eqb-true, append-nil}, lemmas.{List.{Elements.{All-cons, All-weaker}, Kept.{AllPairs-cons}}, Option.{slice_get-get_or}}}, specs.List.{AllByRecursion}}
use Rattle.std.specs.Prelude.{◌==◌, ◌↔◌, map, slice_get, All, AllPairs, Any}
use Rattle.sh_base.specs.{declared.config.ConfigParts.{ConfigParts}, Places.{Counter}}
use Rattle.sh_map.specs.{Book.{Answers, IsLastOfSeat, IsLater, IsOwn, made_entry, made}, Laws.{places_of}, Made.{entries_by}, declared.{book.Done.{Done}, call.{Call.{Call}, Reply.{Reply}}}}
use Rattle.sh_map.specs.declared.log.Entry.{Entry as LogEntry, Entry}
use Rattle.sh_state.specs.TreeState.{TreeState}
use Rattle.sh_decide.specs.declared.state.{Posting.{Posting}, Aim.{Aim}}
use Rattle.sh_client.specs.{Machine.{Registers}, Rests.{is_resting}, declared.state.{Phase.{Phase}, Then.{Then}}}
use Rattle.sh_client.specs.declared.state.Write.{Write}
use Rattle.sh_core.{proofs.{Causes.{causes_on}, Frame.{nothing_left}}, specs.{Actors.{Actor, AreAnswered, AreInOrder}, Causes.{HasCause, HaveCauses}, Core.{Inv}}}
use Rattle.sh_core.specs.{Fits.{HasEntry, Owes, duty_of, Plans, Follows, Fits}, Keeps.{pending_aim, pending_then, pending_write, pending, KeepsActor}}
use Rattle.sh_logic.proofs.Lists.{all_join}
use Rattle.sh_tree.{specs.Lists.{is_in, AreDifferent}, proofs.ListLemmas.{in_cases, outside_all}}
use Rattle.sh_core_says.proofs.Points.{points, points_numbered, points_long, points_in, points_differ, places_differ, places_long, place_in, points_stand, all_named, any_own}
use Rattle.sh_core_says.proofs.Trees.{different_join, in_joined}
use Rattle.sh_core_says.specs.Books.{calls_by, numbered, IsBookOf, IsOfCall, IsLawfulBook, BooksAreLawful, HasAnswers, CallsAreAnswered, counter_in, RefusalsHaveCauses}
use Rattle.sh_map.specs.declared.log.Change.TheVariants as change

module _ (p : ConfigParts) (s : TreeState) (i f q e : ℕ) (c : Call) (r : Reply) where
  -- no entry is made yet, or it stands
  abbrev pub MayStand : List LogEntry → Type 0
  MayStand es = (es ≡ []) ⊎ ((es ≡ entries_by i c r) × HasEntry s.log i f q e c r)

module _ (p : ConfigParts) (s : TreeState) (i f q e : ℕ) (r : Registers) (duty : Option Posting) (o : Owes s i f q e r.call r.reply duty) where
  abbrev May : List LogEntry → Type 0
  May es = MayStand p s i f q e r.call r.reply es

  posted : (post : Posting) → duty ≡ Some post → May (entries_by i r.call r.reply)
  posted post is = let k = subst (Owes s i f q e r.call r.reply) is o in inr (refl, k.entry)

  aimed : (aim : Aim) → duty ≡ duty_of aim → May (pending_aim i r.call r.reply aim)
  aimed aim is = search (rules, posted)

  followed : (after : Then) → Follows p s i f q e r.call r.reply duty after → May (pending_then i r.call r.reply after)
  followed after h = search (rules, aimed)

  plans : (n : ℕ) (write : Write) (after : Then) → Plans p s i f q e r n write after duty → May (pending_write i r.call r.reply write after)
  plans n write after h = search (rules, followed, posted)

  pub pending_stands : (ph : Phase) → Fits p s i f q e r duty ph → May (pending i r ph)
  pending_stands ph h = search (rules, aimed, posted, plans, followed)

-- ---- the book of the actors' calls is lawful

-- ---- ended calls, whatever their numbers

in_order_numbered : (low : ℕ) (ds : List Done) (high : ℕ) → AreInOrder low (map (numbered 0) ds) high ↔ AreInOrder low ds high
in_order_numbered low [] high = ((λ h. h), λ h. h)
in_order_numbered low (d ∷ ds) high = let u = in_order_numbered (d.point + made d.call d.reply) ds high in ((λ h. (h.0, h.1, u.0 h.2)), λ h. (h.0, h.1, u.1 h.2))

pub all_numbered : (P : Done → Type 0) → ((n : ℕ) (d : Done) → P d → P (numbered n d)) → (xs ys : List Done) → map (numbered 0) xs ≡ map (numbered 0) ys → AllByRecursion P xs → AllByRecursion P ys
all_numbered P keeps xs [] e h = tt
all_numbered P keeps [] (y ∷ ys) e h = absurd (cc)
all_numbered P keeps (x ∷ xs) (y ∷ ys) e h =
    let same : numbered 0 x ≡ numbered 0 y = cc in
    let more : map (numbered 0) xs ≡ map (numbered 0) ys = cc in
    (keeps y.n (numbered 0 y) (subst P same (keeps 0 x h.0)), all_numbered P keeps xs ys more h.1)

module _ (log : List Entry) where
  answers_numbered : (n : ℕ) (d : Done) → Answers log d → Answers log (numbered n d)
  answers_numbered n d h = record { within = h.within; row = (search rules) }

  all_answer : (seat : ℕ) (ds : List Done) → AreAnswered log seat ds → AllByRecursion (Answers log) ds
  all_answer seat [] h = tt
  all_answer seat (d ∷ ds) h = (h.0.answers, all_answer seat ds h.1)

  -- ---- of each seat's calls to those of all seats

  record IsGood (low : ℕ) (ds : List Done) (high : ℕ) : Type 0 where
    order : AreInOrder low ds high
    answers : AllByRecursion (Answers log) ds

  abbrev AreGood : List Done → Type 0
  AreGood ds = (seat : ℕ) → (low : ℕ) × (high : ℕ) × IsGood low (calls_by seat ds) high

  good_tail : (d : Done) (ds : List Done) → AreGood (d ∷ ds) → AreGood ds
  good_tail d ds g seat = let u = g seat in by u.0 u.1 (d.seat == seat) u.2
    where
      by : (low high : ℕ) (t : Bool) → IsGood low (cond t (d ∷ calls_by seat ds) (calls_by seat ds)) high → (l : ℕ) × (h : ℕ) × IsGood l (calls_by seat ds) h
      by low high true h = (d.point + made d.call d.reply, high, record { order = h.order.2; answers = h.answers.1 })
      by low high false h = (low, high, h)

  good_head : (d : Done) (ds : List Done) → AreGood (d ∷ ds) → (low : ℕ) × (high : ℕ) × IsGood low (d ∷ calls_by d.seat ds) high
  good_head d ds g = let u = g d.seat in (u.0, u.1, subst (λ (t : Bool). IsGood u.0 (cond t (d ∷ calls_by d.seat ds) (calls_by d.seat ds)) u.1) (eq-eqb d.seat d.seat refl) u.2)

  answers_all : (ds : List Done) → AreGood ds → All (Answers log) ds
  answers_all [] g = λ i d lt. absurd (omega (arith, lt))
  answers_all (d ∷ ds) g = All-cons (Answers log) d ds (good_head d ds g).2.answers.0 (answers_all ds (good_tail d ds g))

  firsts_all : (ds : List Done) → AreGood ds → All (λ (d : Done). d.first ≤ d.point) ds
  firsts_all [] g = λ i d lt. absurd (omega (arith, lt))
  firsts_all (d ∷ ds) g = All-cons (λ (x : Done). x.first ≤ x.point) d ds (good_head d ds g).2.order.1 (firsts_all ds (good_tail d ds g))

  abbrev Begins : (seat low : ℕ) → Done → Type 0
  Begins seat low e = seat ≡ e.seat → low ≤ e.first

  later_in : (low high seat : ℕ) (ds : List Done) → AreInOrder low (calls_by seat ds) high → All (Begins seat low) ds
  later_in low high seat [] h = λ i d lt. absurd (omega (arith, lt))
  later_in low high seat (e ∷ ds) h = by (λ l k. later_in l high seat ds k) (e.seat == seat) refl h
    where
      differ : e.seat ≢ seat → seat ≢ e.seat
      differ n q = n (sym q)

      by : ((l : ℕ) → AreInOrder l (calls_by seat ds) high → All (Begins seat l) ds) → (t : Bool) → (e.seat == seat) ≡ t → AreInOrder low (cond t (e ∷ calls_by seat ds) (calls_by seat ds)) high → All (Begins seat low) (e ∷ ds)
      by rest true q h =
          let l : ℕ = e.point + made e.call e.reply in
          All-cons (Begins seat low) e ds (λ z. h.0) (All-weaker (Begins seat l) (Begins seat low) (λ x k z. omega (arith, k z, h.0, h.1)) ds (rest l h.2))
      by rest false q h = All-cons (Begins seat low) e ds (λ z. let t = eq-eqb e.seat seat (sym z) in absurd (cc)) (rest low h)

  order_all : (ds : List Done) → AreGood ds → AllPairs IsLater ds
  order_all [] g = λ i j d less lt. absurd (omega (arith, lt))
  order_all (d ∷ ds) g = let u = good_head d ds g in AllPairs-cons IsLater d ds (later_in (d.point + made d.call d.reply) u.1 d.seat ds u.2.order.2) (order_all ds (good_tail d ds g))

-- ---- each entry is an ended call's own, or that of the call under way, and then its seat's last

abbrev first_seat : List Entry → ℕ
first_seat [] = 0
first_seat (e ∷ es) = e.seat

-- the entry at place j is that of the call under way
pub record IsPendingAt (p : ConfigParts) (s : TreeState) (i : ℕ) (a : Actor) (j : ℕ) : Type 0 where
  pub at : j ≡ a.point
  pub made : pending i a.client.registers a.client.phase ≡ entries_by i a.client.registers.call a.client.registers.reply
  pub stands : HasEntry s.log i a.first a.point a.seen a.client.registers.call a.client.registers.reply

module _ (p : ConfigParts) (s : TreeState) (i : ℕ) (a : Actor) (k : KeepsActor p s i a) where
  abbrev Here : ℕ → Type 0
  Here j = is_in (places_of i 0 s.log) j ≡ true

  stand : AllByRecursion Here (points a.dones)
  stand = points_stand s.log i a.dones k.answered

  differ : AreDifferent (points a.dones)
  differ = points_differ 0 a.dones a.first k.ordered

  long : length (places_of i 0 s.log) ≡ length (points a.dones) + length (pending i a.client.registers a.client.phase)
  long = search (rules, places_long, points_long, length-append)

  with_own : (j : ℕ) → Here j → pending i a.client.registers a.client.phase ≡ entries_by i a.client.registers.call a.client.registers.reply → HasEntry s.log i a.first a.point a.seen a.client.registers.call a.client.registers.reply → (is_in (points a.dones) j ≡ true) ⊎ IsPendingAt p s i a j
  with_own j w made h =
      let at : Here a.point = place_in i 0 s.log a.point a.point h.entry h.stands (search rules) (omega arith) in
      let ks : List ℕ = points a.dones ++ a.point ∷ [] in
      let apart : AreDifferent ks = different_join (points a.dones) (a.point ∷ []) differ (refl, tt) (λ n x y. elim (in_cases a.point n [] y) [
        | inl e ↦ let u = points_in 0 a.dones a.first k.ordered n x in omega (arith, u.1, e, h.from)
        | inr z ↦ cc
      ]) in
      let all : AllByRecursion Here ks = all_join Here (points a.dones) (a.point ∷ []) stand (at, tt) in
      let count = outside_all ks (places_of i 0 s.log) apart (places_differ i 0 s.log) all in
      let one : length (pending i a.client.registers a.client.phase) ≡ 1 = ap length (made ∙ h.is) in
      let whole : is_in ks j ≡ true = all_named ks (places_of i 0 s.log) (omega (arith, count, long, one, length-append (points a.dones) (a.point ∷ []))) j w in
      elim (in_joined (points a.dones) (a.point ∷ []) j whole) [
        | inl z ↦ inl z
        | inr z ↦ elim (in_cases a.point j [] z) [ inl e ↦ inr (record { at = sym e; made = made; stands = h }) | inr y ↦ absurd (cc) ]
      ]

  pub told : (j : ℕ) → Here j → (is_in (points a.dones) j ≡ true) ⊎ IsPendingAt p s i a j
  told j w = elim (pending_stands p s i a.first a.point a.seen a.client.registers k.work.duty k.work.owes a.client.phase k.work.fits) [
    | inl none ↦ let count = outside_all (points a.dones) (places_of i 0 s.log) differ (places_differ i 0 s.log) stand in inl (all_named (points a.dones) (places_of i 0 s.log) (omega (arith, count, long, ap length none)) j w)
    | inr h ↦ with_own j w h.0 h.1
  ]

  pub is_last : (j : ℕ) (e : Entry) → slice_get s.log j ≡ Some e → e.seat ≡ i → IsPendingAt p s i a j → IsLastOfSeat s.log j
  is_last j e here is h = λ l x y less xj yl same.
      let q = sym xj ∙ here in
      let x_is : x ≡ e = cc in
      elim (told l (place_in i 0 s.log l l y yl (same ∙ ap (λ (z : Entry). z.seat) x_is ∙ is) (omega arith))) [
        | inl z ↦ let u = points_in 0 a.dones a.first k.ordered l z in omega (arith, u.1, h.stands.from, h.at, less)
        | inr o ↦ omega (arith, o.at, h.at, less)
      ]

  pub busy : (j : ℕ) → IsPendingAt p s i a j → is_resting a.client ≡ false
  busy j h = search (rules, nothing_left)

none_in : (ns : List ℕ) (j : ℕ) → length ns ≡ 0 → is_in ns j ≡ true → ⊥
none_in [] j e w = cc
none_in (n ∷ ns) j e w = omega (arith, e)

blank : Entry
blank = made_entry 0 (change.Del 0) None

module _ (p : ConfigParts) (words : List ℕ) (log : List Entry) (Has : ℕ → Actor → Type 0) (Out : ℕ → ℕ → ℕ → Type 0) (dones : List Done) (inv : Inv p words log Has Out) (book : IsBookOf Has dones) where
  pub seat_of : (ds : List Done) → AllByRecursion (λ (d : Done). (a : Actor) × Has d.seat a) ds → (seat : ℕ) → (calls_by seat ds ≡ []) ⊎ ((a : Actor) × Has seat a)
  seat_of [] h seat = inl refl
  seat_of (d ∷ ds) h seat = by (seat_of ds h.1 seat) (d.seat == seat) refl
    where
      by : (calls_by seat ds ≡ []) ⊎ ((a : Actor) × Has seat a) → (t : Bool) → (d.seat == seat) ≡ t → (cond t (d ∷ calls_by seat ds) (calls_by seat ds) ≡ []) ⊎ ((a : Actor) × Has seat a)
      by rest true q = inr (h.0.0, subst (λ (z : ℕ). Has z h.0.0) (eqb-true d.seat seat q) h.0.1)
      by rest false q = rest

  good : AreGood inv.scene.log dones
  good seat = elim (seat_of dones book.seats seat) [
    | inl none ↦ (0, 0, record { order = subst (λ (ds : List Done). AreInOrder 0 ds 0) (sym none) (omega arith); answers = subst (AllByRecursion (Answers inv.scene.log)) (sym none) tt })
    | inr h ↦
        let a = h.0 in
        let k = inv.kept seat a h.1 in
        let same = sym (book.own seat a h.1) in (
          0,
          a.first,
          record {
            order = (in_order_numbered 0 (calls_by seat dones) a.first).0 (subst (λ (ds : List Done). AreInOrder 0 ds a.first) same ((in_order_numbered 0 a.dones a.first).1 k.ordered));
            answers = all_numbered (Answers inv.scene.log) (answers_numbered inv.scene.log) a.dones (calls_by seat dones) same (all_answer inv.scene.log seat a.dones k.answered);
          },
        )
  ]

  owned_at : (j : ℕ) (e : Entry) → slice_get inv.scene.log j ≡ Some e → Any (IsOwn j) dones ⊎ (IsOfCall Has j e × IsLastOfSeat inv.scene.log j)
  owned_at j e here =
      let w : is_in (places_of e.seat 0 inv.scene.log) j ≡ true = place_in e.seat 0 inv.scene.log j j e here refl (omega arith) in
      let h = inv.makes e.seat (λ q. none_in (places_of e.seat 0 inv.scene.log) j (places_long e.seat 0 inv.scene.log ∙ ap length q) w) in
      let a = h.0 in
      let k = inv.kept e.seat a h.1 in
      elim (told p inv.scene e.seat a k j w) [
        | inl z ↦ inl (any_own e.seat j dones (subst (λ (ps : List ℕ). is_in ps j ≡ true) (sym (points_numbered a.dones) ∙ ap points (sym (book.own e.seat a h.1)) ∙ points_numbered (calls_by e.seat dones)) z))
        | inr o ↦
            let q = sym o.stands.stands ∙ ap (slice_get inv.scene.log) (sym o.at) ∙ here in
            let entry : o.stands.entry ≡ e = cc in
            inr (record { actor = a; has = h.1; busy = busy p inv.scene e.seat a k j o; made = o.stands.is ∙ ap (λ (x : Entry). x ∷ []) entry; place = sym o.at }, is_last p inv.scene e.seat a k j e here refl o)
      ]

  lawful_book : IsLawfulBook Has inv.scene.log dones
  lawful_book = record {
    lawful = record {
      legal = inv.ground.legal;
      answers = answers_all inv.scene.log dones good;
      numbers = book.numbers;
      firsts = firsts_all inv.scene.log dones good;
      order = order_all inv.scene.log dones good;
      owned = λ j lt. elim (owned_at j (get_or inv.scene.log j blank) (slice_get-get_or inv.scene.log j blank lt)) [ inl own ↦ inl own | inr o ↦ inr o.1 ];
    };
    owned = λ j e here. elim (owned_at j e here) [ inl own ↦ inl own | inr o ↦ inr o.0 ];
    closed = λ rest j lt. elim (owned_at j (get_or inv.scene.log j blank) (slice_get-get_or inv.scene.log j blank lt)) [ inl own ↦ own | inr o ↦ let c = o.0 in absurd (let q = sym c.busy ∙ rest (get_or inv.scene.log j blank).seat c.actor c.has in cc) ];
  }

pub books_are_lawful : (p : ConfigParts) → BooksAreLawful p
books_are_lawful p words log Has Out dones inv book = subst (λ (es : List Entry). IsLawfulBook Has es dones) inv.log_is (lawful_book p words log Has Out dones inv book)

pub calls_are_answered : (p : ConfigParts) → CallsAreAnswered p
calls_are_answered p words log Has Out seat a inv h = let k = inv.kept seat a h in subst (λ (es : List Entry). HasAnswers es seat a) inv.log_is record { answered = k.answered; ordered = k.ordered; first = k.first; seen = k.seen }

-- ---- each refusal in the book of the actors' calls has its cause

-- what holds of each seat's calls holds of all
all_calls : (P : Done → Type 0) (ds : List Done) → ((seat : ℕ) → AllByRecursion P (calls_by seat ds)) → AllByRecursion P ds
all_calls P [] h = tt
all_calls P (d ∷ ds) h = ((subst (λ (t : Bool). AllByRecursion P (cond t (d ∷ calls_by d.seat ds) (calls_by d.seat ds))) (eq-eqb d.seat d.seat refl) (h d.seat)).0, all_calls P ds (λ seat. tail seat (d.seat == seat) (h seat)))
  where
    tail : (seat : ℕ) (t : Bool) → AllByRecursion P (cond t (d ∷ calls_by seat ds) (calls_by seat ds)) → AllByRecursion P (calls_by seat ds)
    tail seat true k = k.1
    tail seat false k = k

pub refusals_have_causes : (p : ConfigParts) → RefusalsHaveCauses p
refusals_have_causes p words log Has Out dones inv book = all_calls (λ (d : Done). HasCause p c log d.first d.point d.rows d.call d.reply) dones of_seat
  where
    c : ℕ → ℕ
    c = counter_in p words

    of_seat : (seat : ℕ) → HaveCauses p c log (calls_by seat dones)
    of_seat seat = elim (seat_of p words log Has Out dones inv book dones book.seats seat) [
      | inl none ↦ subst (HaveCauses p c log) (sym none) tt
      | inr h ↦
          let k = inv.kept seat h.0 h.1 in
          let own = causes_on p inv.scene.counter c (λ server lt. omega (arith, inv.ground.shows.each (Counter server) lt)) inv.scene.log [] log (sym inv.log_is ∙ sym (append-nil inv.scene.log)) seat h.0.dones k.answered k.causes in
          all_numbered (λ (d : Done). HasCause p c log d.first d.point d.rows d.call d.reply) (λ n d k. k) h.0.dones (calls_by seat dones) (sym (book.own seat h.0 h.1)) own
    ]
