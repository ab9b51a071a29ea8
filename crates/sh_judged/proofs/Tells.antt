-- The calls as their lines tell them: a call's first isn't printed, and that of a call without a point is the least one that
-- its seat's earlier calls allow. Told so, a lawful and closed book still is.
use Rattle.std.proofs.Common.{rules, ℕ, suc, ◌≡◌, ◌≤◌, ◌<◌, ◌+◌, ◌^◌, Bool, true, false, List, [], ◌∷◌, ◌++◌, length, inl, refl, ◌∙◌, arith, length-append}
use Rattle.std.{specs.{Prelude.{◌==◌, ◌&&◌, ◌||◌, All, AllPairs}, List.{AllByRecursion, fold, list_any}}, proofs.lemmas.{Bool.{eqb-true, Decides.{nat_tests}}}}
use Rattle.std.proofs.lemmas.List.{Elements.{All-from_recursion, All-nil, All-push, All-tail, recursion_from_All}, Quantifiers.{all_pairs_push}}
use Rattle.std.proofs.lemmas.List.Folds.{Any-from_list_any, list_any-append, list_any-from_Any}
use Rattle.sh_logic.proofs.Lists.{all_join}
use Rattle.sh_map.specs.declared.{call.{Call.{Call}, Reply.{Reply}}, log.Entry.{Entry}, book.Done.{Done}}
use Rattle.sh_map.specs.Book.{Answers, AnswersAt, IsClosed, IsLater, IsLawful, made}
use Rattle.sh_map.specs.declared.call.Reply.TheVariants as reply
use Rattle.sh_judge.specs.{declared.call.Span.{Span}, CallLine.{ends_at}, Places.{is_at}, Reading.{least_first, with_end}}
use Rattle.sh_judged.proofs.Places.{at_test, test_at}

-- where a call begins and is answered, as it is told
abbrev pub ends_for : Reply → (least first point : ℕ) → Span
ends_for (reply.Some value) least first point = ends_at point point
ends_for reply.None least first point = ends_at point point
ends_for (reply.Rows upto) least first point = ends_at first point
ends_for reply.Full least first point = ends_at least least
ends_for (reply.Worn version) least first point = ends_at least least

abbrev pub with_ends : Done → Span → Done
with_ends d ends = record d { first = ends.first; point = ends.point }

-- a call as it is told behind these, and all calls behind these
abbrev pub tell : List Done → Done → Done
tell before d = with_ends d (ends_for d.reply (least_first before d.seat) d.first d.point)

abbrev pub told_on : List Done → List Done → List Done
told_on before [] = before
told_on before (d ∷ dones) = told_on (before ++ tell before d ∷ []) dones

pub told_length : (before dones : List Done) → length (told_on before dones) ≡ length before + length dones
told_length before [] = omega arith
told_length before (d ∷ dones) = told_length (before ++ tell before d ∷ []) dones ∙ omega (arith, length-append before (tell before d ∷ []))

-- ---- the least first

-- so far a seat has to begin here
abbrev ReachesTo : (seat end : ℕ) → Done → Type 0
ReachesTo seat end x = x.seat ≡ seat → x.point + made x.call x.reply ≤ end

least_within : (seat bound least : ℕ) (before : List Done) → least ≤ bound → AllByRecursion (ReachesTo seat bound) before → fold (with_end seat) least before ≤ bound
least_within seat bound least [] h all = h
least_within seat bound least (x ∷ before) h all = least_within seat bound (with_end seat least x) before (by (x.seat == seat) refl) all.1 where
  by : (t : Bool) → (x.seat == seat) ≡ t → with_end seat least x ≤ bound
  by true e = let same = all.0 (eqb-true x.seat seat e) in rw e (omega arith)
  by false e = rw e h

no_less : (seat least : ℕ) (before : List Done) → least ≤ fold (with_end seat) least before
no_less seat least [] = omega arith
no_less seat least (x ∷ before) = by (x.seat == seat) refl (no_less seat (with_end seat least x) before) where
  by : (t : Bool) → (x.seat == seat) ≡ t → with_end seat least x ≤ fold (with_end seat) (with_end seat least x) before → least ≤ fold (with_end seat) (with_end seat least x) before
  by true e h = let up : least ≤ with_end seat least x = rw e (omega arith) in omega arith
  by false e h = let up : least ≤ with_end seat least x = rw e (omega arith) in omega arith

least_beyond : (seat least : ℕ) (before : List Done) → AllByRecursion (λ x. x.point + made x.call x.reply < 2 ^ 64) before → AllByRecursion (ReachesTo seat (fold (with_end seat) least before)) before
least_beyond seat least [] small = tt
least_beyond seat least (x ∷ before) small = (here, least_beyond seat (with_end seat least x) before small.1) where
  here : x.seat ≡ seat → x.point + made x.call x.reply ≤ fold (with_end seat) (with_end seat least x) before
  here same =
      let test : (x.seat == seat) ≡ true = grind (arith, nat_tests) in
      let up : x.point + made x.call x.reply ≤ with_end seat least x = rw test (omega (arith, small.0)) in
      omega (arith, up, no_less seat (with_end seat least x) before)

-- ---- one call more

-- the calls so far are answered and in order
record AreInOrder (log : List Entry) (before : List Done) : Type 0 where
  answers : All (Answers log) before
  numbers : AllPairs (λ d e. d.n < e.n) before
  firsts : All (λ d. d.first ≤ d.point) before
  order : AllPairs IsLater before

record Follows (before : List Done) (d : Done) : Type 0 where
  numbers : AllByRecursion (λ x. x.n < d.n) before
  order : AllByRecursion (ReachesTo d.seat d.first) before

-- where it begins and is answered
record AreEnds (least first point : ℕ) (e : Span) : Type 0 where
  begins : e.first ≤ e.point
  no_later : e.point ≤ point
  least_is : (end : ℕ) → end ≤ first → end ≤ least → end ≤ e.first

are_ends : (answer : Reply) (least first point : ℕ) → least ≤ first → first ≤ point → AreEnds least first point (ends_for answer least first point)
are_ends answer least first point h k = search rules

made_one : (call : Call) (answer : Reply) → made call answer ≤ 1
made_one call answer = search rules

module _ (log : List Entry) (few : length log < 2 ^ 63) where
  bounded : (before : List Done) → All (Answers log) before → AllByRecursion (λ x. x.point + made x.call x.reply < 2 ^ 64) before
  bounded [] a = tt
  bounded (x ∷ before) a =
      let one = made_one x.call x.reply in
      let within = (a 0 x (omega arith)).within in
      (omega arith, bounded before (All-tail (Answers log) x before a))

  module _ (before : List Done) (d : Done) (was : AreInOrder log before) (follows : Follows before d) (a : Answers log d) (first : d.first ≤ d.point) where
    low : least_first before d.seat ≤ d.first
    unfolding least_first
    low = least_within d.seat d.first 0 before (omega arith) follows.order

    reached : AllByRecursion (ReachesTo d.seat (least_first before d.seat)) before
    unfolding least_first
    reached = least_beyond d.seat 0 before (bounded before was.answers)

    ends : AreEnds (least_first before d.seat) d.first d.point (ends_for d.reply (least_first before d.seat) d.first d.point)
    ends = are_ends d.reply (least_first before d.seat) d.first d.point low first

    later : (xs : List Done) → AllByRecursion (ReachesTo d.seat d.first) xs → AllByRecursion (ReachesTo d.seat (least_first before d.seat)) xs → AllByRecursion (λ x. IsLater x (tell before d)) xs
    later [] h k = tt
    later (x ∷ xs) h k = ((λ same. ends.least_is _ (h.0 same) (k.0 same)), later xs h.1 k.1)

    told_one : AreInOrder log (before ++ tell before d ∷ [])
    told_one = record {
      answers = All-push (Answers log) before (tell before d) was.answers (record { within = omega (arith, ends.no_later, a.within); row = (search rules) });
      numbers = all_pairs_push (λ x y. x.n < y.n) before (tell before d) was.numbers (All-from_recursion (λ x. x.n < d.n) before follows.numbers);
      firsts = All-push (λ x. x.first ≤ x.point) before (tell before d) was.firsts ends.begins;
      order = all_pairs_push IsLater before (tell before d) was.order (All-from_recursion (λ x. IsLater x (tell before d)) before (later before follows.order reached));
    }

    -- what follows a call follows it as it is told
    following : (dones : List Done) → AllByRecursion (Follows before) dones → AllByRecursion (λ e. (d.n < e.n) × IsLater d e) dones → AllByRecursion (Follows (before ++ tell before d ∷ [])) dones
    following [] h k = tt
    following (e ∷ dones) h k = (
      record {
        numbers = all_join _ before (tell before d ∷ []) h.0.numbers (k.0.0, tt);
        order = all_join _ before (tell before d ∷ []) h.0.order ((λ same. let up = k.0.1 same in omega (arith, ends.no_later)), tt);
      },
      following dones h.1 k.1,
    )

  -- each of these follows the ones before it
  InTurn : List Done → Type 0
  InTurn [] = Unit {0}
  InTurn (d ∷ dones) = AllByRecursion (λ e. (d.n < e.n) × IsLater d e) dones × InTurn dones

  told_all : (before dones : List Done) → AreInOrder log before → AllByRecursion (Follows before) dones → InTurn dones → AllByRecursion (Answers log) dones → AllByRecursion (λ d. d.first ≤ d.point) dones → AreInOrder log (told_on before dones)
  unfolding InTurn
  told_all before [] was follow turn a firsts = was
  told_all before (d ∷ dones) was follow turn a firsts =
      told_all (before ++ tell before d ∷ []) dones (told_one before d was follow.0 a.0 firsts.0) (following before d was follow.0 a.0 firsts.0 dones follow.1 turn.0) turn.1 a.1 firsts.1

  in_turn : (dones : List Done) → AllPairs (λ d e. d.n < e.n) dones → AllPairs IsLater dones → InTurn dones
  unfolding InTurn
  in_turn [] numbers order = tt
  in_turn (d ∷ dones) numbers order = (
    recursion_from_All (λ e. (d.n < e.n) × IsLater d e) dones (λ k x within. (numbers 0 (suc k) x (omega arith) (omega arith), order 0 (suc k) x (omega arith) (omega arith))),
    in_turn dones (λ i j x lt within. numbers (suc i) (suc j) x (omega arith) (omega arith)) (λ i j x lt within. order (suc i) (suc j) x (omega arith) (omega arith)),
  )

-- ---- whose entries are whose

same_at : (p : ℕ) (d : Done) (least : ℕ) (call : Call) (answer : Reply) → ((made call answer == 1) && ((ends_for answer least d.first d.point).point == p)) ≡ ((made call answer == 1) && (d.point == p))
same_at p d least call answer = search rules

any_told : (p : ℕ) (before dones : List Done) → (list_any (is_at p) before || list_any (is_at p) dones) ≡ true → list_any (is_at p) (told_on before dones) ≡ true
any_told p before [] e = by (list_any (is_at p) before) e where
  by : (t : Bool) → (t || false) ≡ true → t ≡ true
  by true x = refl
  by false x = x
any_told p before (d ∷ dones) e =
    any_told p (before ++ tell before d ∷ []) dones (rw (list_any-append (is_at p) before (tell before d ∷ []), same_at p d (least_first before d.seat) d.call d.reply) (regroup (list_any (is_at p) before) (is_at p d) (list_any (is_at p) dones) e)) where
      regroup : (a b c : Bool) → (a || (b || c)) ≡ true → ((a || (b || false)) || c) ≡ true
      regroup true b c x = refl
      regroup false true c x = refl
      regroup false false c x = x

module _ (log : List Entry) (dones : List Done) (few : length log < 2 ^ 63) (law : IsLawful log dones) (closed : IsClosed log dones) where
  told : List Done
  told = told_on [] dones

  pub told_closed : IsClosed log (told_on [] dones)
  told_closed i within =
      let own = closed i within in
      let any = Any-from_list_any (is_at i) (told_on [] dones) (any_told i [] dones (list_any-from_Any (is_at i) dones (own.0, own.1, own.2, own.3, at_test i own.1 own.4))) in
      (any.0, any.1, any.2, any.3, test_at i any.1 any.4)

  none_before : (ds : List Done) → AllByRecursion (Follows []) ds
  none_before [] = tt
  none_before (d ∷ ds) = (record { numbers = tt; order = tt }, none_before ds)

  pub told_lawful : IsLawful log (told_on [] dones)
  told_lawful =
      let start : AreInOrder log [] = record { answers = All-nil (Answers log); numbers = λ i j d lt within. absurd (omega arith); firsts = All-nil (λ d. d.first ≤ d.point); order = λ i j d lt within. absurd (omega arith) } in
      let h = told_all log few [] dones start (none_before dones) (in_turn log few dones law.numbers law.order) (recursion_from_All (Answers log) dones law.answers) (recursion_from_All (λ d. d.first ≤ d.point) dones law.firsts) in
      record {
        legal = law.legal;
        answers = h.answers;
        numbers = h.numbers;
        firsts = h.firsts;
        order = h.order;
        owned = λ i within. inl (told_closed i within);
      }
