-- A book is lawful where it breaks no rule.
use Rattle.std.{proofs.Common.{rules, ◌≡◌, ℕ, suc, ◌+◌, ◌<◌, ◌≤◌, List, [], ◌∷◌, length, get_or, take, Some, refl, sym, subst, arith, length-take-le}, specs.Prelude.{slice_get, AllPairs}}
use Rattle.std.proofs.lemmas.{List.{get_or-take}, Option.{slice_get_within, slice_get-get_or, get_or_from_slice_get}}
use Rattle.sh_map.specs.{declared.{call.{Call.{Call}, Reply.{Reply}}, log.Entry.{Entry}, book.Done.{Done}, misfit.Misfit.{Misfit}}, Map.{Map}, Log.{changed, map_from, IsNext, IsLegalFrom}}
use Rattle.sh_map.specs.{Book.{AnswersAt, Answers, IsLawful}, Judge.{AnswersAside, RowsAnswer, FitsReply, FitsRows, FitsOrder, FollowsOnSeat, AllFit, AllEntriesFit, IsFirstMisfit}}
use Rattle.sh_map.proofs.LogLemmas.{IsLegal-at}
use Rattle.sh_map.specs.declared.misfit.Misfit.TheVariants as misfit

legal_from : (m : Map) (log : List Entry) → ((i : ℕ) (e : Entry) → slice_get log i ≡ Some e → IsNext (map_from m (take i log)) e) → IsLegalFrom m log
legal_from m [] h = tt
legal_from m (e ∷ log) h = (h 0 e refl, legal_from (changed m e.change) log (λ i x is. h (suc i) x is))

answers_whole : (log : List Entry) (d : Done) (asked : Call) (answer : Reply) → AnswersAside log d asked answer → RowsAnswer log d asked answer → AnswersAt log d asked answer
answers_whole log d asked answer aside rows = search rules

answers_aside : (log : List Entry) (d : Done) (asked : Call) (answer : Reply) → AnswersAt log d asked answer → AnswersAside log d asked answer
answers_aside log d asked answer h = search rules

answers_rows : (log : List Entry) (d : Done) (asked : Call) (answer : Reply) → d.point < length log + 1 → AnswersAt log d asked answer → RowsAnswer log d asked answer
answers_rows log d asked answer within h = search rules

module _ (log : List Entry) (dones : List Done) where
  module _ (entries : AllEntriesFit log dones) (replies : AllFit (FitsReply log) dones) (rows : AllFit (FitsRows log) dones) (ordered : AllFit FitsOrder dones) where
    follows : AllPairs FollowsOnSeat dones
    follows i j d lt in_range =
        let in_take : i < length (take j dones) = omega (arith, length-take-le j dones (omega arith)) in
        subst (λ (x : Done). FollowsOnSeat x (get_or dones j d)) (get_or-take j dones i d lt) ((ordered j (get_or dones j d) (slice_get-get_or dones j d in_range)).1 i d in_take)

    pub lawful_from : IsLawful log dones
    lawful_from = record {
      legal = legal_from _ log (λ i e is. (entries i (slice_get_within log i e is)).0 e is);
      answers = λ k d lt.
          let x = get_or dones k d in
          let is = slice_get-get_or dones k d lt in
          let r = replies k x is in
          record { within = r.0; row = answers_whole log x x.call x.reply r.1 (rows k x is) };
      numbers = λ i j d lt in_range. (follows i j d lt in_range).number;
      firsts = λ k d lt. (ordered k (get_or dones k d) (slice_get-get_or dones k d lt)).0;
      order = λ i j d lt in_range. (follows i j d lt in_range).order;
      owned = λ i h. (entries i h).1;
    }

  module _ (lawful : IsLawful log dones) where
    answered : (i : ℕ) (d : Done) → slice_get dones i ≡ Some d → Answers log d
    answered i d is = subst (Answers log) (get_or_from_slice_get dones i d d is) (lawful.answers i d (slice_get_within dones i d is))

    entries_fit : AllEntriesFit log dones
    entries_fit i h = (λ e is. IsLegal-at log i e lawful.legal is, lawful.owned i h)

    replies_fit : AllFit (FitsReply log) dones
    replies_fit i d is = let a = answered i d is in (a.within, answers_aside log d d.call d.reply a.row)

    rows_fit : AllFit (FitsRows log) dones
    rows_fit i d is = let a = answered i d is in answers_rows log d d.call d.reply (omega (arith, a.within)) a.row

    order_fits : AllFit FitsOrder dones
    order_fits i d is =
        let here = get_or_from_slice_get dones i d d is in
        let in_range = slice_get_within dones i d is in (
          subst (λ (x : Done). x.first ≤ x.point) here (lawful.firsts i d in_range),
          λ k x lt.
              let near : k < i = omega (arith, length-take-le i dones (omega arith)) in
              let at_x : get_or dones i x ≡ d = get_or_from_slice_get dones i d x is in
              let both : FollowsOnSeat (get_or dones k x) (get_or dones i x) = record { number = lawful.numbers k i x near in_range; order = lawful.order k i x near in_range } in
              subst (λ (y : Done). FollowsOnSeat y d) (sym (get_or-take i dones k x near)) (subst (FollowsOnSeat (get_or dones k x)) at_x both),
        )

    -- a lawful book has no misfit
    pub no_misfit : (m : Misfit) → IsFirstMisfit log dones m → ⊥
    no_misfit (misfit.Entry at) h = h.1 (entries_fit at h.0)
    no_misfit (misfit.Reply n) h = let s = h.1.some in s.4 (replies_fit s.0 s.1 s.2)
    no_misfit (misfit.Row n) h = let s = h.2.some in s.4 (rows_fit s.0 s.1 s.2)
    no_misfit (misfit.Order n) h = let s = h.3.some in s.4 (order_fits s.0 s.1 s.2)
