-- A book that gains an entry or a Done.
use Rattle.std.{proofs.Common.{rules, ◌≡◌, ◌⊎◌, ℕ, ◌<◌, ◌≤◌, List, [], ◌∷◌, ◌++◌, length, length-append, get_or, Option, Some, sym, ap, ◌∙◌, inl, inr, arith}, specs.Prelude.{slice_get, All, Any}}
use Rattle.std.proofs.lemmas.{Bool.{cases_lt, cases_eq}, List.{get_or_append_left, Elements.{All-push, All-weaker}, Quantifiers.{all_pairs_push}}, Option.{slice_get_within, slice_get-get_or}}
use Rattle.sh_logic.proofs.{Options.{some_is}, Lists.{slice_get-append_left, slice_get-push_back}}
use Rattle.sh_map.specs.{declared.{log.Entry.{Entry}, call.{Call.{Call}, Reply.{Reply}}, book.{Row.{Row}, Done.{Done}}}, Map.{get}, Log.{map_of, map_at, IsNext}}
use Rattle.sh_map.{specs.{Book.{AnswersRange, AnswersAt, Answers, IsOwn, IsLastOfSeat, IsLater, IsLawful}, Points.{IsLeastPoint}}, proofs.LogLemmas.{map_at-push, IsLegal-push}}
use Rattle.sh_map.specs.declared.call.Call.TheVariants as call
use Rattle.sh_map.specs.declared.call.Reply.TheVariants as reply

module _ (log : List Entry) (e : Entry) where
  range_later : (a b low upto : ℕ) (rows : List Row) → b ≤ length log → AnswersRange log a b low upto rows → AnswersRange (log ++ e ∷ []) a b low upto rows
  range_later a b low upto rows in_log h = record {
    rising = h.rising;
    within = h.within;
    points = λ key above below. let p = h.points key above below in (p.0, p.1, p.2, ap (λ m. get m key) (map_at-push log e p.0 (omega (arith, p.2))) ∙ p.3);
  }

  had_later : (p key : ℕ) (had : Option (List ℕ)) → p ≤ length log → get (map_at log p) key ≡ had → get (map_at (log ++ e ∷ []) p) key ≡ had
  had_later p key had in_log h = ap (λ m. get m key) (map_at-push log e p in_log) ∙ h

  row_later : (d : Done) (asked : Call) (answer : Reply) → d.point ≤ length log → AnswersAt log d asked answer → AnswersAt (log ++ e ∷ []) d asked answer
  row_later d (call.Get key) (reply.Some value) w h = had_later d.point key _ w h
  row_later d (call.Get key) reply.None w h = had_later d.point key _ w h
  row_later d (call.Put key value) (reply.Some old) w h = slice_get-append_left log _ _ _ h
  row_later d (call.Put key value) reply.None w h = slice_get-append_left log _ _ _ h
  row_later d (call.Del key) (reply.Some old) w h = slice_get-append_left log _ _ _ h
  row_later d (call.Del key) reply.None w h = had_later d.point key _ w h
  row_later d (call.Range low high) (reply.Rows upto) w h = (h.0, h.1, range_later d.first d.point low upto d.rows w h.2)
  row_later d (call.Put key value) reply.Full w h = tt
  row_later d (call.Put key value) (reply.Worn version) w h = tt
  row_later d (call.Del key) (reply.Worn version) w h = tt
  row_later d asked answer w h = absurd h

  -- an answer stands when the log grows
  pub Answers-push : (d : Done) → Answers log d → Answers (log ++ e ∷ []) d
  Answers-push d h = record { within = omega (arith, h.within, length-append log (e ∷ [])); row = row_later d d.call d.reply h.within h.row }

  pub IsLeastPoint-push : (first key : ℕ) (had : Option (List ℕ)) (p : ℕ) → IsLeastPoint log first key had p → IsLeastPoint (log ++ e ∷ []) first key had p
  IsLeastPoint-push first key had p h = search (rules, length-append, had_later, map_at-push)

  -- an entry that is its seat's last is so still, or it has a Done, if the new entry's seat has no other without one
  last_stays : (dones : List Done) (i : ℕ) (f : Entry) → slice_get log i ≡ Some f → IsLastOfSeat log i → ((i : ℕ) (f : Entry) → slice_get log i ≡ Some f → f.seat ≡ e.seat → Any (IsOwn i) dones) → Any (IsOwn i) dones ⊎ IsLastOfSeat (log ++ e ∷ []) i
  last_stays dones i f here last others = elim (cases_eq f.seat e.seat) [
    | inl same ↦ inl (others i f here same)
    | inr differ ↦ inr (λ j x y less xi yj is.
        let x_is : f ≡ x = some_is (sym (slice_get-append_left log (e ∷ []) i f here) ∙ xi) in
        elim (slice_get-push_back log e y j yj) [
          | inl old ↦ last j f y less here old (is ∙ ap (λ z. z.seat) (sym x_is))
          | inr new ↦ differ (ap (λ z. z.seat) x_is ∙ sym is ∙ ap (λ z. z.seat) (sym new.1))
        ])
  ]

  -- an entry joins the log: it fits, and its seat has no other entry without a Done
  pub IsLawful-push_entry : (dones : List Done) → IsLawful log dones → IsNext (map_of log) e → ((i : ℕ) (f : Entry) → slice_get log i ≡ Some f → f.seat ≡ e.seat → Any (IsOwn i) dones) → IsLawful (log ++ e ∷ []) dones
  IsLawful-push_entry dones b next others = record {
    legal = IsLegal-push log e b.legal next;
    answers = All-weaker (Answers log) (Answers (log ++ e ∷ [])) Answers-push dones b.answers;
    numbers = b.numbers;
    firsts = b.firsts;
    order = b.order;
    owned = λ i h. elim (cases_lt i (length log)) [
      | inr end ↦ inr (λ j x y less xi yj. absurd (omega (arith, slice_get_within (log ++ e ∷ []) j y yj, length-append log (e ∷ []))))
      | inl old ↦ elim (b.owned i old) [
        | inl own ↦ inl own
        | inr last ↦ last_stays dones i (get_or log i e) (slice_get-get_or log i e old) last others
      ]
    ];
  }

-- a Done joins the book
pub IsLawful-push_done : (log : List Entry) (dones : List Done) (d : Done) → IsLawful log dones → Answers log d → d.first ≤ d.point → All (λ x. x.n < d.n) dones → All (λ x. IsLater x d) dones → IsLawful log (dones ++ d ∷ [])
IsLawful-push_done log dones d b answered first number later = record {
  legal = b.legal;
  answers = All-push (Answers log) dones d b.answers answered;
  numbers = all_pairs_push (λ x y. x.n < y.n) dones d b.numbers number;
  firsts = All-push (λ x. x.first ≤ x.point) dones d b.firsts first;
  order = all_pairs_push IsLater dones d b.order later;
  owned = λ i h. elim (b.owned i h) [
    | inl own ↦ inl (own.0, own.1, omega (arith, own.2, length-append dones (d ∷ [])), get_or_append_left dones (d ∷ []) own.1 own.0 own.2 ∙ own.3, own.4)
    | inr last ↦ inr last
  ];
}
