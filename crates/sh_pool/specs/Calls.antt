-- What a call of a pass comes to.
use Rattle.std.specs.Prelude.{◌≡◌, ◌≤◌, ◌+◌, false, true, [], ◌∷◌, ◌++◌, length, Some}
use Rattle.sh_map.specs.declared.{call.{Call.{Call}, Reply.{Reply}}, book.Done.{Done}}
use Rattle.sh_client.specs.Rests.{is_resting, reply_of, rows_told}
use Rattle.sh_core_says.specs.Books.{HasAnswers}
use Rattle.sh_pool_rule.specs.Views.{view_seat, Begins}
use Rattle.sh_pool.specs.Passes.{pass_actor, IsPass, Standing}

-- The call is under way: it began when the pass had seen so much, and nothing else has ended since.
pub record IsServing (call : Call) (p q : Standing) : Type 0 where
  pub busy : is_resting q.client ≡ false
  pub call_is : q.client.registers.call ≡ call
  pub seat_is : view_seat q.view ≡ view_seat p.view
  pub seen : Begins p.view.seen q.view.seen
  pub cards : q.view.cards ≡ p.view.cards
  pub dones : (pass_actor q).dones ≡ (pass_actor p).dones
  pub first : (pass_actor q).first ≡ length p.view.seen
  pub number : (pass_actor q).number ≡ (pass_actor p).number + 1

-- The call has ended: the pass has one Done more, of its seat, with this call and reply, the rows that the pass tells, the
-- number of its calls, and `first` the length seen when it began. All its Dones are answered within what it has seen now. The
-- pass is still its seat's, and shows this reply and these rows, no more than its buffer holds.
pub record HasServed (call : Call) (reply : Reply) (p q : Standing) : Type 0 where
  pub done : Done
  pub dones : (pass_actor q).dones ≡ (pass_actor p).dones ++ done ∷ []
  pub call_is : done.call ≡ call
  pub reply_is : done.reply ≡ reply
  pub rows_are : done.rows ≡ rows_told q.client
  pub seat_is : done.seat ≡ view_seat p.view
  pub first : done.first ≡ length p.view.seen
  pub number : done.n ≡ (pass_actor p).number + 1
  pub replied : reply_of q.client ≡ Some reply
  pub call_now : q.client.registers.call ≡ call
  pub few_rows : length (rows_told q.client) ≤ q.client.setting.rows
  pub pass : IsPass q
  pub same_seat : view_seat q.view ≡ view_seat p.view
  pub seen : Begins p.view.seen q.view.seen
  pub cards : q.view.cards ≡ p.view.cards
  pub answered : HasAnswers q.view.seen (view_seat p.view) (pass_actor q)
  pub rests : is_resting q.client ≡ true
