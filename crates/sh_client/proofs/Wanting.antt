-- What a client is at, by what it wants, by what it has answered, and by its short ways.
use Rattle.std.proofs.Common.{rules, ◌≡◌, ◌≢◌, ℕ, true, false, [], Option, Some, None, refl, subst}
use Rattle.sh_base.specs.Layout.{lock_of}
use Rattle.sh_alloc.specs.Walks.{walk_wants}
use Rattle.sh_map.specs.declared.call.Reply.{Reply}
use Rattle.sh_read.specs.Reads.{wanted}
use Rattle.sh_decide.specs.declared.state.Aim.{Aim}
use Rattle.sh_client.specs.{declared.state.{Then.{Then}, Phase.{Phase, TheVariants.{Look, Leave}}, Want.{Want}}, Feeds.{fed_in}, Giving.{made_in, makes}}
use Rattle.sh_client.specs.{InLine.{Away, stand_in}, Machine.{Machine}, Rests.{has_ended, is_resting, reply_in, rests}, Steps.{looks_in}, Wants.{count_of, load_of, want_in, want_of}}
use Rattle.sh_client.proofs.InLineLemmas.{load_is, count_is, not_elsewhere, Elsewhere}
use Rattle.sh_client.specs.declared.state.Want.TheVariants as want

-- ---- by what it wants

rest_wants : (m : Machine) (ph : Phase) → rests ph ≡ true → want_in m ph ≡ want.Done
rest_wants m ph e = search rules

pub wants_busy : (m : Machine) (w : Want) → want_of m ≡ w → w ≢ want.Done → is_resting m ≡ false
wants_busy m w e ne = search (rules, rest_wants)

-- a READ and a walk want an event, or nothing
never_loads : (m : Machine) (w : Want) → (Elsewhere w → ⊥) → load_of (wanted m.setting m.registers.reads) ≡ w → ⊥
never_loads m w h e = not_elsewhere w h (load_of (wanted m.setting m.registers.reads)) e (load_is (wanted m.setting m.registers.reads))

never_counts : (m : Machine) (w : Want) → (Elsewhere w → ⊥) → count_of (walk_wants m.setting m.registers.walk) ≡ w → ⊥
never_counts m w h e = not_elsewhere w h (count_of (walk_wants m.setting m.registers.walk)) e (count_is (walk_wants m.setting m.registers.walk))

pub record IsLooking (m : Machine) (lock : ℕ) : Type 0 where
  pub aim : Aim
  pub node : ℕ
  pub phase_is : m.phase ≡ Look aim node
  pub lock_is : lock_of m.setting node ≡ lock

looking_in : (m : Machine) (lock : ℕ) (ph : Phase) → m.phase ≡ ph → want_in m ph ≡ want.Look lock → IsLooking m lock
looking_in m lock ph is e = search (rules, never_loads, never_counts)

pub looking : (m : Machine) (lock : ℕ) → want_of m ≡ want.Look lock → IsLooking m lock
looking m lock e = looking_in m lock m.phase refl e

pub record IsLeavingFor (m : Machine) (lock : ℕ) (carry : Option ℕ) : Type 0 where
  pub node : ℕ
  pub after : Then
  pub phase_is : m.phase ≡ Leave node carry after
  pub lock_is : lock_of m.setting node ≡ lock

leaving_in : (m : Machine) (lock : ℕ) (carry : Option ℕ) (ph : Phase) → m.phase ≡ ph → want_in m ph ≡ want.Leave lock carry → IsLeavingFor m lock carry
leaving_in m lock carry ph is e = search (rules, never_loads, never_counts)

pub leaving : (m : Machine) (lock : ℕ) (carry : Option ℕ) → want_of m ≡ want.Leave lock carry → IsLeavingFor m lock carry
leaving m lock carry e = leaving_in m lock carry m.phase refl e

-- a turn of a line makes no entry
no_makes : (m : Machine) (ph : Phase) → (Elsewhere (want_in m ph) → ⊥) → made_in m ph ≡ []
no_makes m ph h = search rules

pub line_makes : (m : Machine) (w : Want) → want_of m ≡ w → (Elsewhere w → ⊥) → makes m ≡ []
line_makes m w e h = no_makes m m.phase (λ x. h (subst Elsewhere e x))

-- ---- by what it has answered

-- a reply is there where the call has ended
pub ended_in : (m : Machine) (r : Reply) (ph : Phase) → reply_in m ph ≡ Some r → (has_ended ph ≡ true) × (r ≡ m.registers.reply)
ended_in m r ph e = search rules

-- no reply is there while it goes on
pub going_in : (m : Machine) (ph : Phase) → reply_in m ph ≡ None → has_ended ph ≡ false
going_in m ph e = search rules

-- a client that isn't at rest has no ended call, and one whose call has ended stands in no line
pub goes_on : (ph : Phase) → rests ph ≡ false → has_ended ph ≡ false
goes_on ph e = search rules

pub stand_ended : (m : Machine) (ph : Phase) → has_ended ph ≡ true → stand_in m.setting m.registers ph ≡ Away
stand_ended m ph e = search rules

-- ---- a look at a ticket that isn't served

pub look_wants : (m : Machine) (ph : Phase) (lock : ℕ) → looks_in m ph ≡ Some lock → want_in m ph ≡ want.Look lock
look_wants m ph lock e = search rules

pub look_stays : (m : Machine) (ph : Phase) (lock word : ℕ) → looks_in m ph ≡ Some lock → fed_in m word ph ≡ m
look_stays m ph lock word e = search rules

pub look_busy : (m : Machine) (ph : Phase) (lock : ℕ) → looks_in m ph ≡ Some lock → has_ended ph ≡ false
look_busy m ph lock e = search rules
