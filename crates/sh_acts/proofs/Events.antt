-- What an event leaves of the words, by the word that it finds.
use Rattle.std.{proofs.{Common.{◌≡◌, ◌≢◌, ℕ, ◌+◌, ◌<◌, List, get_or, set, refl, ap, sym, ◌∙◌, arith, ne_eqb, eq-eqb}, Math.Nat.{mod-eq_of_lt}}, specs.Prelude.{◌^◌, ◌%◌}}
use Rattle.sh_base.specs.{declared.{config.ConfigParts.{ConfigParts}, event.Event.TheVariants.{Exchange, Add}}, Setting.{all_locks}, Layout.{lock_word}, Places.{Lock}, Memory.{apply}}
use Rattle.sh_state.specs.{TreeState.{Seat, Grant, LockState, Nobody, Held, Writes, hold_word, TreeState}, Ground.{Ground}}

pub exchanged : (words : List ℕ) (at old new : ℕ) → get_or words at 0 ≡ old → apply words (Exchange at old new) ≡ set words at new
exchanged words at old new e = rw (eq-eqb (get_or words at 0) old e)

pub not_exchanged : (words : List ℕ) (at old new : ℕ) → get_or words at 0 ≢ old → apply words (Exchange at old new) ≡ words
not_exchanged words at old new ne = rw (ne_eqb (get_or words at 0) old ne)

pub added : (words : List ℕ) (at n : ℕ) → get_or words at 0 ≡ n → n + 1 < 2 ^ 64 → apply words (Add at) ≡ set words at (n + 1)
added words at n e lt = ap (λ (w : ℕ). set words at ((w + 1) % 2 ^ 64)) e ∙ ap (set words at) (mod-eq_of_lt lt)

-- a lock word is 0 exactly where nobody holds the lock
pub free_lock : (p : ConfigParts) (words : List ℕ) (s : TreeState) (lock : ℕ) → Ground p words s → lock < all_locks p → get_or words (lock_word p lock) 0 ≡ 0 → s.hold lock ≡ Nobody
free_lock p words s lock g lt e = go (s.hold lock) (sym (g.shows.each (Lock lock) lt) ∙ e)
  where
    go : (h : LockState) → hold_word p h ≡ 0 → h ≡ Nobody
    go Nobody z = refl
    go (Held (Seat i) d) z = absurd (omega (arith, z))
    go (Held (Grant c) d) z = absurd (omega (arith, z))
    go (Writes i d n w) z = absurd (omega (arith, z))

pub held_lock : (p : ConfigParts) (words : List ℕ) (s : TreeState) (lock : ℕ) → Ground p words s → lock < all_locks p → s.hold lock ≢ Nobody → get_or words (lock_word p lock) 0 ≢ 0
held_lock p words s lock g lt ne e = ne (free_lock p words s lock g lt e)
