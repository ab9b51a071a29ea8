-- The words of locks and counters, and the root word, lie in the pool.
use Rattle.std.proofs.Common.{◌≡◌, ℕ, ◌<◌, subst, sym, arith}
use Rattle.sh_base.specs.{declared.{config.ConfigParts.{ConfigParts}, event.Event.{Event}}, Setting.{all_locks, pool_words}, Layout.{counter_word, lock_word}, Memory.{at_of}, Places.{Root, Lock}}
use Rattle.sh_base.proofs.PlacesLemmas.{are_places_apart}
use Rattle.sh_lock.specs.Locks.{grab_of}

pub root_within : (p : ConfigParts) → 1 < pool_words p
root_within p = (are_places_apart p).within Root tt

pub lock_within : (p : ConfigParts) (lock : ℕ) → lock < all_locks p → lock_word p lock < pool_words p
lock_within p lock lt = (are_places_apart p).within (Lock lock) lt

pub grab_within : (p : ConfigParts) (lock seat : ℕ) (e : Event) → e ≡ grab_of p lock seat → lock < all_locks p → at_of e < pool_words p
grab_within p lock seat e is lt = subst (λ (x : Event). at_of x < pool_words p) (sym is) (lock_within p lock lt)

pub counter_within : (p : ConfigParts) (at : ℕ) → at < counter_word p p.servers → at < pool_words p
unfolding pool_words
counter_within p at lt = omega (arith, lt)
