-- The causes of skipped posts, in the words that the course of the call found.
use Rattle.std.specs.Prelude.{◌≡◌, ℕ, ◌<◌, ◌≤◌, false, List, [], ◌++◌, Option, Some}
use Rattle.sh_base.specs.{declared.config.ConfigParts.{ConfigParts}, Setting.{last_version}}
use Rattle.sh_alloc.specs.declared.state.NodeRange.{NodeRange}
use Rattle.sh_image.specs.Inner.{Inner, SpellsInner}
use Rattle.sh_decide.specs.{declared.state.{Aim.{Aim, TheVariants.{Posts}}, Posting.{Posting}}, Deciding.{has_separator}}
use Rattle.sh_client.specs.{CachedTurns.{read_aim}, Machine.{Machine}}
use Rattle.sh_course.specs.{Counts.{RisesExactly}, Turns.{Taken}, Found.{AllGotNone, AllSpare, AllSpent, HasReadLocked}, Stores.{AllCount}}

-- the inner node covers the separator, on the post's level, hasn't got it, and has the last version
pub record IsWornAt (p : ConfigParts) (post : Posting) (a : Inner) : Type 0 where
  pub level : a.level ≡ post.level
  pub low : a.low ≤ post.separator
  pub high : post.separator < a.high
  pub fresh : has_separator a.pairs post.separator ≡ false
  pub last : last_version p ≤ a.version

-- The last turns were a READ of such a node under its lock, for the post that the client is after.
pub record SkipsWorn (p : ConfigParts) (turns : List Taken) (after : Option Aim) : Type 0 where
  pub post : Posting
  pub after_is : after ≡ Some (Posts post)
  pub node : ℕ
  pub depth : ℕ
  pub words : List ℕ
  pub before : List Taken
  pub inner : Inner
  pub read : HasReadLocked p turns node depth words before []
  pub spells : SpellsInner p words inner
  pub worn : IsWornAt p post inner

-- The call has stored a word of a node, so that it is at a post. Its seat has no spare node, and in the last turns, which load
-- and add counters alone, each server's counter was found at the limit, and no chunk was got.
pub record SkipsSpent (p : ConfigParts) (turns : List Taken) (spare : NodeRange) : Type 0 where
  pub before : List Taken
  pub since : List Taken
  pub whole : turns ≡ since ++ before
  pub counted : AllCount p since
  pub spent : AllSpent p since
  pub got_none : AllGotNone p since
  pub none : spare.count ≡ 0
  pub stored : AllSpare p turns → ⊥

-- a turn counts both exactly there
pub record CountsSkips (turns : List Taken) (m n : Machine) : Type 0 where
  pub spent : RisesExactly m.registers.tally.skipped_spent n.registers.tally.skipped_spent (SkipsSpent m.setting turns m.registers.spare)
  pub worn : RisesExactly m.registers.tally.skipped_worn n.registers.tally.skipped_worn (SkipsWorn m.setting turns (read_aim m.phase))
