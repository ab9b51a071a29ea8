-- What a client is after: its call's own leaf, or the node that a post goes to.
use Rattle.std.specs.Prelude.{ℕ, Bool, true, false, ◌&&◌, nat_le, List, replicate}
use Rattle.sh_base.specs.{declared.config.ConfigParts.{ConfigParts}, Setting.{nodes}}
use Rattle.sh_map.specs.declared.call.Call.{Call, TheVariants.{Get, Put, Del, Range}}
use Rattle.sh_decide.specs.declared.state.{Posting.{Posting}, Aim.{Aim, TheVariants.{Own, Posts, Gathers}}}

abbrev pub post_of : (separator node level : ℕ) → Posting
post_of separator node level = record { separator = separator; node = node; level = level }

-- a call's key, and a range's low end
abbrev pub call_key : Call → ℕ
call_key (Get key) = key
call_key (Put key value) = key
call_key (Del key) = key
call_key (Range low high) = low

-- the key and the value that an update leaves in its entry: a delete an empty entry
abbrev pub written_key : Call → ℕ
written_key (Get key) = 0
written_key (Put key value) = key
written_key (Del key) = 0
written_key (Range low high) = 0

abbrev pub written_value : ConfigParts → Call → List ℕ
written_value p (Get key) = replicate p.value_words 0
written_value p (Put key value) = value
written_value p (Del key) = replicate p.value_words 0
written_value p (Range low high) = replicate p.value_words 0

-- what a call's descent is for: a range gathers rows from its low end on
abbrev pub aim_of : Call → Aim
aim_of (Range low high) = Gathers low
aim_of call = Own

-- the high end of a range; no other call has one
abbrev pub end_of : Call → ℕ
end_of (Range low high) = high
end_of call = 0

-- the key that a descent looks for
abbrev pub aimed_key : Call → Aim → ℕ
aimed_key call Own = call_key call
aimed_key call (Gathers place) = place
aimed_key call (Posts post) = post.separator

-- the level at which it ends
abbrev pub target : Aim → ℕ
target Own = 0
target (Gathers place) = 0
target (Posts post) = post.level

-- the node at its end is READ under its lock
abbrev pub takes_lock : Call → Aim → Bool
takes_lock call (Posts post) = true
takes_lock call (Gathers place) = false
takes_lock (Get key) Own = false
takes_lock (Put key value) Own = true
takes_lock (Del key) Own = true
takes_lock (Range low high) Own = false

-- the number of a node of the setting
abbrev pub is_node : ConfigParts → ℕ → Bool
is_node p n = nat_le 1 n && nat_le n (nodes p)
