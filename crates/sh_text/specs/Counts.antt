-- How many calls were answered in each way.
use Rattle.std.specs.{Prelude.{ℕ, ◌+◌, List, ◌++◌, nat_lt, codes, if◌then◌else◌}, Fmt.{decimal}, List.{fold}}
use Rattle.sh_map.specs.declared.{call.{Call.{Call, TheVariants.{Range}}, Reply.{Reply}}, book.Done.{Done}}
use Rattle.sh_map.specs.declared.call.Reply.TheVariants as reply
use Rattle.sh_text.specs.declared.counts.Counts.{Counts}

-- none yet
abbrev pub no_counts : Counts
no_counts = record { some = 0; none = 0; rows = 0; part = 0; full = 0; worn = 0 }

-- one more call that was answered with rows, and one that was answered in part
abbrev pub with_rows : Counts → Counts
with_rows c = record { some = c.some; none = c.none; rows = c.rows + 1; part = c.part; full = c.full; worn = c.worn }

abbrev pub with_part : Counts → Counts
with_part c = record { some = c.some; none = c.none; rows = c.rows; part = c.part + 1; full = c.full; worn = c.worn }

-- one more call that was answered so; a range that stopped below its high is answered in part
abbrev pub with_answer : Counts → Call → Reply → Counts
with_answer c call (reply.Some value) = record { some = c.some + 1; none = c.none; rows = c.rows; part = c.part; full = c.full; worn = c.worn }
with_answer c call reply.None = record { some = c.some; none = c.none + 1; rows = c.rows; part = c.part; full = c.full; worn = c.worn }
with_answer c (Range low high) (reply.Rows upto) = if nat_lt upto high then with_part c else with_rows c
with_answer c call (reply.Rows upto) = with_rows c
with_answer c call reply.Full = record { some = c.some; none = c.none; rows = c.rows; part = c.part; full = c.full + 1; worn = c.worn }
with_answer c call (reply.Worn version) = record { some = c.some; none = c.none; rows = c.rows; part = c.part; full = c.full; worn = c.worn + 1 }

-- the counts of these finished calls
abbrev pub counts_of : List Done → Counts
counts_of dones = fold (λ c (d : Done). with_answer c d.call d.reply) no_counts dones

-- the line of counts
unfoldable pub counts_line : Counts → List ℕ
counts_line c = codes "counts," ++ ((decimal c.some ++ codes ",") ++ ((decimal c.none ++ codes ",") ++ ((decimal c.rows ++ codes ",") ++ ((decimal c.part ++ codes ",") ++ ((decimal c.full ++ codes ",") ++ (decimal c.worn ++ codes "\n"))))))
