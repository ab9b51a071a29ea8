-- What each step leaves of what a token knows.
use Rattle.std.specs.Prelude.{ℕ, ◌+◌, ◌-◌, Option, None, Some, List, [], ◌∷◌, ◌++◌}
use Rattle.sh_local.specs.Calls.{total}
use Rattle.sh_feed.specs.declared.{job.Job.{Job}, view.{Setup.{Setup}, View.{View}}}

-- the first token, before there is a setup
abbrev pub opener : View
opener = record { setup = None; parts = 1; gives = 1; gave = []; took = []; others = [] }

abbrev pub nobody : View
nobody = record { setup = None; parts = 0; gives = 0; gave = []; took = []; others = [] }

-- one token for the giver and one for each taker
abbrev pub tokens_of : Option Setup → ℕ
tokens_of None = 1
tokens_of (Some s) = s.takers + 1

-- a giver that took in these takers
abbrev pub giver_view : Option Setup → ℕ → List Job → List (List Job) → View
giver_view s parts gave others = record { setup = s; parts = parts; gives = 1; gave = gave; took = []; others = others }

abbrev pub taker_view : Option Setup → List Job → View
taker_view s took = record { setup = s; parts = 1; gives = 0; gave = []; took = took; others = [] }

abbrev pub opened : Option Setup → View
opened s = giver_view s (tokens_of s) [] []

abbrev pub less_one : View → View
less_one v = record v { parts = v.parts - 1 }

-- a taker is taken in: its list stands before those taken in already
abbrev pub both : View → View → View
both v w = record v { parts = v.parts + w.parts; others = w.took ∷ v.others }

abbrev pub gave_more : View → Job → View
gave_more v x = record v { gave = v.gave ++ x ∷ [] }

abbrev pub took_more : View → Job → View
took_more v x = record v { took = v.took ++ x ∷ [] }

-- what is counted of all that was taken
abbrev pub taken : (Job → ℕ) → View → ℕ
taken f v = total f v.took + total (total f) v.others

-- the lists of all that was taken
abbrev pub all_taken : List View → List (List Job)
all_taken [] = []
all_taken (v ∷ vs) = v.took ∷ (v.others ++ all_taken vs)
