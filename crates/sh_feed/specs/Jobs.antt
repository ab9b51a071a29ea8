-- Lists of jobs: their order, and what is counted of them.
use Rattle.std.specs.{Prelude.{◌≡◌, ℕ, ◌+◌, ◌≤◌, ◌⊎◌, if◌then◌else◌, Bool, true, Option, None, Some, List, [], ◌∷◌, ◌++◌, length}, List.{AllByRecursion}}
use Rattle.sh_map.specs.{declared.call.Call.{Call}, Calls.{IsInRange}}
use Rattle.sh_local.specs.Calls.{total}
use Rattle.sh_feed.specs.declared.{job.Job.{Job, TheVariants.{Ask, End}}, view.Setup.{Setup}}

-- the call may be asked in this setup; before there is one, none may
abbrev pub Fits : Option Setup → Call → Type 0
Fits None c = ⊥
Fits (Some s) c = IsInRange s.parts c

abbrev pub FitsJob : Option Setup → Job → Type 0
FitsJob s (Ask n c) = Fits s c
FitsJob s End = Unit {0}

abbrev pub IsEnd : Job → Type 0
IsEnd (Ask n c) = ⊥
IsEnd End = Unit {0}

abbrev pub IsAsk : Job → Type 0
IsAsk (Ask n c) = Unit {0}
IsAsk End = ⊥

-- Asks with the numbers from n on, one by one, each in range, and behind them Ends alone
abbrev pub AreNumbered : Option Setup → ℕ → List Job → Type 0
AreNumbered s n [] = Unit {0}
AreNumbered s n (Ask m c ∷ js) = (m ≡ n) × Fits s c × AreNumbered s (n + 1) js
AreNumbered s n (End ∷ js) = AllByRecursion IsEnd js

-- the job may come behind these, which are numbered from n on
abbrev pub MayFollow : Option Setup → ℕ → List Job → Job → Type 0
MayFollow s n js (Ask m c) = AllByRecursion IsAsk js × (m ≡ n + length js) × Fits s c
MayFollow s n js End = Unit {0}

-- the Asks whose numbers pass the test, in their order
abbrev pub asks_where : (test : ℕ → Bool) → List Job → List Job
asks_where test [] = []
asks_where test (Ask n c ∷ js) = if test n then Ask n c ∷ asks_where test js else asks_where test js
asks_where test (End ∷ js) = asks_where test js

abbrev pub all_asks : List Job → List Job
all_asks js = asks_where (λ n. true) js

-- the numbers of the Asks rise, from low on
abbrev pub RiseFrom : ℕ → List Job → Type 0
RiseFrom low [] = Unit {0}
RiseFrom low (Ask n c ∷ js) = (low ≤ n) × RiseFrom (n + 1) js
RiseFrom low (End ∷ js) = RiseFrom low js

-- these stand in the whole, in this order
abbrev pub Within : List Job → List Job → Type 0
Within [] whole = Unit {0}
Within (x ∷ xs) [] = ⊥
Within (x ∷ xs) (y ∷ ys) = ((x ≡ y) × Within xs ys) ⊎ Within (x ∷ xs) ys

-- each of these lists stands in the whole
abbrev pub EachWithin : List (List Job) → List Job → Type 0
EachWithin ls whole = AllByRecursion (λ l. Within l whole) ls

-- Each taker's numbers rise. Whatever is counted of the jobs, all takers' and those left together have as much as those given; the jobs left are the last ones given, and each taker's stand, in their order, among those before.
pub record FeedKept (given : List Job) (takens : List (List Job)) (left : List Job) : Type 0 where
  pub front : List Job
  pub whole : given ≡ front ++ left
  pub rise : AllByRecursion (RiseFrom 1) takens
  pub order : EachWithin takens front
  pub once : (f : Job → ℕ) → total (total f) takens + total f left ≡ total f given

-- for counting: each job, and each End
abbrev pub one : Job → ℕ
one x = 1

abbrev pub end_one : Job → ℕ
end_one (Ask n c) = 0
end_one End = 1
