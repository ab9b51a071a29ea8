-- The rule that the feed's queue keeps, at every moment.
use Rattle.std.specs.Prelude.{◌≡◌, ℕ, ◌≤◌, Option, List, [], ◌++◌}
use mathlib.Core.Option.{some}
use lib.ListN.{get_elem?}
use Rattle.sh_local.specs.Calls.{total}
use Rattle.sh_feed.specs.{declared.{job.Job.{Job}, view.{Setup.{Setup}, View.{View}}}, Jobs.{AreNumbered, Within, EachWithin, FeedKept}, Views.{taken, tokens_of}}

-- what holds of one token, where `front` has been taken and `items` lie in the queue
pub record Knows (setup : Option Setup) (front items : List Job) (v : View) : Type 0 where
  pub same : 1 ≤ v.parts → v.setup ≡ setup
  pub nothing : v.parts ≡ 0 → (v.gives ≡ 0) × (v.took ≡ []) × (v.others ≡ [])
  pub gave : 1 ≤ v.gives → v.gave ≡ front ++ items
  pub took : Within v.took front
  pub others : EachWithin v.others front

pub record Kept (items : List Job) (views : List View) : Type 0 where
  pub setup : Option Setup
  pub front : List Job
  pub numbered : AreNumbered setup 1 (front ++ items)
  pub parts : total (λ (v : View). v.parts) views ≡ tokens_of setup
  pub givers : total (λ (v : View). v.gives) views ≤ 1
  pub known : (id : ℕ) (v : View) → get_elem? views id ≡ some v → Knows setup front items v
  pub once : (f : Job → ℕ) → total (taken f) views ≡ total f front

-- a moment at which a token knew this, and the queue held these
pub record Moment (v : View) (items : List Job) : Type 0 where
  pub views : List View
  pub id : ℕ
  pub kept : Kept items views
  pub at : get_elem? views id ≡ some v

-- what the giver knows with whom all takers were put together: what is left in the queue
pub record Whole (v : View) (items : List Job) : Type 0 where
  pub numbered : AreNumbered v.setup 1 v.gave
  pub kept : FeedKept v.gave v.others items

-- the giver's list is this one
abbrev pub Given : List View → List Job → Type 0
Given views given = (id : ℕ) (v : View) → get_elem? views id ≡ some v → 1 ≤ v.gives → v.gave ≡ given
