-- What a client was at is nothing to where an image leads it.
use Rattle.std.proofs.Common.{rules, ◌≡◌, ℕ, Bool, false, cond, Option, Some, None, refl, sym, ap, ◌∙◌}
use Rattle.sh_image.specs.declared.inner.Image.{Image}
use Rattle.sh_alloc.specs.Spares.{lowest, without_lowest}
use Rattle.sh_decide.specs.{Aims.{end_of, is_node}, declared.state.{Aim.{Aim, TheVariants.{Own, Gathers, Posts}}, Decision.{Decision}, Way.{Way}}, Deciding.{decision_of}, Ways.{way_of}}
use Rattle.sh_read.specs.Reads.{accepted}
use Rattle.sh_decide.specs.declared.state.Decision.TheVariants as decision
use Rattle.sh_decide.specs.declared.state.Way.TheVariants as way
use Rattle.sh_client.specs.{declared.state.{Edge.{Edge}, Need.{Need, TheVariants.{ToSplit, ToGrow}}, Phase.{Phase, TheVariants.{Idle, Root, Read}}}, Machine.{Machine, reading, to, sparing}}
use Rattle.sh_client.specs.{Ranges.{edge_of, gathered, gathering, is_whole, passing, range_ended, rows_taken}, Splitting.{halved, halved_by, needing, root_grown, with_fresh}}
use Rattle.sh_client.specs.{Cached.{learning, settling}, Feeds.{arrived, did, held_by, went}}

module _ (m : Machine) (phase : Phase) where
  abbrev m' : Machine
  m' = to m phase

  either : (b : Bool) (x y x' y' : Machine) → x' ≡ x → y' ≡ y → cond b x' y' ≡ cond b x y
  either b x y x' y' e h = search rules

  halves : (aim : Aim) (depth fresh : ℕ) (image : Image) → halved m' aim depth fresh image ≡ halved m aim depth fresh image
  halves aim depth fresh image = search rules

  passes : (edge : Edge) → passing m' edge ≡ passing m edge
  passes edge = either (is_node m.setting edge.next) (reading m edge.next (Read (Gathers edge.high) false)) (to m (Root (Gathers edge.high))) (reading m edge.next (Read (Gathers edge.high) false)) (to m (Root (Gathers edge.high))) refl refl

  gathers : (aim : Aim) (edge : Option Edge) → gathered m' aim edge ≡ gathered m aim edge
  gathers aim None = refl
  gathers aim (Some edge) = either (is_whole m.setting.rows (end_of m.registers.call) edge.high m.registers.rows) (range_ended m) (passing m edge) (range_ended m) (passing m' edge) refl (passes edge)

module _ (m : Machine) (phase : Phase) where
  splits : (aim : Aim) (depth fresh : ℕ) (image : Option Image) → halved_by (to m phase) aim depth fresh image ≡ halved_by m aim depth fresh image
  splits aim depth fresh (Some image) = halves m phase aim depth fresh image
  splits aim depth fresh None = refl

  fresh_on : (fresh : ℕ) (need : Need) → with_fresh (to m phase) fresh need ≡ with_fresh m fresh need
  fresh_on fresh (ToSplit aim depth) = splits aim depth fresh (accepted m.setting m.registers.reads)
  fresh_on fresh (ToGrow post root) = refl

module _ (m : Machine) (phase : Phase) where
  needing_on : (need : Need) (o : Option ℕ) → needing (to m phase) need o ≡ needing m need o
  needing_on need (Some fresh) = fresh_on (sparing m (without_lowest m.registers.spare)) phase fresh need
  needing_on need None = refl

  grows : (aim : Aim) (root : ℕ) → root_grown (to m phase) aim root ≡ root_grown m aim root
  grows Own root = refl
  grows (Gathers place) root = refl
  grows (Posts post) root = needing_on (ToGrow post root) (lowest m.registers.spare)

  takes_rows : (aim : Aim) (image : Image) → rows_taken (to m phase) aim image ≡ rows_taken m aim image
  takes_rows Own image = refl
  takes_rows (Posts post) image = refl
  takes_rows (Gathers place) image = gathers (gathering m place image) phase (Gathers place) (edge_of image)

  pub went_from : (aim : Aim) (image : Image) (w : Way) → went (to m phase) aim image w ≡ went m aim image w
  went_from aim image way.Grow = grows aim m.registers.reads.node
  went_from aim image way.Rows = takes_rows aim image
  went_from aim image way.Root = refl
  went_from aim image (way.Read node) = refl
  went_from aim image (way.Right node) = refl
  went_from aim image (way.Lock node) = refl
  went_from aim image (way.LockRight node) = refl
  went_from aim image way.Found = refl

  pub did_from : (aim : Aim) (depth : ℕ) (image : Image) (d : Decision) → did (to m phase) aim depth image d ≡ did m aim depth image d
  did_from aim depth image decision.Split = needing_on (ToSplit aim depth) (lowest m.registers.spare)
  did_from aim depth image decision.Restart = refl
  did_from aim depth image (decision.Right node) = refl
  did_from aim depth image decision.Absent = refl
  did_from aim depth image (decision.Entry index) = refl
  did_from aim depth image (decision.Rewrite index) = refl
  did_from aim depth image (decision.Worn version) = refl
  did_from aim depth image decision.Skip = refl
  did_from aim depth image decision.Add = refl

-- The image of a READ is there, was learnt, and has led the client on.
pub arrives : (m x y : Machine) (aim : Aim) (top : Bool) (image : Image) (w : Way) → accepted m.setting m.registers.reads ≡ Some image → w ≡ way_of m.setting m.registers.call aim top m.registers.reads.node image → x ≡ to (learning m aim image) Idle
    → ((image : Image) → accepted x.setting x.registers.reads ≡ Some image → y ≡ went x aim image w) → y ≡ arrived m aim top (accepted m.setting m.registers.reads)
arrives m x y aim top image w is way_is x_is goes =
    goes image (ap (λ (z : Machine). accepted z.setting z.registers.reads) x_is ∙ is)
    ∙ ap (λ (z : Machine × Way). went z.0 aim image z.1) (λ j. (x_is j, way_is j))
    ∙ went_from (learning m aim image) Idle aim image (way_of m.setting m.registers.call aim top m.registers.reads.node image)
    ∙ ap (arrived m aim top) (sym is)

pub decides : (m x y : Machine) (aim : Aim) (depth : ℕ) (image : Image) (d : Decision) → accepted m.setting m.registers.reads ≡ Some image → d ≡ decision_of m.setting m.registers.call aim image → x ≡ to (settling m aim image) Idle
    → ((image : Image) → accepted x.setting x.registers.reads ≡ Some image → y ≡ did x aim depth image d) → y ≡ held_by m aim depth (accepted m.setting m.registers.reads)
decides m x y aim depth image d is d_is x_is does =
    does image (ap (λ (z : Machine). accepted z.setting z.registers.reads) x_is ∙ is)
    ∙ ap (λ (z : Machine × Decision). did z.0 aim depth image z.1) (λ j. (x_is j, d_is j))
    ∙ did_from (settling m aim image) Idle aim depth image (decision_of m.setting m.registers.call aim image)
    ∙ ap (held_by m aim depth) (sym is)
