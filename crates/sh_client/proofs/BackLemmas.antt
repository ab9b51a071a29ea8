-- The turns of a client under a lock that was fed senseless words.
use Rattle.std.proofs.Common.{rules, ◌≡◌, ℕ, Some, sym, ap, subst, ◌∙◌}
use Rattle.sh_image.specs.declared.inner.Image.{Image}
use Rattle.sh_read.specs.{declared.state.Progress.TheVariants.{Accepted, Odd}, Reads.{accepted, progress_of, read_fed}}
use Rattle.sh_decide.specs.{declared.state.{Aim.{Aim}, Decision.TheVariants.{Restart}}, Deciding.{decision_of}}
use Rattle.sh_client.specs.{declared.state.{Phase.TheVariants.{ReadLocked, Waiting}, Then.TheVariants.{Starts}, Write.TheVariants.{Nothing}}, Courses.{node_read, GivesBack}}
use Rattle.sh_client.specs.{Cached.{settling}, Feeds.{did, fed_by, fed_in, held_by, hold_by, loaded}, Machine.{Machine, to}, Splitting.{giving_of}}
use Rattle.sh_client.proofs.GiveLemmas.{freed}

gives_back : (m : Machine) (node depth : ℕ) (aim : Aim) → GivesBack (to m (Waiting depth (giving_of node Nothing (Starts aim)))) node depth aim
gives_back m node depth aim = search (rules, freed)

pub odd_gives_back : (m : Machine) (word depth : ℕ) (aim : Aim) → m.phase ≡ ReadLocked aim depth → progress_of m.setting m.registers.reads word ≡ Odd → GivesBack (fed_by m word) (node_read m word) depth aim
odd_gives_back m word depth aim at odd =
    let step : fed_by m word ≡ to (loaded m word) (Waiting depth (giving_of (node_read m word) Nothing (Starts aim))) = ap (fed_in m word) at ∙ ap (hold_by (loaded m word) aim depth) odd in
    subst (λ (x : Machine). GivesBack x (node_read m word) depth aim) (sym step) (gives_back (loaded m word) (node_read m word) depth aim)

pub restart_gives_back : (m : Machine) (word depth : ℕ) (aim : Aim) (image : Image) → m.phase ≡ ReadLocked aim depth → progress_of m.setting m.registers.reads word ≡ Accepted → accepted m.setting (read_fed m.setting m.registers.reads word) ≡ Some image → decision_of m.setting m.registers.call aim image ≡ Restart → GivesBack (fed_by m word) (node_read m word) depth aim
restart_gives_back m word depth aim image at whole is senseless =
    let s : Machine = settling (loaded m word) aim image in
    let step : fed_by m word ≡ to s (Waiting depth (giving_of (node_read m word) Nothing (Starts aim))) =
    ap (fed_in m word) at
    ∙ ap (hold_by (loaded m word) aim depth) whole
    ∙ ap (held_by (loaded m word) aim depth) is
    ∙ ap (did s aim depth image) senseless in
    subst (λ (x : Machine). GivesBack x (node_read m word) depth aim) (sym step) (gives_back s (node_read m word) depth aim)
