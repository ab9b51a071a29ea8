use Rattle.std.proofs.Common.{◌≡◌, arith, length}
use Rattle.sh_base.specs.{Parts.{parts_of}, Setting.{all_seats}}
use Rattle.sh_fleet.proofs.MergeLemmas.{done_passes, served}
use Rattle.sh_fleet.proofs.serve.serve.Goals as goal

pub gather-requires : goal.gather-requires
gather-requires g c =
    let done = c.in_ok-works-2.ensures in
    let long : length c.in_ok-works-2.works.items ≡ all_seats (parts_of c.args.cfg.now) = omega (arith, done.0, c.in_ok-works-2.works.ok.0) in
    done_passes _ _ _ _ done.1 long _ _ c.in_ok-passes.ensures.ok c.split-passes.ensures.passes

pub returns-clause-ok : goal.returns-clause-ok
returns-clause-ok g c =
    let done = c.in_ok-works-2.ensures in
    let long : length c.in_ok-works-2.works.items ≡ all_seats (parts_of c.args.cfg.now) = omega (arith, done.0, c.in_ok-works-2.works.ok.0) in
    served _ _ _ _ c.requires.lawful c.requires.few done.1 long _ _ _ _ _ _ c.in_ok-passes.ensures.ok c.split-passes.ensures.passes c.split-passes.ensures.answers c.in-Ok.ensures.gathered c.words.ensures c.in_ok-rows.ensures
