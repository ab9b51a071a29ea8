use Rattle.std.proofs.Common.{◌≡◌, ◌<◌, All, subst, sym}
use Rattle.sh_base.specs.Parts.{parts_of}
use Rattle.sh_sheet.specs.Sheet.{IsLawfulItem}
use Rattle.sh_fleet.specs.Sharing.{IsWork}
use Rattle.sh_fleet.proofs.threads.start.Goals as goal

pub spawn_with-requires : goal.spawn_with-requires
spawn_with-requires g c κs within = (within.0, (within.1.0, (within.1.1, subst (λ v. (v.2.now.laid ≡ g.N.Naming.laid) × (v.3.now ≡ g.N.Naming.items) × All (IsLawfulItem (parts_of v.1.now)) v.3.now × (v.7 < 64) × IsWork (parts_of v.1.now) v.2.now.laid v.3.now v.7 v.8) (sym c.in-Err.ensures.err) (c.requires.named.0, c.requires.named.1, c.requires.lawful, c.requires.seat, c.requires.work))))

pub returns-in-Err : goal.returns-in-Err
returns-in-Err g c = subst (λ v. IsWork (parts_of v.1.now) v.2.now.laid v.3.now v.7 c.spawn_with.result) c.in-Err.ensures.err c.spawn_with.ensures
