use Rattle.std.proofs.Common.{subst}
use Rattle.sh_base.specs.Parts.{parts_of}
use Rattle.sh_image.specs.{Inner.{IsInner}, Node.{IsImage}}
use Rattle.sh_cache.proofs.RowLemmas.{kept_all}
use Rattle.sh_client.proofs.cached.keep.Goals as goal

pub returns-then-level-eq1-clause-nodes : goal.returns-then-level-eq1-clause-nodes
returns-then-level-eq1-clause-nodes c = λ h. rw c.keep.ensures (kept_all (IsInner (parts_of c.args.cfg.now)) c.args.cache.now.room c.args.cache.now.rows c.in-Inner.inner h (subst (IsImage (parts_of c.args.cfg.now)) c.in-Inner.is c.requires))
