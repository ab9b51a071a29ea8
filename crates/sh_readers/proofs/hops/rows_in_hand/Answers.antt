use Rattle.std.proofs.Common.{◌≢◌, refl}
use Rattle.sh_image.specs.{declared.inner.Image.TheVariants.{Inner as InnerImage}, Inner.{Inner}}
use Rattle.sh_state.specs.TreeState.{Seat}
use Rattle.sh_readers.{specs.Hand.{IsImageOf}, proofs.{HandLemmas.{down_named}, RowLemmas.{rows_on, own_low, row_found}}}
use Rattle.sh_cache.proofs.RowLemmas.{kept_all, forgotten_all}
use Rattle.sh_readers.proofs.hops.rows_in_hand.Goals as goal

pub returns-clause-act : goal.returns-clause-act
returns-clause-act c = λ s t seat rows ch h. rows_on c.args.cfg.now.parts (λ o. o ≢ Seat seat) s t ch rows h

pub returns-clause-kept : goal.returns-clause-kept
returns-clause-kept c = λ s room low rows row h rest. kept_all (λ (r : Inner). IsImageOf s 1 r.low (InnerImage r)) room rows row rest (own_low s low row h)

pub returns-clause-forgotten : goal.returns-clause-forgotten
returns-clause-forgotten c = λ s low rows h. forgotten_all (λ (r : Inner). IsImageOf s 1 r.low (InnerImage r)) rows low h

pub returns-clause-found : goal.returns-clause-found
returns-clause-found c = λ s key rows row h f. row_found s key rows row h f

pub returns-clause-leaf : goal.returns-clause-leaf
returns-clause-leaf c = λ s key child row h from e. (down_named s 1 row.low key 0 (InnerImage row) h from 0 child refl e).0
