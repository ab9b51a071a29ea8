use Rattle.std.specs.Prelude.{replicate}
use Rattle.sh_image.proofs.PairLemmas.{no_pairs_of}
use Rattle.sh_image.proofs.inner.InnerImage.new.Goals as goal

pub returns : goal.returns
returns c = λ t. record { version = c.args.version; level = c.args.level; low = c.args.low; high = c.args.high; next = c.args.next; pairs = no_pairs_of (replicate 128 0) (replicate 128 0) t }
