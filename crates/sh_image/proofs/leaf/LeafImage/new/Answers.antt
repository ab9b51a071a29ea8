use Rattle.sh_image.proofs.ColumnLemmas.{entries_of_replicate}
use Rattle.sh_image.proofs.leaf.LeafImage.new.Goals as goal

pub returns : goal.returns
returns c = λ t. record { version = c.args.version; low = c.args.low; high = c.args.high; next = c.args.next; entries = entries_of_replicate c.args.entries c.args.zero c.requires t }
