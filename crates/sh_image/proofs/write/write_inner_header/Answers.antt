use Rattle.std.proofs.Common.{rules}
use Rattle.sh_image.proofs.WriteLemmas.{inner_header_written}
use Rattle.sh_image.proofs.write.write_inner_header.Goals as goal

pub returns-clause-front : goal.returns-clause-front
returns-clause-front c = search (rules, inner_header_written)
