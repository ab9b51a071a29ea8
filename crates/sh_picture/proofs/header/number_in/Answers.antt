use Rattle.sh_picture.proofs.PictureLemmas.{number_is}
use Rattle.sh_picture.proofs.header.number_in.Goals as goal

pub returns : goal.returns
returns c = number_is c.args.bytes.now c.args.i c.read_u32.result c.requires.some c.read_u32.ensures
