use Rattle.std.proofs.Common.{arith}
use Rattle.sh_picture.proofs.PictureLemmas.{words_are}
use Rattle.sh_base.specs.{Parts.{parts_of}, Setting.{pool_words}}
use Rattle.sh_picture.proofs.words.read_words.Goals as goal

pub returns : goal.returns
returns c = words_are c.args.bytes.now c.read_u64_into.new.dst c.in_ok-words.words.items c.in_ok-words.words.len (pool_words (parts_of c.args.cfg.now))
    (omega (arith, c.read_u64_into.auto.dst, c.deref_mut.ensures.len, c.in_ok-words.words.ok.0))
    (omega (arith, c.read_u64_into.auto.dst, c.deref_mut.ensures.len, c.in_ok-words.words.ok.0, c.in_ok-words.ensures.len, c.words.ensures))
    c.read_u64_into.ensures
