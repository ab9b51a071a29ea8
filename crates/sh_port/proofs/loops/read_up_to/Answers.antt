use Rattle.std.proofs.{Common.{◌++◌, ◌∙◌, arith, length-append, length-take, take}, KnownBytes.{Consumes-trans}}
use Rattle.sh_port.proofs.loops.read_up_to.Goals as goal

pub returns-then-n-most : goal.returns-then-n-most
returns-then-n-most g c =
    let some = take c.in-Ok.n c.read.new.into in
    let bound = c.in-Ok.ensures.bound in
    record {
      bytes = c.reads.bytes.items ++ some;
      taken = Consumes-trans _ _ _ _ _ c.reads.invariant.1 c.in-Ok.ensures.bytes.0;
      long = omega (arith, length-append c.reads.bytes.items some, length-take c.in-Ok.n c.read.new.into, c.reads.bytes.ok.0, c.reads.invariant.0, c.len.ensures, c.len-in-reads.ensures, c.if-n-most.true, c.min-room.ensures, c.read.auto.into, length-take c.min-room.result c.reads.buffer, bound);
      count = c.in-Ok.ensures.cause.ok ∙ c.reads.invariant.2;
    }

pub returns-then-is_err : goal.returns-then-is_err
returns-then-is_err g c = record {
  bytes = c.reads.bytes.items ++ take c.in-Ok.n c.read.new.into;
  taken = Consumes-trans _ _ _ _ _ c.reads.invariant.1 c.in-Ok.ensures.bytes.0;
  short = omega (arith, length-append c.reads.bytes.items (take c.in-Ok.n c.read.new.into), length-take c.in-Ok.n c.read.new.into, c.reads.bytes.ok.0, c.reads.invariant.0, c.len-in-reads.ensures, c.if-n-most.false, c.in-Ok.ensures.bound);
  count = c.in-Ok.ensures.cause.ok ∙ c.reads.invariant.2;
}
