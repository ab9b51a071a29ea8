use Rattle.std.{proofs.Common.{◌≡◌, ◌+◌, ◌++◌, take, vec_len}, specs.Vec.{vec_capacity}}
use Rattle.sh_port.proofs.list.push_all.Given as goal

abbrev pub invariant-loop-byte : goal.invariant-loop-byte
invariant-loop-byte l = (l.bytes.items ≡ l.fn.bytes.items ++ take l.byte-index l.more)
    × (vec_len l.bytes ≡ vec_len l.fn.bytes + l.byte-index)
    × (vec_capacity l.bytes ≡ vec_capacity l.fn.bytes)
