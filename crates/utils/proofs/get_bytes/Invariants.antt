use Rattle.utils.proofs.Bytes.{Got}
use Rattle.utils.proofs.get_bytes.Given as goal

-- x is the number in the bytes that are passed, the last ones
abbrev pub invariant-loop-b : goal.invariant-loop-b
invariant-loop-b l = Got l.bytes l.b-iterator.iter.rest.now l.x
