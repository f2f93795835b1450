use Rattle.std.proofs.Common.{arith}
use Rattle.utils.proofs.Bytes.{got_fits}
use Rattle.utils.proofs.get_bytes.Goals as goal

-- the check leaves both bounds: that one byte more fits
pub overflow_mul-x : goal.overflow_mul-x
overflow_mul-x c = record { fits = omega (arith, got_fits _ _ _ _ _ c.loop-b.invariant c.in-Some.ensures.steps c.requires) }

pub overflow_add-x : goal.overflow_add-x
overflow_add-x c = record { fits = omega (arith, got_fits _ _ _ _ _ c.loop-b.invariant c.in-Some.ensures.steps c.requires) }
