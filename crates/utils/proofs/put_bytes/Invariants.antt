use Rattle.std.proofs.Common.{◌≡◌, ◌++◌, ◌-◌, length, take}
use Rattle.utils.specs.Packed.{packed}
use Rattle.utils.proofs.put_bytes.Given as goal

-- the bytes before the index, and those that packing x would add, are those of n
abbrev pub invariant-loop-b : goal.invariant-loop-b
invariant-loop-b l = take l.b-index l.out ++ packed (length l.out - l.b-index) l.x ≡ packed (length l.out) l.n
