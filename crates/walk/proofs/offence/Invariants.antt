use Rattle.std.proofs.Common.{◌≡◌, drop}
use Rattle.walk.specs.Query.{offence}
use Rattle.walk.proofs.offence.Given as goal

-- the characters so far have no refusal
abbrev pub invariant-loop-c : goal.invariant-loop-c
invariant-loop-c l = offence l.query ≡ offence (drop l.c-index l.query)
