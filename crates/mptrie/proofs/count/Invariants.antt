use Rattle.std.proofs.Common.{◌≤◌}
use Rattle.mapper.specs.Code.{find}
use Rattle.mptrie.proofs.Prefixes.{Counted}
use Rattle.mptrie.proofs.count.Given as goal

abbrev pub invariant-loop-i : goal.invariant-loop-i
invariant-loop-i l = record {
  few : l.n ≤ l.i;
  counted : Counted (find l.table) l.base l.check l.tails l.cw l.vw l.query l.n l.node_idx l.i;
}
