use Rattle.mapper.specs.Code.{find}
use Rattle.mptrie.proofs.Stroll.{Stands}
use Rattle.mptrie.proofs.walk_down.Given as goal

abbrev pub invariant-loop-i : goal.invariant-loop-i
invariant-loop-i l = Stands (find l.table) l.base l.check l.tails l.code_width l.value_width l.query l.node_idx l.i
