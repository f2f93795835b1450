use Rattle.mapper.specs.Code.{find}
use Rattle.walk.specs.Walk.{elems}
use Rattle.trie.proofs.Exact.{Stands}
use Rattle.trie.proofs.walk_down.Given as goal

abbrev pub invariant-loop-c : goal.invariant-loop-c
invariant-loop-c l = Stands (find l.table) l.base l.check (elems l.base l.check) l.query l.node_idx l.c-index
