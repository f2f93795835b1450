use Rattle.std.proofs.Common.{◌≤◌}
use Rattle.mapper.specs.Code.{find}
use Rattle.walk.specs.Walk.{elems}
use Rattle.trie.proofs.Prefixes.{Counted}
use Rattle.trie.proofs.count.Given as goal

abbrev pub invariant-loop-c : goal.invariant-loop-c
invariant-loop-c l = record {
  few : l.n ≤ l.c-index;
  counted : Counted (find l.table) l.base l.check (elems l.base l.check) l.query l.n l.node_idx l.c-index;
}
