use Rattle.std.proofs.Common.{ℕ, List, Result}
use Rattle.node.specs.declared.Refusal.{Refusal}
use Rattle.mapper.specs.Code.{find}
use Rattle.walk.specs.Walk.{elems, prefixes}
use Rattle.walk.specs.Query.{values_after, lengths_after}
use Rattle.trie.proofs.Prefixes.{Writes}
use Rattle.trie.proofs.write.Given as goal

-- each run is written as far as the search has come
abbrev pub invariant-loop-i : goal.invariant-loop-i
invariant-loop-i l =
    let N : ℕ = elems l.base l.check in
    let found : Result (List (ℕ × ℕ)) Refusal = prefixes (find l.table) l.base l.check N l.query in
    record {
      values : Writes (find l.table) l.base l.check N l.query (λ m. m.0) (values_after found l.initial.values) l.n l.node_idx l.i l.values;
      lengths : Writes (find l.table) l.base l.check N l.query (λ m. m.1) (lengths_after found l.initial.lengths) l.n l.node_idx l.i l.lengths;
    }
