use Rattle.std.proofs.Common.{ℕ, List, Result}
use Rattle.node.specs.declared.Refusal.{Refusal}
use Rattle.mapper.specs.Code.{find}
use Rattle.walk.specs.Walk.{elems}
use Rattle.walk.specs.Tail.{prefixes_mp}
use Rattle.walk.specs.Query.{values_after, lengths_after}
use Rattle.mptrie.proofs.Prefixes.{Writes}
use Rattle.mptrie.proofs.write.Given as goal

-- each run is written as far as the search has come
abbrev pub invariant-loop-i : goal.invariant-loop-i
invariant-loop-i l =
    let found : Result (List (ℕ × ℕ)) Refusal = prefixes_mp (find l.table) l.base l.check l.tails l.cw l.vw (elems l.base l.check) l.query in
    record {
      values : Writes (find l.table) l.base l.check l.tails l.cw l.vw l.query (λ m. m.0) (values_after found l.initial.values) l.n l.node_idx l.i l.values;
      lengths : Writes (find l.table) l.base l.check l.tails l.cw l.vw l.query (λ m. m.1) (lengths_after found l.initial.lengths) l.n l.node_idx l.i l.lengths;
    }
