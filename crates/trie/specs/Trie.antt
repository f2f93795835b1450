-- The queries of the plain form, whole: src/trie.rs, and the refusals around it. Assumes nothing.
use Rattle.std.specs.Prelude.{List, ℕ, ◌+◌, ◌*◌, Option, Result, length}
use Rattle.node.specs.declared.Refusal.{Refusal}
use Rattle.mapper.specs.Code.{find}
use Rattle.walk.specs.Walk.{elems, exact, prefixes}
use Rattle.walk.specs.Query.{query_refusal, unless, room_for}

-- exact match of a query on the runs table, base and check: 12, then 11 or 2, then what the walk finds, 22 among it
abbrev pub exact_answer : List ℕ → List ℕ → List ℕ → List ℕ → Result (Option ℕ) Refusal
exact_answer table base check query = unless (query_refusal (elems base check) (length table) 0 query) (exact (find table) base check (elems base check) query)

-- common-prefix search of a query, with room for that many matches: 12, then 11 or 2, then 22, then 23, else the matches
abbrev pub search_answer : List ℕ → List ℕ → List ℕ → List ℕ → ℕ → Result (List (ℕ × ℕ)) Refusal
search_answer table base check query room =
    unless (query_refusal (elems base check) (length table) 0 query) (room_for room (prefixes (find table) base check (elems base check) query))

-- "`io_bytes` is 4M + 8 + 8N + 4"
abbrev pub bytes : List ℕ → List ℕ → List ℕ → ℕ
bytes table base check = 4 * length table + 8 + 8 * elems base check + 4
