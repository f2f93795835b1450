-- The queries of the minimal-prefix form, whole: src/mptrie.rs, and the refusals around it. Assumes nothing.
use Rattle.std.specs.Prelude.{if◌then◌else◌, List, ℕ, Option, Some, None, Result, Ok, Err, length, nat_lt}
use Rattle.node.specs.Element.{leaf}
use Rattle.node.specs.declared.Refusal.{Refusal}
use Rattle.node.specs.declared.Refusal.TheVariants.{Outside}
use Rattle.mapper.specs.Code.{find}
use Rattle.walk.specs.Walk.{elems, go_on, settle_end}
use Rattle.walk.specs.Tail.{exact_mp, one_of, leaf_scan, prefixes_mp}
use Rattle.walk.specs.Query.{query_refusal, unless, room_for}

-- exact match of a query on the runs table, base, check and tails, with codes of cw bytes and values of vw: 12, then 11 or 2, then what the walk finds, 22
-- among it
abbrev pub exact_answer : List ℕ → List ℕ → List ℕ → List ℕ → ℕ → ℕ → List ℕ → Result (Option ℕ) Refusal
exact_answer table base check tails cw vw query =
    unless (query_refusal (elems base check) (length table) (length tails) query) (exact_mp (find table) base check tails cw vw (elems base check) query)

-- common-prefix search of a query, with room for that many matches: 12, then 11 or 2, then 22, then 23, else the matches
abbrev pub search_answer : List ℕ → List ℕ → List ℕ → List ℕ → ℕ → ℕ → List ℕ → ℕ → Result (List (ℕ × ℕ)) Refusal
search_answer table base check tails cw vw query room =
    unless (query_refusal (elems base check) (length table) (length tails) query)
    (room_for room (prefixes_mp (find table) base check tails cw vw (elems base check) query))

-- the match at an element d, where the query has q left: its value, and how many characters of q a leaf's tail takes
abbrev pub match_at : (ℕ → Option ℕ) → List ℕ → List ℕ → List ℕ → ℕ → ℕ → ℕ → List ℕ → Result (Option (ℕ × ℕ)) Refusal
match_at f base check tails cw vw d q =
    if nat_lt d (elems base check) then
    (if leaf base d then one_of (leaf_scan f base tails cw vw d 0 q) else go_on None (settle_end base check (elems base check) d) (λ v. Ok (Some (v, 0))))
    else Err Outside
