-- The refusals of a query around its walk, in document 01's order: "a query 12, then 11 or 2 by the first offending character, 22, 23". Assumes nothing.
use Rattle.std.specs.Prelude.{if◌then◌else◌, List, [], ◌∷◌, ◌++◌, map, ℕ, Option, Some, None, Result, Ok, Err, length, drop, nat_lt}
use Rattle.std.specs.Option.{option_or}
use Rattle.node.specs.declared.Refusal.{Refusal}
use Rattle.node.specs.declared.Refusal.TheVariants.{Limit, MatchRoom}
use Rattle.node.specs.Character.{character_refusal}
use Rattle.node.specs.Limits.{arrays_over, query_over}

-- the refusal, 11 or 2, of the first character of a query that is refused by itself
unfoldable pub offence : List ℕ → Option Refusal
offence [] = None
offence (c ∷ q) = option_or (character_refusal c) (offence q)

-- what a query is refused for before its walk, from how many elements, places of the table and tail bytes are lent: 12, then 11 or 2
abbrev pub query_refusal : ℕ → ℕ → ℕ → List ℕ → Option Refusal
query_refusal elems table tails query = if query_over elems table tails (length query) then Some Limit else offence query

-- an answer, unless the query is refused
abbrev pub unless : {A : Type 0} → Option Refusal → Result A Refusal → Result A Refusal
unless None found = found
unless (Some r) found = Err r

-- a count of the arrays, unless a limit is passed
abbrev pub counted : ℕ → ℕ → ℕ → ℕ → Result ℕ Refusal
counted elems table tails n = if arrays_over elems table tails then Err Limit else Ok n

-- ---- common-prefix search

-- 23: "more matches than the shorter of the two result runs"
abbrev pub room_for : ℕ → Result (List (ℕ × ℕ)) Refusal → Result (List (ℕ × ℕ)) Refusal
room_for room (Ok l) = if nat_lt room (length l) then Err MatchRoom else Ok l
room_for room (Err r) = Err r

-- the answer: how many matches, or the refusal
abbrev pub answer_of : Result (List (ℕ × ℕ)) Refusal → Result ℕ Refusal
answer_of (Ok l) = Ok (length l)
answer_of (Err r) = Err r

-- "only the first count places change, and none on a refusal"
abbrev pub values_after : Result (List (ℕ × ℕ)) Refusal → List ℕ → List ℕ
values_after (Ok l) values = map (λ m. m.0) l ++ drop (length l) values
values_after (Err r) values = values

abbrev pub lengths_after : Result (List (ℕ × ℕ)) Refusal → List ℕ → List ℕ
lengths_after (Ok l) lengths = map (λ m. m.1) l ++ drop (length l) lengths
lengths_after (Err r) lengths = lengths
