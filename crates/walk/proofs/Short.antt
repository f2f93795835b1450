-- A query that is not refused is short. Assumes nothing.
use Rattle.std.proofs.Common.{◌≡◌, ◌≤◌, if◌then◌else◌, ℕ, Bool, true, false, List, Option, Some, None, length, refl, nat_lt}
use Rattle.std.proofs.lemmas.Bool.{or_parts, ltb-false}
use Rattle.node.specs.declared.Refusal.{Refusal}
use Rattle.node.specs.declared.Refusal.TheVariants.{Limit}
use Rattle.node.specs.Limits.{max_query, arrays_over, query_over}
use Rattle.walk.specs.Query.{offence, query_refusal}

within : (e t n l : ℕ) → query_over e t n l ≡ false → l ≤ max_query
unfolding query_over
within e t n l h = ltb-false max_query l (or_parts (arrays_over e t n) (nat_lt max_query l) h).1

passed : (b : Bool) (o : Option Refusal) → (if b then Some Limit else o) ≡ None → b ≡ false
passed true o h = cc
passed false o h = refl

pub short : (e t n : ℕ) (q : List ℕ) → query_refusal e t n q ≡ None → length q ≤ max_query
short e t n q h = within e t n (length q) (passed (query_over e t n (length q)) (offence q) h)
