-- The two words for a character's code agree: the table's entry, and whether there is one. Assumes nothing.
use Rattle.std.proofs.Common.{◌≡◌, ◌==◌, List, ℕ, unwrap_or, refl, sym, eqb-true}
use Rattle.laws.proofs.Lists.{decide}
use Rattle.node.specs.Constants.{invalid_code}
use Rattle.mapper.specs.Code.{code, find}

-- where there is no code, the entry counts as INVALID_CODE
pub unwrap_find : (table : List ℕ) (c : ℕ) → unwrap_or (find table c) invalid_code ≡ code table c
unfolding find
unwrap_find table c = decide (code table c == invalid_code) (λ e. rw e (sym (eqb-true (code table c) invalid_code e))) (λ e. rw e refl)
