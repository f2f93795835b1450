-- The statement of exact match is met by no constant answer, and by no refusal of everything: it gives a value, none and a refusal, each on some arrays.
-- Assumes nothing.
use Rattle.std.proofs.Common.{◌≡◌, ◌∙◌, ℕ, List, [], ◌∷◌, Option, Some, None, Result, Ok, Err, refl}
use Rattle.node.specs.declared.Refusal.{Refusal}
use Rattle.node.specs.declared.Refusal.TheVariants.{Outside}
use Rattle.node.specs.Limits.{query_over, arrays_over}
use Rattle.node.specs.Character.{character_refusal, is_character}
use Rattle.node.specs.Element.{leaf, top, base_of, offset, parent}
use Rattle.mapper.specs.Code.{find, code}
use Rattle.walk.specs.Walk.{exact, walk, child, settle, end_value}
use Rattle.walk.specs.Query.{offence}
use Rattle.trie.specs.Trie.{exact_answer}

-- one record: the key of the character 0, value 7
abbrev table : List ℕ
table = 1 ∷ []

abbrev base : List ℕ
base = 0 ∷ 0x80000007 ∷ []

abbrev check : List ℕ
check = 0x7fffffff ∷ 0 ∷ []

pub a_value : exact_answer table base check (0 ∷ []) ≡ Ok (Some 7)
unfolding exact walk child settle end_value query_over arrays_over offence character_refusal is_character find code leaf top base_of offset parent
a_value = refl

pub no_value : exact_answer table base check (1 ∷ []) ≡ Ok None
unfolding exact walk child settle end_value query_over arrays_over offence character_refusal is_character find code leaf top base_of offset parent
no_value = refl

pub outside : exact_answer table [] check [] ≡ Err Outside
unfolding exact walk child settle end_value query_over arrays_over offence character_refusal is_character find code leaf top base_of offset parent
outside = refl

-- so no answer is that to everything
pub no_constant : (x : Result (Option ℕ) Refusal) → ((table base check query : List ℕ) → x ≡ exact_answer table base check query) → ⊥
no_constant x all =
    let here : x ≡ Ok (Some 7) = all table base check (0 ∷ []) ∙ a_value in
    let there : x ≡ Ok None = all table base check (1 ∷ []) ∙ no_value in
    cc

-- and no refusal, whichever it is each time
refused_here : (r : Refusal) (x : Result (Option ℕ) Refusal) → x ≡ Err r → x ≡ Ok (Some 7) → ⊥
refused_here r x e f = cc

pub not_always_refused : (r : List ℕ → List ℕ → List ℕ → List ℕ → Refusal) → ((table base check query : List ℕ) → Err (r table base check query) ≡ exact_answer table base check query) → ⊥
not_always_refused r all = refused_here _ _ refl (all table base check (0 ∷ []) ∙ a_value)
