-- The turns of a loop that looks for the first character of a query that is refused by itself. Assumes nothing.
use Rattle.std.proofs.Common.{All, arith, ◌≡◌, ◌∙◌, ◌+◌, ◌<◌, ◌≤◌, ℕ, List, [], ◌∷◌, Some, None, length, get_or, drop, refl, sym, ap, add-one, drop-cons, drop_of_length-le}
use Rattle.std.specs.Option.{option_or}
use Rattle.node.specs.declared.Refusal.{Refusal}
use Rattle.node.specs.Character.{character_refusal, is_character}
use Rattle.std.proofs.lemmas.Bool.Decides.{nat_tests}
use Rattle.std.proofs.lemmas.List.Elements.{recursion_from_All}
use Rattle.std.specs.List.{AllByRecursion}
use Rattle.walk.specs.Query.{offence}

-- the offence from the place i on, by the character there
pub offence_at : (q : List ℕ) (i c : ℕ) → i < length q → c ≡ get_or q i 0 → offence (drop i q) ≡ option_or (character_refusal c) (offence (drop (i + 1) q))
unfolding offence
offence_at q i c h e = rw (drop-cons q i 0 h, add-one i, e) refl

-- a character without a refusal is passed
pub passed : (q : List ℕ) (i c : ℕ) → i < length q → c ≡ get_or q i 0 → character_refusal c ≡ None → offence q ≡ offence (drop i q) → offence q ≡ offence (drop (i + 1) q)
passed q i c h e n s = s ∙ offence_at q i c h e ∙ ap (λ r. option_or r (offence (drop (i + 1) q))) n

-- one with a refusal decides
pub met : (q : List ℕ) (i c : ℕ) (r : Refusal) → i < length q → c ≡ get_or q i 0 → character_refusal c ≡ Some r → offence q ≡ offence (drop i q) → Some r ≡ offence q
met q i c r h e n s = sym (s ∙ offence_at q i c h e ∙ ap (λ x. option_or x (offence (drop (i + 1) q))) n)

-- the query ends
pub none_met : (q : List ℕ) (i : ℕ) → length q ≤ i → offence q ≡ offence (drop i q) → None ≡ offence q
unfolding offence
none_met q i h s = sym (s ∙ rw (drop_of_length-le q h) refl)

-- no character below D800 has a refusal
low_one : (c : ℕ) → c < 0xd800 → character_refusal c ≡ None
unfolding character_refusal is_character
low_one c h = grind (arith, nat_tests)

low_all : (q : List ℕ) → AllByRecursion (λ c. c < 0xd800) q → offence q ≡ None
unfolding offence
low_all [] h = refl
low_all (c ∷ q) h = ap (λ o. option_or o (offence q)) (low_one c h.0) ∙ low_all q h.1

pub low : (q : List ℕ) → All (λ c. c < 0xd800) q → None ≡ offence q
low q h = sym (low_all q (recursion_from_All (λ c. c < 0xd800) q h))
